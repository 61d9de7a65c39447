-- What the bytes of a fetched file come to: as many as are fetched, and the first fault of them as the status that tells it.
use Rattle.std.specs.Prelude.{ℕ, nat_lt, if◌then◌else◌, ◌+◌, List, length, take, Result, Ok, Err}
use Rattle.host_files.specs.Outside.{Files, content_of}
use Rattle.command_faults.specs.declared.status.Status.{Status}
use Rattle.command_faults.specs.declared.status.Status.TheVariants.{Input}
use Rattle.command_faults.specs.declared.input_fault.InputFault.TheVariants.{FileLong}

-- the bytes of a file that are fetched where it may have so many: one more shows that it is longer
unfoldable pub front_in : Files → List ℕ → ℕ → List ℕ
front_in files name most = take (most + 1) (content_of files name)

-- a file that may have 8,388,608 bytes
unfoldable pub whole_in : List ℕ → List ℕ → Result (List ℕ) Status
whole_in file front = if nat_lt 8388608 (length front) then Err (Input file (FileLong 8388608)) else Ok front

-- a reading with its fault told as a status
abbrev pub or_told : {X E : Type 0} → (E → Status) → Result X E → Result X Status
or_told tell (Ok x) = Ok x
or_told tell (Err e) = Err (tell e)
