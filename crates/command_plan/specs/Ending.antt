-- How a run ends, whatever the reason of a refusal. What is promised of a status goes by these four cases.
use Rattle.std.specs.Prelude.{Bool, true, false, not}
use Rattle.command_faults.specs.declared.status.Status.{Status}
use Rattle.command_faults.specs.declared.status.Status.TheVariants.{Done, Words, Manifest, Input, Unfit, Full, Refused, Device, Memory}
use Rattle.command_faults.specs.declared.status.HostCall.{HostCall}
use Rattle.command_faults.specs.declared.status.HostCall.TheVariants.{Fetch, Store, Say}

-- all was done, something was refused, a call of the host failed, or there was no memory
pub data Ending : Type 0 where
  Finished : Ending
  Declined : Ending
  Broken : (at : HostCall) → Ending
  Starved : Ending

-- the case of each status
abbrev pub ending_of : Status → Ending
ending_of Done = Finished
ending_of Words = Declined
ending_of (Manifest fault) = Declined
ending_of (Input name fault) = Declined
ending_of (Unfit name fault) = Declined
ending_of (Full bank total) = Declined
ending_of (Refused name fault) = Declined
ending_of (Device at) = Broken at
ending_of Memory = Starved

-- whether all was done
abbrev pub is_finished : Ending → Bool
is_finished Finished = true
is_finished Declined = false
is_finished (Broken at) = false
is_finished Starved = false

-- whether a call of the host failed
abbrev pub is_broken : Ending → Bool
is_broken Finished = false
is_broken Declined = false
is_broken (Broken at) = true
is_broken Starved = false

-- whether a status tells of a failed call of the host
abbrev pub is_device : Status → Bool
is_device s = is_broken (ending_of s)

-- whether a call fetches a file
abbrev pub is_fetch : HostCall → Bool
is_fetch (Fetch name) = true
is_fetch (Store name) = false
is_fetch Say = false

-- whether a call says a line
abbrev pub is_say : HostCall → Bool
is_say (Fetch name) = false
is_say (Store name) = false
is_say Say = true

-- whether a line of its own tells how it ended: after a line that could not be said no other is tried
abbrev pub has_line : Ending → Bool
has_line Finished = false
has_line Declined = true
has_line (Broken at) = not (is_say at)
has_line Starved = false

-- whether it may have ended before the first file was stored and before a line was said
abbrev pub is_early : Ending → Bool
is_early Finished = false
is_early Declined = true
is_early (Broken at) = is_fetch at
is_early Starved = true
