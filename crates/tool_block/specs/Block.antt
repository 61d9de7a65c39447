-- The command `block`: one file of sixteen samples becomes one block of filter 0.
use Rattle.std.specs.Prelude.{false, ◌≡◌, ℕ, ◌≤◌, ◌==◌, min, if◌then◌else◌, ℤ, List, [], ◌∷◌, length, Result, Ok, Err}
use Rattle.adpcm_nums.specs.Outcome.{Tells}
use Rattle.machine_core.specs.Blocks.{Blocks, IsLegal, first_only}
use Rattle.machine_core.specs.Sums.{sum_of}
use Rattle.brr_machine.specs.Brr.{brr}
use Rattle.brr_machine.specs.Spelling.{spelling}
use Rattle.brr_machine.specs.Zero.{zero_head, best_shift, nearest_codes, zero_block}
use Rattle.host_files.specs.Outside.{World, Files, content_of, stored, grown, raised}
use Rattle.host_files.specs.declared.named_file.NamedFile.{NamedFile}
use Rattle.report_text.specs.Report.{block_line}
use Rattle.command_faults.specs.declared.status.Status.{Status}
use Rattle.command_faults.specs.declared.status.Status.TheVariants.{Done, Input, Memory}
use Rattle.command_faults.specs.declared.input_fault.InputFault.TheVariants.{BlockLength}
use Rattle.command_plan.specs.Ending.{is_device}
use Rattle.command_plan.specs.Read.{Read, as_reading, given, whole_read, ◌>>=◌, written_under}
use Rattle.command_plan.specs.Reading.{Reading}
use Rattle.tool_block.specs.Samples.{samples_of}

-- the samples of a raw block, which has 32 bytes
abbrev pub raw_in : List ℕ → List ℕ → Result (List ℤ) Status
raw_in input bytes = if length bytes == 32 then Ok (samples_of bytes) else Err (Input input (BlockLength (length bytes)))

-- the file is fetched, and must be one; 33 bytes stand for more
abbrev pub targets_read : Files → List ℕ → Read (List ℤ)
targets_read files input = do
  bytes ← whole_read files input 32 (BlockLength 33)
  given (raw_in input bytes)

-- then a block is stored, and its line said
abbrev pub block_course : Files → List ℕ → List ℕ → Reading
block_course files input output = as_reading (do
  targets ← targets_read files input
  written_under (output ∷ []))

-- the samples of the file
abbrev pub targets_in : Files → List ℕ → List ℤ
targets_in files input = samples_of (content_of files input)

-- the nine bytes of the best block of filter 0, with the end flag alone
abbrev pub zero_bytes : List ℤ → List ℕ
zero_bytes targets = spelling (zero_head (best_shift targets)) 1 (nearest_codes (best_shift targets) targets)

-- the error of that block
abbrev pub error_of : List ℤ → ℕ
error_of targets = sum_of brr (zero_block targets) targets 1

-- what is stored and said for sixteen samples: the best block, its error, and that error as a bound
pub record IsBlock (targets : List ℤ) (output : List ℕ) (writes : List NamedFile) (line : List ℕ) : Type 0 where
  pub file : writes ≡ record { name = output; bytes = zero_bytes targets } ∷ []
  pub told : line ≡ block_line (error_of targets) (error_of targets)
  -- the block is one of filter 0, and none of them has a smaller error
  pub legal : IsLegal brr 1 first_only (zero_block targets)
  pub least : (list : Blocks) → IsLegal brr 1 first_only list → error_of targets ≤ sum_of brr list targets 1

-- a file of this many bytes is a raw block, or it is not
abbrev pub length_outcome : List ℕ → ℕ → Status
length_outcome input len = if len == 32 then Done else Input input (BlockLength len)

-- how `block` ends, where the host does not fail and memory does not run out; 33 stands for more bytes
abbrev pub block_outcome : Files → List ℕ → Status
block_outcome files input = length_outcome input (min (length (content_of files input)) 33)

-- what `block` has done where it ends well; `held` are the files before
pub record HasBlock (held : Files) (input output : List ℕ) (a b : World) : Type 0 where
  pub whole : length (content_of held input) ≡ 32
  pub files : b.files ≡ stored a.files output (zero_bytes (targets_in held input))
  pub said : b.said ≡ grown a.said (block_line (error_of (targets_in held input)) (error_of (targets_in held input)))
  -- the samples were fetched, the block stored, and its line said
  pub calls : b.calls ≡ raised 3 a.calls
  -- the block is one of filter 0, and none of them has a smaller error
  pub legal : IsLegal brr 1 first_only (zero_block (targets_in held input))
  pub least : (list : Blocks) → IsLegal brr 1 first_only list → error_of (targets_in held input) ≤ sum_of brr list (targets_in held input) 1

-- what `block` answers, in its own words: r is the answer, from a to b
pub record AnswersBlock (held : Files) (input output : List ℕ) (a b : World) (r : Status) : Type 0 where
  pub done : r ≡ Done → HasBlock held input output a b
  -- where the host does not fail, the file's length decides, unless there was no memory
  pub outcome : is_device r ≡ false → Tells Memory r (block_outcome held input)
