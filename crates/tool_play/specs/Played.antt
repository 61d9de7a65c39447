-- The command `play`: the first outputs of an entry of a file are said.
use Rattle.std.specs.Prelude.{⊤, false, ◌≡◌, ℕ, ◌==◌, if◌then◌else◌, List, [], Result, Ok}
use Rattle.adpcm_nums.specs.Outcome.{Tells}
use Rattle.host_files.specs.Outside.{World, Files, grown, raised}
use Rattle.host_files.specs.declared.named_file.NamedFile.{NamedFile}
use Rattle.machine_core.specs.declared.state.Kind.{Kind}
use Rattle.command_faults.specs.declared.status.Status.{Status}
use Rattle.command_faults.specs.declared.status.Status.TheVariants.{Done, Memory}
use Rattle.command_plan.specs.Ending.{is_device}
use Rattle.command_plan.specs.Read.{Read, as_reading, nothing, fetched_for, ◌>>=◌, written_under}
use Rattle.command_plan.specs.Reading.{Reading, status_of}
use Rattle.command_plan.specs.Front.{front_in}
use Rattle.tool_play.specs.Play.{said_of}

-- the file's front is fetched, and what it says of the entry decides
abbrev pub said_read : Files → Kind → List ℕ → ℕ → ℕ → Read (List ℕ)
said_read files kind file entry count = fetched_for file (said_of kind file entry count (front_in files file 8388608))

-- outputs are said in one call, and no outputs in none
abbrev pub saying : ℕ → Read ⊤
saying count = if count == 0 then nothing else written_under []

-- the file is read, and then the outputs are said
abbrev pub play_course : Files → Kind → List ℕ → ℕ → ℕ → Reading
play_course files kind file entry count = as_reading (do
  lines ← said_read files kind file entry count
  saying count)

-- nothing is stored, and the outputs are said
pub record IsPlayed (said : Result (List ℕ) Status) (writes : List NamedFile) (line : List ℕ) : Type 0 where
  pub none : writes ≡ []
  pub told : said ≡ Ok line

-- what `play` has done where it ends well; `held` are the files before
pub record HasPlayed (held : Files) (kind : Kind) (file : List ℕ) (entry count : ℕ) (a b : World) : Type 0 where
  pub lines : List ℕ
  pub told : (said_read held kind file entry count).gives ≡ Ok lines
  pub files : b.files ≡ a.files
  pub said : b.said ≡ grown a.said lines
  -- the file was fetched, and the outputs, if any, were said in one call
  pub calls : b.calls ≡ raised (if count == 0 then 1 else 2) a.calls

-- what `play` answers, in its own words: r is the answer, from a to b
pub record AnswersPlay (held : Files) (kind : Kind) (file : List ℕ) (entry count : ℕ) (a b : World) (r : Status) : Type 0 where
  -- whatever happens, the files are as they were
  pub files : b.files ≡ a.files
  pub done : r ≡ Done → HasPlayed held kind file entry count a b
  -- where the host does not fail, what the file says decides, unless there was no memory
  pub outcome : is_device r ≡ false → Tells Memory r (status_of (said_read held kind file entry count).gives)
