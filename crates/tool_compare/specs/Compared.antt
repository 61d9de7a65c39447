-- A command that compares what is stored for the sources of a manifest with them: it stores nothing, and says a report.
use Rattle.std.specs.Prelude.{◌≡◌, ⊤, false, ℕ, List, [], length, Ok}
use Rattle.adpcm_nums.specs.Outcome.{Tells}
use Rattle.host_files.specs.Outside.{World, Files, grown, raised}
use Rattle.host_files.specs.declared.named_file.NamedFile.{NamedFile}
use Rattle.manifest_reader.specs.Meaning.{Content}
use Rattle.command_faults.specs.declared.status.Status.{Status}
use Rattle.command_faults.specs.declared.status.Status.TheVariants.{Done, Memory}
use Rattle.command_plan.specs.Ending.{is_device}
use Rattle.command_plan.specs.Reading.{Reading}
use Rattle.command_plan.specs.Read.{Read, as_reading, ◌>>=◌, written_under}
use Rattle.tool_files.specs.declared.source.Source.{Source}
use Rattle.tool_files.specs.Sources.{manifest_read, sources_read}

-- what is done for a manifest that was read: its sources are read, then what is stored for them, and then the report is said
abbrev pub compared : {T : Type 0} → (Files → Content → List Source → Read T) → Files → Content → Read ⊤
compared stored files m = do
  sources ← sources_read files m
  found ← stored files m sources
  written_under []

-- the manifest is read, then the files that it names and those that are stored, and then the report is said
abbrev pub comparison : {T : Type 0} → (Files → Content → List Source → Read T) → Files → List ℕ → Reading
comparison stored files manifest = as_reading (manifest_read files manifest >>= compared stored files)

-- a line tells reports that are so
pub record IsToldOf {R : Type 0} (Are : List R → Type 0) (text : List R → List ℕ) (line : List ℕ) : Type 0 where
  pub reports : List R
  pub reported : Are reports
  pub told : line ≡ text reports

-- nothing is stored; this is the line that may be said, where `Says` is what it says of the sources of what a manifest means
pub record MaySay (Says : Content → List Source → List ℕ → Type 0) (files : Files) (manifest : List ℕ) (writes : List NamedFile) (line : List ℕ) : Type 0 where
  pub none : writes ≡ []
  pub content : Content
  pub meaning : (manifest_read files manifest).gives ≡ Ok content
  pub sources : List Source
  pub read : (sources_read files content).gives ≡ Ok sources
  pub says : Says content sources line

-- what was done where the command ends well; `held` are the files
pub record HasCompared (Says : Content → List Source → List ℕ → Type 0) (course : Reading) (held : Files) (manifest : List ℕ) (a b : World) : Type 0 where
  -- what the manifest says, and the sources that it names, fitted to blocks
  pub content : Content
  pub meaning : (manifest_read held manifest).gives ≡ Ok content
  pub sources : List Source
  pub read : (sources_read held content).gives ≡ Ok sources
  -- what is told of them
  pub line : List ℕ
  pub says : Says content sources line
  -- exactly that was said
  pub said : b.said ≡ grown a.said line
  pub calls : b.calls ≡ raised (length course.calls) a.calls

-- what the command answers: r is the answer, from a to b
pub record AnswersCompared (Says : Content → List Source → List ℕ → Type 0) (course : Reading) (held : Files) (manifest : List ℕ) (a b : World) (r : Status) : Type 0 where
  -- whatever happens, the files are as they were
  pub files : b.files ≡ a.files
  pub done : r ≡ Done → HasCompared Says course held manifest a b
  -- where the host does not fail, the manifest, the sources and what is stored decide, unless there was no memory
  pub outcome : is_device r ≡ false → Tells Memory r course.outcome
