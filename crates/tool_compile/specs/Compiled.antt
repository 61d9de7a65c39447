-- What `compile` answers, in its own words.
use Rattle.std.specs.Prelude.{false, ◌≡◌, ℕ, ◌+◌, List, length, Some, Ok}
use Rattle.adpcm_nums.specs.Outcome.{Tells}
use Rattle.host_files.specs.Outside.{World, Files, grown, raised}
use Rattle.host_files.specs.declared.named_file.NamedFile.{NamedFile}
use Rattle.manifest_reader.specs.Meaning.{Content}
use Rattle.command_faults.specs.declared.status.Status.{Status}
use Rattle.command_faults.specs.declared.status.Status.TheVariants.{Done, Memory}
use Rattle.command_plan.specs.Ending.{is_device}
use Rattle.command_plan.specs.Plan.{all_stored}
use Rattle.tool_files.specs.declared.source.Source.{Source}
use Rattle.tool_files.specs.Sources.{manifest_read, sources_read}
use Rattle.tool_compile.specs.Compile.{bank_names, AllStored, IsBank, compile_course}

-- what `compile` has done where it ends well; `held` are the files before
pub record HasCompiled (held : Files) (manifest : List ℕ) (a b : World) : Type 0 where
  -- what the manifest says, and the sources that it names, fitted to blocks
  pub content : Content
  pub meaning : (manifest_read held manifest).gives ≡ Ok content
  pub sources : List Source
  pub read : (sources_read held content).gives ≡ Ok sources
  -- a bank of these sources was made, and exactly its files were set, and exactly its report was said
  pub writes : List NamedFile
  pub line : List ℕ
  pub bank : IsBank content sources writes line
  pub files : b.files ≡ all_stored a.files writes
  pub said : b.said ≡ grown a.said line
  -- so now the stored bank plays each source as the file of its first pass says, the told errors are exact, and the stored certificates show the told bounds;
  -- each told error is at most the sum of the beams' errors, and the bound where every segment was searched state by state
  pub kept : (after : Files) → b.files ≡ Some after → AllStored content sources bank.outs after
  -- the manifest and each source were fetched, each of the bank's files stored, and one line said
  pub calls : b.calls ≡ raised (1 + length content.samples + length (bank_names content) + 1) a.calls

-- what `compile` answers: r is the answer, from a to b
pub record AnswersCompile (held : Files) (manifest : List ℕ) (a b : World) (r : Status) : Type 0 where
  pub done : r ≡ Done → HasCompiled held manifest a b
  -- where the host does not fail, the manifest, the sources and the room for them decide, unless there was no memory
  pub outcome : is_device r ≡ false → Tells Memory r (compile_course held manifest).outcome
