-- The command `compile`: the files that a manifest names become the files of a bank.
use Rattle.std.specs.Prelude.{◌≡◌, ◌≤◌, ⊤, ℕ, List, [], ◌∷◌, length, Some, slice_get, Ok}
use Rattle.std.specs.List.{AllZip, IsDistinct}
use Rattle.std.specs.Str.{bytes_eq}
use Rattle.host_files.specs.Outside.{Files, content_of}
use Rattle.host_files.specs.declared.named_file.NamedFile.{NamedFile}
use Rattle.manifest_reader.specs.Meaning.{Content}
use Rattle.manifest_reader.specs.Stored.{stored_names}
use Rattle.bank_kinds.specs.Kinds.{codec_for}
use Rattle.bank_compile.specs.declared.sample.SampleOut.{SampleOut}
use Rattle.manifest_reader.specs.declared.effort.Effort.{Effort}
use Rattle.bank_compile.specs.Sample.{IsCompiled, beams_error}
use Rattle.bank_compile.specs.Bank.{bank_of}
use Rattle.bank_compile.specs.Told.{report_text}
use Rattle.command_plan.specs.Plan.{names_in, all_stored}
use Rattle.command_plan.specs.Reading.{Reading}
use Rattle.command_plan.specs.Read.{Read, as_reading, ◌>>=◌, written_under}
use Rattle.tool_files.specs.declared.source.Source.{Source}
use Rattle.tool_files.specs.Sources.{manifest_read, sources_read}
use Rattle.tool_compile.specs.Stored.{IsStored}

-- the names that are stored
abbrev pub bank_names : Content → List (List ℕ)
bank_names m = stored_names m.kind m.bank m.samples

-- what is done for a manifest that was read: its sources are read, and then the bank is stored and the report said
abbrev pub bank_course : Files → Content → Read ⊤
bank_course files m = do
  sources ← sources_read files m
  written_under (bank_names m)

-- the manifest is read, then the files that it names, and then the bank is stored
abbrev pub compile_course : Files → List ℕ → Reading
compile_course files manifest = as_reading (manifest_read files manifest >>= bank_course files)

-- how samples are searched, as the manifest says
abbrev pub effort_of : Content → Effort
effort_of m = record { beam = m.beam; paths = m.paths; budget = m.budget }

-- a source with what was made of it
pub record IsMadeOf (m : Content) (source : Source) (out : SampleOut) : Type 0 where
  pub compiled : IsCompiled (codec_for m.kind m.block) (effort_of m) source.name source.rate source.fitted out
  -- the told error is at most the sum of the errors of the manifest's beams, one for each segment
  pub near_beam : out.report.error ≤ beams_error (codec_for m.kind m.block) m.beam source.fitted
  -- and where every segment was searched state by state, it is the told bound
  pub whole : (n : ℕ) → out.report.levels ≡ n ∷ 0 ∷ 0 ∷ 0 ∷ [] → out.report.bound ≡ out.report.error

-- under their names the files hold what the report says of each source
abbrev pub AllStored : Content → List Source → List SampleOut → Files → Type 0
AllStored m sources outs files = (j : ℕ) (source : Source) (out : SampleOut) → slice_get sources j ≡ Some source → slice_get outs j ≡ Some out
    → IsStored m (content_of files) j source out.report

-- what is stored and said for these sources: some blocks are chosen for each, and all else is made of them
pub record IsBank (m : Content) (sources : List Source) (writes : List NamedFile) (line : List ℕ) : Type 0 where
  -- what was made of each source
  pub outs : List SampleOut
  pub made : AllZip (IsMadeOf m) sources outs
  pub files : bank_of m.kind m.block m.bank m.base outs ≡ Ok writes
  -- they have the names of a bank's files, of which no two are equal
  pub names : names_in writes ≡ bank_names m
  pub once : IsDistinct bytes_eq (names_in writes)
  -- the report tells of each sample, and how many files there are
  pub told : line ≡ report_text outs (length writes)
  -- whatever was stored before, each sample is then stored and told as promised
  pub stored : (before after : Files) → all_stored (Some before) writes ≡ Some after → AllStored m sources outs after

-- the files that `compile` may store, and the report that it may say
pub record MayStore (files : Files) (manifest : List ℕ) (writes : List NamedFile) (line : List ℕ) : Type 0 where
  pub content : Content
  pub meaning : (manifest_read files manifest).gives ≡ Ok content
  pub sources : List Source
  pub read : (sources_read files content).gives ≡ Ok sources
  pub bank : IsBank content sources writes line
