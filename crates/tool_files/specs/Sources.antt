-- How `compile` and `check` begin: the manifest is read, and then the files that it names.
use Rattle.std.specs.Prelude.{ℕ, if◌then◌else◌, List, length, Result, Ok, Err}
use Rattle.std.specs.List.{sum_by}
use Rattle.host_files.specs.Outside.{Files}
use Rattle.machine_core.specs.declared.state.Kind.{Kind}
use Rattle.machine_core.specs.declared.state.Kind.TheVariants.{Brr, Spu, Ima}
use Rattle.loop_fit.specs.declared.rule.FitRule.{FitRule}
use Rattle.manifest_reader.specs.declared.manifest.SampleEntry.{SampleEntry}
use Rattle.manifest_reader.specs.Meaning.{Content}
use Rattle.snes_directory.specs.Layout.{end_address, is_past_end}
use Rattle.command_faults.specs.declared.status.Status.{Status}
use Rattle.command_faults.specs.declared.status.Status.TheVariants.{Full}
use Rattle.command_plan.specs.Read.{Read, given, fetched_for, ◌>>=◌, read_all}
use Rattle.tool_files.specs.declared.source.Source.{Source}
use Rattle.command_plan.specs.Front.{front_in}
use Rattle.tool_files.specs.Source.{manifest_in, rule_of, source_of}

-- the manifest of this name is fetched, and what it says decides
abbrev pub manifest_read : Files → List ℕ → Read Content
manifest_read files name = fetched_for name (manifest_in name (front_in files name 65536))

-- a sample's file is fetched, and what it says decides
abbrev pub source_read : Files → FitRule → SampleEntry → Read Source
source_read files rule entry = fetched_for entry.file (source_of rule entry (front_in files entry.file 4194304))

-- those of all samples, in order
abbrev pub each_read : Files → FitRule → List SampleEntry → Read (List Source)
each_read files rule entries = read_all (λ j entry. source_read files rule entry) 0 entries

-- the address behind the last sample of an image
abbrev pub bank_end : ℕ → List Source → ℕ
bank_end base sources = end_address base (length sources) (sum_by (λ s. s.fitted.blocks) sources)

-- the samples, where those of an image fit into sound memory
unfoldable pub with_room : Kind → List ℕ → ℕ → List Source → Result (List Source) Status
with_room Brr bank base sources = if is_past_end (bank_end base sources) then Err (Full bank (bank_end base sources)) else Ok sources
with_room Spu bank base sources = Ok sources
with_room Ima bank base sources = Ok sources

-- the files of the samples are fetched in order, and then there must be room for them
abbrev pub sources_read : Files → Content → Read (List Source)
sources_read files m = do
  sources ← each_read files (rule_of m) m.samples
  given (with_room m.kind m.bank m.base sources)
