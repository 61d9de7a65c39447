-- The command `check`: the stored files of a bank are compared with its sources, and its certificates are tested.
use Rattle.std.specs.Prelude.{ℕ, nat_lt, if◌then◌else◌, List, length, Result, Ok, Err}
use Rattle.host_files.specs.Outside.{Files}
use Rattle.machine_core.specs.Blocks.{Blocks}
use Rattle.manifest_reader.specs.Meaning.{Content}
use Rattle.manifest_reader.specs.Stored.{cert_name_of}
use Rattle.snes_directory.specs.declared.image.Image.{Image}
use Rattle.report_text.specs.declared.report.SampleReport.{SampleReport}
use Rattle.report_text.specs.Report.{sample_line}
use Rattle.report_text.specs.Listed.{report_of as text_of}
use Rattle.bank_kinds.specs.Kinds.{codec_for}
use Rattle.bank_kinds.specs.Fits.{error_of, loop_shown}
use Rattle.bank_check.specs.declared.proven.Proven.{Proven}
use Rattle.bank_check.specs.Proven.{proven_of}
use Rattle.command_faults.specs.declared.status.Status.{Status}
use Rattle.command_faults.specs.declared.status.Status.TheVariants.{Input, Refused}
use Rattle.command_faults.specs.declared.input_fault.InputFault.TheVariants.{FileLong}
use Rattle.command_plan.specs.Reading.{Reading}
use Rattle.command_plan.specs.Read.{Read, given, fetched_for, ◌>>=◌, read_all}
use Rattle.tool_files.specs.declared.source.Source.{Source}
use Rattle.command_plan.specs.Front.{front_in, or_told}
use Rattle.tool_compare.specs.Banks.{image_by, stored_read}
use Rattle.tool_compare.specs.Compared.{comparison}

-- what the front of its certificate proves
unfoldable pub proven_in : Content → Source → List ℕ → Result Proven Status
proven_in m s front =
    if nat_lt 33554432 (length front) then Err (Input s.name (FileLong 33554432))
    else or_told (λ f. Refused s.name f) (proven_of (codec_for m.kind m.block) s.fitted front)

abbrev pub proven_read : Files → Content → Source → Read Proven
proven_read files m s = fetched_for (cert_name_of m.bank s.name) (proven_in m s (front_in files (cert_name_of m.bank s.name) 33554432))

-- what is told of a sample: the error of the stored list, and the bound and the levels of the certificate
abbrev pub report_of : Content → Source → Blocks → Proven → SampleReport
report_of m s list proven = record {
  name = s.name;
  blocks = s.fitted.blocks;
  shown = loop_shown s.fitted.loop_block s.fitted.loop_frames;
  error = error_of (codec_for m.kind m.block) s.fitted list;
  bound = proven.bound;
  levels = proven.levels;
}

-- one sample: its list, and then its certificate
abbrev pub sample_read : Files → Content → Image → ℕ → Source → Read SampleReport
sample_read files m image j s = do
  list ← stored_read files m image j s
  proven ← proven_read files m s
  given (Ok (report_of m s list proven))

-- the image, and then each sample
abbrev pub bank_read : Files → Content → List Source → Read (List SampleReport)
bank_read files m sources = do
  image ← image_by m.kind files m
  read_all (sample_read files m image) 0 sources

-- a line for each sample, and the line that ends the report; no file is stored
abbrev pub check_text : List SampleReport → List ℕ
check_text reports = text_of sample_line reports 0

-- the manifest is read, then the files that it names and those that are stored, and then the report is said
abbrev pub check_course : Files → List ℕ → Reading
check_course files manifest = comparison bank_read files manifest
