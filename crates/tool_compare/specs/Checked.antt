-- What `check` promises and answers, in its own words: all of it is said of the stored files, whoever made them, of the sources and of the told numbers.
use Rattle.std.specs.Prelude.{◌≡◌, ◌≤◌, ℕ, List, length, slice_get, Some, Ok}
use Rattle.host_files.specs.Outside.{World, Files, content_of}
use Rattle.host_files.specs.declared.named_file.NamedFile.{NamedFile}
use Rattle.machine_core.specs.Blocks.{Blocks, IsLegal}
use Rattle.manifest_reader.specs.Meaning.{Content}
use Rattle.manifest_reader.specs.Stored.{cert_name_of}
use Rattle.snes_directory.specs.declared.image.Image.{Image}
use Rattle.report_text.specs.declared.report.SampleReport.{SampleReport}
use Rattle.bank_kinds.specs.Codec.{Codec, fixed_in}
use Rattle.bank_kinds.specs.Kinds.{codec_for}
use Rattle.bank_kinds.specs.Fits.{error_of, loop_shown}
use Rattle.bank_kinds.specs.Bound.{IsBound}
use Rattle.bank_kinds.specs.Certified.{IsCertified}
use Rattle.command_faults.specs.declared.status.Status.{Status}
use Rattle.tool_files.specs.declared.source.Source.{Source}
use Rattle.tool_compare.specs.Banks.{image_by, stored_by}
use Rattle.tool_compare.specs.Compared.{IsToldOf, MaySay, AnswersCompared}
use Rattle.tool_compare.specs.Check.{bank_read, check_text, check_course}

-- the part that is said of one codec and of a certificate's bytes: this list is legal, this is its error, and this is a bound
pub record IsProved (c : Codec) (source : Source) (bytes : List ℕ) (list : Blocks) (report : SampleReport) : Type 0 where
  -- the told name, blocks and loop are the source's
  pub name_is : report.name ≡ source.name
  pub blocks_are : report.blocks ≡ source.fitted.blocks
  pub loop_is : report.shown ≡ loop_shown source.fitted.loop_block source.fitted.loop_frames
  -- the stored list is legal, and the told error is exactly its own
  pub legal : IsLegal c.rules.decoder source.fitted.blocks (fixed_in c source.fitted) list
  pub error_is : report.error ≡ error_of c source.fitted list
  -- the certificate shows the told bound: its segments are those of the source, their bounds come to it, and their levels are told
  pub certified : IsCertified c bytes source.fitted report.bound report.levels
  -- no list of blocks that may be stored for the source has an error below the told bound
  pub bound : IsBound c source.fitted report.bound
  -- so the told gap is not negative
  pub gap : report.bound ≤ report.error
  -- and where it is 0, no list of blocks that may be stored has a smaller error than the stored one
  pub optimal : report.error ≡ report.bound → IsBound c source.fitted report.error

-- sample j of a bank in these files, with this image, is what a report says of a source
pub record IsChecked (files : Files) (m : Content) (image : Image) (j : ℕ) (source : Source) (report : SampleReport) : Type 0 where
  -- the list that its stored file spells
  pub list : Blocks
  pub stored : stored_by m.kind files m image j source ≡ Ok list
  pub proved : IsProved (codec_for m.kind m.block) source (content_of files (cert_name_of m.bank source.name)) list report

-- each of them
abbrev pub AllChecked : Files → Content → Image → List Source → List SampleReport → Type 0
AllChecked files m image sources reports = (j : ℕ) (source : Source) (report : SampleReport) → slice_get sources j ≡ Some source → slice_get reports j ≡ Some report
    → IsChecked files m image j source report

-- what is told of these sources
pub record IsReported (files : Files) (m : Content) (sources : List Source) (reports : List SampleReport) : Type 0 where
  pub read : (bank_read files m sources).gives ≡ Ok reports
  -- the image is the one that the bank's file is, where its format has one
  pub image : Image
  pub image_is : (image_by m.kind files m).gives ≡ Ok image
  pub count : length reports ≡ length sources
  pub checked : AllChecked files m image sources reports

-- a line that tells of each of these sources
abbrev pub IsCheck : Files → Content → List Source → List ℕ → Type 0
IsCheck files m sources line = IsToldOf (IsReported files m sources) check_text line

-- nothing is stored; this is the report that `check` may say
abbrev pub MayTell : Files → List ℕ → List NamedFile → List ℕ → Type 0
MayTell files manifest writes line = MaySay (IsCheck files) files manifest writes line

-- what `check` answers: r is the answer, from a to b; at `Done` it has told of each source what is stored for it, its exact error, and the bound
-- that its certificate shows
abbrev pub AnswersCheck : Files → List ℕ → World → World → Status → Type 0
AnswersCheck held manifest a b r = AnswersCompared (IsCheck held) (check_course held manifest) held manifest a b r
