-- What `bound` promises and answers, in its own words: all of it is said of the stored files, whoever made them, of the sources and of the told numbers.
use Rattle.std.specs.Prelude.{◌≡◌, ◌≤◌, ℕ, List, length, slice_get, Some, Ok}
use Rattle.host_files.specs.Outside.{World, Files}
use Rattle.host_files.specs.declared.named_file.NamedFile.{NamedFile}
use Rattle.machine_core.specs.declared.state.Kind.TheVariants.{Ima}
use Rattle.machine_core.specs.Blocks.{Blocks, IsLegal}
use Rattle.manifest_reader.specs.Meaning.{Content}
use Rattle.snes_directory.specs.declared.image.Image.{Image}
use Rattle.report_text.specs.declared.report.BoundReport.{BoundReport}
use Rattle.bank_kinds.specs.Codec.{Codec, fixed_in}
use Rattle.bank_kinds.specs.Kinds.{codec_for}
use Rattle.bank_kinds.specs.Fits.{error_of, loop_shown}
use Rattle.bank_kinds.specs.Bound.{IsBound}
use Rattle.tool_compare.specs.Floor.{floor_of}
use Rattle.command_faults.specs.declared.status.Status.{Status}
use Rattle.tool_files.specs.declared.source.Source.{Source}
use Rattle.tool_compare.specs.Banks.{image_by, stored_by}
use Rattle.tool_compare.specs.Compared.{IsToldOf, MaySay, AnswersCompared}
use Rattle.tool_compare.specs.Bound.{each_list, bound_text, bound_course}

-- the part that is said of one codec: this list is legal, this is its error, and this is a bound
pub record IsNear (c : Codec) (source : Source) (list : Blocks) (report : BoundReport) : Type 0 where
  -- the told name, blocks and loop are the source's
  pub name_is : report.name ≡ source.name
  pub blocks_are : report.blocks ≡ source.fitted.blocks
  pub loop_is : report.shown ≡ loop_shown source.fitted.loop_block source.fitted.loop_frames
  -- the stored list is legal, and the told error is exactly its own
  pub legal : IsLegal c.rules.decoder source.fitted.blocks (fixed_in c source.fitted) list
  pub error_is : report.error ≡ error_of c source.fitted list
  -- no list of blocks that may be stored for the source has an error below the told bound
  pub bound : IsBound c source.fitted report.bound
  -- which is no worse than what a certificate without cells shows
  pub floor : floor_of c source.fitted ≤ report.bound
  -- the told gap is not negative
  pub gap : report.bound ≤ report.error
  -- and where it is 0, no list of blocks that may be stored has a smaller error than the stored one
  pub optimal : report.error ≡ report.bound → IsBound c source.fitted report.error

-- sample j of a bank in these files, with this image, is what a report says of a source
pub record IsBounded (files : Files) (m : Content) (image : Image) (j : ℕ) (source : Source) (report : BoundReport) : Type 0 where
  -- the list that its stored file spells
  pub list : Blocks
  pub stored : stored_by m.kind files m image j source ≡ Ok list
  pub near : IsNear (codec_for m.kind m.block) source list report
  -- in IMA ADPCM the told bound is the floor
  pub bare : m.kind ≡ Ima → report.bound ≡ floor_of (codec_for m.kind m.block) source.fitted

-- each of them
abbrev pub AllBounded : Files → Content → Image → List Source → List BoundReport → Type 0
AllBounded files m image sources reports = (j : ℕ) (source : Source) (report : BoundReport) → slice_get sources j ≡ Some source → slice_get reports j ≡ Some report
    → IsBounded files m image j source report

-- what is stored for these sources, and what is told of it
pub record AreBounded (files : Files) (m : Content) (image : Image) (sources : List Source) (reports : List BoundReport) : Type 0 where
  pub lists : List Blocks
  pub read : (each_list files m sources image).gives ≡ Ok lists
  pub count : length reports ≡ length sources
  pub bounded : AllBounded files m image sources reports

-- the same, where the image is the one that the bank's file is, if its format has one
pub record IsReported (files : Files) (m : Content) (sources : List Source) (reports : List BoundReport) : Type 0 where
  pub image : Image
  pub image_is : (image_by m.kind files m).gives ≡ Ok image
  pub samples : AreBounded files m image sources reports

-- a line that tells of each of these sources
abbrev pub IsSaid : Files → Content → List Source → List ℕ → Type 0
IsSaid files m sources line = IsToldOf (IsReported files m sources) bound_text line

-- nothing is stored; this is the report that `bound` may say
abbrev pub MayBound : Files → List ℕ → List NamedFile → List ℕ → Type 0
MayBound files manifest writes line = MaySay (IsSaid files) files manifest writes line

-- what `bound` answers: r is the answer, from a to b; at `Done` it has told of each source what is stored for it, its exact error, and a bound
-- that no list of blocks is below
abbrev pub AnswersBound : Files → List ℕ → World → World → Status → Type 0
AnswersBound held manifest a b r = AnswersCompared (IsSaid held) (bound_course held manifest) held manifest a b r
