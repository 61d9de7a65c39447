-- The command `check`, over plain variables.
use Rattle.std.proofs.Common.{◌≡◌, ℕ, List, length, ◌∙◌, Result, Ok, Err}
use Rattle.std.specs.Result.{IfOk}
use Rattle.host_files.specs.Outside.{World, Files}
use Rattle.manifest_reader.specs.Meaning.{Content}
use Rattle.snes_directory.specs.declared.image.Image.{Image}
use Rattle.report_text.specs.declared.report.SampleReport.{SampleReport}
use Rattle.command_faults.specs.declared.status.Status.{Status}
use Rattle.command_plan.specs.Read.{Read, as_reading, read_all}
use Rattle.command_plan.specs.Steps.{HasRead, Halts, ReadsTo}
use Rattle.command_plan.specs.Promise.{Promises}
use Rattle.command_plan.proofs.ReadOn.{then_has, then_halts, first_halts, then-gives}
use Rattle.tool_files.specs.declared.source.Source.{Source}
use Rattle.tool_compare.specs.Banks.{image_by}
use Rattle.tool_compare.proofs.ComparedSteps.{answers_compared}
use Rattle.tool_compare.specs.Check.{sample_read, bank_read, check_course}
use Rattle.tool_compare.specs.Checked.{AllChecked, IsReported, IsCheck, MayTell, AnswersCheck}

abbrev samples_of : Files → Content → List Source → Image → Read (List SampleReport)
samples_of files m sources image = read_all (sample_read files m image) 0 sources

-- the image is refused
pub image_halts : (files : Files) (m : Content) (sources : List Source) (a b : World) (s : Status) → Halts (as_reading (image_by m.kind files m)) a b s → Halts (as_reading (bank_read files m sources)) a b s
image_halts files m sources a b s h = first_halts (image_by m.kind files m) (samples_of files m sources) a b s h

-- the image was read, and the samples are told or refused
pub bank_reads : {V : Type 0} (items : V → List SampleReport) (files : Files) (m : Content) (sources : List Source) (image : Image) (r : Result V Status) (a n b : World) → HasRead (as_reading (image_by m.kind files m)) a n
    → (image_by m.kind files m).gives ≡ Ok image → IfOk r (λ v. length (items v) ≡ length sources)
    → ReadsTo (as_reading (samples_of files m sources image)) n b r (λ v. ((samples_of files m sources image).gives ≡ Ok (items v)) × AllChecked files m image sources (items v))
    → ReadsTo (as_reading (bank_read files m sources)) a b r (λ v. IsReported files m sources (items v))
bank_reads items files m sources image (Ok v) a n b h e count k = (
  then_has (image_by m.kind files m) (samples_of files m sources) image a n b e h k.0,
  record { read = then-gives (image_by m.kind files m) (samples_of files m sources) image e ∙ k.1.0; image = image; image_is = e; count = count; checked = k.1.1 },
)
bank_reads items files m sources image (Err s) a n b h e count k = then_halts (image_by m.kind files m) (samples_of files m sources) image a n b s e h k

-- what the promise says in the command's own words
pub answers_check : (held : Files) (name : List ℕ) (a b : World) (r : Status) → Promises (check_course held name) (MayTell held name) a b r → AnswersCheck held name a b r
answers_check held name a b r h = answers_compared (IsCheck held) (check_course held name) held name a b r h
