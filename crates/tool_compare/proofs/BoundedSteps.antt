-- The command `bound`, over plain variables.
use Rattle.std.proofs.Common.{◌≡◌, ℕ, List, ◌∙◌, Result, Ok, Err}
use Rattle.host_files.specs.Outside.{World, Files}
use Rattle.manifest_reader.specs.Meaning.{Content}
use Rattle.snes_directory.specs.declared.image.Image.{Image}
use Rattle.report_text.specs.declared.report.BoundReport.{BoundReport}
use Rattle.command_faults.specs.declared.status.Status.{Status}
use Rattle.command_plan.specs.Read.{as_reading}
use Rattle.command_plan.specs.Steps.{HasRead, ReadsTo}
use Rattle.command_plan.specs.Promise.{Promises}
use Rattle.command_plan.proofs.ReadOn.{then_has, then_halts, then-gives}
use Rattle.tool_files.specs.declared.source.Source.{Source}
use Rattle.tool_compare.specs.Banks.{image_by}
use Rattle.tool_compare.proofs.ComparedSteps.{answers_compared}
use Rattle.tool_compare.specs.Bound.{each_list, lists_read, bound_course}
use Rattle.tool_compare.specs.Bounded.{AreBounded, IsReported, IsSaid, MayBound, AnswersBound}

-- the image was read, and the samples are told or refused
pub bounds_read : {V : Type 0} (items : V → List BoundReport) (files : Files) (m : Content) (sources : List Source) (image : Image) (r : Result V Status) (a n b : World) → HasRead (as_reading (image_by m.kind files m)) a n
    → (image_by m.kind files m).gives ≡ Ok image → ReadsTo (as_reading (each_list files m sources image)) n b r (λ v. AreBounded files m image sources (items v))
    → ReadsTo (as_reading (lists_read files m sources)) a b r (λ v. IsReported files m sources (items v))
bounds_read items files m sources image (Ok v) a n b h e k = (then_has (image_by m.kind files m) (each_list files m sources) image a n b e h k.0, record { image = image; image_is = e; samples = k.1 })
bounds_read items files m sources image (Err s) a n b h e k = then_halts (image_by m.kind files m) (each_list files m sources) image a n b s e h k

-- the lists that were read
pub lists_are : (files : Files) (m : Content) (sources : List Source) (reports : List BoundReport) (is : IsReported files m sources reports) → (lists_read files m sources).gives ≡ Ok is.samples.lists
lists_are files m sources reports is = then-gives (image_by m.kind files m) (each_list files m sources) is.image is.image_is ∙ is.samples.read

-- what the promise says in the command's own words
pub answers_bound : (held : Files) (name : List ℕ) (a b : World) (r : Status) → Promises (bound_course held name) (MayBound held name) a b r → AnswersBound held name a b r
answers_bound held name a b r h = answers_compared (IsSaid held) (bound_course held name) held name a b r h
