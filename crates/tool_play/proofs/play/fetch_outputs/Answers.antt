use Rattle.std.proofs.Common.{◌≡◌, List, ℕ, ◌∙◌, subst}
use Rattle.std.proofs.lemmas.Result.{err_from_is_err_and}
use Rattle.adpcm_nums.specs.Outcome.{Gives}
use Rattle.command_faults.specs.declared.status.Status.TheVariants.{Memory}
use Rattle.command_plan.proofs.ReadOn.{fetched_first, fetched_reads}
use Rattle.command_plan.specs.Front.{front_in}
use Rattle.tool_play.specs.Play.{said_of}
use Rattle.tool_play.specs.Played.{said_read}
use Rattle.command_plan.proofs.Telling.{is_front}
use Rattle.tool_play.proofs.PlaySteps.{said_of-refuses, refuses-declines, keeps_said}
use Rattle.tool_play.proofs.play.fetch_outputs.Goals as goal

pub returns-in_err-front-clause-told : goal.returns-in_err-front-clause-told
returns-in_err-front-clause-told g c = λ files told.
    let p = err_from_is_err_and c.from_residual.result c.from_residual.ensures.1 in
    rw (p.1, p.2) (
    fetched_first c.args.file.now (said_read files c.args.kind c.args.file.now c.args.entry c.args.count).gives
    (g.H.Host.world c.args.host.now) (g.H.Host.world c.fetch_front.new.host) c.in_err-front.field-0.0 (c.in_err-front.ensures.told files told))

pub returns-clause-keeps : goal.returns-clause-keeps
returns-clause-keeps g c =
    keeps_said (g.H.Host.world c.args.host.now) (g.H.Host.world c.fetch_front.new.host) c.args.file.now
    (said_of c.args.kind c.args.file.now c.args.entry c.args.count c.as_slice.result.now) c.said_of.result
    (said_of-refuses c.args.kind c.args.file.now c.args.entry c.args.count c.as_slice.result.now) c.fetch_front.ensures.keeps.later c.said_of.ensures

pub returns-clause-told : goal.returns-clause-told
returns-clause-told g c = λ files told.
    let got = c.in_ok-front.ensures.told files told in
    let file = c.args.file.now in
    let front : c.as_slice.result.now ≡ front_in files file 8388608 = c.as_slice.ensures.value ∙ is_front files file c.in_ok-front.front.items 8388608 got.1 in
    let read = said_of c.args.kind file c.args.entry c.args.count (front_in files file 8388608) in
    fetched_reads file (λ lines. lines) c.said_of.result read (g.H.Host.world c.args.host.now) (g.H.Host.world c.fetch_front.new.host)
    got.0 (refuses-declines file read (said_of-refuses c.args.kind file c.args.entry c.args.count (front_in files file 8388608)))
    (subst (λ (x : List ℕ). Gives Memory (λ lines. lines) c.said_of.result (said_of c.args.kind file c.args.entry c.args.count x)) front c.said_of.ensures)
