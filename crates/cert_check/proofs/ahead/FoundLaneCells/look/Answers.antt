use Rattle.std.proofs.Common.{sym, ◌∙◌, arith, refl, min}
use Rattle.machine_core.specs.Blocks.{first_only}
use Rattle.machine_core.specs.Floors.{rest, top}
use Rattle.std.proofs.lemmas.Bool.{cond-true, cond-false}
use Rattle.box_layers.specs.Cells.{value_of}
use Rattle.block_steps.proofs.Looks.{look-is}
use Rattle.cert_check.specs.Layers.{cells_here}
use Rattle.cert_check.proofs.ahead.FoundLaneCells.look.Goals as goal

pub returns-then-seen : goal.returns-then-seen
returns-then-seen g c =
    let m = g.M.Machine.rules c.args.machine.now in
    let p = c.args.plan.now in
    let s = c.see_ahead-seen.result in
    let r = min top (rest m first_only p.targets.now p.blocks c.args.at.index c.args.lane c.args.bx) in
    sym (cond-true s.all s.best (min s.best r) c.if-seen.true) ∙ (c.see_ahead-seen.ensures r (omega arith)
    ∙ look-is m p.targets.now p.level p.blocks c.args.at.index c.args.lane c.args.bx (value_of (cells_here c.args.self.now.layer)) r refl)

pub returns-else-seen : goal.returns-else-seen
returns-else-seen g c =
    let m = g.M.Machine.rules c.args.machine.now in
    let p = c.args.plan.now in
    let s = c.see_ahead-seen.result in
    let r = c.rest_at.result in
    let e = c.rest_at.ensures in
    c.min.ensures ∙ (sym (cond-false s.all s.best (min s.best r) c.if-seen.false) ∙ (c.see_ahead-seen.ensures r (omega arith)
    ∙ look-is m p.targets.now p.level p.blocks c.args.at.index c.args.lane c.args.bx (value_of (cells_here c.args.self.now.layer)) r e))
