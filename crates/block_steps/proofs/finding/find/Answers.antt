use Rattle.std.proofs.Common.{◌<◌, ◌%◌, ◌+◌, arith, sym, ap, ◌∙◌, min}
use Rattle.block_steps.specs.Ways.{layers_certificate}
use Rattle.block_steps.proofs.Alike.{found-one, found-none}
use Rattle.block_steps.proofs.Capped.{capped-top}
use Rattle.block_steps.proofs.finding.find.Goals as goal

pub returns-in-Some : goal.returns-in-Some
returns-in-Some g c =
    let m = g.M.Machine.rules c.args.machine.now in let s = c.args.plan.now in
    let p = c.requires.from.current.spot.place in let ne = c.if-at-eq0.false in
    let later : 0 < c.args.at.index % m.decoder.samples = omega arith in
    c.head_way.ensures ∙ ap (min (c.args.slack + 1)) (found-one m (g.met.M.Machine.lawful c.args.machine.now) (g.met.M.Machine.boxed c.args.machine.now) s.targets.now (layers_certificate m s.level s.blocks (g.L.Layers.listed c.args.layers.now)) c.args.at.index c.args.lane c.args.cell c.in-Some.head
    c.in-Some.ensures.some.0 later c.in-Some.ensures.some.1)

pub returns-in-None : goal.returns-in-None
returns-in-None g c =
    let m = g.M.Machine.rules c.args.machine.now in let s = c.args.plan.now in
    capped-top c.args.slack _ c.requires.slack (sym (found-none m s.targets.now (layers_certificate m s.level s.blocks (g.L.Layers.listed c.args.layers.now)) c.args.at.index c.args.lane c.args.cell (c.lane_head.ensures.none c.in-None.is)))
