use Rattle.std.proofs.Common.{◌<◌, arith, ◌∙◌, ◌%◌}
use Rattle.branch_bound.specs.Worth.{layer_certificate}
use Rattle.branch_bound.proofs.Picks.{alike-found}
use Rattle.branch_bound.proofs.walking.next_head.Goals as goal

pub returns-else-at-eq0-clause-way : goal.returns-else-at-eq0-clause-way
returns-else-at-eq0-clause-way g c =
    let m = g.M.Machine.rules c.args.machine.now in let s = c.args.s.now in
    let p = c.requires.at.spot.place in let ne = c.if-at-eq0.false in
    let later : 0 < c.args.at.index % m.decoder.samples = omega arith in
    alike-found m s.targets.now (layer_certificate s.level s.blocks c.args.next.now) c.args.at.index c.args.head c.args.cell (g.met.M.Machine.lawful c.args.machine.now) (g.met.M.Machine.boxed c.args.machine.now) (c.requires.head (omega arith)) later ∙ c.requires.left
