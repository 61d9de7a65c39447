use Rattle.std.proofs.Common.{refl, take, ◌+◌}
use Rattle.strong_bound.proofs.BlockBounds.{counted-with}
use Rattle.strong_bound.proofs.Lists.{first-targets}
use Rattle.strong_bound.proofs.window.first_bound.Goals as goal

pub returns-clause-below : goal.returns-clause-below
returns-clause-below g c =
    let l = g.M.LinearMachine.linear c.args.machine.now in
    let d = (g.M.Machine.rules c.args.machine.now).decoder in
    let laws = g.met.M.LinearMachine.is_linear c.args.machine.now in
    let samples = c.block_samples-samples.result in
    let are = first-targets d.samples samples c.args.targets.now c.first_targets-list.result c.block_samples-samples.ensures c.requires.within c.first_targets-list.ensures.count c.requires.few c.first_targets-list.ensures.own in
    λ fixed blocks list some ruled legal. counted-with l laws.0 d laws.1 c.args.rule _ 0 fixed blocks list legal c.requires.some c.args.targets.now (take (samples + 2) c.first_targets-list.result) 0 c.block_bound_of.result some ruled refl refl are c.block_bound_of.ensures.owes
