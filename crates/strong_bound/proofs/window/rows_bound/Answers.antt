use Rattle.std.proofs.Common.{◌+◌, ◌-◌, ◌*◌}
use Rattle.std.specs.Prelude.{slice_range}
use Rattle.strong_bound.proofs.BlockBounds.{counted-with}
use Rattle.strong_bound.proofs.Lists.{later-targets}
use Rattle.strong_bound.proofs.window.rows_bound.Goals as goal

pub returns-clause-below : goal.returns-clause-below
returns-clause-below g c =
    let l = g.M.LinearMachine.linear c.args.machine.now in
    let d = (g.M.Machine.rules c.args.machine.now).decoder in
    let laws = g.met.M.LinearMachine.is_linear c.args.machine.now in
    let samples = c.block_samples-samples.result in
    let b = c.args.block in
    let are = later-targets d.samples samples b c.args.blocks c.args.targets.now c.block_samples-samples.ensures c.requires.some c.requires.later c.requires.within c.requires.count in
    λ fixed list ruled legal. counted-with l laws.0 d laws.1 c.args.rule c.leaving.result c.entering.result fixed c.args.blocks list legal c.requires.some c.args.targets.now (slice_range c.args.targets.now (b * samples - 2) (b * samples + samples)) b c.block_bound_of.result c.requires.within ruled c.leaving.ensures c.entering.ensures.value are c.block_bound_of.ensures.owes
