use Rattle.std.proofs.Common.{arith}
use Rattle.block_steps.proofs.Later.{spot-within, spot-over}
use Rattle.block_steps.proofs.stepping.next_spot.Goals as goal

pub returns-then-at-block_samples-clause-spot : goal.returns-then-at-block_samples-clause-spot
returns-then-at-block_samples-clause-spot g c =
    spot-within (g.M.Machine.rules c.args.machine.now) c.args.at.index c.args.at.block c.args.at.place c.block_samples.result c.block_samples.ensures c.requires.at (omega arith)

pub returns-else-at-block_samples-clause-spot : goal.returns-else-at-block_samples-clause-spot
returns-else-at-block_samples-clause-spot g c =
    spot-over (g.M.Machine.rules c.args.machine.now) (g.met.M.Machine.lawful c.args.machine.now) c.args.at.index c.args.at.block c.args.at.place c.block_samples.result c.block_samples.ensures c.requires.at (omega arith)
