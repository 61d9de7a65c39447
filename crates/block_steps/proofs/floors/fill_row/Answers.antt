use Rattle.std.proofs.Common.{arith}
use Rattle.block_steps.proofs.Rows.{rows-more, rows-same}
use Rattle.block_steps.proofs.floors.fill_row.Goals as goal

pub returns-then-leads : goal.returns-then-leads
returns-then-leads g c = rows-more (g.M.Machine.rules c.args.machine.now) c.args.targets.now c.args.rows.now c.fill_floor.new.table c.args.len c.args.head _ c.requires.len c.requires.head c.requires.rows (omega arith) c.requires.filled c.fill_floor.ensures

pub returns-else-leads : goal.returns-else-leads
returns-else-leads g c = rows-same (g.M.Machine.rules c.args.machine.now) c.args.targets.now c.args.rows.now c.args.head c.requires.filled (c.leads.ensures c.if-leads.false)
