use Rattle.std.proofs.Common.{arith}
use Rattle.row_bound.proofs.TableLaws.{either}
use Rattle.row_bound.proofs.BlockLaws.{low-owes, both-owe}
use Rattle.row_bound.proofs.block.block_bound.Goals as goal

pub returns-then-entering-eq0-clause-owes : goal.returns-then-entering-eq0-clause-owes
returns-then-entering-eq0-clause-owes c =
    low-owes c.args.steps.now c.args.layers.now c.args.entering _ c.args.top c.min-low.result c.min-low.ensures (c.table_of-floors.ensures.owed 0 (omega arith))

pub returns-clause-owes : goal.returns-clause-owes
returns-clause-owes c =
    both-owe c.args.steps.now c.args.layers.now c.args.entering c.min-low.result c.whole-found.result c.max.result (either _ _ _ c.max.ensures)
    (low-owes c.args.steps.now c.args.layers.now c.args.entering _ c.args.top c.min-low.result c.min-low.ensures (c.table_of-floors.ensures.owed 0 (omega arith))) c.whole-found.ensures.owes
