use Rattle.std.proofs.Common.{rules}
use Rattle.spu_machine.proofs.NearCodes.{nearest-inside}
use Rattle.spu_machine.proofs.nearest.Codes.nearest.Goals as goal

pub returns-then-is_below_highest-clause-value : goal.returns-then-is_below_highest-clause-value
returns-then-is_below_highest-clause-value c =
    let codes = c.args.self in
    let around = c.around-below.ensures in
    nearest-inside codes.shift codes.prediction codes.target c.around-below.result.0 c.around-below.result.1 _ (search rules) around.below_range around.above_range
    around.below around.above (c.is_above_lowest.ensures c.if-is_above_lowest.true) (c.is_below_highest.ensures c.if-is_below_highest.true) c.least_of_two.ensures.value
