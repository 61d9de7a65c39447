use Rattle.std.proofs.Common.{arith}
use Rattle.std.proofs.lemmas.Int.{ints}
use Rattle.block_bounds.proofs.steps.within.Goals as goal

pub returns-clause-high : goal.returns-clause-high
returns-clause-high c =
    let levels = c.args.levels in
    grind (arith, ints, levels.low_is.low, levels.low_is.high, levels.high_is.low, levels.high_is.high, c.min.ensures, c.max.ensures)
