use Rattle.std.proofs.Common.{arith}
use Rattle.ima_machine.proofs.NearestCodes.{falling-stays, falling-turns}
use Rattle.ima_machine.proofs.nearest.nearest_falling.Goals as goal

pub returns-then-miss_toward-miss_away : goal.returns-then-miss_toward-miss_away
returns-then-miss_toward-miss_away c =
    falling-stays c.args.step c.args.gap c.args.above c.args.below c.nearest_toward-code.result c.requires.low (record { is = c.nearest_toward-code.ensures })
    (omega (arith, c.miss_toward.ensures, c.miss_away.ensures, c.if-miss_toward-miss_away.true))

pub returns-else-miss_toward-miss_away : goal.returns-else-miss_toward-miss_away
returns-else-miss_toward-miss_away c =
    falling-turns c.args.step c.args.gap c.args.above c.args.below c.nearest_toward-code.result c.requires.low (record { is = c.nearest_toward-code.ensures })
    (omega (arith, c.miss_toward.ensures, c.miss_away.ensures, c.if-miss_toward-miss_away.false))
