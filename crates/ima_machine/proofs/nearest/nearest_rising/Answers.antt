use Rattle.std.proofs.Common.{arith}
use Rattle.ima_machine.proofs.NearestCodes.{rising-stays, rising-turns}
use Rattle.ima_machine.proofs.nearest.nearest_rising.Goals as goal

pub returns-then-miss_away-miss_toward : goal.returns-then-miss_away-miss_toward
returns-then-miss_away-miss_toward c =
    rising-turns c.args.step c.args.gap c.args.above c.args.below c.nearest_toward-code.result c.requires.low (record { is = c.nearest_toward-code.ensures })
    (omega (arith, c.miss_toward.ensures, c.miss_away.ensures, c.if-miss_away-miss_toward.true))

pub returns-else-miss_away-miss_toward : goal.returns-else-miss_away-miss_toward
returns-else-miss_away-miss_toward c =
    rising-stays c.args.step c.args.gap c.args.above c.args.below c.nearest_toward-code.result c.requires.low (record { is = c.nearest_toward-code.ensures })
    (omega (arith, c.miss_toward.ensures, c.miss_away.ensures, c.if-miss_away-miss_toward.false))
