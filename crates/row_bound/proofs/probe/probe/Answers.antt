use Rattle.std.proofs.Common.{arith}
use Rattle.std.specs.Prelude.{pos, ◌≤ℤ◌}
use Rattle.std.proofs.lemmas.Int.{ints}
use Rattle.row_bound.proofs.GuardLaws.{tells-up, tells-down}
use Rattle.row_bound.proofs.probe.probe.Goals as goal

pub returns-then-factor-ge0 : goal.returns-then-factor-ge0
returns-then-factor-ge0 c steps ws layers w =
    let sign : pos 0 ≤ℤ c.factor_at-factor.result = omega (arith, ints, c.factor_at-factor.ensures.low, c.factor_at-factor.ensures.high) in
    tells-up c.args.v c.args.u c.args.rows.now c.propose-mus.result c.args.rest c.floor_of_rows-floor.result c.factor_at-factor.result c.floor_of_rows-floor.ensures.outward c.factor_at-factor.ensures.value sign steps ws layers w

pub returns-else-factor-ge0 : goal.returns-else-factor-ge0
returns-else-factor-ge0 c steps ws layers w =
    let sign : c.factor_at-factor.result ≤ℤ pos 0 = omega (arith, ints, c.factor_at-factor.ensures.low, c.factor_at-factor.ensures.high) in
    tells-down c.args.v c.args.u c.args.rows.now c.propose-mus.result c.args.rest c.floor_of_rows-floor.result c.factor_at-factor.result c.floor_of_rows-floor.ensures.outward c.factor_at-factor.ensures.value sign steps ws layers w
