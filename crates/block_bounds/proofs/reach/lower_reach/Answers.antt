use Rattle.std.proofs.Common.{arith, w64, ◌≡◌, to_z, of_z}
use Rattle.std.proofs.lemmas.Int.{ints}
use Rattle.block_bounds.proofs.ReachLaws.{bottom-size, level-is}
use Rattle.block_bounds.proofs.reach.lower_reach.Goals as goal

pub returns-clause-value : goal.returns-clause-value
returns-clause-value c =
    let levels = c.args.levels in
    let step : to_z w64 (of_z w64 levels.step) ≡ levels.step = omega (arith, ints, levels.step_is.low, levels.step_is.high) in
    let n : to_z w64 (of_z w64 levels.low) ≡ levels.low = omega (arith, ints, levels.low_is.low, levels.low_is.high) in
    let level = level-is c.level_of.result levels.step levels.low _ _ c.level_of.ensures.value step n in
    let size = bottom-size levels.step levels.low levels.step_is.low levels.step_is.high levels.low_is.low levels.low_is.high in
    omega (arith, ints, level, size.0, size.1)

pub returns-clause-range : goal.returns-clause-range
returns-clause-range c =
    let levels = c.args.levels in
    let value = returns-clause-value c in
    let size = bottom-size levels.step levels.low levels.step_is.low levels.step_is.high levels.low_is.low levels.low_is.high in
    record { low = omega (arith, ints, value, size.0, size.1); high = omega (arith, ints, value, size.0, size.1) }
