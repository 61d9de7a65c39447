use Rattle.std.proofs.Common.{arith, w64}
use Rattle.std.specs.Prelude.{pos, ◌≤ℤ◌, ◌*ℤ◌}
use mir.Val.{SFits}
use Rattle.std.proofs.lemmas.Int.{ints, to_z-of_z}
use Rattle.window_floor.specs.Numbers.{row_of}
use Rattle.window_floor.specs.Quantizer.{IsLevelMiss}
use Rattle.window_floor.proofs.LevelLaws.{lower-is, lower-skipped}
use Rattle.window_floor.proofs.levels.with_lower.Goals as goal

pub returns-then-beats_lower-clause-miss : goal.returns-then-beats_lower-clause-miss
returns-then-beats_lower-clause-miss c =
    let fa : SFits w64 c.args.aim = c.ranges.aim in
    let s = c.args.w.scale_is.low in let d = c.args.w.d_is.low in let p = c.args.quantizer.step_is.low in
    let low = c.args.quantizer.low_is.high in let high = c.args.quantizer.high_is.low in
    let test = c.beats_lower.ensures.0 c.if-beats_lower.true in
    let under : (c.args.quantizer.step *ℤ c.args.quantizer.low) ≤ℤ c.args.aim = simp to_z-of_z at test.1 in
    lower-skipped (row_of c.args.w) c.args.rho c.args.aim c.args.quantizer.step c.args.quantizer.low c.args.quantizer.high c.args.plain
    (omega (arith, ints, s)) (omega (arith, ints, d)) (omega (arith, ints, p)) (omega (arith, ints, low, high)) c.requires.aim test.0 under c.requires.plain

pub returns-else-beats_lower-clause-miss : goal.returns-else-beats_lower-clause-miss
returns-else-beats_lower-clause-miss c =
    let f : SFits w64 c.args.rho = c.ranges.rho in
    let lower : IsLevelMiss (row_of c.args.w) c.args.rho c.args.quantizer.step c.args.quantizer.low c.args.quantizer.high (pos 1) (pos 1) c.at_copy.result = simp to_z-of_z at c.at_copy.ensures.miss in
    lower-is (row_of c.args.w) c.args.rho c.args.quantizer.step c.args.quantizer.low c.args.quantizer.high c.min.result c.args.plain c.at_copy.result c.requires.plain lower c.min.ensures
