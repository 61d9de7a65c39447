use Rattle.std.proofs.Common.{arith, w64}
use Rattle.std.specs.Prelude.{negsuc, ◌<ℤ◌, ◌*ℤ◌}
use mir.Val.{SFits}
use Rattle.std.proofs.lemmas.Int.{ints, to_z-of_z}
use Rattle.window_floor.specs.Numbers.{row_of}
use Rattle.window_floor.specs.Quantizer.{IsLevelMiss}
use Rattle.window_floor.proofs.LevelLaws.{upper-is, upper-skipped}
use Rattle.window_floor.proofs.levels.with_upper.Goals as goal

pub returns-then-beats_upper-clause-miss : goal.returns-then-beats_upper-clause-miss
returns-then-beats_upper-clause-miss c =
    let fa : SFits w64 c.args.aim = c.ranges.aim in
    let s = c.args.w.scale_is.low in let d = c.args.w.d_is.low in let p = c.args.quantizer.step_is.low in
    let low = c.args.quantizer.low_is.high in let high = c.args.quantizer.high_is.low in
    let test = c.beats_upper.ensures.0 c.if-beats_upper.true in
    let above : c.args.aim <ℤ (c.args.quantizer.step *ℤ c.args.quantizer.high) = simp to_z-of_z at test.1 in
    upper-skipped (row_of c.args.w) c.args.rho c.args.aim c.args.quantizer.step c.args.quantizer.low c.args.quantizer.high c.args.lower
    (omega (arith, ints, s)) (omega (arith, ints, d)) (omega (arith, ints, p)) (omega (arith, ints, low, high)) c.requires.aim test.0 above c.requires.lower

pub returns-else-beats_upper-clause-miss : goal.returns-else-beats_upper-clause-miss
returns-else-beats_upper-clause-miss c =
    let f : SFits w64 c.args.rho = c.ranges.rho in
    let upper : IsLevelMiss (row_of c.args.w) c.args.rho c.args.quantizer.step c.args.quantizer.low c.args.quantizer.high (negsuc 0) (negsuc 0) c.at_copy.result = simp to_z-of_z at c.at_copy.ensures.miss in
    upper-is (row_of c.args.w) c.args.rho c.args.quantizer.step c.args.quantizer.low c.args.quantizer.high c.min.result c.args.lower c.at_copy.result c.requires.lower upper c.min.ensures
