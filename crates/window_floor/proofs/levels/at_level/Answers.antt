use Rattle.std.proofs.Common.{arith, w32, w64, ◌≡◌, to_z, of_z}
use Rattle.std.specs.Prelude.{pos, ◌-ℤ◌, ◌*ℤ◌}
use mir.Val.{SFits}
use Rattle.std.proofs.lemmas.Int.{ints, to_z-of_z}
use Rattle.window_floor.specs.Numbers.{row_of}
use Rattle.window_floor.proofs.LevelLaws.{level-miss}
use Rattle.window_floor.proofs.levels.at_level.Goals as goal

pub at_rounding-requires-clause-a : goal.at_rounding-requires-clause-a
at_rounding-requires-clause-a c =
    let low = c.level.ensures.range.low in let high = c.level.ensures.range.high in omega (arith, ints, low, high)

pub returns-clause-value : goal.returns-clause-value
returns-clause-value c =
    let fr : SFits w64 c.args.rho = c.ranges.rho in let fn : SFits w64 c.args.n = c.ranges.n in
    let low = c.level.ensures.range.low in let high = c.level.ensures.range.high in
    let level : c.level.result ≡ c.args.quantizer.step *ℤ c.args.n = simp to_z-of_z at c.level.ensures.value in
    let a : to_z w32 (of_z w32 (to_z w32 (of_z w32 c.level.result) -ℤ to_z w32 (of_z w32 (pos 32768 *ℤ to_z w32 (of_z w32 c.args.wraps))))) ≡ c.level.result -ℤ pos 32768 *ℤ c.args.wraps = omega (arith, ints, low, high) in
    let rho : to_z w64 (of_z w64 c.args.rho) ≡ c.args.rho = simp to_z-of_z in
    level-miss (row_of c.args.w) c.args.rho c.args.quantizer.step c.args.n c.args.wraps c.level.result _ _ c.at_rounding.result level a rho c.at_rounding.ensures.value
