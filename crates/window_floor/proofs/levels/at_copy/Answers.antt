use Rattle.std.proofs.Common.{rules, arith, w32, w64, ◌≡◌, to_z, of_z, ◌⊎◌}
use Rattle.std.specs.Prelude.{pos, ◌+ℤ◌, ◌-ℤ◌, ◌*ℤ◌}
use mir.Val.{SFits}
use Rattle.std.proofs.lemmas.Int.{ints, to_z-of_z}
use Rattle.window_floor.specs.Numbers.{row_of}
use Rattle.window_floor.specs.Miss.{rounded_miss}
use Rattle.window_floor.proofs.LevelLaws.{IsUnder, copy-is}
use Rattle.window_floor.proofs.levels.at_copy.Goals as goal

pub overflow_mul-wraps : goal.overflow_mul-wraps
overflow_mul-wraps c = omega (arith, ints)

pub returns-clause-miss : goal.returns-clause-miss
returns-clause-miss c =
    let fr : SFits w64 c.args.rho = c.ranges.rho in let fn : SFits w64 c.under-n.result = search rules in
    let fm : SFits w64 c.next-next.result = search rules in let fw : SFits w32 c.args.wraps = c.ranges.wraps in
    let low = c.under-n.ensures.low in let high = c.under-n.ensures.high in
    let s = c.args.w.scale_is.low in let d = c.args.w.d_is.low in let p = c.args.quantizer.step_is.low in
    let x : to_z w64 (of_z w64 (to_z w64 (of_z w64 c.args.aim) +ℤ to_z w64 (of_z w64 c.from.result))) ≡ c.args.aim +ℤ pos 32768 *ℤ c.args.wraps = omega (arith, ints) in
    let under : IsUnder c.args.quantizer.step c.args.quantizer.low c.args.quantizer.high (to_z w64 (of_z w64 (to_z w64 (of_z w64 c.args.aim) +ℤ to_z w64 (of_z w64 c.from.result)))) c.under-n.result =
    record { least = low; most = high; below = c.under-n.ensures.below; above = c.under-n.ensures.above } in
    let here : c.at_level.result ≡ rounded_miss (row_of c.args.w) c.args.rho (c.args.quantizer.step *ℤ c.under-n.result -ℤ pos 32768 *ℤ c.args.wraps) = simp to_z-of_z at c.at_level.ensures.value in
    let there : c.at_level-2.result ≡ rounded_miss (row_of c.args.w) c.args.rho (c.args.quantizer.step *ℤ c.next-next.result -ℤ pos 32768 *ℤ c.args.wraps) = simp to_z-of_z at c.at_level-2.ensures.value in
    let next : (c.next-next.result ≡ c.under-n.result +ℤ pos 1) ⊎ (c.under-n.result ≡ c.args.quantizer.high) = simp to_z-of_z at c.next-next.ensures.next in
    copy-is (row_of c.args.w) c.args.rho c.args.aim c.args.quantizer.step c.args.quantizer.low c.args.quantizer.high c.args.wraps _ c.under-n.result c.next-next.result c.min.result c.at_level.result c.at_level-2.result
    (omega (arith, ints, s)) (omega (arith, ints, d)) (omega (arith, ints, p)) c.requires.aim x under next c.next-next.ensures.low c.next-next.ensures.high here there c.min.ensures
