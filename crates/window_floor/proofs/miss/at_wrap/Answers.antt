use Rattle.std.proofs.Common.{arith, w32, w64, ◌≡◌, ◌≤◌, ℤ, pos, to_z, of_z, ap, subst, sym, ◌∙◌, min, ◌-ℤ◌, ◌+ℤ◌, unsigned_abs, ◌^◌}
use mir.Val.{SFits}
use Rattle.std.proofs.lemmas.Int.{ints, to_z-of_z}
use Rattle.window_floor.specs.Numbers.{row_of}
use Rattle.window_floor.specs.Miss.{rounded_miss}
use Rattle.window_floor.proofs.MissLaws.{wrapped-is, unwrapped-is, lower-small, higher-small}
use Rattle.window_floor.proofs.miss.at_wrap.Goals as goal

pub at_rounding-requires-clause-a : goal.at_rounding-requires-clause-a
at_rounding-requires-clause-a c =
    let lower : to_z w32 (of_z w32 (to_z w32 (of_z w32 c.args.sample) -ℤ pos 32768)) ≡ c.args.sample -ℤ pos 32768 = omega (arith, ints) in
    subst (λ (x : ℤ). unsigned_abs x ≤ 2 ^ 17) (sym lower) (lower-small c.args.sample c.requires.sample)

pub at_rounding-requires-then-w-clause-a : goal.at_rounding-requires-then-w-clause-a
at_rounding-requires-then-w-clause-a c =
    let higher : to_z w32 (of_z w32 (to_z w32 (of_z w32 c.args.sample) +ℤ pos 32768)) ≡ c.args.sample +ℤ pos 32768 = omega (arith, ints) in
    subst (λ (x : ℤ). unsigned_abs x ≤ 2 ^ 17) (sym higher) (higher-small c.args.sample c.requires.sample)

pub returns-then-w-clause-value : goal.returns-then-w-clause-value
returns-then-w-clause-value c =
    let f : SFits w64 c.args.rho = c.ranges.rho in let g : SFits w32 c.args.sample = c.ranges.sample in
    let lower : to_z w32 (of_z w32 (c.args.sample -ℤ pos 32768)) ≡ c.args.sample -ℤ pos 32768 = omega (arith, ints) in
    let higher : to_z w32 (of_z w32 (c.args.sample +ℤ pos 32768)) ≡ c.args.sample +ℤ pos 32768 = omega (arith, ints) in
    let x : c.at_rounding.result ≡ rounded_miss (row_of c.args.w) c.args.rho (to_z w32 (of_z w32 (c.args.sample -ℤ pos 32768))) = simp to_z-of_z at c.at_rounding.ensures.value in
    let y : c.at_rounding-plain.result ≡ rounded_miss (row_of c.args.w) c.args.rho c.args.sample = simp to_z-of_z at c.at_rounding-plain.ensures.value in
    let z : c.at_rounding-then-w.result ≡ rounded_miss (row_of c.args.w) c.args.rho (to_z w32 (of_z w32 (c.args.sample +ℤ pos 32768))) = simp to_z-of_z at c.at_rounding-then-w.ensures.value in
    let e : c.min-then-w.result ≡ min c.at_rounding.result (min c.at_rounding-plain.result c.at_rounding-then-w.result) = c.min-then-w.ensures ∙ ap (λ q. min c.at_rounding.result q) c.min.ensures in
    wrapped-is (row_of c.args.w) c.args.rho c.args.sample _ _ _ _ _ _ c.if-w.true lower higher x y z e

pub returns-else-w-clause-value : goal.returns-else-w-clause-value
returns-else-w-clause-value c =
    let f : SFits w64 c.args.rho = c.ranges.rho in let g : SFits w32 c.args.sample = c.ranges.sample in
    let y : c.at_rounding-plain.result ≡ rounded_miss (row_of c.args.w) c.args.rho c.args.sample = simp to_z-of_z at c.at_rounding-plain.ensures.value in
    unwrapped-is (row_of c.args.w) c.args.rho c.args.sample _ c.if-w.false y
