use Rattle.std.proofs.Common.{rules, arith, ap, subst, ◌≡◌, ◌∙◌, ◌≤◌, ◌*◌, ℕ, ◌-ℤ◌, ◌*ℤ◌, ℤ, unsigned_abs, to_z, of_z, w32, w64}
use Rattle.std.proofs.lemmas.Int.{ints, to_z-of_z}
use mir.Val.{SFits}
use Rattle.strong_bound.proofs.states.missed.Goals as goal

pub returns : goal.returns
returns c =
    let ft : SFits w32 c.args.target = c.ranges.target in
    let fo : SFits w32 c.args.output = c.ranges.output in
    let fs : SFits w64 c.args.scale = c.ranges.scale in
    let from : c.from.result ≡ c.args.output = simp to_z-of_z at c.from.ensures in
    let target : c.from-2.result ≡ c.args.target = simp to_z-of_z at c.from-2.ensures in
    let ff : SFits w64 c.from.result = search rules in
    let multiple : c.multiple.result ≡ c.args.scale *ℤ c.from.result = simp to_z-of_z at c.multiple.ensures.value in
    let apart : to_z w64 (of_z w64 (to_z w64 (of_z w64 c.multiple.result) -ℤ to_z w64 (of_z w64 c.from-2.result))) ≡ c.multiple.result -ℤ c.from-2.result = omega (arith, ints, c.multiple.ensures.low, c.multiple.ensures.high, target) in
    let size = c.unsigned_abs-size.ensures.value ∙ ap unsigned_abs (apart ∙ ap (λ (z : ℤ). z -ℤ c.from-2.result) (multiple ∙ ap (λ (z : ℤ). c.args.scale *ℤ z) from) ∙ ap (λ (z : ℤ). c.args.scale *ℤ c.args.output -ℤ z) target) in
    subst (λ (z : ℕ). c.saturating_mul.result ≤ z * z) size (omega (arith, c.saturating_mul.ensures))
