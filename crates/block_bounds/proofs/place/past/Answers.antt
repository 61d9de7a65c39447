use Rattle.std.proofs.Common.{rules, arith, w32, w64, ◌≡◌, to_z, of_z, ap, ◌∙◌}
use Rattle.std.specs.Prelude.{◌-ℤ◌, ◌*ℤ◌}
use mir.Val.{SFits}
use Rattle.std.proofs.lemmas.Int.{ints, to_z-of_z}
use Rattle.block_bounds.proofs.place.past.Goals as goal

pub scaled-requires-clause-x_low : goal.scaled-requires-clause-x_low
scaled-requires-clause-x_low c = omega (arith, ints, c.args.w.d_is.low, c.args.w.d_is.high)

pub scaled-requires-clause-x_high : goal.scaled-requires-clause-x_high
scaled-requires-clause-x_high c = omega (arith, ints, c.args.w.d_is.low, c.args.w.d_is.high)

pub overflow_sub-result : goal.overflow_sub-result
overflow_sub-result c = omega (arith, ints, c.requires.low, c.requires.high, c.scaled.ensures.low, c.scaled.ensures.high)

pub returns-clause-value : goal.returns-clause-value
returns-clause-value c =
    let w = c.args.w in
    let fs : SFits w64 w.scale = search rules in let fr : SFits w32 c.args.reach = c.ranges.reach in let fx : SFits w32 c.args.x = c.ranges.x in
    let d : to_z w64 (of_z w64 w.d) ≡ w.d = omega (arith, ints, w.d_is.low, w.d_is.high) in
    let gap : c.error.result ≡ w.scale *ℤ c.args.reach -ℤ c.args.x = simp to_z-of_z at c.error.ensures.value in
    let held : to_z w64 (of_z w64 c.error.result) ≡ c.error.result = omega (arith, ints, c.error.ensures.low, c.error.ensures.high) in
    let product : c.scaled.result ≡ w.d *ℤ (w.scale *ℤ c.args.reach -ℤ c.args.x) = c.scaled.ensures.value ∙ (ap (λ t. t *ℤ to_z w64 (of_z w64 c.error.result)) d ∙ ap (λ t. w.d *ℤ t) (held ∙ gap)) in
    omega (arith, ints, product, c.requires.low, c.requires.high, c.scaled.ensures.low, c.scaled.ensures.high)

pub returns-clause-low : goal.returns-clause-low
returns-clause-low c = omega (arith, ints, c.requires.low, c.requires.high, c.scaled.ensures.low, c.scaled.ensures.high)

pub returns-clause-high : goal.returns-clause-high
returns-clause-high c = omega (arith, ints, c.requires.low, c.requires.high, c.scaled.ensures.low, c.scaled.ensures.high)
