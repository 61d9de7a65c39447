use Rattle.std.proofs.Common.{arith, w64, ◌≡◌, to_z, of_z, ap, ◌∙◌}
use Rattle.std.specs.Int.{int_min, int_max}
use Rattle.std.proofs.lemmas.Int.{ints}
use Rattle.block_bounds.proofs.steps.number_of.Goals as goal

pub returns-clause-value : goal.returns-clause-value
returns-clause-value c =
    let levels = c.args.b.levels in
    let d : to_z w64 (of_z w64 c.digit_of.result) ≡ c.digit_of.result = omega (arith, ints, c.digit_of.ensures.low, c.digit_of.ensures.high) in
    let s : to_z w64 (of_z w64 c.within.result) ≡ c.within.result = omega (arith, ints, c.within.ensures.low, c.within.ensures.high, levels.low_is.low, levels.high_is.high) in
    s ∙ (c.within.ensures.value ∙ ap (λ t. int_max (int_min t levels.high) levels.low) (d ∙ c.digit_of.ensures.value))
