use Rattle.std.proofs.Common.{arith, w64, ◌≡◌, to_z, of_z, ap, ◌∙◌}
use Rattle.std.proofs.lemmas.Int.{ints}
use Rattle.block_bounds.specs.Steps.{moved_by, number_at}
use Rattle.block_bounds.proofs.steps.step_at.Goals as goal

pub returns-clause-value : goal.returns-clause-value
returns-clause-value c =
    let n : to_z w64 (of_z w64 c.number_of.result) ≡ c.number_of.result = omega (arith, ints, c.number_of.ensures.low, c.number_of.ensures.high) in
    let k : to_z w64 (of_z w64 c.wraps_of.result) ≡ c.wraps_of.result = omega (arith, ints, c.wraps_of.ensures.low, c.wraps_of.ensures.high) in
    let s : to_z w64 (of_z w64 c.moved.result) ≡ c.moved.result = omega (arith, ints, c.moved.ensures.low, c.moved.ensures.high) in
    s ∙ (c.moved.ensures.value ∙ (ap (λ t. moved_by c.args.b t (to_z w64 (of_z w64 c.wraps_of.result))) (n ∙ c.number_of.ensures.value) ∙ ap (moved_by c.args.b (number_at c.args.b c.args.i)) (k ∙ c.wraps_of.ensures.value)))
