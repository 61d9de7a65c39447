use Rattle.std.proofs.Common.{arith, w64, ◌≡◌, to_z, of_z, ap, ◌∙◌}
use Rattle.std.specs.Prelude.{pos, ◌*ℤ◌}
use Rattle.std.proofs.lemmas.Int.{ints}
use Rattle.row_bound.specs.Bound.{gain}
use Rattle.row_bound.proofs.Sizes.{least-end, product-same, least-same}
use Rattle.row_bound.proofs.parts.gain_at.Goals as goal

pub overflow_mul-result : goal.overflow_mul-result
overflow_mul-result c =
    let s = least-end c.at_end.result c.at_end-2.result c.min.result c.at_end.ensures.low c.at_end.ensures.high c.at_end-2.ensures.low c.at_end-2.ensures.high c.min.ensures.value in
    omega (arith, ints, s.1, s.2)

pub returns-clause-value : goal.returns-clause-value
unfolding gain
returns-clause-value c =
    let s = least-end c.at_end.result c.at_end-2.result c.min.result c.at_end.ensures.low c.at_end.ensures.high c.at_end-2.ensures.low c.at_end-2.ensures.high c.min.ensures.value in
    let m : to_z w64 (of_z w64 c.args.m) ≡ c.args.m = omega (arith, ints) in
    let low : to_z w64 (of_z w64 c.args.w.low) ≡ c.args.w.low = omega (arith, ints, c.args.w.low_is.low, c.args.w.low_is.high) in
    let high : to_z w64 (of_z w64 c.args.w.high) ≡ c.args.w.high = omega (arith, ints, c.args.w.high_is.low, c.args.w.high_is.high) in
    let x = c.at_end.ensures.value ∙ product-same c.args.m c.args.w.low _ _ m low in
    let y = c.at_end-2.ensures.value ∙ product-same c.args.m c.args.w.high _ _ m high in
    let e : to_z w64 (of_z w64 (pos 128 *ℤ to_z w64 (of_z w64 c.min.result))) ≡ pos 128 *ℤ c.min.result = omega (arith, ints, s.1, s.2) in
    e ∙ ap (λ t. pos 128 *ℤ t) (s.0 ∙ least-same _ _ _ _ x y)

pub returns-clause-low : goal.returns-clause-low
returns-clause-low c =
    let s = least-end c.at_end.result c.at_end-2.result c.min.result c.at_end.ensures.low c.at_end.ensures.high c.at_end-2.ensures.low c.at_end-2.ensures.high c.min.ensures.value in
    omega (arith, ints, s.1, s.2)

pub returns-clause-high : goal.returns-clause-high
returns-clause-high c =
    let s = least-end c.at_end.result c.at_end-2.result c.min.result c.at_end.ensures.low c.at_end.ensures.high c.at_end-2.ensures.low c.at_end-2.ensures.high c.min.ensures.value in
    omega (arith, ints, s.1, s.2)
