use Rattle.std.proofs.Common.{arith, w64, ◌≡◌, to_z, of_z, ap, ◌∙◌}
use Rattle.std.proofs.lemmas.Int.{ints}
use Rattle.std.specs.Int.{div_ceil}
use Rattle.adpcm_nums.specs.Nums.{square_of}
use Rattle.row_bound.proofs.LossLaws.{loss-known, loss-free, ceil-small, cast-is, at-most}
use Rattle.row_bound.proofs.Sizes.{product-same}
use Rattle.row_bound.proofs.parts.loss_at.Goals as goal

pub returns-then-w-clause-value : goal.returns-then-w-clause-value
returns-then-w-clause-value c =
    let l : to_z w64 (of_z w64 c.args.l) ≡ c.args.l = omega (arith, ints) in
    let out : to_z w64 (of_z w64 c.args.w.out) ≡ c.args.w.out = omega (arith, ints, c.args.w.out_is.low, c.args.w.out_is.high) in
    loss-known c.args.w c.args.l c.at_known.result c.fixed.result _ c.if-w.true (c.at_known.ensures.value ∙ product-same c.args.l c.args.w.out _ _ l out) c.fixed.ensures.value
    (omega (arith, ints, c.at_known.ensures.low, c.at_known.ensures.high, c.fixed.ensures.low, c.fixed.ensures.high))

pub returns-then-w-clause-low : goal.returns-then-w-clause-low
returns-then-w-clause-low c = omega (arith, ints, c.at_known.ensures.low, c.at_known.ensures.high, c.fixed.ensures.low, c.fixed.ensures.high)

pub returns-then-w-clause-high : goal.returns-then-w-clause-high
returns-then-w-clause-high c = omega (arith, ints, c.at_known.ensures.low, c.at_known.ensures.high, c.fixed.ensures.low, c.fixed.ensures.high)

pub returns-else-w-clause-value : goal.returns-else-w-clause-value
returns-else-w-clause-value c =
    let l : to_z w64 (of_z w64 c.args.l) ≡ c.args.l = omega (arith, ints) in
    let n = c.share.ensures ∙ ap (λ t. div_ceil t c.args.w.weight) (c.square.ensures.value ∙ ap square_of l) in
    let small = ceil-small c.square.result c.args.w.weight c.args.w.weight_is in
    let most = c.square.ensures.most in
    let is = c.share.ensures in
    let cast = c.cast_signed.ensures in
    loss-free c.args.w c.args.l _ c.share.result c.if-w.false n (cast-is c.cast_signed.result c.share.result cast (omega (arith, small, most, is)))

pub returns-else-w-clause-high : goal.returns-else-w-clause-high
returns-else-w-clause-high c =
    let small = ceil-small c.square.result c.args.w.weight c.args.w.weight_is in
    let most = c.square.ensures.most in
    let is = c.share.ensures in
    let cast = c.cast_signed.ensures in
    let e = cast-is c.cast_signed.result c.share.result cast (omega (arith, small, most, is)) in
    at-most _ c.share.result e (omega (arith, small, most, is))
