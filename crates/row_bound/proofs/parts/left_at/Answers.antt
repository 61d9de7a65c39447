use Rattle.std.proofs.Common.{arith, w64, ◌≡◌, to_z, of_z, ap, ◌∙◌}
use Rattle.std.proofs.lemmas.Int.{ints}
use Rattle.row_bound.specs.Bound.{loss}
use Rattle.row_bound.proofs.parts.left_at.Goals as goal

pub returns-clause-value : goal.returns-clause-value
returns-clause-value c =
    let q : to_z w64 (of_z w64 c.args.q) ≡ c.args.q = omega (arith, ints) in
    let p : to_z w64 (of_z w64 c.args.p) ≡ c.args.p = omega (arith, ints) in
    let one : c.loss_at-one.result ≡ loss c.args.before c.args.q = c.loss_at-one.ensures.value ∙ ap (loss c.args.before) q in
    let two : c.loss_at-two.result ≡ loss c.args.last c.args.p = c.loss_at-two.ensures.value ∙ ap (loss c.args.last) p in
    omega (arith, ints, one, two, c.loss_at-one.ensures.low, c.loss_at-one.ensures.high, c.loss_at-two.ensures.low, c.loss_at-two.ensures.high)
