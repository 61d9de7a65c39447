use Rattle.std.proofs.Common.{arith, w64, ◌≡◌, to_z, of_z, ap, ◌∙◌}
use Rattle.std.proofs.lemmas.Int.{ints}
use Rattle.row_bound.specs.Bound.{loss, gain}
use Rattle.row_bound.proofs.parts.part_at.Goals as goal

pub returns-clause-value : goal.returns-clause-value
returns-clause-value c =
    let m : to_z w64 (of_z w64 c.args.m) ≡ c.args.m = omega (arith, ints) in
    let l : to_z w64 (of_z w64 c.args.l) ≡ c.args.l = omega (arith, ints) in
    let one : c.gain_at-more.result ≡ gain c.args.w c.args.m = c.gain_at-more.ensures.value ∙ ap (gain c.args.w) m in
    let two : c.loss_at-less.result ≡ loss c.args.before c.args.l = c.loss_at-less.ensures.value ∙ ap (loss c.args.before) l in
    omega (arith, ints, one, two, c.gain_at-more.ensures.low, c.gain_at-more.ensures.high, c.loss_at-less.ensures.low, c.loss_at-less.ensures.high)
