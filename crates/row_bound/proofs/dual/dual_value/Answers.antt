use Rattle.std.proofs.Common.{arith, w64, ◌≡◌, to_z, of_z, ap, ◌∙◌}
use Rattle.std.specs.Prelude.{◌*ℤ◌, ◌-ℤ◌, drop}
use Rattle.std.proofs.lemmas.Int.{ints}
use Rattle.row_bound.specs.Bound.{gain, loss}
use Rattle.row_bound.proofs.BoundLaws.{loop-more, bound-last, drop-end}
use Rattle.row_bound.proofs.dual.dual_value.Goals as goal

pub scaled-p-requires-clause-x_high : goal.scaled-p-requires-clause-x_high
scaled-p-requires-clause-x_high c = omega (arith, ints, c.index-rows-i.result.d_is.low, c.index-rows-i.result.d_is.high)

pub loop-i-preserved : goal.loop-i-preserved
loop-i-preserved c =
    let w = c.index-rows-i.result in
    let m : to_z w64 (of_z w64 c.factor_at-m.result) ≡ c.factor_at-m.result = omega (arith, ints, c.factor_at-m.ensures.low, c.factor_at-m.ensures.high) in
    let l : to_z w64 (of_z w64 c.lessened-l.result) ≡ c.lessened-l.result = omega (arith, ints, c.lessened-l.type_inv) in
    let q : to_z w64 (of_z w64 c.lessened-q.result) ≡ c.lessened-q.result = omega (arith, ints, c.lessened-q.type_inv) in
    let p : to_z w64 (of_z w64 c.scaled-p.result) ≡ c.scaled-p.result = omega (arith, ints, c.scaled-p.ensures.low, c.scaled-p.ensures.high) in
    let b : to_z w64 (of_z w64 w.b) ≡ w.b = omega (arith, ints, w.b_is.low, w.b_is.high) in
    let a : to_z w64 (of_z w64 w.a) ≡ w.a = omega (arith, ints, w.a_is.low, w.a_is.high) in
    let d : to_z w64 (of_z w64 w.d) ≡ w.d = omega (arith, ints, w.d_is.low, w.d_is.high) in
    let m' = to_z w64 (of_z w64 c.factor_at-m.result) in
    record {
      value = loop-more c.args.rows.now c.args.mus.now c.loop-i.i w c.loop-i.before c.loop-i.last (to_z w64 c.loop-i.q-bits) (to_z w64 c.loop-i.p-bits) c.factor_at-m.result c.lessened-l.result (to_z w64 c.loop-i.total-bits) c.part_at-total.result c.lessened-q.result c.scaled-p.result m' _ _ _ _
          c.loop-i-test.true c.index-rows-i.is c.loop-i.invariant.value
          c.factor_at-m.ensures.value m (c.lessened-l.ensures.value ∙ ap (λ z. to_z w64 c.loop-i.q-bits -ℤ z *ℤ m') b) (c.part_at-total.ensures.value ∙ ap (λ z. gain w m' -ℤ loss c.loop-i.before z) l)
          (c.lessened-q.ensures.value ∙ ap (λ z. to_z w64 c.loop-i.p-bits -ℤ z *ℤ m') a) (c.scaled-p.ensures.value ∙ ap (λ z. z *ℤ m') d)
          (omega (arith, ints)) q p;
      total_low = omega (arith, ints, c.has_room.ensures.low c.if-not-has_room.false, c.has_room.ensures.high c.if-not-has_room.false, c.part_at-total.ensures.low, c.part_at-total.ensures.high);
      total_high = omega (arith, ints, c.has_room.ensures.low c.if-not-has_room.false, c.has_room.ensures.high c.if-not-has_room.false, c.part_at-total.ensures.low, c.part_at-total.ensures.high);
      q_low = omega (arith, ints);
      q_high = omega (arith, ints);
      p_low = omega (arith, ints);
      p_high = omega (arith, ints);
    }

pub returns : goal.returns
returns c =
    let e : to_z w64 (of_z w64 (to_z w64 c.loop-i.total-bits -ℤ to_z w64 (of_z w64 c.left_at.result))) ≡ to_z w64 c.loop-i.total-bits -ℤ c.left_at.result = omega (arith, ints) in
    record {
      value = e ∙ bound-last (drop c.loop-i.i c.args.rows.now) c.args.mus.now c.loop-i.i c.loop-i.before c.loop-i.last (to_z w64 c.loop-i.q-bits) (to_z w64 c.loop-i.p-bits) (to_z w64 c.loop-i.total-bits) c.left_at.result _ (drop-end c.args.rows.now c.loop-i.i c.loop-i-test.false) c.loop-i.invariant.value c.left_at.ensures.value;
      low = omega (arith, ints);
      high = omega (arith, ints);
    }
