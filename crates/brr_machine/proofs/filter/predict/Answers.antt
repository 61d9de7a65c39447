use Rattle.std.proofs.Common.{arith, w32, ◌≡◌}
use mir.Val.{SFits}
use Rattle.std.proofs.lemmas.Int.{ints, to_z-of_z}
use Rattle.brr_machine.specs.Brr.{prediction_of}
use Rattle.brr_machine.proofs.filter.predict.Goals as goal

pub overflow_add-result-in-2-2 : goal.overflow_add-result-in-2-2
overflow_add-result-in-2-2 c = omega (arith, ints)

pub overflow_add-result-in_default-2 : goal.overflow_add-result-in_default-2
overflow_add-result-in_default-2 c = omega (arith, ints)

pub returns-in-2-clause-value : goal.returns-in-2-clause-value
unfolding prediction_of
returns-in-2-clause-value c =
    let o : SFits w32 c.args.o = c.ranges.o in
    let r : SFits w32 c.args.r = c.ranges.r in
    let v = simp to_z-of_z at c.share-in-2.ensures.value in
    let w = simp to_z-of_z at c.share-in-2-2.ensures.value in
    rw c.in-2.is (omega (arith, ints, v, w))

pub returns-in-2-clause-low : goal.returns-in-2-clause-low
returns-in-2-clause-low c = omega (arith, ints)

pub returns-in-2-clause-high : goal.returns-in-2-clause-high
returns-in-2-clause-high c = omega (arith, ints)

pub returns-in_default-clause-value : goal.returns-in_default-clause-value
unfolding prediction_of
returns-in_default-clause-value c =
    let o : SFits w32 c.args.o = c.ranges.o in
    let r : SFits w32 c.args.r = c.ranges.r in
    let v = simp to_z-of_z at c.share-in_default.ensures.value in
    let w = simp to_z-of_z at c.share-in_default-2.ensures.value in
    let third : c.args.filter ≡ 3 = omega arith in
    rw third (omega (arith, ints, v, w))

pub returns-in_default-clause-low : goal.returns-in_default-clause-low
returns-in_default-clause-low c = omega (arith, ints)

pub returns-in_default-clause-high : goal.returns-in_default-clause-high
returns-in_default-clause-high c = omega (arith, ints)
