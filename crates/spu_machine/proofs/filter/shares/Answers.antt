use Rattle.std.proofs.Common.{rules, arith, w32, w64, ◌∙◌, ap}
use Rattle.std.specs.Prelude.{ℤ, ◌*ℤ◌}
use mir.Val.{SFits}
use Rattle.std.proofs.lemmas.Int.{ints, to_z-of_z}
use Rattle.spu_machine.proofs.filter.shares.Goals as goal

pub overflow_add-result-2 : goal.overflow_add-result-2
overflow_add-result-2 c = omega (arith, ints)

pub returns-clause-value : goal.returns-clause-value
returns-clause-value c =
    let o : SFits w32 c.args.o = c.ranges.o in
    let r : SFits w32 c.args.r = c.ranges.r in
    let p : SFits w64 c.last_weight.result = search rules in
    let q : SFits w64 c.older_weight.result = search rules in
    let v = simp to_z-of_z at c.share.ensures.value in
    let w = simp to_z-of_z at c.share-2.ensures.value in
    let x = v ∙ ap (λ (z : ℤ). z *ℤ c.args.o) c.last_weight.ensures.value in
    let y = w ∙ ap (λ (z : ℤ). z *ℤ c.args.r) c.older_weight.ensures.value in
    omega (arith, ints, x, y)

pub returns-clause-at_least : goal.returns-clause-at_least
returns-clause-at_least c = omega (arith, ints)

pub returns-clause-at_most : goal.returns-clause-at_most
returns-clause-at_most c = omega (arith, ints)
