use Rattle.std.proofs.Common.{rules, arith, ◌≡◌, w32}
use mir.Val.{SFits}
use Rattle.std.proofs.lemmas.Int.{ints, to_z-of_z}
use Rattle.spu_machine.specs.Laws.Boxed.{least_output, greatest_output}
use Rattle.spu_machine.proofs.Corners.{in-order, image-is}
use Rattle.spu_machine.proofs.image.image.Goals as goal

pub invariant_of-output_piece : goal.invariant_of-output_piece
invariant_of-output_piece c =
    let a : SFits w32 c.args.from.a.lo = search rules in
    let b : SFits w32 c.args.from.a.hi = search rules in
    let d : SFits w32 c.args.from.b.lo = search rules in
    let e : SFits w32 c.args.from.b.hi = search rules in
    let lo : c.spu_output-lo.result ≡ least_output c.args.head c.args.code c.args.from = simp to_z-of_z at c.spu_output-lo.ensures.value in
    let hi : c.spu_output-hi.result ≡ greatest_output c.args.head c.args.code c.args.from = simp to_z-of_z at c.spu_output-hi.ensures.value in
    let order = in-order c.args.head c.args.code c.args.from _ _ lo hi in
    record { order = omega (arith, ints, order) }

pub returns : goal.returns
returns c =
    let a : SFits w32 c.args.from.a.lo = search rules in
    let b : SFits w32 c.args.from.a.hi = search rules in
    let d : SFits w32 c.args.from.b.lo = search rules in
    let e : SFits w32 c.args.from.b.hi = search rules in
    let target : SFits w32 c.args.target = c.ranges.target in
    let lo : c.spu_output-lo.result ≡ least_output c.args.head c.args.code c.args.from = simp to_z-of_z at c.spu_output-lo.ensures.value in
    let hi : c.spu_output-hi.result ≡ greatest_output c.args.head c.args.code c.args.from = simp to_z-of_z at c.spu_output-hi.ensures.value in
    image-is c.args.head c.args.code c.args.from c.args.target _ _ c.output_piece.result c.one.result c.one.ensures c.output_piece.ensures
    (omega (arith, ints, lo)) (omega (arith, ints, hi)) (omega (arith, ints))
