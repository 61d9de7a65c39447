use Rattle.std.proofs.Common.{w32}
use mir.Val.{SFits}
use Rattle.std.proofs.lemmas.Int.{to_z-of_z}
use Rattle.brr_machine.proofs.PartAdding.{three-parts}
use Rattle.brr_machine.proofs.image.cut.Goals as goal

pub returns : goal.returns
returns c =
    let lo : SFits w32 c.args.lo = c.ranges.lo in
    let hi : SFits w32 c.args.hi = c.ranges.hi in
    let target : SFits w32 c.args.target = c.ranges.target in
    three-parts c.args.lo c.args.hi c.args.last c.args.target c.new-pieces.result c.add_part.new.pieces c.add_part-2.new.pieces c.add_part-3.new.pieces c.new-pieces.ensures
    (simp to_z-of_z at c.add_part.ensures.added) (simp to_z-of_z at c.add_part-2.ensures.added) (simp to_z-of_z at c.add_part-3.ensures.added)
