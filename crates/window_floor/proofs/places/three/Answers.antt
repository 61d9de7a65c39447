use Rattle.std.proofs.Common.{w32, to_z, of_z}
use mir.Val.{SFits}
use Rattle.std.proofs.lemmas.Int.{to_z-of_z}
use Rattle.adpcm_nums.specs.Sample.{IsSample}
use Rattle.window_floor.specs.Numbers.{windows_of}
use Rattle.window_floor.proofs.PlaceLaws.{three-is, three-samples}
use Rattle.window_floor.proofs.places.three.Goals as goal

pub quantizer_floor-requires-clause-targets : goal.quantizer_floor-requires-clause-targets
quantizer_floor-requires-clause-targets c =
    let r_fits : SFits w32 c.args.r = c.ranges.r in let o_fits : SFits w32 c.args.o = c.ranges.o in let x_fits : SFits w32 c.args.x = c.ranges.x in
    let r : IsSample (to_z w32 (of_z w32 c.args.r)) = simp to_z-of_z c.requires.r in
    let o : IsSample (to_z w32 (of_z w32 c.args.o)) = simp to_z-of_z c.requires.o in
    let x : IsSample (to_z w32 (of_z w32 c.args.x)) = simp to_z-of_z c.requires.x in three-samples _ _ _ r o x

pub returns-clause-value : goal.returns-clause-value
returns-clause-value c =
    let r : SFits w32 c.args.r = c.ranges.r in let o : SFits w32 c.args.o = c.ranges.o in let x : SFits w32 c.args.x = c.ranges.x in
    let floor = simp to_z-of_z at c.quantizer_floor.ensures.value in
    let first = simp to_z-of_z at c.single.ensures.value in
    let second = simp to_z-of_z at c.single-2.ensures.value in
    let third = simp to_z-of_z at c.single-3.ensures.value in
    λ samples levels. three-is (windows_of c.args.b samples) c.args.r c.args.o c.args.x c.quantizer_floor.result c.single.result c.single-2.result c.single-3.result c.max.result
    (floor samples levels) first second third c.max.ensures
