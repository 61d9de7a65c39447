use Rattle.std.proofs.Common.{w32, ◌≡◌, ◌+◌, max, to_z, of_z}
use mir.Val.{SFits}
use Rattle.std.proofs.lemmas.Int.{to_z-of_z}
use Rattle.adpcm_nums.specs.Sample.{IsSample}
use Rattle.window_floor.specs.Numbers.{windows_of}
use Rattle.window_floor.proofs.PlaceLaws.{two-is, three-samples, no-sample}
use Rattle.window_floor.proofs.places.two.Goals as goal

pub quantizer_floor-requires-clause-targets : goal.quantizer_floor-requires-clause-targets
quantizer_floor-requires-clause-targets c =
    let o_fits : SFits w32 c.args.o = c.ranges.o in let x_fits : SFits w32 c.args.x = c.ranges.x in
    let o : IsSample (to_z w32 (of_z w32 c.args.o)) = simp to_z-of_z c.requires.o in
    let x : IsSample (to_z w32 (of_z w32 c.args.x)) = simp to_z-of_z c.requires.x in three-samples _ _ _ no-sample o x

pub returns-clause-value : goal.returns-clause-value
returns-clause-value c =
    let o : SFits w32 c.args.o = c.ranges.o in let x : SFits w32 c.args.x = c.ranges.x in
    let floor = simp to_z-of_z at c.quantizer_floor.ensures.value in
    let first = simp to_z-of_z at c.single.ensures.value in
    let second = simp to_z-of_z at c.single-2.ensures.value in
    let sum : c.max.result ≡ max c.quantizer_floor.result (c.single.result + c.single-2.result) = c.max.ensures in
    λ samples levels. two-is (windows_of c.args.b samples) c.args.o c.args.x c.quantizer_floor.result c.single.result c.single-2.result c.max.result (floor samples levels) first second sum
