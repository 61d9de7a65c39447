use Rattle.std.proofs.Common.{w32}
use mir.Val.{SFits}
use Rattle.std.proofs.lemmas.Int.{to_z-of_z}
use Rattle.window_floor.specs.Numbers.{windows_of}
use Rattle.window_floor.proofs.PlaceLaws.{one-is}
use Rattle.window_floor.proofs.places.one.Goals as goal

pub returns-clause-value : goal.returns-clause-value
returns-clause-value c =
    let fits : SFits w32 c.args.x = c.ranges.x in
    let floor = simp to_z-of_z at c.nearest_cost.ensures.value in
    let alone = simp to_z-of_z at c.single.ensures.value in
    λ samples levels. one-is (windows_of c.args.b samples) c.args.x c.nearest_cost.result c.single.result c.max.result (floor samples levels) alone c.max.ensures
