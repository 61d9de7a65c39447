use Rattle.std.proofs.Common.{rules, w32, w64, ◌≡◌}
use Rattle.std.specs.Prelude.{◌*ℤ◌}
use mir.Val.{SFits}
use Rattle.std.proofs.lemmas.Int.{to_z-of_z}
use Rattle.window_floor.specs.Numbers.{row_of}
use Rattle.window_floor.specs.Floor.{output_cost}
use Rattle.window_floor.proofs.MissLaws.{one-or-two}
use Rattle.window_floor.proofs.PlaceLaws.{sample-is}
use Rattle.window_floor.proofs.places.nearest_cost.Goals as goal

pub nearest-requires-clause-scale : goal.nearest-requires-clause-scale
nearest-requires-clause-scale c = let fits : SFits w64 c.args.w.scale = search rules in simp to_z-of_z (one-or-two c.args.w.scale c.args.w.scale_is)

pub returns-clause-value : goal.returns-clause-value
returns-clause-value c =
    let scale : SFits w64 c.args.w.scale = search rules in
    let target : SFits w32 c.args.target = c.ranges.target in
    let number : SFits w64 c.nearest.result = search rules in
    let output : SFits w32 c.level.result = search rules in
    let near = simp to_z-of_z at c.nearest.ensures.nearest in
    let level : c.level.result ≡ c.args.levels.step *ℤ c.nearest.result = simp to_z-of_z at c.level.ensures.value in
    let cost : c.cost.result ≡ output_cost (row_of c.args.w) c.level.result c.args.target = simp to_z-of_z at c.cost.ensures.value in
    λ samples levels. sample-is (row_of c.args.w) c.args.levels.step c.args.levels.low c.args.levels.high c.nearest.result c.level.result c.args.target samples c.cost.result levels
    c.nearest.ensures.low c.nearest.ensures.high near level cost
