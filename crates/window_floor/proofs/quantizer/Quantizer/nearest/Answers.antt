use Rattle.std.proofs.Common.{rules, ◌≡◌, w32, w64}
use Rattle.std.specs.Prelude.{pos, ◌+ℤ◌, ◌*ℤ◌, unsigned_abs}
use mir.Val.{SFits}
use Rattle.std.proofs.lemmas.Int.{to_z-of_z}
use Rattle.adpcm_nums.specs.Nums.{floor_of}
use Rattle.window_floor.proofs.NearLevels.{nearest-level, some-unit, large-unit}
use Rattle.window_floor.proofs.quantizer.Quantizer.nearest.Goals as goal

pub rounded-requires-clause-low : goal.rounded-requires-clause-low
rounded-requires-clause-low c =
    let scale : SFits w64 c.args.scale = c.ranges.scale in let step : SFits w64 c.args.self.step = search rules in let fits : SFits w64 c.multiple.result = search rules in
    let unit : c.multiple.result ≡ c.args.scale *ℤ c.args.self.step = simp to_z-of_z at c.multiple.ensures.value in
    simp to_z-of_z (some-unit c.args.scale c.args.self.step c.multiple.result c.requires.scale c.args.self.step_is.low unit)

pub rounded-requires-clause-high : goal.rounded-requires-clause-high
rounded-requires-clause-high c =
    let scale : SFits w64 c.args.scale = c.ranges.scale in let step : SFits w64 c.args.self.step = search rules in let fits : SFits w64 c.multiple.result = search rules in
    let unit : c.multiple.result ≡ c.args.scale *ℤ c.args.self.step = simp to_z-of_z at c.multiple.ensures.value in
    simp to_z-of_z (large-unit c.args.scale c.args.self.step c.multiple.result c.requires.scale c.args.self.step_is.high unit)

pub returns-clause-nearest : goal.returns-clause-nearest
returns-clause-nearest c =
    let scale : SFits w64 c.args.scale = c.ranges.scale in let step : SFits w64 c.args.self.step = search rules in
    let target : SFits w32 c.args.target = c.ranges.target in let fits : SFits w64 c.multiple.result = search rules in
    let quotient : SFits w64 c.rounded.result = search rules in let number : SFits w64 c.within.result = search rules in
    let unit : c.multiple.result ≡ c.args.scale *ℤ c.args.self.step = simp to_z-of_z at c.multiple.ensures.value in
    let q : c.rounded.result ≡ floor_of (pos 2 *ℤ c.args.target +ℤ c.multiple.result) (unsigned_abs (pos 2 *ℤ c.multiple.result)) = simp to_z-of_z at c.rounded.ensures in
    let within = simp to_z-of_z at c.within.ensures.value in
    λ n l h. simp to_z-of_z (nearest-level c.args.scale c.args.self.step c.multiple.result c.args.self.low c.args.self.high c.args.target c.rounded.result c.within.result n c.requires.scale
    c.args.self.step_is.low unit q within l h)
