use Rattle.std.proofs.Common.{rules, arith, ap, ◌≡◌, ◌∙◌, ◌-ℤ◌, ℤ, pos, unsigned_abs, to_z, of_z, w32, w64}
use Rattle.std.proofs.lemmas.Int.{ints, to_z-of_z}
use mir.Val.{SFits}
use Rattle.adpcm_nums.specs.Nums.{floor_of}
use Rattle.adpcm_nums.proofs.FloorBounds.{floor_above, floor_below}
use Rattle.strong_bound.proofs.NearOutputs.{are-near}
use Rattle.strong_bound.proofs.states.first_near.Goals as goal

pub returns : goal.returns
returns c =
    let ft : SFits w32 c.args.target = c.ranges.target in
    let fs : SFits w64 c.args.scale = c.ranges.scale in
    let from : c.from.result ≡ c.args.target = simp to_z-of_z at c.from.ensures in
    let ff : SFits w64 c.from.result = search rules in
    let quotient : c.floor_div.result ≡ floor_of c.from.result (unsigned_abs c.args.scale) = simp to_z-of_z at c.floor_div.ensures in
    let value = quotient ∙ ap (λ (z : ℤ). floor_of z (unsigned_abs c.args.scale)) from in
    let low = floor_above c.args.target (unsigned_abs c.args.scale) 32767 c.requires.target.low in
    let high = floor_below c.args.target (unsigned_abs c.args.scale) 32767 c.requires.target.high in
    let first : to_z w32 (of_z w32 (to_z w64 (of_z w64 (to_z w64 (of_z w64 c.floor_div.result) -ℤ pos 16)))) ≡ c.floor_div.result -ℤ pos 16 = omega (arith, ints, value, low, high) in
    are-near c.args.scale c.args.target c.floor_div.result _ c.requires.scale value low high first
