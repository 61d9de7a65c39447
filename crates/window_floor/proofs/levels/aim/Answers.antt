use Rattle.std.proofs.Common.{rules, arith, w64, ◌≡◌, ◌^◌, ◌∙◌, ap, to_z, of_z}
use Rattle.std.specs.Prelude.{◌-ℤ◌, ◌*ℤ◌, unsigned_abs}
use mir.Val.{SFits}
use Rattle.std.proofs.lemmas.Int.{ints, to_z-of_z}
use Rattle.adpcm_nums.specs.Nums.{floor_of}
use Rattle.adpcm_nums.proofs.FloorBounds.{floor_above, floor_below}
use Rattle.window_floor.specs.Numbers.{row_of}
use Rattle.window_floor.proofs.MissLaws.{one-or-two}
use Rattle.window_floor.proofs.Quotients.{scaled-some, scaled-low, scaled-high, aim-is}
use Rattle.window_floor.proofs.levels.aim.Goals as goal

pub floor_div-requires : goal.floor_div-requires
floor_div-requires c =
    let fs : SFits w64 c.args.w.scale = search rules in let fd : SFits w64 c.args.w.d = search rules in let ft : SFits w64 c.multiple.result = search rules in
    let t : c.multiple.result ≡ c.args.w.scale *ℤ c.args.w.d = simp to_z-of_z at c.multiple.ensures.value in
    let some = scaled-some c.args.w.scale c.args.w.d c.multiple.result (one-or-two c.args.w.scale c.args.w.scale_is) c.args.w.d_is.low t in
    simp to_z-of_z (omega (arith, ints, some))

pub returns : goal.returns
returns c =
    let fs : SFits w64 c.args.w.scale = search rules in let fd : SFits w64 c.args.w.d = search rules in let fb : SFits w64 c.args.w.bias = search rules in
    let ft : SFits w64 c.multiple.result = search rules in let fq : SFits w64 c.floor_div.result = search rules in
    let scale = one-or-two c.args.w.scale c.args.w.scale_is in
    let t : c.multiple.result ≡ c.args.w.scale *ℤ c.args.w.d = simp to_z-of_z at c.multiple.ensures.value in
    let b : c.multiple-bias.result ≡ c.args.w.scale *ℤ c.args.w.bias = simp to_z-of_z at c.multiple-bias.ensures.value in
    let some = scaled-some c.args.w.scale c.args.w.d c.multiple.result scale c.args.w.d_is.low t in
    let low = scaled-low c.args.w.scale c.args.w.bias c.multiple-bias.result scale c.args.w.bias_is.low b in
    let high = scaled-high c.args.w.scale c.args.w.bias c.multiple-bias.result scale c.args.w.bias_is.high b in
    let z : to_z w64 (of_z w64 (to_z w64 (of_z w64 c.args.rho) -ℤ to_z w64 (of_z w64 c.multiple-bias.result))) ≡ c.args.rho -ℤ c.multiple-bias.result = omega (arith, ints, low, high) in
    let kept : to_z w64 (of_z w64 c.multiple.result) ≡ c.multiple.result = simp to_z-of_z in
    let q = c.floor_div.ensures ∙ ap (λ v. floor_of (to_z w64 (of_z w64 (to_z w64 (of_z w64 c.args.rho) -ℤ to_z w64 (of_z w64 c.multiple-bias.result)))) (unsigned_abs v)) kept in
    let least = floor_above (to_z w64 (of_z w64 (to_z w64 (of_z w64 c.args.rho) -ℤ to_z w64 (of_z w64 c.multiple-bias.result)))) (unsigned_abs c.multiple.result) (2 ^ 28) (omega (arith, ints, z, low, high)) in
    let most = floor_below (to_z w64 (of_z w64 (to_z w64 (of_z w64 c.args.rho) -ℤ to_z w64 (of_z w64 c.multiple-bias.result)))) (unsigned_abs c.multiple.result) (2 ^ 28) (omega (arith, ints, z, low, high)) in
    simp to_z-of_z (record {
      aim = aim-is (row_of c.args.w) c.args.rho c.multiple-bias.result c.multiple.result (to_z w64 (of_z w64 (to_z w64 (of_z w64 c.args.rho) -ℤ to_z w64 (of_z w64 c.multiple-bias.result)))) c.floor_div.result some b t z q;
      low = omega (arith, ints, q, least);
      high = omega (arith, ints, q, most);
    })
