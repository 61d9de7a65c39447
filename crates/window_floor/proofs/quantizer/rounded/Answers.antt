use Rattle.std.proofs.Common.{rules, ◌≡◌, arith, ap, ◌∙◌, w64, to_z, of_z}
use Rattle.std.specs.Prelude.{pos, ◌+ℤ◌, ◌*ℤ◌, unsigned_abs}
use mir.Val.{SFits}
use Rattle.std.proofs.lemmas.Int.{ints, to_z-of_z}
use Rattle.adpcm_nums.specs.Nums.{floor_of}
use Rattle.window_floor.proofs.quantizer.rounded.Goals as goal

pub returns : goal.returns
returns c =
    let fits : SFits w64 c.floor_div.result = search rules in
    let twice : to_z w64 (of_z w64 (pos 2 *ℤ to_z w64 (of_z w64 c.args.unit))) ≡ pos 2 *ℤ c.args.unit = omega (arith, ints) in
    let sum : to_z w64 (of_z w64 (to_z w64 (of_z w64 (pos 2 *ℤ to_z w64 (of_z w64 c.from.result))) +ℤ to_z w64 (of_z w64 c.args.unit))) ≡ pos 2 *ℤ c.args.target +ℤ c.args.unit = omega (arith, ints) in
    simp to_z-of_z (c.floor_div.ensures ∙ (ap (λ z. floor_of z (unsigned_abs (to_z w64 (of_z w64 (pos 2 *ℤ to_z w64 (of_z w64 c.args.unit)))))) sum ∙ ap (λ z. floor_of (pos 2 *ℤ c.args.target +ℤ c.args.unit) (unsigned_abs z)) twice))
