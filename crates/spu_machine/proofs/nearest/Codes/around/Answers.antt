use Rattle.std.proofs.Common.{◌≡◌, ◌-◌, ◌^◌, arith, ap, ◌∙◌, w64, to_z, of_z}
use Rattle.std.specs.Prelude.{pos, negsuc, ◌-ℤ◌}
use Rattle.std.proofs.lemmas.Int.{ints}
use Rattle.adpcm_nums.specs.Nums.{floor_of}
use Rattle.adpcm_nums.specs.Nearest.{within_of}
use Rattle.spu_machine.proofs.nearest.Codes.around.Goals as goal

pub returns-clause-below : goal.returns-clause-below
returns-clause-below c =
    let wanted : to_z w64 (of_z w64 (to_z w64 (of_z w64 c.from.result) -ℤ to_z w64 (of_z w64 c.args.self.prediction))) ≡ c.args.self.target -ℤ c.args.self.prediction = omega (arith, ints) in
    c.nibbles_around.ensures.below
    ∙ ap (λ z. within_of (negsuc 7) (pos 7) (floor_of z (2 ^ (12 - c.acting_shift.result)))) wanted
    ∙ ap (λ n. within_of (negsuc 7) (pos 7) (floor_of (c.args.self.target -ℤ c.args.self.prediction) (2 ^ (12 - n)))) c.acting_shift.ensures.value
