use Rattle.std.proofs.Common.{arith, ap, ◌∙◌, ◌≡◌, pos, ◌*ℤ◌, ◌-ℤ◌, to_z, of_z, w64}
use Rattle.std.proofs.lemmas.Int.{ints}
use Rattle.adpcm_nums.specs.Nums.{square_of}
use Rattle.spu_machine.proofs.nearest.output_cost.Goals as goal

pub returns : goal.returns
returns c =
    let same : to_z w64 (of_z w64 (to_z w64 (of_z w64 c.from.result) -ℤ to_z w64 (of_z w64 c.from-2.result))) ≡ pos 1 *ℤ c.args.output -ℤ c.args.target = omega (arith, ints) in
    c.square.ensures ∙ ap square_of same
