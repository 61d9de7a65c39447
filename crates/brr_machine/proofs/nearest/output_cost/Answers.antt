use Rattle.std.proofs.Common.{arith, ap, ◌∙◌, ◌≡◌, pos, ◌*ℤ◌, ◌-ℤ◌, to_z, of_z, w64}
use Rattle.std.proofs.lemmas.Int.{ints}
use Rattle.adpcm_nums.specs.Nums.{square_of}
use Rattle.brr_machine.proofs.nearest.output_cost.Goals as goal

pub returns-clause-value : goal.returns-clause-value
returns-clause-value c =
    let same : to_z w64 (of_z w64 (to_z w64 (of_z w64 (pos 2 *ℤ to_z w64 (of_z w64 c.from.result))) -ℤ to_z w64 (of_z w64 c.from-2.result)))
    ≡ pos 2 *ℤ c.args.output -ℤ c.args.target = omega (arith, ints) in
    c.square.ensures ∙ ap square_of same
