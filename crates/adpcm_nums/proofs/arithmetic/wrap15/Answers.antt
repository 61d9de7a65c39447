use Rattle.std.proofs.Common.{arith, ap, ◌∙◌, ◌≡◌, pos, ◌+ℤ◌}
use Rattle.std.proofs.lemmas.Int.{ints}
use Rattle.std.specs.Int.{int_rem_euclid}
use Rattle.adpcm_nums.specs.Nums.{floor_of}
use Rattle.adpcm_nums.proofs.Wrap.{rem-floor}
use Rattle.adpcm_nums.proofs.arithmetic.wrap15.Goals as goal

pub returns-clause-multiple : goal.returns-clause-multiple
returns-clause-multiple c =
    let r : c.rem_euclid.result ≡ int_rem_euclid (c.args.x +ℤ pos 16384) (pos 32768) =
    c.rem_euclid.ensures.value ∙ ap (λ y. int_rem_euclid y (pos 32768)) (omega (arith, ints)) in
    (floor_of (c.args.x +ℤ pos 16384) 32768, omega (arith, ints, r, rem-floor (c.args.x +ℤ pos 16384)))
