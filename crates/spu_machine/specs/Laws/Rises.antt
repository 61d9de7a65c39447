-- An output rises or stays with the last output o, and falls or stays with the one before it, r.
use Rattle.std.proofs.Common.{ℕ, zero, suc, arith}
use Rattle.std.specs.Prelude.{ℤ, pos, ◌+ℤ◌, ◌*ℤ◌, ◌≤ℤ◌}
use Rattle.std.proofs.lemmas.Int.{ints}
use Rattle.adpcm_nums.specs.Nums.{floor_of}
use Rattle.adpcm_nums.proofs.NearestLaws.{floor-low, floor-high}
use Rattle.adpcm_nums.proofs.ClampLaws.{clamp-rises}
use Rattle.spu_machine.specs.Spu.{last_weight, older_weight, prediction_of, raw_of, output_of, sample_of, shift_of, filter_of}

-- the shares of both outputs
shares-rise : (filter : ℕ) (o p r s : ℤ) → o ≤ℤ p → s ≤ℤ r
    → (last_weight filter *ℤ o +ℤ older_weight filter *ℤ r +ℤ pos 32) ≤ℤ (last_weight filter *ℤ p +ℤ older_weight filter *ℤ s +ℤ pos 32)
shares-rise zero o p r s h k = omega (arith, ints)
shares-rise (suc zero) o p r s h k = omega (arith, ints)
shares-rise (suc (suc zero)) o p r s h k = omega (arith, ints)
shares-rise (suc (suc (suc zero))) o p r s h k = omega (arith, ints)
shares-rise (suc (suc (suc (suc n)))) o p r s h k = omega (arith, ints)

floor-rises : (x y : ℤ) → x ≤ℤ y → floor_of x 64 ≤ℤ floor_of y 64
floor-rises x y h = let a = floor-low x 64 (omega arith) in let b = floor-high y 64 (omega arith) in omega (arith, ints)

prediction-rises : (filter : ℕ) (o p r s : ℤ) → o ≤ℤ p → s ≤ℤ r → prediction_of filter o r ≤ℤ prediction_of filter p s
unfolding prediction_of
prediction-rises filter o p r s h k = floor-rises _ _ (shares-rise filter o p r s h k)

add-left : (s x y : ℤ) → x ≤ℤ y → (s +ℤ x) ≤ℤ (s +ℤ y)
add-left s x y h = omega (arith, ints)

pub output-rises : (head code : ℕ) (o p r s : ℤ) → o ≤ℤ p → s ≤ℤ r → output_of head code o r ≤ℤ output_of head code p s
unfolding output_of raw_of
output-rises head code o p r s h k =
    clamp-rises _ _ (add-left (sample_of (shift_of head) code) _ _ (prediction-rises (filter_of head) o p r s h k))
