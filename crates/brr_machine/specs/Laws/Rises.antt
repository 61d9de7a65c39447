-- The result before clamping rises or stays with the last output o, and falls or stays with the one before it, r.
use Rattle.std.proofs.Common.{ℕ, zero, suc, arith}
use Rattle.std.specs.Prelude.{ℤ, pos, negsuc, ◌+ℤ◌, ◌-ℤ◌, ◌*ℤ◌, ◌≤ℤ◌}
use Rattle.std.proofs.lemmas.Int.{ints}
use Rattle.adpcm_nums.proofs.NearestLaws.{floor-low, floor-high}
use Rattle.brr_machine.specs.Brr.{prediction_of, raw_of, sample_of, shift_of, filter_of}

-- a and b are the floored shares of o and of p
rise-1 : (o p a b : ℤ) → o ≤ℤ p → (pos 16 *ℤ a) ≤ℤ (negsuc 0 *ℤ o) → (negsuc 0 *ℤ p) ≤ℤ (pos 16 *ℤ b +ℤ pos 15) → (o +ℤ a) ≤ℤ (p +ℤ b)
rise-1 o p a b h k l = omega (arith, ints)

rise-2 : (o p a b : ℤ) → o ≤ℤ p → (pos 32 *ℤ a) ≤ℤ (negsuc 2 *ℤ o) → (negsuc 2 *ℤ p) ≤ℤ (pos 32 *ℤ b +ℤ pos 31) → (pos 2 *ℤ o +ℤ a) ≤ℤ (pos 2 *ℤ p +ℤ b)
rise-2 o p a b h k l = omega (arith, ints)

rise-3 : (o p a b : ℤ) → o ≤ℤ p → (pos 64 *ℤ a) ≤ℤ (negsuc 12 *ℤ o) → (negsuc 12 *ℤ p) ≤ℤ (pos 64 *ℤ b +ℤ pos 63) → (pos 2 *ℤ o +ℤ a) ≤ℤ (pos 2 *ℤ p +ℤ b)
rise-3 o p a b h k l = omega (arith, ints)

-- a and b are the floored shares of r and of s
fall-2 : (r s a b : ℤ) → s ≤ℤ r → (pos 16 *ℤ a) ≤ℤ (pos 1 *ℤ r) → (pos 1 *ℤ s) ≤ℤ (pos 16 *ℤ b +ℤ pos 15) → (a -ℤ r) ≤ℤ (b -ℤ s)
fall-2 r s a b h k l = omega (arith, ints)

fall-3 : (r s a b : ℤ) → s ≤ℤ r → (pos 16 *ℤ a) ≤ℤ (pos 3 *ℤ r) → (pos 3 *ℤ s) ≤ℤ (pos 16 *ℤ b +ℤ pos 15) → (a -ℤ r) ≤ℤ (b -ℤ s)
fall-3 r s a b h k l = omega (arith, ints)

four : (a b c d a' b' c' d' : ℤ) → (a +ℤ b) ≤ℤ (a' +ℤ b') → (d -ℤ c) ≤ℤ (d' -ℤ c') → (a +ℤ b -ℤ c +ℤ d) ≤ℤ (a' +ℤ b' -ℤ c' +ℤ d')
four a b c d a' b' c' d' h k = omega (arith, ints)

prediction-rises : (filter : ℕ) (o p r s : ℤ) → o ≤ℤ p → s ≤ℤ r → prediction_of filter o r ≤ℤ prediction_of filter p s
unfolding prediction_of
prediction-rises zero o p r s h k = omega (arith, ints)
prediction-rises (suc zero) o p r s h k = rise-1 o p _ _ h (floor-low (negsuc 0 *ℤ o) 16 (omega arith)) (floor-high (negsuc 0 *ℤ p) 16 (omega arith))
prediction-rises (suc (suc zero)) o p r s h k =
    four (pos 2 *ℤ o) _ r _ (pos 2 *ℤ p) _ s _
    (rise-2 o p _ _ h (floor-low (negsuc 2 *ℤ o) 32 (omega arith)) (floor-high (negsuc 2 *ℤ p) 32 (omega arith)))
    (fall-2 r s _ _ k (floor-low (pos 1 *ℤ r) 16 (omega arith)) (floor-high (pos 1 *ℤ s) 16 (omega arith)))
prediction-rises (suc (suc (suc n))) o p r s h k =
    four (pos 2 *ℤ o) _ r _ (pos 2 *ℤ p) _ s _
    (rise-3 o p _ _ h (floor-low (negsuc 12 *ℤ o) 64 (omega arith)) (floor-high (negsuc 12 *ℤ p) 64 (omega arith)))
    (fall-3 r s _ _ k (floor-low (pos 3 *ℤ r) 16 (omega arith)) (floor-high (pos 3 *ℤ s) 16 (omega arith)))

add-left : (s x y : ℤ) → x ≤ℤ y → (s +ℤ x) ≤ℤ (s +ℤ y)
add-left s x y h = omega (arith, ints)

pub raw_rises : (head code : ℕ) (o p r s : ℤ) → o ≤ℤ p → s ≤ℤ r → raw_of head code o r ≤ℤ raw_of head code p s
unfolding raw_of
raw_rises head code o p r s h k = add-left (sample_of (shift_of head) code) _ _ (prediction-rises (filter_of head) o p r s h k)
