-- Each filter's equation: how far rounding can take a prediction from the exact sum.
use Rattle.std.proofs.Common.{◌≡◌, ℕ, suc, ◌≤◌, arith}
use Rattle.std.specs.Prelude.{ℤ, pos, negsuc, ◌+ℤ◌, ◌-ℤ◌, ◌*ℤ◌, ◌≤ℤ◌, unsigned_abs}
use Rattle.std.proofs.lemmas.Int.{ints}
use Rattle.adpcm_nums.proofs.NearestLaws.{floor-low, floor-high}
use Rattle.brr_machine.specs.Brr.{prediction_of}

-- the exact number is above the rounded one by e, which is at most M
pub data Rounded (M : ℕ) (rounded exact : ℤ) : Type 0 where
  rounds : (e : ℕ) → e ≤ M → rounded ≡ exact -ℤ pos e → Rounded M rounded exact

rounded-by : (M : ℕ) (rounded exact : ℤ) → rounded ≤ℤ exact → exact ≤ℤ (rounded +ℤ pos M) → Rounded M rounded exact
rounded-by M rounded exact a b = rounds (unsigned_abs (exact -ℤ rounded)) (omega (arith, ints)) (omega (arith, ints))

-- 16 * prediction = 15 * o - e
pub filter-1 : (o r : ℤ) → Rounded 15 (pos 16 *ℤ prediction_of 1 o r) (pos 15 *ℤ o)
unfolding prediction_of
filter-1 o r =
    let low = floor-low (negsuc 0 *ℤ o) 16 (omega arith) in let high = floor-high (negsuc 0 *ℤ o) 16 (omega arith) in
    rounded-by 15 _ _ (omega (arith, ints)) (omega (arith, ints))

-- 32 * prediction = 61 * o - 30 * r - e
pub filter-2 : (o r : ℤ) → Rounded 61 (pos 32 *ℤ prediction_of 2 o r) (pos 61 *ℤ o -ℤ pos 30 *ℤ r)
unfolding prediction_of
filter-2 o r =
    let low = floor-low (negsuc 2 *ℤ o) 32 (omega arith) in let high = floor-high (negsuc 2 *ℤ o) 32 (omega arith) in
    let low' = floor-low (pos 1 *ℤ r) 16 (omega arith) in let high' = floor-high (pos 1 *ℤ r) 16 (omega arith) in
    rounded-by 61 _ _ (omega (arith, ints)) (omega (arith, ints))

-- 64 * prediction = 115 * o - 52 * r - e
pub filter-3 : (n : ℕ) (o r : ℤ) → Rounded 123 (pos 64 *ℤ prediction_of (suc (suc (suc n))) o r) (pos 115 *ℤ o -ℤ pos 52 *ℤ r)
unfolding prediction_of
filter-3 n o r =
    let low = floor-low (negsuc 12 *ℤ o) 64 (omega arith) in let high = floor-high (negsuc 12 *ℤ o) 64 (omega arith) in
    let low' = floor-low (pos 3 *ℤ r) 16 (omega arith) in let high' = floor-high (pos 3 *ℤ r) 16 (omega arith) in
    rounded-by 123 _ _ (omega (arith, ints)) (omega (arith, ints))
