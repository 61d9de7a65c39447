-- What the codes stand for under a shift are the levels of a uniform quantizer.
use Rattle.std.proofs.Common.{◌≡◌, ℕ, suc, ◌-◌, ◌*◌, ◌^◌, ◌<◌, ◌≤◌, arith, refl, ap, sym, ◌∙◌, inl, inr}
use Rattle.std.specs.Prelude.{ℤ, pos, negsuc, ◌*ℤ◌, ◌≤ℤ◌, nat_lt, if◌then◌else◌}
use Rattle.std.proofs.lemmas.Int.{ints}
use Rattle.std.proofs.Math.Nat.{pow-succ'}
use Rattle.std.proofs.lemmas.Bool.{cases_lt, lt-ltb, le-ltb, cond-true, cond-false}
use Rattle.adpcm_nums.specs.Nums.{floor_of}
use Rattle.window_floor.specs.Quantizer.{AreLevels}
use Rattle.adpcm_nums.specs.Nibbles.{nibble}
use Rattle.adpcm_nums.proofs.NearestLaws.{floor-low, floor-high}
use Rattle.brr_machine.specs.Brr.{sample_of}
use Rattle.brr_machine.specs.Floors.{samples_under}
use Rattle.linear_machine.specs.Laws.Codes.{sample-at}
use Rattle.adpcm_nums.proofs.NibbleValues.{nibble-low, nibble-high, code-of}
use Rattle.window_floor.proofs.NibbleLevels.{levels-by}
use Rattle.brr_machine.proofs.PlainCodes.{twice-sample}

-- at shift 0 a code stands for the half of its nibble
half : (c : ℕ) → sample_of 0 c ≡ floor_of (nibble c *ℤ pos 1) 2
unfolding sample_of
half c = refl

-- it is at least -4 and at most 3
half-low : (c : ℕ) → c < 16 → negsuc 3 ≤ℤ sample_of 0 c
half-low c h = let low = nibble-low c h in let near = floor-high (nibble c *ℤ pos 1) 2 (omega arith) in omega (arith, ints, half c)

half-high : (c : ℕ) → c < 16 → sample_of 0 c ≤ℤ pos 3
half-high c h = let high = nibble-high c h in let near = floor-low (nibble c *ℤ pos 1) 2 (omega arith) in omega (arith, ints, half c)

-- the half of an even nibble
half-of : (c : ℕ) (n : ℤ) → nibble c ≡ pos 2 *ℤ n → sample_of 0 c ≡ n
half-of c n e =
    let low = floor-low (nibble c *ℤ pos 1) 2 (omega arith) in let high = floor-high (nibble c *ℤ pos 1) 2 (omega arith) in omega (arith, ints, half c)

-- each of these numbers is the half of some nibble
half-level : (n : ℤ) → negsuc 3 ≤ℤ n → n ≤ℤ pos 3 → (i : ℕ) × (i < 16) × (sample_of 0 i ≡ pos 1 *ℤ n)
half-level n h k =
    let code = code-of (pos 2 *ℤ n) (omega (arith, ints)) (omega (arith, ints)) in
    let same = half-of code.0 n code.2 in (code.0, code.1, omega (arith, ints, same))

pub levels_halved : AreLevels (pos 1) (negsuc 3) (pos 3) (samples_under 0)
levels_halved = record {
  are = λ i h. (sample_of 0 i, half-low i h, half-high i h, let at = sample-at (sample_of 0) i (pos 0) h in omega (arith, ints, at));
  all = λ n h k. let level = half-level n h k in (level.0, level.1, sample-at (sample_of 0) level.0 (pos 0) level.1 ∙ level.2);
}

-- a number whose double is a product with an even power
doubled : (v x : ℤ) (q : ℕ) → pos 2 *ℤ x ≡ v *ℤ pos (2 * q) → x ≡ pos q *ℤ v
doubled (pos a) x q e = omega (arith, ints)
doubled (negsuc a) x q e = omega (arith, ints)

-- from shift 1 to shift 12 a code stands for a multiple of its nibble
multiple : (shift c : ℕ) → 1 ≤ shift → shift < 13 → sample_of shift c ≡ pos (2 ^ (shift - 1)) *ℤ nibble c
multiple shift c some few =
    let before : shift ≡ suc (shift - 1) = omega arith in
    let power : 2 ^ shift ≡ 2 * 2 ^ (shift - 1) = ap (λ z. 2 ^ z) before ∙ pow-succ' 2 (shift - 1) in
    doubled (nibble c) (sample_of shift c) (2 ^ (shift - 1)) (twice-sample shift c some few ∙ ap (λ z. nibble c *ℤ pos z) power)

pub levels_multiplied : (shift : ℕ) (step : ℤ) → 1 ≤ shift → shift < 13 → step ≡ pos (2 ^ (shift - 1)) → AreLevels step (negsuc 7) (pos 7) (samples_under shift)
levels_multiplied shift step some few is =
    levels-by step (samples_under shift) (λ i h. sample-at (sample_of shift) i (pos 0) h ∙ multiple shift i some few ∙ ap (λ z. z *ℤ nibble i) (sym is))

-- from shift 13 on only the sign counts
sign : (shift c : ℕ) → 13 ≤ shift → sample_of shift c ≡ (if nat_lt c 8 then pos 0 else negsuc 2047)
unfolding sample_of
sign shift c high = cond-false (nat_lt shift 13) _ _ (le-ltb shift 13 high)

-- each code stands for 0 or -2048
sign-level : (shift c : ℕ) → 13 ≤ shift → (n : ℤ) × (negsuc 0 ≤ℤ n) × (n ≤ℤ pos 0) × (sample_of shift c ≡ pos 2048 *ℤ n)
sign-level shift c high =
    elim (cases_lt c 8) [
      | inl h ↦ (pos 0, omega (arith, ints), omega (arith, ints), sign shift c high ∙ cond-true (nat_lt c 8) _ _ (lt-ltb c 8 h) ∙ refl)
      | inr h ↦ (negsuc 0, omega (arith, ints), omega (arith, ints), sign shift c high ∙ cond-false (nat_lt c 8) _ _ (le-ltb c 8 h) ∙ refl)
    ]

-- and each of the two has a code
level-sign : (shift : ℕ) (n : ℤ) → 13 ≤ shift → negsuc 0 ≤ℤ n → n ≤ℤ pos 0 → (i : ℕ) × (i < 16) × (sample_of shift i ≡ pos 2048 *ℤ n)
level-sign shift (pos a) high h k = (0, omega arith, sign shift 0 high ∙ omega (arith, ints))
level-sign shift (negsuc a) high h k = (8, omega arith, sign shift 8 high ∙ omega (arith, ints))

pub levels_signed : (shift : ℕ) → 13 ≤ shift → AreLevels (pos 2048) (negsuc 0) (pos 0) (samples_under shift)
levels_signed shift high = record {
  are = λ i h. let level = sign-level shift i high in (level.0, level.1, level.2, sample-at (sample_of shift) i (pos 0) h ∙ level.3);
  all = λ n h k. let level = level-sign shift n high h k in (level.0, level.1, sample-at (sample_of shift) level.0 (pos 0) level.1 ∙ level.2);
}
