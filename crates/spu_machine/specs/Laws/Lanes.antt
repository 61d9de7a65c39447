-- Heads of one lane act alike.
use Rattle.std.proofs.Common.{◌≡◌, ℕ, ◌^◌, ◌+◌, ◌*◌, ◌<◌, arith, ap, ◌∙◌}
use Rattle.std.specs.Prelude.{ℤ, pos, ◌+ℤ◌, ◌*ℤ◌}
use Rattle.std.proofs.lemmas.Bool.Decides.{nat_tests}
use Rattle.adpcm_nums.specs.Nums.{floor_of, clamp16_of}
use Rattle.adpcm_nums.specs.Nibbles.{nibble}
use Rattle.spu_machine.specs.Spu.{output_of, raw_of, sample_of, prediction_of, acting_shift, shift_of, filter_of, lane_of}

-- a shift acts as one of four bits
acting-small : (shift : ℕ) → shift < 16 → acting_shift shift < 16
acting-small shift h = grind (arith, nat_tests)

-- the lower digits of two equal numbers of two digits are equal
same-low : (a b c d : ℕ) → a < 16 → c < 16 → a + 16 * b ≡ c + 16 * d → a ≡ c
same-low a b c d p q e = omega (arith, e)

-- and the higher ones
same-high : (a b c d : ℕ) → a < 16 → c < 16 → a + 16 * b ≡ c + 16 * d → b ≡ d
same-high a b c d p q e = omega (arith, e)

-- a shift has four bits
shift-small : (head : ℕ) → shift_of head < 16
shift-small head = omega arith

-- in one lane shifts act alike
pub same-shift : (g h : ℕ) → lane_of g ≡ lane_of h → acting_shift (shift_of g) ≡ acting_shift (shift_of h)
same-shift g h e = same-low _ (filter_of g) _ (filter_of h) (acting-small (shift_of g) (shift-small g)) (acting-small (shift_of h) (shift-small h)) e

-- and filters are the same
pub same-filter : (g h : ℕ) → lane_of g ≡ lane_of h → filter_of g ≡ filter_of h
same-filter g h e = same-high (acting_shift (shift_of g)) _ (acting_shift (shift_of h)) _ (acting-small (shift_of g) (shift-small g)) (acting-small (shift_of h) (shift-small h)) e

-- so codes stand for the same
pub same-sample : (s t c : ℕ) → acting_shift s ≡ acting_shift t → sample_of s c ≡ sample_of t c
unfolding sample_of
same-sample s t c e = ap (λ z. floor_of (nibble c *ℤ pos 4096) (2 ^ z)) e

-- outputs are the same
pub same-output : (g h code : ℕ) (o r : ℤ) → lane_of g ≡ lane_of h → output_of g code o r ≡ output_of h code o r
unfolding output_of raw_of
same-output g h code o r e =
    let sample : sample_of (shift_of g) code ≡ sample_of (shift_of h) code = same-sample _ _ code (same-shift g h e) in
    let prediction : prediction_of (filter_of g) o r ≡ prediction_of (filter_of h) o r = ap (λ z. prediction_of z o r) (same-filter g h e) in
    ap (λ x. clamp16_of (x +ℤ prediction_of (filter_of g) o r)) sample ∙ ap (λ y. clamp16_of (sample_of (shift_of h) code +ℤ y)) prediction
