-- Heads of one lane act alike.
use Rattle.std.proofs.Common.{◌≡◌, ℕ, ◌≤◌, arith, ap, ◌∙◌, sym, inl, inr, min}
use Rattle.std.specs.Prelude.{ℤ, nat_lt, ◌+ℤ◌}
use Rattle.std.proofs.lemmas.Bool.{cases_lt, le-ltb, cond-false}
use Rattle.adpcm_nums.specs.Nums.{clamp16_of, wrap15_of}
use Rattle.brr_machine.specs.Brr.{output_of, raw_of, sample_of, prediction_of, shift_of, filter_of}
use Rattle.brr_machine.specs.BrrRules.{lane_of}

-- from shift 13 on the shift does not count
large-shift : (s c : ℕ) → 13 ≤ s → sample_of s c ≡ sample_of 13 c
unfolding sample_of
large-shift s c h = cond-false (nat_lt s 13) _ _ (le-ltb s 13 h)

pub same-sample : (s t c : ℕ) → min s 13 ≡ min t 13 → sample_of s c ≡ sample_of t c
same-sample s t c e =
    elim (cases_lt s 13) [
      | inl small ↦ (let same : s ≡ t = omega arith in ap (λ z. sample_of z c) same)
      | inr large ↦ (let both : 13 ≤ t = omega arith in large-shift s c large ∙ sym (large-shift t c both))
    ]

pub same-filter : (g h : ℕ) → lane_of g ≡ lane_of h → filter_of g ≡ filter_of h
same-filter g h e = omega arith

pub same-shift : (g h : ℕ) → lane_of g ≡ lane_of h → min (shift_of g) 13 ≡ min (shift_of h) 13
same-shift g h e = omega arith

-- so what comes before the clamp is the same
pub same-raw : (g h code : ℕ) (o r : ℤ) → lane_of g ≡ lane_of h → raw_of g code o r ≡ raw_of h code o r
unfolding raw_of
same-raw g h code o r e =
    let sample : sample_of (shift_of g) code ≡ sample_of (shift_of h) code = same-sample _ _ code (same-shift g h e) in
    let prediction : prediction_of (filter_of g) o r ≡ prediction_of (filter_of h) o r = ap (λ z. prediction_of z o r) (same-filter g h e) in
    ap (λ x. x +ℤ prediction_of (filter_of g) o r) sample ∙ ap (λ y. sample_of (shift_of h) code +ℤ y) prediction

pub same-output : (g h code : ℕ) (o r : ℤ) → lane_of g ≡ lane_of h → output_of g code o r ≡ output_of h code o r
unfolding output_of
same-output g h code o r e = ap (λ x. wrap15_of (clamp16_of x)) (same-raw g h code o r e)
