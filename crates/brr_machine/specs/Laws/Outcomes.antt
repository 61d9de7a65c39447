-- What the filters of BRR come to, and what clamping and wrapping leave of it.
use Rattle.std.proofs.Common.{◌≡◌, ℕ, zero, suc, ◌<◌, ◌≤◌, arith, ap, subst, ◌∙◌, inl, inr, refl, Bool, true}
use Rattle.std.specs.Prelude.{ℤ, pos, negsuc, ◌+ℤ◌, ◌-ℤ◌, ◌*ℤ◌, ◌≤ℤ◌, get_or}
use Rattle.std.proofs.lemmas.Int.{ints}
use Rattle.adpcm_nums.specs.Nums.{clamp16_of, wrap15_of}
use Rattle.adpcm_nums.proofs.OrderLaws.{le-or-gt}
use Rattle.adpcm_nums.proofs.ClampLaws.{clamp-in}
use Rattle.window_floor.specs.Outcome.{IsWrap, none, up, down}
use Rattle.window_floor.specs.Clamps.{IsResult, MayCome}
use Rattle.linear_machine.specs.Laws.Codes.{sample-at}
use Rattle.linear_machine.specs.Laws.Outcomes.{zero-or-more, IsWrapped, clamped-comes}
use Rattle.brr_machine.specs.Brr.{sample_of, prediction_of, raw_of, output_of, shift_of, filter_of}
use Rattle.brr_machine.specs.Rows.{brr_row}
use Rattle.brr_machine.specs.Floors.{samples_under, brr_windows}
use Rattle.brr_machine.specs.Laws.Forgetting.{predicts-nothing}
use Rattle.brr_machine.specs.Laws.Samples.{sample_low, sample_high}
use Rattle.brr_machine.specs.Laws.Equations.{rounds, filter-1, filter-2, filter-3}

-- a filter's result in the numbers of its row
result-by : (filter code : ℕ) (sample o r raw : ℤ) (shift : ℕ) → code < 16 → get_or (samples_under shift) code (pos 0) ≡ sample → raw ≡ sample +ℤ prediction_of filter o r
    → IsResult (brr_row filter) (samples_under shift) r o raw
unfolding prediction_of
result-by zero code sample o r raw shift h at is = record { code = code; rounding = 0; within = h; rounds = omega arith; is = omega (arith, ints, is, at) }
result-by (suc zero) code sample o r raw shift h at is = elim (filter-1 o r) [ rounds e l q ↦ record { code = code; rounding = e; within = h; rounds = l; is = omega (arith, ints, is, q, at) } ]
result-by (suc (suc zero)) code sample o r raw shift h at is = elim (filter-2 o r) [ rounds e l q ↦ record { code = code; rounding = e; within = h; rounds = l; is = omega (arith, ints, is, q, at) } ]
result-by (suc (suc (suc n))) code sample o r raw shift h at is = elim (filter-3 n o r) [ rounds e l q ↦ record { code = code; rounding = e; within = h; rounds = l; is = omega (arith, ints, is, q, at) } ]

result : (head code : ℕ) (o r : ℤ) → code < 16 → IsResult (brr_row (filter_of head)) (samples_under (shift_of head)) r o (raw_of head code o r)
unfolding raw_of
result head code o r h = result-by (filter_of head) code (sample_of (shift_of head) code) o r _ (shift_of head) h (sample-at (sample_of (shift_of head)) code (pos 0) h) refl

-- a number of 15 bits does not wrap
wrap-in : (x : ℤ) → negsuc 16383 ≤ℤ x → x ≤ℤ pos 16383 → wrap15_of x ≡ x
wrap-in x h k = grind (arith, ints)

-- nor is it clamped
pub no-change : (x : ℤ) → negsuc 16383 ≤ℤ x → x ≤ℤ pos 16383 → wrap15_of (clamp16_of x) ≡ x
no-change x h k = ap wrap15_of (clamp-in x (omega (arith, ints)) (omega (arith, ints))) ∙ wrap-in x h k

-- 16 bits wrap at most once
wrapped : (x : ℤ) → negsuc 32767 ≤ℤ x → x ≤ℤ pos 32767 → (k : ℤ) × IsWrap true k × (wrap15_of x ≡ x -ℤ pos 32768 *ℤ k)
wrapped x h l =
    elim (le-or-gt (negsuc 16383) x) [
      | inr below ↦ (negsuc 0, down, grind (arith, ints))
      | inl low ↦ elim (le-or-gt x (pos 16383)) [ inl high ↦ (pos 0, none true, grind (arith, ints)) | inr above ↦ (pos 1, up, grind (arith, ints)) ]
    ]

-- all filters but the first wrap
all-wrap : (filter : ℕ) → 1 ≤ filter → true ≡ (brr_row filter).wraps
all-wrap zero some = absurd (omega arith)
all-wrap (suc zero) some = refl
all-wrap (suc (suc zero)) some = refl
all-wrap (suc (suc (suc n))) some = refl

-- under filter 0 a result is a sample
raw-free : (head code : ℕ) (o r : ℤ) → filter_of head ≡ 0 → raw_of head code o r ≡ sample_of (shift_of head) code
unfolding raw_of
raw-free head code o r f = omega (arith, ints, predicts-nothing (filter_of head) o r f)

-- so an output is one
pub output-free : (head code : ℕ) (o r : ℤ) → code < 16 → filter_of head ≡ 0 → output_of head code o r ≡ sample_of (shift_of head) code
unfolding output_of
output-free head code o r h f =
    ap (λ x. wrap15_of (clamp16_of x)) (raw-free head code o r f) ∙ no-change (sample_of (shift_of head) code) (sample_low (shift_of head) code h) (sample_high (shift_of head) code h)

-- what is left of a result of 16 bits
left : (head code : ℕ) (o r : ℤ) → code < 16 → negsuc 32767 ≤ℤ raw_of head code o r → raw_of head code o r ≤ℤ pos 32767
    → IsWrapped (brr_windows head) (raw_of head code o r) (wrap15_of (raw_of head code o r))
left head code o r h low high =
    elim (zero-or-more (filter_of head)) [
      | inl alone ↦ (
          let sample = raw-free head code o r alone in
          let least = sample_low (shift_of head) code h in
          let most = sample_high (shift_of head) code h in
          let same = wrap-in (raw_of head code o r) (omega (arith, ints, sample, least)) (omega (arith, ints, sample, most)) in
          record { wrap = pos 0; may = none (brr_row (filter_of head)).wraps; is = omega (arith, ints, same) })
      | inr some ↦ (
          let w = wrapped (raw_of head code o r) low high in
          record { wrap = w.0; may = subst (λ (b : Bool). IsWrap b w.0) (all-wrap (filter_of head) some) w.1; is = w.2 })
    ]

-- under every filter an output may come after the two before it
pub output-comes : (head code : ℕ) (o r : ℤ) → code < 16 → MayCome (brr_windows head) r o (output_of head code o r)
unfolding output_of
output-comes head code o r h = clamped-comes (brr_windows head) wrap15_of r o (raw_of head code o r) (result head code o r h) refl refl (left head code o r h)
