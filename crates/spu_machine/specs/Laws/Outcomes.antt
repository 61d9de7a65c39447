-- What the filters of SPU-ADPCM come to, and what clamping leaves of it.
use Rattle.std.proofs.Common.{◌≡◌, ℕ, zero, suc, ◌<◌, ◌^◌, arith, ap, ◌∙◌, refl}
use Rattle.std.specs.Prelude.{ℤ, pos, negsuc, ◌+ℤ◌, ◌-ℤ◌, ◌*ℤ◌, ◌≤ℤ◌, unsigned_abs, get_or}
use Rattle.std.proofs.lemmas.Int.{ints}
use Rattle.adpcm_nums.specs.Nums.{floor_of, clamp16_of}
use Rattle.adpcm_nums.specs.Nibbles.{nibble}
use Rattle.adpcm_nums.specs.Sample.{IsSample}
use Rattle.adpcm_nums.proofs.NearestLaws.{floor-low, floor-high}
use Rattle.adpcm_nums.proofs.FloorBounds.{floor_above, floor_below}
use Rattle.adpcm_nums.proofs.NibbleValues.{nibble-low, nibble-high}
use Rattle.adpcm_nums.proofs.ClampLaws.{clamp-in}
use Rattle.window_floor.specs.Outcome.{none}
use Rattle.window_floor.specs.Clamps.{IsResult, MayCome}
use Rattle.linear_machine.specs.Laws.Codes.{sample-at}
use Rattle.linear_machine.specs.Laws.Outcomes.{clamped-comes}
use Rattle.spu_machine.specs.Spu.{sample_of, acting_shift, prediction_of, last_weight, older_weight, raw_of, output_of, shift_of, filter_of}
use Rattle.spu_machine.specs.Rows.{spu_row}
use Rattle.spu_machine.specs.Floors.{samples_under, spu_windows}
use Rattle.spu_machine.specs.Laws.Forgetting.{predicts-nothing}

-- a sample has 16 bits
pub sample-fits : (shift code : ℕ) → code < 16 → IsSample (sample_of shift code)
unfolding sample_of
sample-fits shift code h =
    let low = nibble-low code h in let high = nibble-high code h in
    let least : negsuc 32767 ≤ℤ (nibble code *ℤ pos 4096) = omega (arith, ints, low) in
    let most : (nibble code *ℤ pos 4096) ≤ℤ pos 32767 = omega (arith, ints, high) in
    record { low = floor_above (nibble code *ℤ pos 4096) (2 ^ acting_shift shift) 32767 least; high = floor_below (nibble code *ℤ pos 4096) (2 ^ acting_shift shift) 32767 most }

-- a filter's result in the numbers of its row
result-by : (filter code : ℕ) (sample o r raw : ℤ) (shift : ℕ) → code < 16 → get_or (samples_under shift) code (pos 0) ≡ sample → raw ≡ sample +ℤ prediction_of filter o r
    → IsResult (spu_row filter) (samples_under shift) r o raw
unfolding prediction_of
result-by zero code sample o r raw shift h at is =
    let nothing = predicts-nothing 0 o r refl in record { code = code; rounding = 0; within = h; rounds = omega arith; is = omega (arith, ints, is, at, nothing) }
result-by (suc n) code sample o r raw shift h at is =
    let x = last_weight (suc n) *ℤ o +ℤ older_weight (suc n) *ℤ r +ℤ pos 32 in
    let low = floor-low x 64 (omega arith) in let high = floor-high x 64 (omega arith) in
    record {
      code = code;
      rounding = unsigned_abs (x -ℤ pos 64 *ℤ floor_of x 64);
      within = h;
      rounds = omega (arith, ints, low, high);
      is = omega (arith, ints, is, at, low, high);
    }

result : (head code : ℕ) (o r : ℤ) → code < 16 → IsResult (spu_row (filter_of head)) (samples_under (shift_of head)) r o (raw_of head code o r)
unfolding raw_of
result head code o r h = result-by (filter_of head) code (sample_of (shift_of head) code) o r _ (shift_of head) h (sample-at (sample_of (shift_of head)) code (pos 0) h) refl

-- under filter 0 an output is a sample
pub output-free : (head code : ℕ) (o r : ℤ) → code < 16 → filter_of head ≡ 0 → output_of head code o r ≡ sample_of (shift_of head) code
unfolding output_of raw_of
output-free head code o r h f =
    let raw : sample_of (shift_of head) code +ℤ prediction_of (filter_of head) o r ≡ sample_of (shift_of head) code = omega (arith, ints, predicts-nothing (filter_of head) o r f) in
    let fits = sample-fits (shift_of head) code h in
    ap clamp16_of raw ∙ clamp-in (sample_of (shift_of head) code) fits.low fits.high

-- under every filter an output may come after the two before it
pub output-comes : (head code : ℕ) (o r : ℤ) → code < 16 → MayCome (spu_windows head) r o (output_of head code o r)
unfolding output_of
output-comes head code o r h =
    clamped-comes (spu_windows head) (λ y. y) r o (raw_of head code o r) (result head code o r h) refl refl
    (λ low high. record { wrap = pos 0; may = none (spu_row (filter_of head)).wraps; is = omega (arith, ints) })
