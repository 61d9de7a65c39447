-- The decoder of the SNES's bit rate reduction, one sample at a time (fullsnes, BRR samples).
use Rattle.std.specs.Prelude.{ℕ, zero, suc, ◌/◌, ◌%◌, ◌^◌, ◌==◌, ◌&&◌, nat_lt, if◌then◌else◌, ℤ, pos, negsuc, ◌+ℤ◌, ◌*ℤ◌, ◌-ℤ◌, int_le, Bool, true}
use Rattle.adpcm_nums.specs.Nums.{floor_of, clamp16_of, wrap15_of}
use Rattle.adpcm_nums.specs.Nibbles.{nibble}
use Rattle.machine_core.specs.declared.state.State.{State}
use Rattle.machine_core.specs.declared.state.HeadRule.{HeadRule}
use Rattle.machine_core.specs.declared.state.HeadRule.TheVariants.{AnyHead, FilterZero}
use Rattle.machine_core.specs.Decoder.{Decoder}

-- what a code stands for under a shift; shifts 13 to 15 keep only the sign (this project's own choice)
unfoldable pub sample_of : ℕ → ℕ → ℤ
sample_of shift code = if nat_lt shift 13 then floor_of (nibble code *ℤ pos (2 ^ shift)) 2 else (if nat_lt code 8 then pos 0 else negsuc 2047)

-- the prediction of a filter from the last output o and the one before it, r
unfoldable pub prediction_of : ℕ → ℤ → ℤ → ℤ
prediction_of zero o r = pos 0
-- o * 0.9375
prediction_of (suc zero) o r = o +ℤ floor_of (negsuc 0 *ℤ o) 16
-- o * 1.90625 - r * 0.9375
prediction_of (suc (suc zero)) o r = pos 2 *ℤ o +ℤ floor_of (negsuc 2 *ℤ o) 32 -ℤ r +ℤ floor_of (pos 1 *ℤ r) 16
-- o * 1.796875 - r * 0.8125
prediction_of (suc (suc (suc n))) o r = pos 2 *ℤ o +ℤ floor_of (negsuc 12 *ℤ o) 64 -ℤ r +ℤ floor_of (pos 3 *ℤ r) 16

-- the shift and the filter of a head
abbrev pub shift_of : ℕ → ℕ
shift_of head = head / 4

abbrev pub filter_of : ℕ → ℕ
filter_of head = head % 4

-- what comes before the output is clamped to 16 bits and wrapped to 15
unfoldable pub raw_of : ℕ → ℕ → ℤ → ℤ → ℤ
raw_of head code o r = sample_of (shift_of head) code +ℤ prediction_of (filter_of head) o r

unfoldable pub output_of : ℕ → ℕ → ℤ → ℤ → ℤ
output_of head code o r = wrap15_of (clamp16_of (raw_of head code o r))

unfoldable pub brr_step : ℕ → ℕ → ℕ → State → State
brr_step head place code from = record { a = output_of head code from.a from.b; b = from.a }

-- 15 bits, signed
abbrev pub is_output : ℤ → Bool
is_output y = int_le (negsuc 16383) y && int_le y (pos 16383)

abbrev pub is_brr_state : State → Bool
is_brr_state s = is_output s.a && is_output s.b

abbrev pub allows_head : ℕ → HeadRule → Bool
allows_head head AnyHead = true
allows_head head FilterZero = filter_of head == 0

-- an output stands for twice its value when it is compared with 16-bit samples (this project's own choice)
abbrev pub brr : Decoder
brr = record { samples = 16; heads = 64; symbols = λ place. 16; allows = allows_head; step = brr_step; is_state = is_brr_state; scale = 2 }
