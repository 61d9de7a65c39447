-- The decoder of the PlayStation's sound unit, one sample at a time (PSX-SPX, SPU ADPCM samples).
use Rattle.std.specs.Prelude.{ℕ, zero, suc, ◌+◌, ◌*◌, ◌/◌, ◌%◌, ◌^◌, ◌==◌, ◌&&◌, nat_lt, if◌then◌else◌, ℤ, pos, negsuc, ◌+ℤ◌, ◌*ℤ◌, int_le, Bool, true}
use Rattle.adpcm_nums.specs.Nums.{floor_of, clamp16_of}
use Rattle.adpcm_nums.specs.Nibbles.{nibble}
use Rattle.machine_core.specs.declared.state.State.{State}
use Rattle.machine_core.specs.declared.state.HeadRule.{HeadRule}
use Rattle.machine_core.specs.declared.state.HeadRule.TheVariants.{AnyHead, FilterZero}
use Rattle.machine_core.specs.Decoder.{Decoder}

-- shifts 13 to 15 act as 9 (this project's own choice)
abbrev pub acting_shift : ℕ → ℕ
acting_shift shift = if nat_lt shift 13 then shift else 9

-- what a code stands for under a shift
unfoldable pub sample_of : ℕ → ℕ → ℤ
sample_of shift code = floor_of (nibble code *ℤ pos 4096) (2 ^ acting_shift shift)

-- the weight that a filter gives to the last output, in 64ths
abbrev pub last_weight : ℕ → ℤ
last_weight zero = pos 0
last_weight (suc zero) = pos 60
last_weight (suc (suc zero)) = pos 115
last_weight (suc (suc (suc zero))) = pos 98
last_weight _ = pos 122

-- the weight that it gives to the output before that one
abbrev pub older_weight : ℕ → ℤ
older_weight zero = pos 0
older_weight (suc zero) = pos 0
older_weight (suc (suc zero)) = negsuc 51
older_weight (suc (suc (suc zero))) = negsuc 54
older_weight _ = negsuc 59

-- the prediction of a filter from the last output o and the one before it, r
unfoldable pub prediction_of : ℕ → ℤ → ℤ → ℤ
prediction_of filter o r = floor_of (last_weight filter *ℤ o +ℤ older_weight filter *ℤ r +ℤ pos 32) 64

-- the shift and the filter of a head
abbrev pub shift_of : ℕ → ℕ
shift_of head = head % 16

abbrev pub filter_of : ℕ → ℕ
filter_of head = head / 16

-- heads act alike whose shifts act alike and whose filters are the same
abbrev pub lane_of : ℕ → ℕ
lane_of head = acting_shift (shift_of head) + 16 * filter_of head

-- what comes before the output is clamped to 16 bits
unfoldable pub raw_of : ℕ → ℕ → ℤ → ℤ → ℤ
raw_of head code o r = sample_of (shift_of head) code +ℤ prediction_of (filter_of head) o r

unfoldable pub output_of : ℕ → ℕ → ℤ → ℤ → ℤ
output_of head code o r = clamp16_of (raw_of head code o r)

unfoldable pub spu_step : ℕ → ℕ → ℕ → State → State
spu_step head place code from = record { a = output_of head code from.a from.b; b = from.a }

-- 16 bits, signed
abbrev pub is_output : ℤ → Bool
is_output y = int_le (negsuc 32767) y && int_le y (pos 32767)

abbrev pub is_spu_state : State → Bool
is_spu_state s = is_output s.a && is_output s.b

abbrev pub allows_head : ℕ → HeadRule → Bool
allows_head head AnyHead = true
allows_head head FilterZero = filter_of head == 0

-- five filters of sixteen shifts; an output is compared with a sample as it stands
abbrev pub spu : Decoder
spu = record { samples = 28; heads = 80; symbols = λ place. 16; allows = allows_head; step = spu_step; is_state = is_spu_state; scale = 1 }
