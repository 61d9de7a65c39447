-- The `fmt ` and the samples that are written are read again.
use Rattle.std.proofs.Common.{◌≡◌, ℕ, ◌*◌, ◌≤◌, ◌<◌, false, ℤ, pos, negsuc, List, [], ◌∷◌, ◌++◌, length, Ok, refl, ap, ◌∙◌, arith, w16}
use Rattle.std.specs.Prelude.{nat_lt, nat_eq, flat_map}
use Rattle.std.specs.List.{AllByRecursion}
use Rattle.std.specs.Int.{cast_signed, cast_unsigned}
use Rattle.std.proofs.lemmas.Bool.{le-ltb}
use Rattle.std.proofs.lemmas.Bool.Decides.{nat_tests}
use Rattle.std.proofs.lemmas.Int.{ints, to_z-of_z}
use mir.Val.{SFits}
use Rattle.byteorder.specs.Endian.{little_number, little_bytes}
use Rattle.byteorder.specs.Numbers.{little_number-reads_back}
use Rattle.adpcm_nums.specs.Sample.{IsSample}
use Rattle.wave_form.specs.declared.format.Depth.TheVariants.{Sixteen}
use Rattle.wave_form.specs.declared.format.Format.{Format}
use Rattle.wave_form.specs.Format.{rate_at, format_of, layout_of}
use Rattle.wave_form.specs.Frames.{samples_at}
use Rattle.wave_form.specs.Written.{fmt_body, sample_bytes}

-- one channel of 16 bits
abbrev pub written_format : ℕ → Format
written_format rate = record { channels = 1; rate = rate; depth = Sixteen }

-- the `fmt ` body says one channel, the rate and 16 bits
pub format_again : (rate : ℕ) → 1 ≤ rate → rate ≤ 1000000 → format_of (fmt_body rate) ≡ Ok (written_format rate)
unfolding format_of layout_of fmt_body
format_again rate some few =
    let same : rate_at (fmt_body rate) ≡ rate = little_number-reads_back 4 rate (little_bytes 4 (rate * 2) ++ (little_bytes 2 2 ++ little_bytes 2 16)) (omega arith) in
    let not_zero : nat_eq rate 0 ≡ false = grind (arith, nat_tests) in
    let not_high : nat_lt 1000000 rate ≡ false = le-ltb _ _ few in
    rw (same, not_zero, not_high) refl

-- a sample fits 16 bits, signed
sample_fits : (x : ℤ) → IsSample x → SFits w16 x
sample_fits (pos n) h = record { sfits = omega (arith, ints, h.low, h.high) }
sample_fits (negsuc n) h = record { sfits = omega (arith, ints, h.low, h.high) }

-- and as the unsigned number of the same bits
unsigned_fits : (x : ℤ) → IsSample x → cast_unsigned w16 x < 65536
unsigned_fits (pos n) h = omega (arith, ints, h.low, h.high)
unsigned_fits (negsuc n) h = omega (arith, ints, h.low, h.high)

-- a sample is read from its two bytes
sample_again : (x : ℤ) (rest : List ℕ) → IsSample x → cast_signed w16 (little_number 2 (sample_bytes x ++ rest)) ≡ x
sample_again x rest h = ap (cast_signed w16) (little_number-reads_back 2 (cast_unsigned w16 x) rest (unsigned_fits x h)) ∙ to_z-of_z w16 x (sample_fits x h)

-- and so are all of them
pub samples_again : (xs : List ℤ) → AllByRecursion IsSample xs → samples_at 2 0 Sixteen (length xs) (flat_map sample_bytes xs) ≡ xs
unfolding samples_at
samples_again [] h = refl
samples_again (x ∷ xs) h = ap (λ y. y ∷ samples_at 2 0 Sixteen (length xs) (flat_map sample_bytes xs)) (sample_again x [] h.0) ∙ ap (λ ys. x ∷ ys) (samples_again xs h.1)
