-- The `fmt ` and the `fact` that are written are read again.
use Rattle.std.proofs.Common.{◌≡◌, ℕ, ◌+◌, ◌-◌, ◌*◌, ◌/◌, ◌^◌, ◌<◌, ◌≤◌, true, false, List, ◌++◌, [], length, Ok, refl, ap, ◌∙◌, arith, IsTrue, eq-eqb}
use Rattle.std.specs.Prelude.{nat_lt, nat_eq, Some}
use Rattle.std.proofs.lemmas.Bool.{le-ltb}
use Rattle.std.proofs.lemmas.Bool.Decides.{nat_tests}
use Rattle.byteorder.specs.Endian.{little_number, little_bytes}
use Rattle.byteorder.specs.Numbers.{little_number-reads_back}
use Rattle.wave_form.specs.Format.{rate_at, align_at}
use Rattle.ima_machine.specs.Ima.{is_align, samples_in}
use Rattle.ima_machine.specs.Lawful.{align-low, align-high}
use Rattle.ima_wave.specs.Format.{samples_at, format_of, layout_of}
use Rattle.ima_wave.specs.Reading.{frames_of}
use Rattle.ima_wave.specs.Written.{fmt_body, layout_body}

pub format_again : (rate align : ℕ) → 1 ≤ rate → rate ≤ 1000000 → IsTrue (is_align align) → format_of (fmt_body rate align) ≡ Ok (record { rate = rate; align = align })
unfolding format_of layout_of fmt_body layout_body
format_again rate align some few fits =
    let low = align-low align fits in
    let high = align-high align fits in
    let second = rate * align / samples_in align in
    let rest = little_bytes 2 4 ++ (little_bytes 2 2 ++ little_bytes 2 (samples_in align)) in
    let same_rate : rate_at (fmt_body rate align) ≡ rate = little_number-reads_back 4 rate (little_bytes 4 second ++ (little_bytes 2 align ++ rest)) (omega arith) in
    let same_align : align_at (fmt_body rate align) ≡ align = little_number-reads_back 2 align rest (omega arith) in
    let same_samples : samples_at (fmt_body rate align) ≡ samples_in align = little_number-reads_back 2 (samples_in align) [] (omega arith) in
    let not_zero : nat_eq rate 0 ≡ false = grind (arith, nat_tests) in
    let not_high : nat_lt 1000000 rate ≡ false = le-ltb _ _ few in
    let all : nat_eq (samples_in align) (samples_in align) ≡ true = eq-eqb _ _ refl in
    rw (same_rate, not_zero, not_high, same_align, same_samples, all, fits) refl

pub frames_again : (frames all : ℕ) → frames ≤ all → all < 2 ^ 32 → frames_of (Some (little_bytes 4 frames)) all ≡ frames
frames_again frames all within few =
    let same : little_number 4 (little_bytes 4 frames) ≡ frames = little_number-reads_back 4 frames [] (omega arith) in
    let some : nat_lt all frames ≡ false = le-ltb _ _ within in
    rw (same, some) refl
