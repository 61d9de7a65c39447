-- The samples of sixteen codes, one by one.
use Rattle.std.proofs.Common.{◌≡◌, ℕ, ◌<◌, arith, ap, sym, subst}
use Rattle.std.specs.Prelude.{ℤ, get_or}
use Rattle.std.proofs.lemmas.List.FromFn.{get_or-map-range_with_len, length-map-range_with_len}
use Rattle.adpcm_nums.specs.Sample.{IsSample, AreSamples}
use Rattle.linear_machine.specs.Samples.{samples_by}

-- the sample of a code in the list
pub sample-at : (sample : ℕ → ℤ) (code : ℕ) (d : ℤ) → code < 16 → get_or (samples_by sample) code d ≡ sample code
unfolding samples_by
sample-at sample code d h = get_or-map-range_with_len sample 0 16 code code d h (omega arith)

-- where each code stands for 16 bits all of them do
pub samples-fit : (sample : ℕ → ℤ) → ((code : ℕ) → code < 16 → IsSample (sample code)) → AreSamples (samples_by sample)
unfolding samples_by
samples-fit sample fits k d h =
    let size = length-map-range_with_len sample 0 16 in
    let within : k < 16 = omega (arith, size, h) in
    subst IsSample (sym (get_or-map-range_with_len sample 0 16 k k d within (omega arith))) (fits k within)

-- functions that are equal everywhere are equal
pub equal-functions : {A B : Type 0} (f g : A → B) → ((x : A) → f x ≡ g x) → f ≡ g
equal-functions f g e = λ i x. e x i

-- codes that stand for the same have the same samples
pub same-samples : (f g : ℕ → ℤ) → ((code : ℕ) → f code ≡ g code) → samples_by f ≡ samples_by g
same-samples f g e = ap samples_by (equal-functions f g e)
