-- Fields that stand at a place: what is read there, and what stands behind.
use Rattle.std.proofs.Common.{◌≡◌, ℕ, ◌+◌, ◌^◌, ◌<◌, ◌≤◌, List, ◌∷◌, ◌++◌, length, get_or, drop, arith, ap, sym, ◌∙◌, ℤ, pos, negsuc}
use Rattle.std.specs.Prelude.{slice_index, ◌≤ℤ◌}
use Rattle.std.specs.Int.{w16, cast_unsigned}
use Rattle.std.proofs.lemmas.Int.{ints}
use Rattle.std.proofs.lemmas.List.{drop-drop, drop_at, length-drop, length-append, get_or-drop}
use Rattle.std.proofs.lemmas.Bool.Decides.{nat_tests}
use Rattle.byteorder.specs.Endian.{little_number, little_bytes, twos_complement}
use Rattle.byteorder.specs.Numbers.{little_number-reads_back, length-bytes_low_first}
use Rattle.bound_cert.specs.Places.{u16_at, i16_at, u32_at, u64_at}

pub record Field (bytes : List ℕ) (at n : ℕ) (rest : List ℕ) : Type 0 where
  pub within : at + n ≤ length bytes
  pub next : drop (at + n) bytes ≡ rest

pub field : (bytes text rest : List ℕ) (at n : ℕ) → length text ≡ n → 0 < n → drop at bytes ≡ text ++ rest → Field bytes at n rest
field bytes text rest at n len some d =
    let l = ap length d in
    let a = length-drop at bytes in
    let b = length-append text rest in
    record { within = omega arith; next = sym (drop-drop n at bytes) ∙ (ap (drop n) d ∙ drop_at text rest n len) }

pub little-field : (bytes rest : List ℕ) (at n x : ℕ) → 0 < n → drop at bytes ≡ little_bytes n x ++ rest → Field bytes at n rest
little-field bytes rest at n x some d = field bytes (little_bytes n x) rest at n (length-bytes_low_first 0 n x) some d

number-field : (bytes rest : List ℕ) (at n x : ℕ) → x < 256 ^ n → drop at bytes ≡ little_bytes n x ++ rest → little_number n (drop at bytes) ≡ x
number-field bytes rest at n x s d = ap (little_number n) d ∙ little_number-reads_back n x rest s

pub u16-is : (bytes rest : List ℕ) (at x : ℕ) → x < 65536 → drop at bytes ≡ little_bytes 2 x ++ rest → u16_at bytes at ≡ x
unfolding u16_at
u16-is bytes rest at x s d = number-field bytes rest at 2 x s d

pub u32-is : (bytes rest : List ℕ) (at x : ℕ) → x < 2 ^ 32 → drop at bytes ≡ little_bytes 4 x ++ rest → u32_at bytes at ≡ x
unfolding u32_at
u32-is bytes rest at x s d = number-field bytes rest at 4 x s d

pub u64-is : (bytes rest : List ℕ) (at x : ℕ) → x < 2 ^ 64 → drop at bytes ≡ little_bytes 8 x ++ rest → u64_at bytes at ≡ x
unfolding u64_at
u64-is bytes rest at x s d = number-field bytes rest at 8 x s d

unsigned-small : (z : ℤ) → negsuc 32767 ≤ℤ z → z ≤ℤ pos 32767 → cast_unsigned w16 z < 65536
unsigned-small z l h = omega (arith, ints)

signed-back : (z : ℤ) → negsuc 32767 ≤ℤ z → z ≤ℤ pos 32767 → twos_complement 2 (cast_unsigned w16 z) ≡ z
signed-back z l h = grind (arith, ints, nat_tests)

pub i16-is : (bytes rest : List ℕ) (at : ℕ) (z : ℤ) → negsuc 32767 ≤ℤ z → z ≤ℤ pos 32767 → drop at bytes ≡ little_bytes 2 (cast_unsigned w16 z) ++ rest → i16_at bytes at ≡ z
unfolding i16_at
i16-is bytes rest at z l h d = ap (twos_complement 2) (number-field bytes rest at 2 (cast_unsigned w16 z) (unsigned-small z l h) d) ∙ signed-back z l h

pub byte-is : (bytes rest : List ℕ) (at x : ℕ) → drop at bytes ≡ x ∷ rest → slice_index bytes at ≡ x
byte-is bytes rest at x d =
    let g = get_or-drop at bytes 0 0 in
    let e : at + 0 ≡ at = omega arith in
    ap (λ z. get_or bytes z 0) (sym e) ∙ (sym g ∙ ap (λ z. get_or z 0 0) d)
