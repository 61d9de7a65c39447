-- A header that was written is read again.
use Rattle.std.proofs.Common.{◌≡◌, ℕ, ◌+◌, ◌*◌, ◌≤◌, true, false, List, ◌++◌, length, Ok, refl, arith}
use Rattle.std.specs.Prelude.{nat_lt, nat_eq}
use Rattle.std.proofs.lemmas.Bool.{le-ltb, eq-eqb}
use Rattle.std.proofs.lemmas.Bool.Decides.{nat_tests}
use Rattle.byteorder.specs.Endian.{little_bytes}
use Rattle.byteorder.specs.Numbers.{little_number-reads_back}
use Rattle.snes_directory.specs.Layout.{is_base}
use Rattle.snes_directory.specs.Spelling.{header_bytes}
use Rattle.snes_directory.specs.Header.{number2_at, number4_at, memory_place, sized_header, numbered_header, header_of}

sized_again : (bytes : List ℕ) (entries base len : ℕ) → base + len ≤ 65536 → length bytes ≡ memory_place entries + len → sized_header bytes entries base len ≡ Ok (record { entries = entries; base = base })
unfolding sized_header
sized_again bytes entries base len room long =
    let fits : nat_lt 65536 (base + len) ≡ false = le-ltb _ _ room in
    let whole : nat_eq (length bytes) (memory_place entries + len) ≡ true = eq-eqb _ _ long in
    rw (fits, whole) refl

numbered_again : (bytes : List ℕ) (version entries base len : ℕ) → number2_at bytes 4 ≡ version → number2_at bytes 6 ≡ entries → number4_at bytes 8 ≡ base → number4_at bytes 12 ≡ len
    → version ≡ 1 → 1 ≤ entries → entries ≤ 64 → is_base base ≡ true → base + len ≤ 65536 → length bytes ≡ memory_place entries + len → numbered_header bytes ≡ Ok (record { entries = entries; base = base })
unfolding numbered_header
numbered_again bytes version entries base len a b c d one some few page room long =
    let first : nat_eq version 1 ≡ true = eq-eqb _ _ one in
    let none : nat_eq entries 0 ≡ false = grind (arith, nat_tests) in
    let many : nat_lt 64 entries ≡ false = le-ltb _ _ few in
    rw (a, b, c, d) rw (first, none, many, page) (sized_again bytes entries base len room long)

-- a written header is read again where as much stands behind it as it tells of
pub header_again : (base entries len : ℕ) (body : List ℕ) → 1 ≤ entries → entries ≤ 64 → is_base base ≡ true → base + len ≤ 65536 → length body ≡ 4 * entries + len
    → header_of (header_bytes base entries len ++ body) ≡ Ok (record { entries = entries; base = base })
unfolding header_of header_bytes
header_again base entries len body some few page room long =
    let bytes : List ℕ = header_bytes base entries len ++ body in
    let a : number2_at bytes 4 ≡ 1 = little_number-reads_back 2 1 (little_bytes 2 entries ++ (little_bytes 4 base ++ (little_bytes 4 len ++ body))) (omega arith) in
    let b : number2_at bytes 6 ≡ entries = little_number-reads_back 2 entries (little_bytes 4 base ++ (little_bytes 4 len ++ body)) (omega arith) in
    let c : number4_at bytes 8 ≡ base = little_number-reads_back 4 base (little_bytes 4 len ++ body) (omega arith) in
    let d : number4_at bytes 12 ≡ len = little_number-reads_back 4 len body (omega arith) in
    let length_is : length bytes ≡ memory_place entries + len = omega (arith, long) in
    let enough : nat_lt (length bytes) 16 ≡ false = le-ltb _ _ (omega (arith, length_is)) in
    rw enough (numbered_again bytes 1 entries base len a b c d refl some few page room length_is)
