-- A file that was written is read again.
use Rattle.std.proofs.Common.{◌≡◌, ℕ, ◌+◌, ◌-◌, ◌^◌, ◌≤◌, ◌<◌, false, List, [], ◌∷◌, ◌++◌, length, length-append, drop, min, Ok, refl, sym, ap, ◌∙◌, arith}
use Rattle.std.specs.Prelude.{nat_lt, nat_eq, flat_map}
use Rattle.std.proofs.lemmas.Bool.{le-ltb}
use Rattle.std.proofs.lemmas.Bool.Decides.{nat_tests}
use Rattle.std.proofs.Math.Seq.{drop-append_seam}
use Rattle.std.proofs.lemmas.List.{take_all, take-append-le}
use Rattle.byteorder.specs.Endian.{big_bytes}
use Rattle.byteorder.specs.Numbers.{big_number-reads_back}
use Rattle.vag_writer.specs.Spelling.{filled, number_bytes, vag_header, vag_file}
use Rattle.vag_writer.specs.Reading.{number_at, name_in, blocks_in, rate_in, vag_of}
use Rattle.vag_writer.proofs.Lengths.{filled_long, header_long}

-- the size stands at byte 12
size_again : (name : List ℕ) (rate size : ℕ) (blocks : List ℕ) → size < 256 ^ 4 → number_at (vag_header name rate size ++ blocks) 12 ≡ size
unfolding vag_header number_bytes
size_again name rate size blocks small = big_number-reads_back 4 size (flat_map (big_bytes 4) (rate ∷ 0 ∷ 0 ∷ 0 ∷ []) ++ (filled name ++ blocks)) small

-- the rate stands at byte 16
rate_again : (name : List ℕ) (rate size : ℕ) (blocks : List ℕ) → rate < 256 ^ 4 → number_at (vag_header name rate size ++ blocks) 16 ≡ rate
unfolding vag_header number_bytes
rate_again name rate size blocks small = big_number-reads_back 4 rate (flat_map (big_bytes 4) (0 ∷ 0 ∷ 0 ∷ []) ++ (filled name ++ blocks)) small

-- mark, header and rate are not refused
mark_again : (name : List ℕ) (rate size : ℕ) (blocks : List ℕ) → rate < 256 ^ 4 → 1 ≤ rate → rate ≤ 1000000 → length name ≤ 16 → rate_in (vag_header name rate size ++ blocks) ≡ Ok rate
unfolding rate_in vag_header
mark_again name rate size blocks small some low short =
    let bytes : List ℕ = vag_header name rate size ++ blocks in
    let is : number_at bytes 16 ≡ rate = rate_again name rate size blocks small in
    let long : length bytes ≡ 48 + length blocks = omega (arith, length-append (vag_header name rate size) blocks, header_long name rate size short) in
    let first : nat_lt (length bytes) 4 ≡ false = le-ltb _ _ (omega (arith, long)) in
    let second : nat_lt (length bytes) 48 ≡ false = le-ltb _ _ (omega (arith, long)) in
    let none : nat_eq rate 0 ≡ false = grind (arith, nat_tests) in
    let high : nat_lt 1000000 rate ≡ false = le-ltb _ _ low in
    rw (first, second, is) rw (none, high) refl

-- the name stands at byte 32
name_again : (name : List ℕ) (rate size : ℕ) (blocks : List ℕ) → length name ≤ 16 → name_in (vag_header name rate size ++ blocks) ≡ filled name
unfolding vag_header number_bytes
name_again name rate size blocks short =
    take-append-le 16 (filled name) blocks (omega (arith, filled_long name short)) ∙ take_all 16 (filled name) (omega (arith, filled_long name short))

-- behind 48 bytes the blocks are all that follows, where the size is theirs
blocks_again : (header blocks : List ℕ) (size : ℕ) → length header ≡ 48 → size ≡ length blocks → number_at (header ++ blocks) 12 ≡ size → blocks_in (header ++ blocks) ≡ blocks
blocks_again header blocks size long all is =
    let behind : drop 48 (header ++ blocks) ≡ blocks = ap (λ n. drop n (header ++ blocks)) (sym long) ∙ drop-append_seam header blocks in
    let left : min (number_at (header ++ blocks) 12) (length (header ++ blocks) - 48) ≡ length blocks = omega (arith, is, long, all, length-append header blocks) in
    rw (behind, left) (take_all _ _ (omega arith))

-- the rate, the name and the blocks are read again
pub written_again : (name : List ℕ) (rate : ℕ) (blocks : List ℕ) → length name ≤ 16 → 1 ≤ rate → rate ≤ 1000000 → length blocks < 2 ^ 30
    → vag_of (vag_file name rate blocks) ≡ Ok (record { rate = rate; name = filled name; blocks = blocks })
unfolding vag_of vag_file
written_again name rate blocks short some low few =
    let header = vag_header name rate (length blocks) in
    let first = mark_again name rate (length blocks) blocks (omega arith) some low short in
    let second = name_again name rate (length blocks) blocks short in
    let third = blocks_again header blocks (length blocks) (header_long name rate (length blocks) short) refl (size_again name rate (length blocks) blocks (omega arith)) in
    rw (first, second, third) refl
