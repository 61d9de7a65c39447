-- How long a file is.
use Rattle.std.proofs.Common.{◌≡◌, ℕ, ◌+◌, ◌-◌, ◌≤◌, List, length, length-append, drop, replicate, arith}
use Rattle.std.proofs.lemmas.List.{length-replicate, drop-replicate}
use Rattle.vag_writer.specs.Spelling.{filled, number_bytes, vag_header, vag_file}

-- of so many zeros the first are left out
pub zeros_left : (most n : ℕ) → drop {A = ℕ} n (replicate most 0) ≡ replicate (most - n) 0
zeros_left most n = drop-replicate n most 0

-- a name that is filled has sixteen bytes
pub filled_long : (name : List ℕ) → length name ≤ 16 → length (filled name) ≡ 16
unfolding filled
filled_long name short =
    let zeros = length-replicate {A = ℕ} (16 - length name) 0 in
    omega (arith, length-append name (replicate (16 - length name) 0), zeros)

-- the header has 48 bytes
pub header_long : (name : List ℕ) (rate size : ℕ) → length name ≤ 16 → length (vag_header name rate size) ≡ 48
unfolding vag_header number_bytes
header_long name rate size short = omega (arith, filled_long name short)

-- and the blocks stand behind it
pub file_long : (name : List ℕ) (rate : ℕ) (blocks : List ℕ) → length name ≤ 16 → length (vag_file name rate blocks) ≡ 48 + length blocks
unfolding vag_file
file_long name rate blocks short =
    omega (arith, length-append (vag_header name rate (length blocks)) blocks, header_long name rate (length blocks) short)
