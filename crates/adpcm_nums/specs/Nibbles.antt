-- Codes of four bits, 0 to 15: their signed values, and two of them in a byte.
use Rattle.std.specs.Prelude.{ℕ, ◌+◌, ◌*◌, ◌/◌, ◌%◌, ◌-◌, ◌==◌, nat_lt, if◌then◌else◌, ℤ, pos, negsuc, List, [], ◌∷◌, get_or}

-- the signed value of a code
abbrev pub nibble : ℕ → ℤ
nibble code = if nat_lt code 8 then pos code else negsuc (15 - code)

-- two codes a byte, the earlier one in the low half
abbrev pub code_pairs : List ℕ → List ℕ
code_pairs [] = []
code_pairs (c ∷ []) = c ∷ []
code_pairs (c ∷ d ∷ cs) = (c + 16 * d) ∷ code_pairs cs

-- the code at a place of those that begin at a byte of a memory, the earlier one of two in the low half
abbrev pub nibble_in : List ℕ → ℕ → ℕ → ℕ
nibble_in memory begin place = if place % 2 == 0 then get_or memory (begin + place / 2) 0 % 16 else get_or memory (begin + place / 2) 0 / 16
