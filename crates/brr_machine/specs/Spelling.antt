-- How nine bytes spell a block: a header, then sixteen codes, two in a byte (fullsnes, BRR samples).
use Rattle.std.specs.Prelude.{ℕ, ◌+◌, ◌*◌, ◌/◌, ◌%◌, ◌==◌, if◌then◌else◌, List, [], ◌∷◌, get_or}

-- two codes a byte, the earlier one in the high half
abbrev pub code_pairs : List ℕ → List ℕ
code_pairs [] = []
code_pairs (c ∷ []) = 16 * c ∷ []
code_pairs (c ∷ d ∷ cs) = (16 * c + d) ∷ code_pairs cs

-- bits 7 to 4 of the header are the shift, 3 and 2 the filter, 1 the loop flag, 0 the end flag
abbrev pub spelling : ℕ → ℕ → List ℕ → List ℕ
spelling head flags codes = (4 * head + flags) ∷ code_pairs codes

-- the head, the flags and the codes that stand at an address
abbrev pub head_in : List ℕ → ℕ → ℕ
head_in memory address = get_or memory address 0 / 4

abbrev pub flags_in : List ℕ → ℕ → ℕ
flags_in memory address = get_or memory address 0 % 4

abbrev pub code_in : List ℕ → ℕ → ℕ → ℕ
code_in memory address place =
    if place % 2 == 0 then get_or memory (address + 1 + place / 2) 0 / 16 else get_or memory (address + 1 + place / 2) 0 % 16
