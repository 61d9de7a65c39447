-- How sixteen bytes spell a block: a header of two bytes, then 28 codes, two in a byte (PSX-SPX, SPU ADPCM samples).
use Rattle.std.specs.Prelude.{◌≡◌, ℕ, ◌+◌, ◌/◌, ◌%◌, List, ◌∷◌, drop, get_or}
use Rattle.adpcm_nums.specs.Nibbles.{code_pairs, nibble_in}

-- bits 3 to 0 of the first byte are the shift, 6 to 4 the filter; bits 2 to 0 of the second are the flags of start, repeat and end
abbrev pub spelling : ℕ → ℕ → List ℕ → List ℕ
spelling head flags codes = head ∷ flags ∷ code_pairs codes

-- the head, its filter, the flags and the codes that stand at an address; bit 7 of the first byte and bits 7 to 3 of the second do not count
-- (this project's own choice)
abbrev pub head_in : List ℕ → ℕ → ℕ
head_in memory address = get_or memory address 0 % 128

abbrev pub filter_in : List ℕ → ℕ → ℕ
filter_in memory address = head_in memory address / 16

abbrev pub flags_in : List ℕ → ℕ → ℕ
flags_in memory address = get_or memory (address + 1) 0 % 8

abbrev pub code_in : List ℕ → ℕ → ℕ → ℕ
code_in memory address place = nibble_in memory (address + 2) place

-- sixteen bytes spell these fields, whatever stands in the bits that do not count
pub record IsSpelled (head flags : ℕ) (codes bytes : List ℕ) : Type 0 where
  pub head_is : head_in bytes 0 ≡ head
  pub flags_is : flags_in bytes 0 ≡ flags
  pub codes_are : drop 2 bytes ≡ code_pairs codes
