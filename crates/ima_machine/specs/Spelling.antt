-- How the bytes of a block spell its head and symbols: a first output of 16 bits, the index, a byte 0, then two codes a byte (IMA recommended practices, 1992).
use Rattle.std.specs.Prelude.{ℕ, ◌+◌, ◌-◌, ◌%◌, ◌==◌, if◌then◌else◌, ℤ, pos, ◌+ℤ◌, unsigned_abs, List, ◌∷◌, ◌++◌, drop, get_or}
use Rattle.byteorder.specs.Endian.{little_number, little_bytes}
use Rattle.adpcm_nums.specs.Nibbles.{code_pairs, nibble_in}

-- the first symbol of a block that begins with this output
abbrev pub symbol_of : ℤ → ℕ
symbol_of predictor = unsigned_abs (predictor +ℤ pos 32768)

-- its output as 16 bits hold it
abbrev pub word_of : ℕ → ℕ
word_of symbol = (symbol + 32768) % 65536

-- the first output, low byte first; the head; a byte 0; the codes, the earlier one of two in the low half
abbrev pub spelling : ℕ → ℕ → List ℕ → List ℕ
spelling head symbol codes = little_bytes 2 (word_of symbol) ++ (head ∷ 0 ∷ code_pairs codes)

-- the head, the first symbol and code number k of the block that stands at an address
abbrev pub head_in : List ℕ → ℕ → ℕ
head_in memory address = get_or memory (address + 2) 0

abbrev pub first_in : List ℕ → ℕ → ℕ
first_in memory address = word_of (little_number 2 (drop address memory))

abbrev pub code_in : List ℕ → ℕ → ℕ → ℕ
code_in memory address k = nibble_in memory (address + 4) k

-- the symbol at a place
abbrev pub symbol_in : List ℕ → ℕ → ℕ → ℕ
symbol_in memory address place = if place == 0 then first_in memory address else code_in memory address (place - 1)
