-- Which texts may stand at a key.
use Rattle.std.specs.Prelude.{ℕ, Bool, false, not, ◌&&◌, ◌||◌, ◌==◌, nat_le, List, [], ◌∷◌, length}
use Rattle.std.specs.List.{list_all}
use Rattle.std.specs.Char.{is_ascii_alphanumeric}

-- A-Z a-z 0-9 _ -
abbrev pub is_name_byte : ℕ → Bool
is_name_byte b = is_ascii_alphanumeric b || (b == 95 || b == 45)

-- the same and .
abbrev pub is_bank_byte : ℕ → Bool
is_bank_byte b = is_name_byte b || b == 46

-- the name of a bank: 1 to 64 bytes, the first of which is a letter or digit
unfoldable pub is_bank : List ℕ → Bool
is_bank [] = false
is_bank (first ∷ more) = is_ascii_alphanumeric first && (nat_le (length (first ∷ more)) 64 && list_all is_bank_byte (first ∷ more))

-- the name of a sample: 1 to 16 bytes
unfoldable pub is_name : List ℕ → Bool
is_name bytes = nat_le 1 (length bytes) && (nat_le (length bytes) 16 && list_all is_name_byte bytes)

-- the name of a source file: 1 to 255 bytes, none of which is 0
unfoldable pub is_file : List ℕ → Bool
is_file bytes = nat_le 1 (length bytes) && (nat_le (length bytes) 255 && list_all (λ b. not (b == 0)) bytes)
