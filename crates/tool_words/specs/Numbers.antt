-- A number as a word.
use Rattle.std.specs.Prelude.{ℕ, Bool, false, true, not, ◌&&◌, ◌==◌, nat_le, if◌then◌else◌, List, [], ◌∷◌, Option, Some, None}
use Rattle.std.specs.List.{list_all}
use Rattle.std.specs.Char.{is_ascii_digit}
use Rattle.std.specs.Str.Parse.{digits_value}

-- whether a word has characters, and no zero, which is 48, before others
abbrev pub is_trimmed : List ℕ → Bool
is_trimmed [] = false
is_trimmed (c ∷ []) = true
is_trimmed (c ∷ d ∷ cs) = not (c == 48)

-- decimal digits without a sign and without a zero in front
abbrev pub is_number : List ℕ → Bool
is_number word = is_trimmed word && list_all (λ c. is_ascii_digit c) word

-- the number that a word spells, if that is no greater than the greatest one
unfoldable pub number_of : ℕ → List ℕ → Option ℕ
number_of greatest word = if is_number word && nat_le (digits_value 10 word) greatest then Some (digits_value 10 word) else None
