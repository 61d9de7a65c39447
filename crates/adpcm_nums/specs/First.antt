-- The first number that passes a test.
use Rattle.std.specs.Prelude.{ℕ, zero, suc, Bool, if◌then◌else◌, Option, Some, None}

-- the number that was found early, or else the one found later
abbrev pub or_first : Option ℕ → Option ℕ → Option ℕ
or_first (Some k) later = Some k
or_first None later = later

-- the first of the numbers below n that passes, where there is one
unfoldable pub first_where : (ℕ → Bool) → ℕ → Option ℕ
first_where passes zero = None
first_where passes (suc n) = or_first (first_where passes n) (if passes n then Some n else None)
