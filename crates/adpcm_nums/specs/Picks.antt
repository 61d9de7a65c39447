-- The first of two numbers at which a function is least.
use Rattle.std.specs.Prelude.{ℕ, min, nat_lt, if◌then◌else◌}

abbrev pub first_of_two : (ℕ → ℕ) → ℕ → ℕ → ℕ
first_of_two f a b = if nat_lt (f b) (f a) then b else (if nat_lt (f a) (f b) then a else min a b)
