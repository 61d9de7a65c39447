-- The sum of a function over numbers in a row.
use Rattle.std.specs.Prelude.{ℕ, zero, suc, ◌+◌}

-- f p + f (p + 1) + .., n numbers in all
abbrev pub sum_range : (ℕ → ℕ) → ℕ → ℕ → ℕ
sum_range f p zero = 0
sum_range f p (suc n) = f p + sum_range f (suc p) n
