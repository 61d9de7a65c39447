-- The least value of a function.
use Rattle.std.specs.Prelude.{ℕ, zero, suc, min}

-- the least of f 0, .., f (n - 1) and `above`
unfoldable pub least : ℕ → (ℕ → ℕ) → ℕ → ℕ
least zero f above = above
least (suc n) f above = min (least n f above) (f n)

-- the least of f 0, .., f n
abbrev pub least_of : (ℕ → ℕ) → ℕ → ℕ
least_of f n = least n f (f n)
