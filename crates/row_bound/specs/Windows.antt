-- Sums of what samples cost, and what the window of each block counts: two samples at a border belong half to each side.
use Rattle.std.specs.Prelude.{◌≡◌, ℕ, zero, suc, ◌+◌, ◌-◌, ◌*◌, ◌<◌, ◌≤◌}

-- what `count` samples from sample i on cost
unfoldable pub sum_from : (ℕ → ℕ) → ℕ → ℕ → ℕ
sum_from f i zero = 0
sum_from f i (suc count) = f i + sum_from f (suc i) count

-- twice that, but the last two samples once
unfoldable pub half_from : (ℕ → ℕ) → ℕ → ℕ → ℕ
half_from f i zero = 0
half_from f i (suc zero) = f i
half_from f i (suc (suc zero)) = f i + f (suc i)
half_from f i (suc (suc (suc n))) = 2 * f i + half_from f (suc i) (suc (suc n))

-- what the two samples before sample i cost
unfoldable pub tail : (ℕ → ℕ) → ℕ → ℕ
tail f i = f (i - 2) + f (i - 1)

-- what a window counts before its block: nothing before blocks 0 and 1
unfoldable pub enter : ℕ → (ℕ → ℕ) → ℕ → ℕ
enter n f zero = 0
enter n f (suc zero) = 0
enter n f (suc (suc b)) = tail f (suc (suc b) * n)

-- the bound of each block is at most what its window counts
pub record AreBounds (n : ℕ) (f : ℕ → ℕ) (blocks : ℕ) (bound : ℕ → ℕ) : Type 0 where
  pub first : bound 0 ≤ 2 * sum_from f 0 n
  pub inner : (b : ℕ) → 0 < b → suc b < blocks → bound b ≤ enter n f b + half_from f (b * n) n
  pub last : (b : ℕ) → 0 < b → suc b ≡ blocks → bound b ≤ enter n f b + 2 * sum_from f (b * n) n
