-- Distances in a row, and the last of eight that is within a gap.
use Rattle.std.specs.Prelude.{◌≡◌, ℕ, ◌+◌, ◌<◌, ◌≤◌, ◌⊎◌}

-- a place, or the one that is so much further on, where that is still within the gap
abbrev pub IsRaised : (ℕ → ℕ) → ℕ → ℕ → ℕ → ℕ → Type 0
IsRaised d gap place by r = ((r ≡ place + by) × (d (place + by) ≤ gap)) ⊎ ((r ≡ place) × (gap < d (place + by)))

-- the last of eight places that is within the gap, or the first place
pub record IsLastWithin (d : ℕ → ℕ) (gap r : ℕ) : Type 0 where
  pub range : r < 8
  pub within : 0 < r → d r ≤ gap
  pub last : r < 7 → gap < d (r + 1)
