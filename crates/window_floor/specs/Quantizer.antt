-- The samples that are the levels of a uniform quantizer, and the least miss over its levels.
use Rattle.std.specs.Prelude.{◌≡◌, ℕ, ◌<◌, ◌≤◌, ℤ, pos, ◌+ℤ◌, ◌-ℤ◌, ◌*ℤ◌, ◌≤ℤ◌, ◌<ℤ◌, List, get_or}
use Rattle.window_floor.specs.Row.{Row}
use Rattle.window_floor.specs.Miss.{rounded_miss}

-- sixteen samples are the levels step * n for n from low to high: each is one of them, and each of them is there
pub record AreLevels (step low high : ℤ) (samples : List ℤ) : Type 0 where
  pub are : (i : ℕ) → i < 16 → (n : ℤ) × (low ≤ℤ n) × (n ≤ℤ high) × (get_or samples i (pos 0) ≡ step *ℤ n)
  pub all : (n : ℤ) → low ≤ℤ n → n ≤ℤ high → (i : ℕ) × (i < 16) × (get_or samples i (pos 0) ≡ step *ℤ n)

-- the greatest a with scale * (d * a + bias) at most rho
pub record IsAim (w : Row) (rho aim : ℤ) : Type 0 where
  pub below : (w.scale *ℤ (w.d *ℤ aim +ℤ w.bias)) ≤ℤ rho
  pub above : rho <ℤ (w.scale *ℤ (w.d *ℤ (aim +ℤ pos 1) +ℤ w.bias))

-- the least miss over the levels, over the numbers of wraps from first to last and over the roundings
pub record IsLevelMiss (w : Row) (rho step low high first last : ℤ) (miss : ℕ) : Type 0 where
  pub least : (n k : ℤ) → low ≤ℤ n → n ≤ℤ high → first ≤ℤ k → k ≤ℤ last → miss ≤ rounded_miss w rho (step *ℤ n -ℤ pos 32768 *ℤ k)
  pub reached : (n : ℤ) × (k : ℤ) × (low ≤ℤ n) × (n ≤ℤ high) × (first ≤ℤ k) × (k ≤ℤ last) × (miss ≡ rounded_miss w rho (step *ℤ n -ℤ pos 32768 *ℤ k))
