-- The cut of a block's places into windows, and the floor that they add up to.
use Rattle.std.specs.Prelude.{ℕ, ◌-◌, ◌%◌, ◌==◌, nat_le, if◌then◌else◌}
use Rattle.adpcm_nums.specs.RangeSum.{sum_range}

-- what begins at place p: places are cut into windows of `size` places from the first on, and those that are left over are single;
-- 0 where neither a window nor a single place begins
unfoldable pub own_floor : ℕ → ℕ → (ℕ → ℕ) → (ℕ → ℕ) → ℕ → ℕ
own_floor places size window single p = if nat_le (places - places % size) p then single p else (if p % size == 0 then window p else 0)

-- the floor from place p to the end
unfoldable pub cut_floor : ℕ → ℕ → (ℕ → ℕ) → (ℕ → ℕ) → ℕ → ℕ
cut_floor places size window single p = sum_range (own_floor places size window single) p (places - p)
