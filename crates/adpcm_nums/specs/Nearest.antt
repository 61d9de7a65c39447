-- How near the multiples of a run of whole numbers come to a target. The scale is 1 or 2.
use Rattle.std.specs.Prelude.{ℕ, ◌*◌, ℤ, ◌-ℤ◌, ◌*ℤ◌, unsigned_abs}
use Rattle.std.specs.Int.{int_min, int_max}
use Rattle.adpcm_nums.specs.Nums.{floor_of}

-- the number of lo..hi that is nearest to x
abbrev pub within_of : ℤ → ℤ → ℤ → ℤ
within_of lo hi x = int_max lo (int_min x hi)

-- the number of lo..hi whose multiple is nearest to the target
abbrev pub nearest_of : ℤ → ℤ → ℤ → ℤ → ℤ
nearest_of lo hi scale target = within_of lo hi (floor_of target (unsigned_abs scale))

-- how far that multiple is from the target
abbrev pub distance_of : ℤ → ℤ → ℤ → ℤ → ℕ
distance_of lo hi scale target = unsigned_abs (scale *ℤ nearest_of lo hi scale target -ℤ target)

-- the square of that distance
abbrev pub distance_sq_of : ℤ → ℤ → ℤ → ℤ → ℕ
distance_sq_of lo hi scale target = distance_of lo hi scale target * distance_of lo hi scale target
