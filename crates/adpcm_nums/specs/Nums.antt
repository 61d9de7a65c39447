-- Whole-number arithmetic that rounds toward minus infinity, and the two ways of bringing a number into a range.
use Rattle.std.specs.Prelude.{ℕ, ◌*◌, ◌/◌, ℤ, pos, negsuc, ◌+ℤ◌, ◌-ℤ◌, unsigned_abs}
use Rattle.std.specs.Int.{int_min, int_max, int_rem_euclid}

-- x / y rounded toward minus infinity, for y above 0
abbrev pub floor_of : ℤ → ℕ → ℤ
floor_of (pos a) y = pos (a / y)
floor_of (negsuc a) y = negsuc (a / y)

-- the number of -32768..32767 that is nearest to x
abbrev pub clamp16_of : ℤ → ℤ
clamp16_of x = int_max (negsuc 32767) (int_min x (pos 32767))

-- the number of -16384..16383 that differs from x by a multiple of 32768
abbrev pub wrap15_of : ℤ → ℤ
wrap15_of x = int_rem_euclid (x +ℤ pos 16384) (pos 32768) -ℤ pos 16384

-- the square of a number, in which errors are counted
abbrev pub square_of : ℤ → ℕ
square_of x = unsigned_abs x * unsigned_abs x
