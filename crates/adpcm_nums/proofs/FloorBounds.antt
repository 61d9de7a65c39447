-- A floored quotient lies no further from zero than its number, or at -1.
use Rattle.std.proofs.Common.{ℕ, arith}
use Rattle.std.specs.Prelude.{ℤ, pos, negsuc, ◌≤ℤ◌}
use Rattle.std.proofs.lemmas.Int.{ints}
use Rattle.std.proofs.Math.Nat.{div-le_self}
use Rattle.adpcm_nums.specs.Nums.{floor_of}

-- a number that is no lower than -(n + 1) has no lower quotient
pub floor_above : (x : ℤ) (d n : ℕ) → negsuc n ≤ℤ x → negsuc n ≤ℤ floor_of x d
floor_above (pos a) d n h = omega (arith, ints)
floor_above (negsuc a) d n h = omega (arith, ints, h, div-le_self a d)

-- a number that is no higher than n has no higher quotient
pub floor_below : (x : ℤ) (d n : ℕ) → x ≤ℤ pos n → floor_of x d ≤ℤ pos n
floor_below (pos a) d n h = omega (arith, ints, h, div-le_self a d)
floor_below (negsuc a) d n h = omega (arith, ints)
