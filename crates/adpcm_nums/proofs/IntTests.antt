-- The test of two signed numbers, and the order that it tells of.
use Rattle.std.proofs.Common.{◌≡◌, true, arith}
use Rattle.std.specs.Prelude.{ℤ, ◌≤ℤ◌, int_le}
use Rattle.std.proofs.lemmas.Int.{ints}

-- the test tells of the order
pub from-test : (x y : ℤ) → int_le x y ≡ true → x ≤ℤ y
from-test x y h = grind (arith, ints)

-- and the order of the test
pub to-test : (x y : ℤ) → x ≤ℤ y → int_le x y ≡ true
to-test x y h = grind (arith, ints)
