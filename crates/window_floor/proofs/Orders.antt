-- The order of whole numbers: of two numbers on one side of a third the inner one is nearer.
use Rattle.std.proofs.Common.{◌≡◌, ◌≤◌, arith, IsTrue}
use Rattle.std.specs.Prelude.{ℤ, ◌-ℤ◌, ◌≤ℤ◌, unsigned_abs, ◌↔◌}
use Rattle.std.specs.Int.Signed.{le_z}
use Rattle.std.proofs.lemmas.Int.{ints}

-- of two numbers below a third the greater one is nearer
pub nearer-below : (x y t : ℤ) → x ≤ℤ y → y ≤ℤ t → unsigned_abs (t -ℤ y) ≤ unsigned_abs (t -ℤ x)
nearer-below x y t h k = omega (arith, ints)

-- and of two above it the smaller one
pub nearer-above : (x y t : ℤ) → y ≤ℤ x → t ≤ℤ y → unsigned_abs (t -ℤ y) ≤ unsigned_abs (t -ℤ x)
nearer-above x y t h k = omega (arith, ints)

-- the test of an order of two numbers, as the code holds them
pub order-is : (x y x' y' : ℤ) → x' ≡ x → y' ≡ y → IsTrue (le_z x' y') ↔ (x ≤ℤ y)
order-is x y x' y' p q = rw (p, q) (grind (arith, ints), grind (arith, ints))
