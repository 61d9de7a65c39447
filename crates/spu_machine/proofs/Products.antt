-- How large a weight's share of an output can be.
use Rattle.std.proofs.Common.{ℕ, suc, ◌*◌, ◌≤◌, arith}
use Rattle.std.specs.Prelude.{ℤ, pos, negsuc, ◌*ℤ◌, ◌≤ℤ◌}
use Rattle.std.proofs.lemmas.Int.{ints}
use Rattle.std.proofs.Math.Nat.{mul-le-mul}

-- a product of naturals
product-small : (a b : ℕ) → a ≤ 128 → b ≤ 32768 → a * b ≤ 4194304
product-small a b p q = let m : a * b ≤ 128 * 32768 = mul-le-mul p q in omega (arith, m)

-- a share is no less than this
pub share_low : (w x : ℤ) → negsuc 127 ≤ℤ w → w ≤ℤ pos 127 → negsuc 32767 ≤ℤ x → x ≤ℤ pos 32767 → negsuc 4194303 ≤ℤ (w *ℤ x)
share_low (pos a) (pos b) p q u v = omega (arith, ints)
share_low (pos a) (negsuc b) p q u v = let m = product-small a (suc b) (omega (arith, ints, q)) (omega (arith, ints, u)) in omega (arith, ints, m)
share_low (negsuc a) (pos b) p q u v = let m = product-small (suc a) b (omega (arith, ints, p)) (omega (arith, ints, v)) in omega (arith, ints, m)
share_low (negsuc a) (negsuc b) p q u v = omega (arith, ints)

-- and no more than this
pub share_high : (w x : ℤ) → negsuc 127 ≤ℤ w → w ≤ℤ pos 127 → negsuc 32767 ≤ℤ x → x ≤ℤ pos 32767 → (w *ℤ x) ≤ℤ pos 4194304
share_high (pos a) (pos b) p q u v = let m = product-small a b (omega (arith, ints, q)) (omega (arith, ints, v)) in omega (arith, ints, m)
share_high (pos a) (negsuc b) p q u v = omega (arith, ints)
share_high (negsuc a) (pos b) p q u v = omega (arith, ints)
share_high (negsuc a) (negsuc b) p q u v = let m = product-small (suc a) (suc b) (omega (arith, ints, p)) (omega (arith, ints, u)) in omega (arith, ints, m)
