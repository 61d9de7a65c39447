-- The first number of a run is small.
use Rattle.std.proofs.Common.{ℕ, suc, ◌*◌, ◌^◌, ◌<◌, ◌≤◌, arith}
use Rattle.std.specs.Prelude.{ℤ, pos, negsuc, ◌*ℤ◌, ◌≤ℤ◌}
use Rattle.std.proofs.lemmas.Int.{ints}
use Rattle.std.proofs.Math.Nat.{mul-le-mul, pow-le-pow_right}

-- runs are at most 256 numbers long
pub width_small : (level : ℕ) → level ≤ 8 → 2 ^ level ≤ 256
width_small level h = let some : 0 < 2 = omega arith in pow-le-pow_right some h

product-low : (p : ℕ) (n : ℤ) → negsuc 32767 ≤ℤ n → p ≤ 256 → negsuc 8388607 ≤ℤ (pos p *ℤ n)
product-low p (pos a) l q = omega (arith, ints)
product-low p (negsuc a) l q = let e : suc a ≤ 32768 = omega (arith, ints) in let m : p * suc a ≤ 256 * 32768 = mul-le-mul q e in omega (arith, ints)

product-high : (p : ℕ) (n : ℤ) → n ≤ℤ pos 32767 → p ≤ 256 → (pos p *ℤ n) ≤ℤ pos 8388608
product-high p (pos a) h q = let e : a ≤ 32767 = omega (arith, ints) in let m : p * a ≤ 256 * 32767 = mul-le-mul q e in omega (arith, ints)
product-high p (negsuc a) h q = omega (arith, ints)

pub first_low : (level : ℕ) (run : ℤ) → level ≤ 8 → negsuc 32767 ≤ℤ run → negsuc 8388607 ≤ℤ (pos (2 ^ level) *ℤ run)
first_low level run h l = product-low (2 ^ level) run l (width_small level h)

pub first_high : (level : ℕ) (run : ℤ) → level ≤ 8 → run ≤ℤ pos 32767 → (pos (2 ^ level) *ℤ run) ≤ℤ pos 8388608
first_high level run h l = product-high (2 ^ level) run l (width_small level h)
