-- How large the products of a block's rows are.
use Rattle.std.proofs.Common.{ℕ, ◌^◌, ◌+◌, ◌≤◌, arith}
use Rattle.std.specs.Prelude.{ℤ, pos, negsuc, ◌*ℤ◌, ◌≤ℤ◌, unsigned_abs}
use Rattle.std.proofs.lemmas.Int.{ints, unsigned_abs-mul}
use Rattle.std.proofs.Math.Nat.{mul-le-mul}
use Rattle.adpcm_nums.specs.Sample.{IsSample}

-- how large a number in a range is
size : (x : ℤ) (m : ℕ) → negsuc m ≤ℤ x → x ≤ℤ pos m → unsigned_abs x ≤ m + 1
size x m h k = omega (arith, ints)

sample-size : (x : ℤ) → IsSample x → unsigned_abs x ≤ 32768
sample-size x s = let l = s.low in let h = s.high in omega (arith, ints, l, h)

-- a number of a filter and a sample
pub times-size : (x t : ℤ) → negsuc (2 ^ 7) ≤ℤ x → x ≤ℤ pos (2 ^ 7) → IsSample t → unsigned_abs (x *ℤ t) ≤ 2 ^ 22 + 2 ^ 15
times-size x t l h s = let p = mul-le-mul (size x (2 ^ 7) l h) (sample-size t s) in omega (arith, unsigned_abs-mul x t, p)

-- a number of a filter or a code, and a level less a wrap
pub scaled-size : (x y : ℤ) → negsuc (2 ^ 7) ≤ℤ x → x ≤ℤ pos (2 ^ 7) → negsuc (2 ^ 17) ≤ℤ y → y ≤ℤ pos (2 ^ 17) → unsigned_abs (x *ℤ y) ≤ 2 ^ 25
scaled-size x y l h m k = let p = mul-le-mul (size x (2 ^ 7) l h) (size y (2 ^ 17) m k) in omega (arith, unsigned_abs-mul x y, p)

-- a level
pub level-size : (x y : ℤ) → pos 1 ≤ℤ x → x ≤ℤ pos 4096 → negsuc 7 ≤ℤ y → y ≤ℤ pos 7 → unsigned_abs (x *ℤ y) ≤ 2 ^ 16
level-size x y l h m k =
    let a : unsigned_abs x ≤ 4096 = omega (arith, ints, l, h) in
    let b : unsigned_abs y ≤ 8 = omega (arith, ints, m, k) in
    let p = mul-le-mul a b in omega (arith, unsigned_abs-mul x y, p)
