-- The inequality of three products, and what it says of a miss that three places share.
use Rattle.std.proofs.Common.{◌≡◌, ℕ, ◌+◌, ◌-◌, ◌*◌, ◌<◌, ◌≤◌, arith, ◌⊎◌, inl, inr}
use Rattle.std.specs.Prelude.{ℤ, ◌-ℤ◌, ◌*ℤ◌, unsigned_abs}
use Rattle.std.specs.Int.{div_ceil}
use Rattle.std.proofs.lemmas.Int.{ints, unsigned_abs-mul}
use Rattle.std.proofs.Math.Nat.{mul-le-mul}
use Rattle.std.proofs.lemmas.Grind.{div_ceil_times}
use Rattle.adpcm_nums.specs.Nums.{square_of}

-- the same where the second number is the greater one
two_squares_up : (x e : ℕ) → 2 * (x * (x + e)) ≤ x * x + (x + e) * (x + e)
two_squares_up x e = omega arith

-- twice a product is at most the two squares
two_squares : (x y : ℕ) → 2 * (x * y) ≤ x * x + y * y
two_squares x y =
    let c : (x ≤ y) ⊎ (y ≤ x) = grind arith in
    elim c [
      | inl h ↦ (let e : x + (y - x) ≡ y = omega arith in let k = two_squares_up x (y - x) in rw e at k)
      | inr h ↦ (let e : y + (x - y) ≡ x = omega arith in let k = two_squares_up y (x - y) in let k2 = rw e at k in omega arith)
    ]

-- three products squared are at most the product of the sums of squares
products_squared : (d a b x y z : ℕ) → (d * x + a * y + b * z) * (d * x + a * y + b * z) ≤ (d * d + a * a + b * b) * (x * x + y * y + z * z)
products_squared d a b x y z = omega (arith, two_squares (d * y) (a * x), two_squares (d * z) (b * x), two_squares (a * z) (b * y))

-- a difference is no larger than both numbers together
abs_sub : (x y : ℤ) → unsigned_abs (x -ℤ y) ≤ unsigned_abs x + unsigned_abs y
abs_sub x y = grind (arith, ints)

-- nor is one of three products
triangle : (d a b x y z : ℤ) → unsigned_abs (d *ℤ x -ℤ a *ℤ y -ℤ b *ℤ z) ≤ unsigned_abs d * unsigned_abs x + unsigned_abs a * unsigned_abs y + unsigned_abs b * unsigned_abs z
triangle d a b x y z =
    omega (arith, abs_sub (d *ℤ x -ℤ a *ℤ y) (b *ℤ z), abs_sub (d *ℤ x) (a *ℤ y), unsigned_abs-mul d x, unsigned_abs-mul a y, unsigned_abs-mul b z)

-- the inequality over whole numbers
pub three-products : (d a b x y z : ℤ) → square_of (d *ℤ x -ℤ a *ℤ y -ℤ b *ℤ z) ≤ (square_of d + square_of a + square_of b) * (square_of x + square_of y + square_of z)
three-products d a b x y z =
    let t = triangle d a b x y z in let m = mul-le-mul t t in
    let p = products_squared (unsigned_abs d) (unsigned_abs a) (unsigned_abs b) (unsigned_abs x) (unsigned_abs y) (unsigned_abs z) in omega (arith, m, p)

-- what is at most k times n is at most k over n, rounded up
ceil_below : (a n k : ℕ) → 0 < n → a ≤ k * n → div_ceil a n ≤ k
ceil_below a n k p h = grind (arith, div_ceil_times)

-- a miss that is no more than a sum of three products: its square over the norm is no more than the squares
pub shared-below : (miss n : ℕ) (d a b x y z : ℤ) → 0 < n → n ≡ square_of d + square_of a + square_of b → miss ≤ unsigned_abs (d *ℤ x -ℤ a *ℤ y -ℤ b *ℤ z)
    → div_ceil (miss * miss) n ≤ square_of x + square_of y + square_of z
shared-below miss n d a b x y z p e h =
    let m = mul-le-mul h h in let t = three-products d a b x y z in
    let c : (square_of d + square_of a + square_of b) * (square_of x + square_of y + square_of z) ≡ (square_of x + square_of y + square_of z) * n = rw e (omega arith) in
    ceil_below (miss * miss) n (square_of x + square_of y + square_of z) p (omega (arith, m, t, c))
