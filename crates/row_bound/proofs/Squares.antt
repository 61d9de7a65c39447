-- The square that is completed: twice a product is at most a weighed square and the other square, divided by the weight.
use Rattle.std.proofs.Common.{◌≡◌, ℕ, zero, suc, ◌+◌, ◌-◌, ◌*◌, ◌<◌, ◌≤◌, arith, sym, ◌⊎◌, inl, inr}
use Rattle.std.specs.Prelude.{ℤ, pos, ◌+ℤ◌, ◌*ℤ◌, ◌≤ℤ◌, unsigned_abs}
use Rattle.std.specs.Int.{div_ceil}
use Rattle.std.proofs.lemmas.Int.{ints, unsigned_abs-mul}
use Rattle.std.proofs.lemmas.Grind.{div_ceil_times}
use Rattle.adpcm_nums.specs.Nums.{square_of}

-- the square of a difference is not negative
two_squares_up : (x e : ℕ) → 2 * (x * (x + e)) ≤ x * x + (x + e) * (x + e)
two_squares_up x e = omega arith

two_squares : (x y : ℕ) → 2 * (x * y) ≤ x * x + y * y
two_squares x y =
    let c : (x ≤ y) ⊎ (y ≤ x) = grind arith in
    elim c [
      | inl h ↦ (let e : x + (y - x) ≡ y = omega arith in let k = two_squares_up x (y - x) in rw e at k)
      | inr h ↦ (let e : y + (x - y) ≡ x = omega arith in let k = two_squares_up y (x - y) in let k2 = rw e at k in omega arith)
    ]

-- a common factor is left out
cancel : (u a b : ℕ) → 0 < u → u * a ≤ u * b → a ≤ b
cancel zero a b h k = elim h [ ]
cancel (suc u) a b h k =
    let c : (a ≤ b) ⊎ (b < a) = grind arith in
    elim c [
      | inl g ↦ g
      | inr g ↦ (let e : b + suc (a - (b + 1)) ≡ a = omega arith in let m = rw (sym e) at k in absurd (omega (arith, m)))
    ]

-- a quotient rounded up covers
ceil-over : (a u : ℕ) → 0 < u → a ≤ div_ceil a u * u
ceil-over a u h = grind (arith, div_ceil_times)

-- the square that is completed
square-share : (l w u c : ℕ) → 0 < u → l * l ≤ c * u → 2 * (l * w) ≤ u * (w * w) + c
square-share l w u c h k =
    let t = two_squares l (u * w) in
    let m : u * (2 * (l * w)) ≤ u * (u * (w * w) + c) = omega (arith, t, k) in cancel u (2 * (l * w)) (u * (w * w) + c) h m

-- the same with signs, in 64ths
signed-share : (l z : ℤ) (u c : ℕ) → 2 * (unsigned_abs l * (64 * unsigned_abs z)) ≤ u * ((64 * unsigned_abs z) * (64 * unsigned_abs z)) + c
    → (pos 128 *ℤ (l *ℤ z)) ≤ℤ (pos (4096 * (u * square_of z)) +ℤ pos c)
signed-share l z u c h =
    let s = unsigned_abs-mul l z in
    let t : 128 * unsigned_abs (l *ℤ z) ≤ 4096 * (u * square_of z) + c = omega (arith, h, s) in omega (arith, ints, t)

-- what a free error takes at most of its product with l
pub free-share : (l z : ℤ) (u : ℕ) → 0 < u → (pos 128 *ℤ (l *ℤ z)) ≤ℤ (pos (4096 * (u * square_of z)) +ℤ pos (div_ceil (square_of l) u))
free-share l z u h =
    signed-share l z u (div_ceil (square_of l) u) (square-share (unsigned_abs l) (64 * unsigned_abs z) u (div_ceil (square_of l) u) h (ceil-over (square_of l) u h))
