-- How large products of numbers in ranges are, and that 64 bits hold them.
use Rattle.std.proofs.Common.{◌≡◌, ℕ, ◌*◌, ◌^◌, ◌+◌, ◌≤◌, arith, ap, ◌∙◌, ◌⊎◌, inl, inr, w64, to_z, of_z}
use Rattle.std.specs.Prelude.{ℤ, pos, negsuc, ◌*ℤ◌, ◌≤ℤ◌, unsigned_abs}
use Rattle.std.specs.Int.{int_min}
use Rattle.std.proofs.lemmas.Int.{ints, unsigned_abs-mul}
use Rattle.std.proofs.Math.Nat.{mul-le-mul}

-- how large a number in a range is
size : (x : ℤ) (m : ℕ) → negsuc m ≤ℤ x → x ≤ℤ pos m → unsigned_abs x ≤ m + 1
size x m h k = omega (arith, ints)

-- and a product of two
product : (x y : ℤ) (m n : ℕ) → negsuc m ≤ℤ x → x ≤ℤ pos m → negsuc n ≤ℤ y → y ≤ℤ pos n → unsigned_abs (x *ℤ y) ≤ (m + 1) * (n + 1)
product x y m n a b c d = let t = mul-le-mul (size x m a b) (size y n c d) in omega (arith, unsigned_abs-mul x y, t)

-- a factor of a row and a factor of the bound
pub scaled-size : (x y : ℤ) → negsuc (2 ^ 7) ≤ℤ x → x ≤ℤ pos (2 ^ 7) → negsuc (2 ^ 28) ≤ℤ y → y ≤ℤ pos (2 ^ 28) → unsigned_abs (x *ℤ y) ≤ 2 ^ 36
scaled-size x y a b c d = let p = product x y (2 ^ 7) (2 ^ 28) a b c d in omega (arith, p)

-- a factor of the bound and an end of an interval
pub end-size : (x y : ℤ) → negsuc (2 ^ 28) ≤ℤ x → x ≤ℤ pos (2 ^ 28) → negsuc (2 ^ 26) ≤ℤ y → y ≤ℤ pos (2 ^ 26) → unsigned_abs (x *ℤ y) ≤ 2 ^ 54 + 2 ^ 30
end-size x y a b c d = let p = product x y (2 ^ 28) (2 ^ 26) a b c d in omega (arith, p)

-- a place's factor and its known error
pub known-size : (x y : ℤ) → negsuc (2 ^ 28) ≤ℤ x → x ≤ℤ pos (2 ^ 28) → negsuc (2 ^ 17) ≤ℤ y → y ≤ℤ pos (2 ^ 17) → unsigned_abs (x *ℤ y) ≤ 2 ^ 46
known-size x y a b c d = let p = product x y (2 ^ 28) (2 ^ 17) a b c d in omega (arith, p)

-- what the code computes of a product
pub product-is : (x y x' y' : ℤ) → x' ≡ x → y' ≡ y → unsigned_abs (x *ℤ y) ≤ 2 ^ 61 → to_z w64 (of_z w64 (x' *ℤ y')) ≡ x *ℤ y
product-is x y x' y' p q small = rw (p, q) (omega (arith, ints, small))

-- the less of two is one of them
least-is : (a b r : ℤ) → r ≡ int_min a b → (r ≡ a) ⊎ (r ≡ b)
least-is a b r h = grind (arith, ints)

-- and in their range
in-range : (x y r : ℤ) (n : ℕ) → negsuc n ≤ℤ x → x ≤ℤ pos n → negsuc n ≤ℤ y → y ≤ℤ pos n → (r ≡ x) ⊎ (r ≡ y) → (negsuc n ≤ℤ r) × (r ≤ℤ pos n)
in-range x y r n a b c d (inl e) = rw e (a, b)
in-range x y r n a b c d (inr e) = rw e (c, d)

-- what 64 bits hold stays
pub stays : (x : ℤ) → negsuc (2 ^ 62) ≤ℤ x → x ≤ℤ pos (2 ^ 62) → to_z w64 (of_z w64 x) ≡ x
stays x a b = omega (arith, ints, a, b)

-- the less of two ends
pub least-end : (x y r : ℤ) → negsuc (2 ^ 54 + 2 ^ 30) ≤ℤ x → x ≤ℤ pos (2 ^ 54 + 2 ^ 30) → negsuc (2 ^ 54 + 2 ^ 30) ≤ℤ y → y ≤ℤ pos (2 ^ 54 + 2 ^ 30) → r ≡ int_min (to_z w64 (of_z w64 x)) (to_z w64 (of_z w64 y))
    → (r ≡ int_min x y) × (negsuc (2 ^ 54 + 2 ^ 30) ≤ℤ r) × (r ≤ℤ pos (2 ^ 54 + 2 ^ 30))
least-end x y r a b c d h =
    let ex = stays x (omega (arith, ints, a)) (omega (arith, ints, b)) in
    let ey = stays y (omega (arith, ints, c)) (omega (arith, ints, d)) in
    let e : r ≡ int_min x y = h ∙ (ap (λ t. int_min t (to_z w64 (of_z w64 y))) ex ∙ ap (λ t. int_min x t) ey) in
    let k = in-range x y r (2 ^ 54 + 2 ^ 30) a b c d (least-is x y r e) in (e, k.0, k.1)

-- products of the same numbers
pub product-same : (x y x' y' : ℤ) → x' ≡ x → y' ≡ y → x' *ℤ y' ≡ x *ℤ y
product-same x y x' y' p q = ap (λ t. t *ℤ y') p ∙ ap (λ t. x *ℤ t) q

-- the less of the same numbers
pub least-same : (x y x' y' : ℤ) → x' ≡ x → y' ≡ y → int_min x' y' ≡ int_min x y
least-same x y x' y' p q = ap (λ t. int_min t y') p ∙ ap (λ t. int_min x t) q
