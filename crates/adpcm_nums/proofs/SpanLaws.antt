-- The least square distance of a span, and spans that meet.
use Rattle.std.proofs.Common.{◌≡◌, ℕ, ◌*◌, ◌^◌, ◌≤◌, arith, refl, ◌⊎◌, inl, inr, true}
use Rattle.std.specs.Int.Signed.{le_z}
use Rattle.std.specs.Prelude.{◌↔◌, IsTrue, ℤ, pos, ◌≤ℤ◌, ◌*ℤ◌, ◌-ℤ◌, unsigned_abs}
use Rattle.std.proofs.lemmas.Int.{ints}
use Rattle.std.proofs.Math.Nat.{mul-le-mul}
use Rattle.adpcm_nums.specs.Nums.{square_of}
use Rattle.adpcm_nums.specs.Sample.{IsSample}
use Rattle.adpcm_nums.specs.Nearest.{within_of, nearest_of, distance_of, distance_sq_of}
use Rattle.adpcm_nums.proofs.OrderLaws.{le-or-gt}
use Rattle.adpcm_nums.proofs.NearestLaws.{distance-least}

-- no multiple of a number of the span has a smaller square distance
pub distance_sq-least : (lo hi scale t y : ℤ) → (scale ≡ pos 1) ⊎ (scale ≡ pos 2) → lo ≤ℤ y → y ≤ℤ hi → distance_sq_of lo hi scale t ≤ square_of (scale *ℤ y -ℤ t)
distance_sq-least lo hi scale t y s a b = let h = distance-least lo hi scale t y s a b in mul-le-mul h h

within-low : (lo hi x : ℤ) → lo ≤ℤ hi → lo ≤ℤ within_of lo hi x
within-low lo hi x h = grind (arith, ints)

within-high : (lo hi x : ℤ) → lo ≤ℤ hi → within_of lo hi x ≤ℤ hi
within-high lo hi x h = grind (arith, ints)

-- and that of some such multiple is as small
pub distance_sq-reached : (lo hi scale t : ℤ) → lo ≤ℤ hi → (y : ℤ) × (lo ≤ℤ y) × (y ≤ℤ hi) × (distance_sq_of lo hi scale t ≡ square_of (scale *ℤ y -ℤ t))
distance_sq-reached lo hi scale t h = (nearest_of lo hi scale t, within-low lo hi _ h, within-high lo hi _ h, refl)

-- what the code computes, whose numbers went through a wider type
pub distance_sq-is : (lo hi scale t lo' hi' scale' t' : ℤ) (n : ℕ) → lo' ≡ lo → hi' ≡ hi → scale' ≡ scale → t' ≡ t → n ≡ distance_of lo' hi' scale' t' → n * n ≡ distance_sq_of lo hi scale t
distance_sq-is lo hi scale t lo' hi' scale' t' n a b d e h = rw (h, a, b, d, e) refl

-- a multiple of a sample lies near every sample
pub near-sample : (scale y t : ℤ) → (scale ≡ pos 1) ⊎ (scale ≡ pos 2) → IsSample y → IsSample t → unsigned_abs (scale *ℤ y -ℤ t) ≤ 2 ^ 17
near-sample scale y t (inl e) a b = let al = a.low in let ah = a.high in let bl = b.low in let bh = b.high in rw e (omega (arith, ints))
near-sample scale y t (inr e) a b = let al = a.low in let ah = a.high in let bl = b.low in let bh = b.high in rw e (omega (arith, ints))

-- so the least square distance is far below the largest u64
pub distance_sq-small : (lo hi scale t : ℤ) → (scale ≡ pos 1) ⊎ (scale ≡ pos 2) → lo ≤ℤ hi → IsSample lo → IsSample t → distance_sq_of lo hi scale t ≤ 2 ^ 34
distance_sq-small lo hi scale t s h a b =
    let near = near-sample scale lo t s a b in
    let least = distance_sq-least lo hi scale t lo s (omega (arith, ints)) h in
    let square : square_of (scale *ℤ lo -ℤ t) ≤ 2 ^ 17 * 2 ^ 17 = mul-le-mul near near in
    omega (arith, least, square)

le-shown : (x y : ℤ) → le_z x y ≡ true → x ≤ℤ y
le-shown x y h = grind (arith, ints)

le-tested : (x y : ℤ) → x ≤ℤ y → le_z x y ≡ true
le-tested x y h = grind (arith, ints)

-- where each begins before the other ends, the later beginning lies in both
meeting : (a b c d : ℤ) → a ≤ℤ b → c ≤ℤ d → a ≤ℤ d → c ≤ℤ b → (y : ℤ) × (a ≤ℤ y) × (y ≤ℤ b) × (c ≤ℤ y) × (y ≤ℤ d)
meeting a b c d p q r s =
    elim (le-or-gt a c) [
      | inl h ↦ (c, h, s, omega (arith, ints), q)
      | inr h ↦ (a, omega (arith, ints), p, omega (arith, ints), r)
    ]

-- where the first begins before the second ends, they meet exactly where the second begins before the first ends
pub meets-where : (a b c d b' c' : ℤ) → a ≤ℤ b → c ≤ℤ d → a ≤ℤ d → b' ≡ b → c' ≡ c → IsTrue (le_z c' b') ↔ ((y : ℤ) × (a ≤ℤ y) × (y ≤ℤ b) × (c ≤ℤ y) × (y ≤ℤ d))
meets-where a b c d b' c' p q r e f = (
  λ t. (let h = le-shown c' b' t in meeting a b c d p q r (omega (arith, ints))),
  λ m. (let h = m.2 in let k = m.3 in le-tested c' b' (omega (arith, ints))),
)
