-- The multiple that is nearest to a target is that of the rounded quotient, brought into the range of the factors.
use Rattle.std.proofs.Common.{◌≡◌, ◌≤◌, arith, ap, ◌∙◌, ◌⊎◌, inl, inr}
use Rattle.std.specs.Prelude.{ℤ, pos, ◌+ℤ◌, ◌-ℤ◌, ◌*ℤ◌, ◌≤ℤ◌, ◌<ℤ◌, unsigned_abs}
use Rattle.std.specs.Int.{int_max, int_min}
use Rattle.std.proofs.lemmas.Int.{ints}
use Rattle.adpcm_nums.specs.Nums.{floor_of}
use Rattle.adpcm_nums.specs.Nearest.{within_of}
use Rattle.adpcm_nums.proofs.OrderLaws.{le-or-gt, low-is, high-is, inside-is}
use Rattle.adpcm_nums.proofs.ProductLaws.{in-order}
use Rattle.window_floor.proofs.Quotients.{quotient-low, quotient-high, next-multiple, one-product}

-- one unit more for each number more
apart : (u v n : ℤ) → pos 1 ≤ℤ u → v <ℤ n → (u *ℤ v +ℤ u) ≤ℤ (u *ℤ n)
apart u v n p h = let order = in-order u (v +ℤ pos 1) n (omega (arith, ints)) (omega (arith, ints)) in let next = next-multiple u v in omega (arith, ints, order, next)

-- the quotient's own multiple is at most half a unit away, and every other one at least so much
rounded-nearest : (u t q n : ℤ) → pos 1 ≤ℤ u → (pos 2 *ℤ (u *ℤ q)) ≤ℤ (pos 2 *ℤ t +ℤ u) → (pos 2 *ℤ t +ℤ u) <ℤ (pos 2 *ℤ (u *ℤ q) +ℤ pos 2 *ℤ u)
    → unsigned_abs (u *ℤ q -ℤ t) ≤ unsigned_abs (u *ℤ n -ℤ t)
rounded-nearest u t q n p low high =
    elim (le-or-gt q n) [
      | inr less ↦ (let far = apart u n q p less in omega (arith, ints, far, low, high, p))
      | inl from ↦ elim (le-or-gt n q) [
        | inl up_to ↦ (let same : n ≡ q = omega (arith, ints, from, up_to) in let e = ap (λ z. u *ℤ z) same in omega (arith, ints, e))
        | inr more ↦ (let far = apart u q n p more in omega (arith, ints, far, low, high, p))
      ]
    ]

-- a quotient below the factors: the first of them is nearest
first-nearest : (u t q low n : ℤ) → pos 1 ≤ℤ u → q <ℤ low → low ≤ℤ n → (pos 2 *ℤ t +ℤ u) <ℤ (pos 2 *ℤ (u *ℤ q) +ℤ pos 2 *ℤ u)
    → unsigned_abs (u *ℤ low -ℤ t) ≤ unsigned_abs (u *ℤ n -ℤ t)
first-nearest u t q low n p h k high =
    let far = apart u q low p h in let order = in-order u low n (omega (arith, ints, p)) k in omega (arith, ints, far, order, high, p)

-- and above them the last
last-nearest : (u t q high n : ℤ) → pos 1 ≤ℤ u → high <ℤ q → n ≤ℤ high → (pos 2 *ℤ (u *ℤ q)) ≤ℤ (pos 2 *ℤ t +ℤ u)
    → unsigned_abs (u *ℤ high -ℤ t) ≤ unsigned_abs (u *ℤ n -ℤ t)
last-nearest u t q high n p h k low =
    let far = apart u high q p h in let order = in-order u n high (omega (arith, ints, p)) k in omega (arith, ints, far, order, low, p)

-- the same for an equal factor
at-factor : (u t m m' n : ℤ) → m ≡ m' → unsigned_abs (u *ℤ m' -ℤ t) ≤ unsigned_abs (u *ℤ n -ℤ t) → unsigned_abs (u *ℤ m -ℤ t) ≤ unsigned_abs (u *ℤ n -ℤ t)
at-factor u t m m' n e h = rw e h

-- so the quotient brought into the range is nearest
nearest-factor : (u t q low high n m : ℤ) → pos 1 ≤ℤ u → low ≤ℤ n → n ≤ℤ high → (pos 2 *ℤ (u *ℤ q)) ≤ℤ (pos 2 *ℤ t +ℤ u)
    → (pos 2 *ℤ t +ℤ u) <ℤ (pos 2 *ℤ (u *ℤ q) +ℤ pos 2 *ℤ u) → m ≡ within_of low high q
    → unsigned_abs (u *ℤ m -ℤ t) ≤ unsigned_abs (u *ℤ n -ℤ t)
nearest-factor u t q low high n m p l h below above e =
    let both : low ≤ℤ high = omega (arith, ints, l, h) in
    elim (le-or-gt low q) [
      | inr under ↦ at-factor u t m low n (e ∙ low-is low high q both under) (first-nearest u t q low n p under l above)
      | inl from ↦ elim (le-or-gt q high) [
        | inr past ↦ at-factor u t m high n (e ∙ high-is low high q both past) (last-nearest u t q high n p past h below)
        | inl within ↦ at-factor u t m q n (e ∙ inside-is low high q from within) (rounded-nearest u t q n p below above)
      ]
    ]

-- a scaled step is a whole number from 1 to 8192
pub some-unit : (s step unit : ℤ) → (s ≡ pos 1) ⊎ (s ≡ pos 2) → pos 1 ≤ℤ step → unit ≡ s *ℤ step → pos 1 ≤ℤ unit
some-unit s step unit (inl e) h q = let times = ap (λ z. z *ℤ step) e in omega (arith, ints, q, times, h)
some-unit s step unit (inr e) h q = let times = ap (λ z. z *ℤ step) e in omega (arith, ints, q, times, h)

-- at most 8192
pub large-unit : (s step unit : ℤ) → (s ≡ pos 1) ⊎ (s ≡ pos 2) → step ≤ℤ pos 4096 → unit ≡ s *ℤ step → unit ≤ℤ pos 8192
large-unit s step unit (inl e) h q = let times = ap (λ z. z *ℤ step) e in omega (arith, ints, q, times, h)
large-unit s step unit (inr e) h q = let times = ap (λ z. z *ℤ step) e in omega (arith, ints, q, times, h)

-- the two orders in which a number is brought into a range
either-order : (low high q : ℤ) → low ≤ℤ high → int_max (int_min q high) low ≡ within_of low high q
either-order low high q h = grind (arith, ints)

-- the level whose scaled distance from a target is least
pub nearest-level : (s step unit low high t q m n : ℤ) → (s ≡ pos 1) ⊎ (s ≡ pos 2) → pos 1 ≤ℤ step → unit ≡ s *ℤ step
    → q ≡ floor_of (pos 2 *ℤ t +ℤ unit) (unsigned_abs (pos 2 *ℤ unit)) → m ≡ int_max (int_min q high) low → low ≤ℤ n → n ≤ℤ high
    → unsigned_abs (s *ℤ (step *ℤ m) -ℤ t) ≤ unsigned_abs (s *ℤ (step *ℤ n) -ℤ t)
nearest-level s step unit low high t q m n scale p u quotient clamped l h =
    let some = some-unit s step unit scale p u in
    let down = quotient-low (pos 2 *ℤ t +ℤ unit) (pos 2 *ℤ unit) q (omega (arith, ints, some)) quotient in
    let up = quotient-high (pos 2 *ℤ t +ℤ unit) (pos 2 *ℤ unit) q (omega (arith, ints, some)) quotient in
    let twice = one-product (pos 2) unit q in
    let next = one-product (pos 2) unit (q +ℤ pos 1) in
    let more = next-multiple unit q in
    let m-is = ap (λ z. z *ℤ m) u ∙ one-product s step m in
    let n-is = ap (λ z. z *ℤ n) u ∙ one-product s step n in
    let near = nearest-factor unit t q low high n m some l h (omega (arith, ints, down, twice)) (omega (arith, ints, up, next, more))
    (clamped ∙ either-order low high q (omega (arith, ints, l, h))) in
    omega (arith, ints, near, m-is, n-is)
