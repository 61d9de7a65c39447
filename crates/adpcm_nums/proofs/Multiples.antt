-- Multiples of a step that lie below and above a wanted number.
use Rattle.std.proofs.Common.{◌≡◌, ℕ, suc, ◌-◌, ◌*◌, ◌<◌, ◌≤◌, arith, refl, ap, ◌∙◌, ◌⊎◌, inl, inr}
use Rattle.std.specs.Prelude.{ℤ, pos, negsuc, ◌+ℤ◌, ◌-ℤ◌, ◌*ℤ◌, ◌≤ℤ◌, ◌<ℤ◌, unsigned_abs}
use Rattle.std.proofs.lemmas.Int.{ints}
use Rattle.std.proofs.Math.Nat.{mul-le-mul_right}
use Rattle.std.proofs.lemmas.Nat.{mul-lt}
use Rattle.adpcm_nums.specs.Nums.{floor_of, square_of}
use Rattle.adpcm_nums.specs.Nearest.{within_of}
use Rattle.adpcm_nums.proofs.NearestLaws.{floor-low, floor-high}
use Rattle.adpcm_nums.proofs.OrderLaws.{le-or-gt, low-is, high-is, inside-is}

-- one step more for each number more
pub steps-apart : (v n : ℤ) (p : ℕ) → v <ℤ n → (v *ℤ pos p +ℤ pos p) ≤ℤ (n *ℤ pos p)
steps-apart (pos a) (pos b) p h = let le : suc a ≤ b = omega (arith, ints) in let m : suc a * p ≤ b * p = mul-le-mul_right p le in omega (arith, ints)
steps-apart (pos a) (negsuc b) p h = absurd (omega (arith, ints))
steps-apart (negsuc a) (pos b) p h = omega (arith, ints)
steps-apart (negsuc a) (negsuc b) p h = let le : suc b ≤ a = omega (arith, ints) in let m : suc b * p ≤ a * p = mul-le-mul_right p le in omega (arith, ints)

-- a greater distance has the greater square
pub farther : (x y : ℤ) → unsigned_abs x < unsigned_abs y → square_of x < square_of y
farther x y h = mul-lt _ _ _ _ h h

-- of two numbers below the wanted one the lower is farther from it, and of two above it the higher
pub farther-below : (x y wanted : ℤ) → y <ℤ x → x ≤ℤ wanted → unsigned_abs (x -ℤ wanted) < unsigned_abs (y -ℤ wanted)
farther-below x y wanted h k = omega (arith, ints)

pub farther-above : (x y wanted : ℤ) → x <ℤ y → wanted ≤ℤ x → unsigned_abs (x -ℤ wanted) < unsigned_abs (y -ℤ wanted)
farther-above x y wanted h k = omega (arith, ints)

-- how far a multiple is from the wanted number, squared
abbrev pub multiple_cost : ℕ → ℤ → ℤ → ℕ
multiple_cost p wanted v = square_of (v *ℤ pos p -ℤ wanted)

-- of two values whose multiples are below the wanted number the lower costs more
pub below-costs : (p : ℕ) (wanted v n : ℤ) → 0 < p → v <ℤ n → (n *ℤ pos p) ≤ℤ wanted → multiple_cost p wanted n < multiple_cost p wanted v
below-costs p wanted v n some less reaches =
    let apart = steps-apart v n p less in
    farther (n *ℤ pos p -ℤ wanted) (v *ℤ pos p -ℤ wanted) (farther-below (n *ℤ pos p) (v *ℤ pos p) wanted (omega (arith, ints)) reaches)

-- and of two above it the higher
pub above-costs : (p : ℕ) (wanted v n : ℤ) → 0 < p → n <ℤ v → wanted ≤ℤ (n *ℤ pos p) → multiple_cost p wanted n < multiple_cost p wanted v
above-costs p wanted v n some less reaches =
    let apart = steps-apart n v p less in
    farther (n *ℤ pos p -ℤ wanted) (v *ℤ pos p -ℤ wanted) (farther-above (n *ℤ pos p) (v *ℤ pos p) wanted (omega (arith, ints)) reaches)

-- the factors of a product in their other order
pub swap-product : (v : ℤ) (p : ℕ) → pos p *ℤ v ≡ v *ℤ pos p
swap-product (pos a) p = omega (arith, ints)
swap-product (negsuc a) p = omega (arith, ints)

-- a 4-bit value whose multiple is the last below the wanted number, or an end of their range
pub record IsLower (p : ℕ) (wanted n : ℤ) : Type 0 where
  pub least : negsuc 7 ≤ℤ n
  pub most : n ≤ℤ pos 7
  pub below : (n ≡ negsuc 7) ⊎ ((n *ℤ pos p) ≤ℤ wanted)
  pub above : (n ≡ pos 7) ⊎ (wanted ≤ℤ ((n +ℤ pos 1) *ℤ pos p))

-- a quotient that is brought into the values is one
lower-by : (p : ℕ) (wanted q n : ℤ) → 0 < p → (q *ℤ pos p) ≤ℤ wanted → wanted ≤ℤ (q *ℤ pos p +ℤ pos (p - 1)) → n ≡ within_of (negsuc 7) (pos 7) q → IsLower p wanted n
lower-by p wanted q n some low high e =
    let order : negsuc 7 ≤ℤ pos 7 = omega (arith, ints) in
    elim (le-or-gt (negsuc 7) q) [
      | inr h ↦ (
          let same : n ≡ negsuc 7 = e ∙ low-is (negsuc 7) (pos 7) q order h in
          let apart = steps-apart q (negsuc 6) p (omega (arith, ints)) in
          let next : n +ℤ pos 1 ≡ negsuc 6 = omega (arith, ints) in
          let product : (n +ℤ pos 1) *ℤ pos p ≡ negsuc 6 *ℤ pos p = ap (λ z. z *ℤ pos p) next in
          record { least = omega (arith, ints); most = omega (arith, ints); below = inl same; above = inr (omega (arith, ints)) })
      | inl from ↦ elim (le-or-gt q (pos 7)) [
        | inl h ↦ (
            let same : n ≡ q = e ∙ inside-is (negsuc 7) (pos 7) q from h in
            let apart = steps-apart q (q +ℤ pos 1) p (omega (arith, ints)) in
            let here : n *ℤ pos p ≡ q *ℤ pos p = ap (λ z. z *ℤ pos p) same in
            let next : (n +ℤ pos 1) *ℤ pos p ≡ (q +ℤ pos 1) *ℤ pos p = ap (λ z. (z +ℤ pos 1) *ℤ pos p) same in
            record { least = omega (arith, ints); most = omega (arith, ints); below = inr (omega (arith, ints)); above = inr (omega (arith, ints)) })
        | inr h ↦ (
            let same : n ≡ pos 7 = e ∙ high-is (negsuc 7) (pos 7) q order h in
            let apart = steps-apart (pos 7) q p h in
            let here : n *ℤ pos p ≡ pos 7 *ℤ pos p = ap (λ z. z *ℤ pos p) same in
            record { least = omega (arith, ints); most = omega (arith, ints); below = inr (omega (arith, ints)); above = inl same })
      ]
    ]

-- so the floored quotient is
pub lower-is : (p : ℕ) (wanted : ℤ) → 0 < p → IsLower p wanted (within_of (negsuc 7) (pos 7) (floor_of wanted p))
lower-is p wanted some =
    let low = floor-low wanted p some in
    let high = floor-high wanted p some in
    let swap = swap-product (floor_of wanted p) p in
    lower-by p wanted (floor_of wanted p) _ some (omega (arith, ints)) (omega (arith, ints)) refl

-- multiples are in the order of the numbers
pub in-order : (v n : ℤ) (p : ℕ) → v ≤ℤ n → (v *ℤ pos p) ≤ℤ (n *ℤ pos p)
in-order (pos a) (pos b) p h = let le : a ≤ b = omega (arith, ints) in let m : a * p ≤ b * p = mul-le-mul_right p le in omega (arith, ints)
in-order (pos a) (negsuc b) p h = absurd (omega (arith, ints))
in-order (negsuc a) (pos b) p h = omega (arith, ints)
in-order (negsuc a) (negsuc b) p h = let le : suc b ≤ suc a = omega (arith, ints) in let m : suc b * p ≤ suc a * p = mul-le-mul_right p le in omega (arith, ints)
