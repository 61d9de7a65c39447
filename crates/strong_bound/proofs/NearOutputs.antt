-- Outputs that are further from a target than the nearest ones.
use Rattle.std.proofs.Common.{◌≡◌, ℕ, ◌*◌, ◌≤◌, arith, ap, sym, subst, ◌∙◌, inl, inr, unsigned_abs}
use Rattle.std.specs.Prelude.{◌⊎◌, ℤ, pos, negsuc, ◌+ℤ◌, ◌-ℤ◌, ◌*ℤ◌, ◌≤ℤ◌, ◌<ℤ◌}
use Rattle.std.proofs.lemmas.Int.{ints}
use Rattle.std.proofs.Math.Nat.{mul-le-mul}
use Rattle.adpcm_nums.specs.Nums.{floor_of, square_of}
use Rattle.adpcm_nums.proofs.NearestLaws.{floor-low, floor-high}
use Rattle.strong_bound.specs.Quiet.{tried, far_cost, IsNear}

squares : (n x : ℕ) → 16 * n ≤ x → 256 * (n * n) ≤ x * x
squares n x h = let k = mul-le-mul h h in let e : 16 * n * (16 * n) ≡ 256 * (n * n) = omega arith in omega (arith, k, e)

low-one : (t q y : ℤ) → (pos 1 *ℤ q) ≤ℤ t → y <ℤ (q -ℤ pos 16) → 16 * 1 ≤ unsigned_abs (pos 1 *ℤ y -ℤ t)
low-one t q y h k = omega (arith, ints, h, k)

low-two : (t q y : ℤ) → (pos 2 *ℤ q) ≤ℤ t → y <ℤ (q -ℤ pos 16) → 16 * 2 ≤ unsigned_abs (pos 2 *ℤ y -ℤ t)
low-two t q y h k = omega (arith, ints, h, k)

high-one : (t q y : ℤ) → t ≤ℤ (pos 1 *ℤ q +ℤ pos 0) → (q +ℤ pos 17) ≤ℤ y → 16 * 1 ≤ unsigned_abs (pos 1 *ℤ y -ℤ t)
high-one t q y h k = omega (arith, ints, h, k)

high-two : (t q y : ℤ) → t ≤ℤ (pos 2 *ℤ q +ℤ pos 1) → (q +ℤ pos 17) ≤ℤ y → 16 * 2 ≤ unsigned_abs (pos 2 *ℤ y -ℤ t)
high-two t q y h k = omega (arith, ints, h, k)

-- below the first of those
below-first : (scale t first y : ℤ) → (scale ≡ pos 1) ⊎ (scale ≡ pos 2) → first ≡ floor_of t (unsigned_abs scale) -ℤ pos 16 → y <ℤ first → far_cost scale ≤ square_of (scale *ℤ y -ℤ t)
below-first scale t first y is e h = elim is [
  | inl one ↦ subst (λ (s : ℤ). first ≡ floor_of t (unsigned_abs s) -ℤ pos 16 → far_cost s ≤ square_of (s *ℤ y -ℤ t)) (sym one)
      (λ e. squares 1 _ (low-one t (floor_of t 1) y (floor-low t 1 (omega arith)) (subst (λ (z : ℤ). y <ℤ z) e h))) e
  | inr two ↦ subst (λ (s : ℤ). first ≡ floor_of t (unsigned_abs s) -ℤ pos 16 → far_cost s ≤ square_of (s *ℤ y -ℤ t)) (sym two)
      (λ e. squares 2 _ (low-two t (floor_of t 2) y (floor-low t 2 (omega arith)) (subst (λ (z : ℤ). y <ℤ z) e h))) e
]

above : (q y first : ℤ) → first ≡ q -ℤ pos 16 → (first +ℤ pos tried) ≤ℤ y → (q +ℤ pos 17) ≤ℤ y
above q y first e h = omega (arith, ints, e, h)

-- above the last of them
above-last : (scale t first y : ℤ) → (scale ≡ pos 1) ⊎ (scale ≡ pos 2) → first ≡ floor_of t (unsigned_abs scale) -ℤ pos 16 → (first +ℤ pos tried) ≤ℤ y → far_cost scale ≤ square_of (scale *ℤ y -ℤ t)
above-last scale t first y is e h = elim is [
  | inl one ↦ subst (λ (s : ℤ). first ≡ floor_of t (unsigned_abs s) -ℤ pos 16 → far_cost s ≤ square_of (s *ℤ y -ℤ t)) (sym one)
      (λ e. squares 1 _ (high-one t (floor_of t 1) y (floor-high t 1 (omega arith)) (above (floor_of t 1) y first e h))) e
  | inr two ↦ subst (λ (s : ℤ). first ≡ floor_of t (unsigned_abs s) -ℤ pos 16 → far_cost s ≤ square_of (s *ℤ y -ℤ t)) (sym two)
      (λ e. squares 2 _ (high-two t (floor_of t 2) y (floor-high t 2 (omega arith)) (above (floor_of t 2) y first e h))) e
]

-- the outputs from sixteen before the quotient on
pub are-near : (scale t q first : ℤ) → (scale ≡ pos 1) ⊎ (scale ≡ pos 2) → q ≡ floor_of t (unsigned_abs scale) → negsuc 32767 ≤ℤ floor_of t (unsigned_abs scale) → floor_of t (unsigned_abs scale) ≤ℤ pos 32767
    → first ≡ q -ℤ pos 16 → IsNear scale t first
are-near scale t q first is e low high f =
    let at : first ≡ floor_of t (unsigned_abs scale) -ℤ pos 16 = f ∙ ap (λ (z : ℤ). z -ℤ pos 16) e in record {
      low = omega (arith, ints, at, low);
      high = omega (arith, ints, at, high);
      below = λ y h. below-first scale t first y is at h;
      above = λ y h. above-last scale t first y is at h;
    }

-- the same in other words
pub near-as : (s t f scale target first : ℤ) → s ≡ scale → t ≡ target → f ≡ first → IsNear s t f → IsNear scale target first
near-as s t f scale target first d e g near =
    subst (λ (z : ℤ). IsNear z target first) d (subst (λ (z : ℤ). IsNear s z first) e (subst (λ (z : ℤ). IsNear s t z) g near))

-- what an output costs, in other words
pub costs-as : (cost : ℕ) (s y t scale output target : ℤ) → s ≡ scale → y ≡ output → t ≡ target → cost ≤ square_of (s *ℤ y -ℤ t) → cost ≤ square_of (scale *ℤ output -ℤ target)
costs-as cost s y t scale output target d e g h =
    subst (λ (z : ℤ). cost ≤ square_of (z *ℤ output -ℤ target)) d (subst (λ (z : ℤ). cost ≤ square_of (s *ℤ z -ℤ target)) e (subst (λ (z : ℤ). cost ≤ square_of (s *ℤ y -ℤ z)) g h))
