-- The nearest multiple by 1 or 2 is that of the floored quotient, brought into the run of numbers.
use Rattle.std.proofs.Common.{◌≡◌, ℕ, ◌-◌, ◌<◌, ◌≤◌, arith, refl, ◌⊎◌, inl, inr, ap, ◌∙◌}
use Rattle.std.specs.Prelude.{ℤ, pos, negsuc, ◌+ℤ◌, ◌-ℤ◌, ◌*ℤ◌, ◌≤ℤ◌, unsigned_abs}
use Rattle.std.proofs.lemmas.Int.{ints}
use Rattle.std.proofs.lemmas.Nat.{div-add-mod'}
use Rattle.adpcm_nums.specs.Nums.{floor_of}
use Rattle.adpcm_nums.specs.Nearest.{within_of, nearest_of, distance_of}
use Rattle.adpcm_nums.proofs.OrderLaws.{le-or-gt, low-is, high-is, inside-is}

-- a floored quotient times its divisor is not above the number, and falls short of it by less than the divisor
pub floor-low : (x : ℤ) (d : ℕ) → 0 < d → (pos d *ℤ floor_of x d) ≤ℤ x
floor-low (pos a) d h = omega (arith, ints, div-add-mod' a d)
floor-low (negsuc a) d h = omega (arith, ints, div-add-mod' a d)

pub floor-high : (x : ℤ) (d : ℕ) → 0 < d → x ≤ℤ (pos d *ℤ floor_of x d +ℤ pos (d - 1))
floor-high (pos a) d h = omega (arith, ints, div-add-mod' a d)
floor-high (negsuc a) d h = omega (arith, ints, div-add-mod' a d)

-- by 2: the number where the floored half lands is nearest
near-two : (lo hi q t y n : ℤ) → lo ≤ℤ y → y ≤ℤ hi → (pos 2 *ℤ q) ≤ℤ t → t ≤ℤ (pos 2 *ℤ q +ℤ pos 1) → n ≡ within_of lo hi q
    → unsigned_abs (pos 2 *ℤ n -ℤ t) ≤ unsigned_abs (pos 2 *ℤ y -ℤ t)
near-two lo hi q t y n a b c d e =
    elim (le-or-gt lo q) [
      | inr below ↦ (let s = low-is lo hi q (omega (arith, ints)) below in omega (arith, ints))
      | inl above ↦ elim (le-or-gt q hi) [
        | inr over ↦ (let s = high-is lo hi q (omega (arith, ints)) over in omega (arith, ints))
        | inl under ↦ (let s = inside-is lo hi q above under in grind (arith, ints))
      ]
    ]

-- by 1: the number where the target itself lands
near-one : (lo hi q t y n : ℤ) → lo ≤ℤ y → y ≤ℤ hi → q ≡ t → n ≡ within_of lo hi q
    → unsigned_abs (pos 1 *ℤ n -ℤ t) ≤ unsigned_abs (pos 1 *ℤ y -ℤ t)
near-one lo hi q t y n a b c e =
    elim (le-or-gt lo q) [
      | inr below ↦ (let s = low-is lo hi q (omega (arith, ints)) below in omega (arith, ints))
      | inl above ↦ elim (le-or-gt q hi) [
        | inr over ↦ (let s = high-is lo hi q (omega (arith, ints)) over in omega (arith, ints))
        | inl under ↦ (let s = inside-is lo hi q above under in omega (arith, ints))
      ]
    ]

-- a number divided by 1 is itself
pub floored_one : (t : ℤ) → floor_of t 1 ≡ t
floored_one t = let l = floor-low t 1 (omega arith) in let h = floor-high t 1 (omega arith) in omega (arith, ints)

-- no multiple is nearer
pub distance-least : (lo hi scale t y : ℤ) → (scale ≡ pos 1) ⊎ (scale ≡ pos 2) → lo ≤ℤ y → y ≤ℤ hi → distance_of lo hi scale t ≤ unsigned_abs (scale *ℤ y -ℤ t)
distance-least lo hi scale t y (inl e) a b = rw e (near-one lo hi (floor_of t 1) t y (nearest_of lo hi (pos 1) t) a b (floored_one t) refl)
distance-least lo hi scale t y (inr e) a b =
    let l = floor-low t 2 (omega arith) in let h = floor-high t 2 (omega arith) in
    rw e (near-two lo hi (floor_of t 2) t y (nearest_of lo hi (pos 2) t) a b l h refl)

-- what the code computes
pub distance-is : (lo hi scale t n m : ℤ) (r : ℕ) → n ≡ nearest_of lo hi scale t → m ≡ scale *ℤ n → r ≡ unsigned_abs (m -ℤ t)
    → r ≡ distance_of lo hi scale t
distance-is lo hi scale t n m r e p q = q ∙ ap (λ x. unsigned_abs (x -ℤ t)) (p ∙ ap (λ x. scale *ℤ x) e)
