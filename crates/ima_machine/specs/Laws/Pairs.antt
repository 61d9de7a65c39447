-- The floor of a pair of places is below what they cost.
use Rattle.std.proofs.Common.{◌≡◌, ℕ, ◌+◌, ◌-◌, ◌*◌, ◌^◌, ◌≤◌, arith, ap, subst, inl, inr, ◌⊎◌, min}
use Rattle.std.specs.Prelude.{ℤ, pos, negsuc, ◌+ℤ◌, ◌-ℤ◌, ◌*ℤ◌, ◌≤ℤ◌, ◌<ℤ◌, nat_lt, unsigned_abs}
use Rattle.std.proofs.lemmas.Int.{ints, clamps}
use Rattle.std.proofs.lemmas.Bool.{cases_lt, cases_Bool, cond-true, cond-false}
use Rattle.std.proofs.Math.Nat.{mul-le-mul}
use Rattle.adpcm_nums.specs.Nums.{clamp16_of, square_of}
use Rattle.adpcm_nums.specs.Sample.{IsSample}
use Rattle.adpcm_nums.proofs.OrderLaws.{le-or-gt, low-is, high-is, inside-is}
use Rattle.ima_machine.specs.Steps.{difference_of, distance_of, step_size}
use Rattle.ima_machine.specs.Floors.{half_up, end_of, pair_floor}

squares-apart : (x e : ℕ) → (x + (x + e)) * (x + (x + e)) ≤ 2 * (x * x + (x + e) * (x + e))
squares-apart x e = omega arith

squares : (x y : ℕ) → (x + y) * (x + y) ≤ 2 * (x * x + y * y)
squares x y = elim (cases_lt x y) [
  | inl less ↦ (let apart = squares-apart x (y - x) in let e : x + (y - x) ≡ y = omega arith in subst (λ (z : ℕ). (x + z) * (x + z) ≤ 2 * (x * x + z * z)) e apart)
  | inr more ↦ (let apart = squares-apart y (x - y) in let e : y + (x - y) ≡ x = omega arith in
      let swapped : (y + x) * (y + x) ≤ 2 * (y * y + x * x) = subst (λ (z : ℕ). (y + z) * (y + z) ≤ 2 * (y * y + z * z)) e apart in omega arith)
]

-- two errors that differ by e cost at least half of e squared
half-square : (e a b : ℕ) → e ≤ a + b → half_up (e * e) ≤ a * a + b * b
half-square e a b h = let large : e * e ≤ (a + b) * (a + b) = mul-le-mul h h in let both = squares a b in omega arith

min-left : (a b c : ℕ) → a ≤ c → min a b ≤ c
min-left a b c h = omega arith

min-right : (a b c : ℕ) → b ≤ c → min a b ≤ c
min-right a b c h = omega arith

ends : negsuc 32767 ≤ℤ pos 32767
ends = omega (arith, ints)

abbrev paid : ℤ → ℤ → ℕ
paid y target = square_of (pos 1 *ℤ y -ℤ target)

-- without clamping the errors differ by what the code and the targets say
unclamped : (y before here d z : ℤ) → z ≡ y +ℤ d → half_up (square_of (d -ℤ (here -ℤ before))) ≤ paid y before + paid z here
unclamped y before here d z e = half-square _ _ _ (omega (arith, ints))

at-end : (end y before here z : ℤ) → z ≡ end → square_of (end -ℤ here) ≤ paid y before + paid z here
at-end end y before here z e = let same : pos 1 *ℤ z -ℤ here ≡ end -ℤ here = omega (arith, ints) in let cost = ap square_of same in omega (arith, cost)

rises : (y before here : ℤ) (m : ℕ) → IsSample y
    → min (half_up (square_of (pos m -ℤ (here -ℤ before)))) (square_of (pos 32767 -ℤ here)) ≤ paid y before + paid (clamp16_of (y +ℤ pos m)) here
rises y before here m sample =
    let lowest = sample.low in
    elim (le-or-gt (y +ℤ pos m) (pos 32767)) [
      | inl inside ↦ min-left _ _ _ (unclamped y before here (pos m) _ (inside-is (negsuc 32767) (pos 32767) (y +ℤ pos m) (omega (arith, ints)) inside))
      | inr over ↦ min-right _ _ _ (at-end (pos 32767) y before here _ (high-is (negsuc 32767) (pos 32767) (y +ℤ pos m) ends over))
    ]

falls : (y before here : ℤ) (m : ℕ) → IsSample y
    → min (half_up (square_of ((pos 0 -ℤ pos m) -ℤ (here -ℤ before)))) (square_of (negsuc 32767 -ℤ here)) ≤ paid y before + paid (clamp16_of (y +ℤ (pos 0 -ℤ pos m))) here
falls y before here m sample =
    let highest = sample.high in
    elim (le-or-gt (negsuc 32767) (y +ℤ (pos 0 -ℤ pos m))) [
      | inl inside ↦ min-left _ _ _ (unclamped y before here (pos 0 -ℤ pos m) _ (inside-is (negsuc 32767) (pos 32767) (y +ℤ (pos 0 -ℤ pos m)) inside (omega (arith, ints))))
      | inr under ↦ min-right _ _ _ (at-end (negsuc 32767) y before here _ (low-is (negsuc 32767) (pos 32767) (y +ℤ (pos 0 -ℤ pos m)) ends under))
    ]

pub pair-below : (y before here : ℤ) (index code : ℕ) → IsSample y
    → pair_floor before here index code ≤ square_of (pos 1 *ℤ y -ℤ before) + square_of (pos 1 *ℤ clamp16_of (y +ℤ difference_of index code) -ℤ here)
unfolding pair_floor difference_of
pair-below y before here index code sample =
    elim (cases_Bool (nat_lt code 8)) [
      | inl up ↦ rw up (rises y before here (distance_of (step_size index) code) sample)
      | inr down ↦ rw down (falls y before here (distance_of (step_size index) code) sample)
    ]

-- and small
far-end : (end here : ℤ) → (end ≡ pos 32767) ⊎ (end ≡ negsuc 32767) → IsSample here → unsigned_abs (end -ℤ here) ≤ 2 ^ 16
far-end end here e sample = let lo = sample.low in let hi = sample.high in elim e [ inl a ↦ omega (arith, ints) | inr b ↦ omega (arith, ints) ]

an-end : (code : ℕ) → (end_of code ≡ pos 32767) ⊎ (end_of code ≡ negsuc 32767)
an-end code = elim (cases_Bool (nat_lt code 8)) as (λ _. (end_of code ≡ pos 32767) ⊎ (end_of code ≡ negsuc 32767)) [ inl up ↦ inl (cond-true _ _ _ up) | inr down ↦ inr (cond-false _ _ _ down) ]

pub end_small : (code : ℕ) (here : ℤ) → IsSample here → square_of (end_of code -ℤ here) ≤ 2 ^ 32
end_small code here sample =
    let near = far-end (end_of code) here (an-end code) sample in
    let square : square_of (end_of code -ℤ here) ≤ 2 ^ 16 * 2 ^ 16 = mul-le-mul near near in
    omega (arith, square)

pub pair_small : (before here : ℤ) (index code : ℕ) → IsSample here → pair_floor before here index code ≤ 2 ^ 32
unfolding pair_floor
pair_small before here index code sample = min-right _ _ _ (end_small code here sample)
