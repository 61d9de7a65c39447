-- The quick sums are the least over all sixteen codes.
use Rattle.std.proofs.lemmas.List.{get_or-set_other, get_or-set_same}
use Rattle.std.proofs.Common.{◌≢◌, length, set, below_more, ◌≡◌, ℕ, zero, suc, ◌+◌, ◌-◌, ◌*◌, ◌/◌, ◌%◌, ◌<◌, ◌≤◌, List, get_or, arith, refl, ap, sym, ◌∙◌, subst, inl, inr, ◌⊎◌, min, true, false}
use Rattle.std.specs.Prelude.{ℤ, pos, negsuc, ◌-ℤ◌, ◌≤ℤ◌, nat_lt, unsigned_abs, if◌then◌else◌}
use Rattle.std.proofs.lemmas.Int.{ints}
use Rattle.std.proofs.lemmas.Bool.{cases_Bool, cases_lt, cond-true, cond-false, lt-ltb, le-ltb}
use Rattle.std.proofs.Math.Nat.{mul-le-mul}
use Rattle.adpcm_nums.specs.Nums.{square_of}
use Rattle.adpcm_nums.specs.LeastValue.{least}
use Rattle.machine_core.specs.Floors.{top}
use Rattle.adpcm_nums.proofs.LeastValueLaws.{least-below, least-glb}
use Rattle.ima_machine.specs.Steps.{step_size, share_of, distance_of, difference_of, next_index}
use Rattle.ima_machine.specs.Floors.{half_up, end_of, pair_floor}
use Rattle.ima_machine.specs.Rows.{ahead_of, paid_ahead}
use Rattle.ima_machine.proofs.LowBits.{next-low, distance-low}
use Rattle.ima_machine.specs.Quick.{gap, miss_of, small_miss, ends_of, half_cost, quick_open, quick_paid}

miss-low : (index code rise : ℕ) → miss_of index code rise ≡ miss_of index (code % 8) rise
unfolding miss_of
miss-low index code rise = ap (λ d. gap d rise) (distance-low (step_size index) code)

half-rises : (x y : ℕ) → x ≤ y → half_up (x * x) ≤ half_up (y * y)
half-rises x y h = let square : x * x ≤ y * y = mul-le-mul h h in omega (arith, square)

min-first : (a b : ℕ) → min a b ≤ a
min-first a b = omega arith

min-second : (a b : ℕ) → min a b ≤ b
min-second a b = omega arith

both-less : (a b c d : ℕ) → a ≤ c → b ≤ d → min a b ≤ min c d
both-less a b c d h k = omega arith

-- by its sign a code's difference misses by at least its distance's miss
pair-up : (before here : ℤ) (index code : ℕ) → nat_lt code 8 ≡ true → pair_floor before here index code ≡ min (half_up (square_of (pos (distance_of (step_size index) code) -ℤ (here -ℤ before)))) (square_of (pos 32767 -ℤ here))
unfolding pair_floor difference_of
pair-up before here index code up =
    ap (λ d. min (half_up (square_of (d -ℤ (here -ℤ before)))) (square_of (end_of code -ℤ here))) (cond-true _ _ _ up)
    ∙ ap (λ e. min (half_up (square_of (pos (distance_of (step_size index) code) -ℤ (here -ℤ before)))) (square_of (e -ℤ here))) (cond-true _ _ _ up)

pair-down : (before here : ℤ) (index code : ℕ) → nat_lt code 8 ≡ false → pair_floor before here index code ≡ min (half_up (square_of ((pos 0 -ℤ pos (distance_of (step_size index) code)) -ℤ (here -ℤ before)))) (square_of (negsuc 32767 -ℤ here))
unfolding pair_floor difference_of
pair-down before here index code down =
    ap (λ d. min (half_up (square_of (d -ℤ (here -ℤ before)))) (square_of (end_of code -ℤ here))) (cond-false _ _ _ down)
    ∙ ap (λ e. min (half_up (square_of ((pos 0 -ℤ pos (distance_of (step_size index) code)) -ℤ (here -ℤ before)))) (square_of (e -ℤ here))) (cond-false _ _ _ down)

gap-up : (d : ℕ) (before here : ℤ) → gap d (unsigned_abs (here -ℤ before)) ≤ unsigned_abs (pos d -ℤ (here -ℤ before))
gap-up d before here = omega (arith, ints)

gap-down : (d : ℕ) (before here : ℤ) → gap d (unsigned_abs (here -ℤ before)) ≤ unsigned_abs ((pos 0 -ℤ pos d) -ℤ (here -ℤ before))
gap-down d before here = omega (arith, ints)

sign : (x : ℤ) → (pos 0 ≤ℤ x) ⊎ (x ≤ℤ pos 0)
sign x = grind (arith, ints)

-- and one of the signs misses by no more
gap-one : (d : ℕ) (before here : ℤ) → (unsigned_abs (pos d -ℤ (here -ℤ before)) ≡ gap d (unsigned_abs (here -ℤ before))) ⊎ (unsigned_abs ((pos 0 -ℤ pos d) -ℤ (here -ℤ before)) ≡ gap d (unsigned_abs (here -ℤ before)))
gap-one d before here = elim (sign (here -ℤ before)) as (λ _. (unsigned_abs (pos d -ℤ (here -ℤ before)) ≡ gap d (unsigned_abs (here -ℤ before))) ⊎ (unsigned_abs ((pos 0 -ℤ pos d) -ℤ (here -ℤ before)) ≡ gap d (unsigned_abs (here -ℤ before)))) [
  | inl up ↦ inl (omega (arith, ints))
  | inr down ↦ inr (omega (arith, ints))
]

half-below : (before here : ℤ) (index code : ℕ) → half_cost (ends_of here) (miss_of index code (unsigned_abs (here -ℤ before))) ≤ pair_floor before here index code
unfolding half_cost miss_of ends_of
half-below before here index code =
    let d = distance_of (step_size index) code in
    elim (cases_Bool (nat_lt code 8)) [
      | inl up ↦ (
          let less = both-less _ _ _ _ (half-rises _ _ (gap-up d before here)) (min-first (square_of (pos 32767 -ℤ here)) (square_of (negsuc 32767 -ℤ here))) in
          omega (arith, less, pair-up before here index code up))
      | inr down ↦ (
          let less = both-less _ _ _ _ (half-rises _ _ (gap-down d before here)) (min-second (square_of (pos 32767 -ℤ here)) (square_of (negsuc 32767 -ℤ here))) in
          omega (arith, less, pair-down before here index code down))
    ]

four : (a b c d m x : ℕ) → x ≤ min a b → x ≤ min c d → (a ≡ m) ⊎ (c ≡ m) → x ≤ min m (min b d)
four a b c d m x h k e = elim e [ inl p ↦ omega arith | inr p ↦ omega arith ]

-- what is no more than both codes cost is no more than the half cost
below-half : (before here : ℤ) (index code x : ℕ) → code < 8 → x ≤ pair_floor before here index code → x ≤ pair_floor before here index (code + 8)
    → x ≤ half_cost (ends_of here) (miss_of index code (unsigned_abs (here -ℤ before)))
unfolding half_cost miss_of ends_of
below-half before here index code x small h k =
    let d = distance_of (step_size index) code in
    let low : (code + 8) % 8 ≡ code % 8 = omega arith in
    let same : distance_of (step_size index) (code + 8) ≡ d = distance-low (step_size index) (code + 8) ∙ ap (distance_of (step_size index)) low ∙ sym (distance-low (step_size index) code) in
    let up = pair-up before here index code (lt-ltb code 8 small) in
    let down = pair-down before here index (code + 8) (le-ltb (code + 8) 8 (omega arith))
    ∙ ap (λ e. min (half_up (square_of ((pos 0 -ℤ pos e) -ℤ (here -ℤ before)))) (square_of (negsuc 32767 -ℤ here))) same in
    let one : (half_up (square_of (pos d -ℤ (here -ℤ before))) ≡ half_up (gap d (unsigned_abs (here -ℤ before)) * gap d (unsigned_abs (here -ℤ before))))
    ⊎ (half_up (square_of ((pos 0 -ℤ pos d) -ℤ (here -ℤ before))) ≡ half_up (gap d (unsigned_abs (here -ℤ before)) * gap d (unsigned_abs (here -ℤ before)))) =
    elim (gap-one d before here) as (λ _. (half_up (square_of (pos d -ℤ (here -ℤ before))) ≡ half_up (gap d (unsigned_abs (here -ℤ before)) * gap d (unsigned_abs (here -ℤ before))))
    ⊎ (half_up (square_of ((pos 0 -ℤ pos d) -ℤ (here -ℤ before))) ≡ half_up (gap d (unsigned_abs (here -ℤ before)) * gap d (unsigned_abs (here -ℤ before))))) [
      | inl e ↦ inl (ap (λ n. half_up (n * n)) e)
      | inr e ↦ inr (ap (λ n. half_up (n * n)) e)
    ] in
    four _ _ _ _ _ x (subst (λ (n : ℕ). x ≤ n) up h) (subst (λ (n : ℕ). x ≤ n) down k) one

half-monotone : (ends x y : ℕ) → x ≤ y → half_cost ends x ≤ half_cost ends y
unfolding half_cost
half-monotone ends x y h = let up = half-rises x y h in omega (arith, up)

half-min : (ends x y : ℕ) → half_cost ends (min x y) ≡ min (half_cost ends x) (half_cost ends y)
half-min ends x y = elim (cases_lt x y) [
  | inl less ↦ (let m : min x y ≡ x = omega arith in let e = ap (half_cost ends) m in let h = half-monotone ends x y (omega arith) in omega (arith, e, h))
  | inr more ↦ (let m : min x y ≡ y = omega arith in let e = ap (half_cost ends) m in let h = half-monotone ends y x more in omega (arith, e, h))
]

half-small : (ends index rise : ℕ) → half_cost ends (small_miss index rise)
    ≡ min (min (half_cost ends (miss_of index 0 rise)) (half_cost ends (miss_of index 1 rise))) (min (half_cost ends (miss_of index 2 rise)) (half_cost ends (miss_of index 3 rise)))
unfolding small_miss
half-small ends index rise =
    half-min ends _ _ ∙ ap (λ x. min x (half_cost ends (min (miss_of index 2 rise) (miss_of index 3 rise)))) (half-min ends _ _)
    ∙ ap (min (min (half_cost ends (miss_of index 0 rise)) (half_cost ends (miss_of index 1 rise)))) (half-min ends _ _)

-- the five next indices
next-small : (index code : ℕ) → code < 4 → next_index index code ≡ index - 1
unfolding next_index
next-small index code h = let low : code % 8 < 4 = omega arith in cond-true _ _ _ (lt-ltb (code % 8) 4 low)

next-4 : (index : ℕ) → next_index index 4 ≡ min 88 (index + 2)
unfolding next_index
next-4 index = refl

next-5 : (index : ℕ) → next_index index 5 ≡ min 88 (index + 4)
unfolding next_index
next-5 index = refl

next-6 : (index : ℕ) → next_index index 6 ≡ min 88 (index + 6)
unfolding next_index
next-6 index = refl

next-7 : (index : ℕ) → next_index index 7 ≡ min 88 (index + 8)
unfolding next_index
next-7 index = refl

ahead-small : (row : List ℕ) (index code : ℕ) → code < 4 → ahead_of row index code ≡ get_or row (index - 1) 0
ahead-small row index code h = ap (λ i. get_or row i 0) (next-small index code h)

-- the five sums
record Sums (rise ends : ℕ) (row : List ℕ) (index q : ℕ) : Type 0 where
  lower : (code : ℕ) → code < 8 → q ≤ half_cost ends (miss_of index code rise) + ahead_of row index code
  greatest : (x : ℕ) → ((code : ℕ) → code < 8 → x ≤ half_cost ends (miss_of index code rise) + ahead_of row index code) → x ≤ q

five-below : (a b c d e : ℕ) → (min (min (min (min a b) c) d) e ≤ a) × (min (min (min (min a b) c) d) e ≤ b) × (min (min (min (min a b) c) d) e ≤ c) × (min (min (min (min a b) c) d) e ≤ d) × (min (min (min (min a b) c) d) e ≤ e)
five-below a b c d e = (omega arith, omega arith, omega arith, omega arith, omega arith)

five-above : (a b c d e x : ℕ) → x ≤ a → x ≤ b → x ≤ c → x ≤ d → x ≤ e → x ≤ min (min (min (min a b) c) d) e
five-above a b c d e x p q r s t = omega arith

four-below : (a b c d z q : ℕ) → q ≤ min (min a b) (min c d) + z → (q ≤ a + z) × (q ≤ b + z) × (q ≤ c + z) × (q ≤ d + z)
four-below a b c d z q h = (omega arith, omega arith, omega arith, omega arith)

four-above : (a b c d z x : ℕ) → x ≤ a + z → x ≤ b + z → x ≤ c + z → x ≤ d + z → x ≤ min (min a b) (min c d) + z
four-above a b c d z x p q r s = omega arith

moved : (q a z w : ℕ) → q ≤ a + z → w ≡ z → q ≤ a + w
moved q a z w h e = omega arith

at-code : (rise ends : ℕ) (row : List ℕ) (index q : ℕ)
    → (q ≤ half_cost ends (miss_of index 0 rise) + get_or row (index - 1) 0) × (q ≤ half_cost ends (miss_of index 1 rise) + get_or row (index - 1) 0) × (q ≤ half_cost ends (miss_of index 2 rise) + get_or row (index - 1) 0) × (q ≤ half_cost ends (miss_of index 3 rise) + get_or row (index - 1) 0)
    → q ≤ half_cost ends (miss_of index 4 rise) + get_or row (min 88 (index + 2)) 0 → q ≤ half_cost ends (miss_of index 5 rise) + get_or row (min 88 (index + 4)) 0
    → q ≤ half_cost ends (miss_of index 6 rise) + get_or row (min 88 (index + 6)) 0 → q ≤ half_cost ends (miss_of index 7 rise) + get_or row (min 88 (index + 8)) 0
    → (code : ℕ) → code < 8 → q ≤ half_cost ends (miss_of index code rise) + ahead_of row index code
at-code rise ends row index q each four five six seven zero h = moved q _ _ _ each.0 (ahead-small row index 0 (omega arith))
at-code rise ends row index q each four five six seven (suc zero) h = moved q _ _ _ each.1 (ahead-small row index 1 (omega arith))
at-code rise ends row index q each four five six seven (suc (suc zero)) h = moved q _ _ _ each.2 (ahead-small row index 2 (omega arith))
at-code rise ends row index q each four five six seven (suc (suc (suc zero))) h = moved q _ _ _ each.3 (ahead-small row index 3 (omega arith))
at-code rise ends row index q each four five six seven (suc (suc (suc (suc zero)))) h = moved q _ _ _ four (ap (λ i. get_or row i 0) (next-4 index))
at-code rise ends row index q each four five six seven (suc (suc (suc (suc (suc zero))))) h = moved q _ _ _ five (ap (λ i. get_or row i 0) (next-5 index))
at-code rise ends row index q each four five six seven (suc (suc (suc (suc (suc (suc zero)))))) h = moved q _ _ _ six (ap (λ i. get_or row i 0) (next-6 index))
at-code rise ends row index q each four five six seven (suc (suc (suc (suc (suc (suc (suc zero))))))) h = moved q _ _ _ seven (ap (λ i. get_or row i 0) (next-7 index))
at-code rise ends row index q each four five six seven (suc (suc (suc (suc (suc (suc (suc (suc k)))))))) h = absurd (omega arith)

paid-sums : (rise ends : ℕ) (row : List ℕ) (index : ℕ) → Sums rise ends row index (quick_paid rise ends row index)
unfolding quick_paid
paid-sums rise ends row index =
    let five = five-below (half_cost ends (small_miss index rise) + get_or row (index - 1) 0) (half_cost ends (miss_of index 4 rise) + get_or row (min 88 (index + 2)) 0) (half_cost ends (miss_of index 5 rise) + get_or row (min 88 (index + 4)) 0) (half_cost ends (miss_of index 6 rise) + get_or row (min 88 (index + 6)) 0) (half_cost ends (miss_of index 7 rise) + get_or row (min 88 (index + 8)) 0) in
    let q = quick_paid rise ends row index in
    let first = subst (λ (n : ℕ). q ≤ n + get_or row (index - 1) 0) (half-small ends index rise) five.0 in
    let each = four-below _ _ _ _ _ q first in record {
      lower = λ code h. at-code rise ends row index q each five.1 five.2 five.3 five.4 code h;
      greatest = λ x below. five-above _ _ _ _ _ x
          (subst (λ (n : ℕ). x ≤ n + get_or row (index - 1) 0) (sym (half-small ends index rise))
          (four-above _ _ _ _ _ x
          (moved x _ _ _ (below 0 (omega arith)) (sym (ahead-small row index 0 (omega arith))))
          (moved x _ _ _ (below 1 (omega arith)) (sym (ahead-small row index 1 (omega arith))))
          (moved x _ _ _ (below 2 (omega arith)) (sym (ahead-small row index 2 (omega arith))))
          (moved x _ _ _ (below 3 (omega arith)) (sym (ahead-small row index 3 (omega arith))))))
          (moved x _ _ _ (below 4 (omega arith)) (ap (λ i. get_or row i 0) (sym (next-4 index))))
          (moved x _ _ _ (below 5 (omega arith)) (ap (λ i. get_or row i 0) (sym (next-5 index))))
          (moved x _ _ _ (below 6 (omega arith)) (ap (λ i. get_or row i 0) (sym (next-6 index))))
          (moved x _ _ _ (below 7 (omega arith)) (ap (λ i. get_or row i 0) (sym (next-7 index))));
    }

-- each of the sixteen codes goes with its low three bits
all-codes : (before here : ℤ) (row : List ℕ) (index q : ℕ) → Sums (unsigned_abs (here -ℤ before)) (ends_of here) row index q → (code : ℕ) → code < 16 → q ≤ paid_ahead before here row index code
all-codes before here row index q sums code h =
    let rise = unsigned_abs (here -ℤ before) in
    let low = sums.lower (code % 8) (omega arith) in
    let miss = ap (half_cost (ends_of here)) (miss-low index code rise) in
    let ahead : ahead_of row index code ≡ ahead_of row index (code % 8) = ap (λ i. get_or row i 0) (next-low index code) in
    let pair = half-below before here index code in
    omega (arith, low, miss, ahead, pair)

one-code : (before here : ℤ) (row : List ℕ) (index code : ℕ) → code < 8
    → least 16 (paid_ahead before here row index) top ≤ half_cost (ends_of here) (miss_of index code (unsigned_abs (here -ℤ before))) + ahead_of row index code
one-code before here row index code h =
    let x = least 16 (paid_ahead before here row index) top in
    let up = least-below 16 (paid_ahead before here row index) top code (omega arith) in
    let down = least-below 16 (paid_ahead before here row index) top (code + 8) (omega arith) in
    let low : (code + 8) % 8 ≡ code % 8 = omega arith in
    let ahead : ahead_of row index (code + 8) ≡ ahead_of row index code = ap (λ i. get_or row i 0) (next-low index (code + 8) ∙ ap (next_index index) low ∙ sym (next-low index code)) in
    let rest = below-half before here index code (x - ahead_of row index code) h (omega (arith, up)) (omega (arith, down, ahead)) in
    omega (arith, rest)

pub quick-paid-is : (before here : ℤ) (row : List ℕ) (index : ℕ) → quick_paid (unsigned_abs (here -ℤ before)) (ends_of here) row index ≤ top
    → quick_paid (unsigned_abs (here -ℤ before)) (ends_of here) row index ≡ least 16 (paid_ahead before here row index) top
quick-paid-is before here row index cap =
    let rise = unsigned_abs (here -ℤ before) in
    let ends = ends_of here in
    let q = quick_paid rise ends row index in
    let sums = paid-sums rise ends row index in
    let f = paid_ahead before here row index in
    let down : q ≤ least 16 f top = least-glb 16 f top q (λ code h. all-codes before here row index q sums code h) cap in
    let up : least 16 f top ≤ q = sums.greatest (least 16 f top) (λ code h. one-code before here row index code h) in
    omega arith

open-at : (row : List ℕ) (index code : ℕ) → code < 8 → quick_open row index ≤ ahead_of row index code
unfolding quick_open
open-at row index zero h = let five = five-below (get_or row (index - 1) 0) (get_or row (min 88 (index + 2)) 0) (get_or row (min 88 (index + 4)) 0) (get_or row (min 88 (index + 6)) 0) (get_or row (min 88 (index + 8)) 0) in omega (arith, five.0, ahead-small row index 0 (omega arith))
open-at row index (suc zero) h = let five = five-below (get_or row (index - 1) 0) (get_or row (min 88 (index + 2)) 0) (get_or row (min 88 (index + 4)) 0) (get_or row (min 88 (index + 6)) 0) (get_or row (min 88 (index + 8)) 0) in omega (arith, five.0, ahead-small row index 1 (omega arith))
open-at row index (suc (suc zero)) h = let five = five-below (get_or row (index - 1) 0) (get_or row (min 88 (index + 2)) 0) (get_or row (min 88 (index + 4)) 0) (get_or row (min 88 (index + 6)) 0) (get_or row (min 88 (index + 8)) 0) in omega (arith, five.0, ahead-small row index 2 (omega arith))
open-at row index (suc (suc (suc zero))) h = let five = five-below (get_or row (index - 1) 0) (get_or row (min 88 (index + 2)) 0) (get_or row (min 88 (index + 4)) 0) (get_or row (min 88 (index + 6)) 0) (get_or row (min 88 (index + 8)) 0) in omega (arith, five.0, ahead-small row index 3 (omega arith))
open-at row index (suc (suc (suc (suc zero)))) h = let five = five-below (get_or row (index - 1) 0) (get_or row (min 88 (index + 2)) 0) (get_or row (min 88 (index + 4)) 0) (get_or row (min 88 (index + 6)) 0) (get_or row (min 88 (index + 8)) 0) in subst (λ (i : ℕ). quick_open row index ≤ get_or row i 0) (sym (next-4 index)) five.1
open-at row index (suc (suc (suc (suc (suc zero))))) h = let five = five-below (get_or row (index - 1) 0) (get_or row (min 88 (index + 2)) 0) (get_or row (min 88 (index + 4)) 0) (get_or row (min 88 (index + 6)) 0) (get_or row (min 88 (index + 8)) 0) in subst (λ (i : ℕ). quick_open row index ≤ get_or row i 0) (sym (next-5 index)) five.2
open-at row index (suc (suc (suc (suc (suc (suc zero)))))) h = let five = five-below (get_or row (index - 1) 0) (get_or row (min 88 (index + 2)) 0) (get_or row (min 88 (index + 4)) 0) (get_or row (min 88 (index + 6)) 0) (get_or row (min 88 (index + 8)) 0) in subst (λ (i : ℕ). quick_open row index ≤ get_or row i 0) (sym (next-6 index)) five.3
open-at row index (suc (suc (suc (suc (suc (suc (suc zero))))))) h = let five = five-below (get_or row (index - 1) 0) (get_or row (min 88 (index + 2)) 0) (get_or row (min 88 (index + 4)) 0) (get_or row (min 88 (index + 6)) 0) (get_or row (min 88 (index + 8)) 0) in subst (λ (i : ℕ). quick_open row index ≤ get_or row i 0) (sym (next-7 index)) five.4
open-at row index (suc (suc (suc (suc (suc (suc (suc (suc k)))))))) h = absurd (omega arith)

open-lower : (row : List ℕ) (index code : ℕ) → quick_open row index ≤ ahead_of row index code
open-lower row index code =
    let low = open-at row index (code % 8) (omega arith) in
    let ahead : ahead_of row index code ≡ ahead_of row index (code % 8) = ap (λ i. get_or row i 0) (next-low index code) in omega (arith, low, ahead)

open-greatest : (row : List ℕ) (index x : ℕ) → ((code : ℕ) → code < 8 → x ≤ ahead_of row index code) → x ≤ quick_open row index
unfolding quick_open
open-greatest row index x below = five-above _ _ _ _ _ x
    (let h = below 0 (omega arith) in omega (arith, h, ahead-small row index 0 (omega arith)))
    (subst (λ (i : ℕ). x ≤ get_or row i 0) (next-4 index) (below 4 (omega arith)))
    (subst (λ (i : ℕ). x ≤ get_or row i 0) (next-5 index) (below 5 (omega arith)))
    (subst (λ (i : ℕ). x ≤ get_or row i 0) (next-6 index) (below 6 (omega arith)))
    (subst (λ (i : ℕ). x ≤ get_or row i 0) (next-7 index) (below 7 (omega arith)))

-- without the pairs' floors
pub quick-open-is : (row : List ℕ) (index : ℕ) → quick_open row index ≤ top → quick_open row index ≡ least 16 (ahead_of row index) top
quick-open-is row index cap =
    let f = ahead_of row index in
    let q = quick_open row index in
    let down : q ≤ least 16 f top = least-glb 16 f top q (λ code h. open-lower row index code) cap in
    let up : least 16 f top ≤ q = open-greatest row index (least 16 f top) (λ code h. least-below 16 f top code (omega arith)) in
    omega arith

-- what the code found, whose targets' numbers were found before
pub paid-value : (before here : ℤ) (row : List ℕ) (index rise ends v : ℕ) → rise ≡ unsigned_abs (here -ℤ before) → ends ≡ ends_of here → v ≡ quick_paid rise ends row index → v ≤ top
    → v ≡ least 16 (paid_ahead before here row index) top
paid-value before here row index rise ends v r e is cap =
    let same : v ≡ quick_paid (unsigned_abs (here -ℤ before)) (ends_of here) row index = is ∙ ap (λ x. quick_paid x ends row index) r ∙ ap (λ x. quick_paid (unsigned_abs (here -ℤ before)) x row index) e in
    same ∙ quick-paid-is before here row index (subst (λ (n : ℕ). n ≤ top) same cap)

pub open-value : (row : List ℕ) (index v : ℕ) → v ≡ quick_open row index → v ≤ top → v ≡ least 16 (ahead_of row index) top
open-value row index v is cap = is ∙ quick-open-is row index (subst (λ (n : ℕ). n ≤ top) is cap)

-- one more number of a row
pub each-more : (f : ℕ → ℕ) (row : List ℕ) (index v : ℕ) → index < length row → v ≡ f index → ((i : ℕ) → i < index → get_or row i 0 ≡ f i) → (i : ℕ) → i < index + 1 → get_or (set row index v) i 0 ≡ f i
each-more f row index v within is front =
    below_more (λ i. get_or (set row index v) i 0 ≡ f i) index
    (λ i h. let other : i ≢ index = omega arith in get_or-set_other row index i v 0 other ∙ front i h)
    (get_or-set_same row index v 0 within ∙ is)
