-- Where every window and every single place is worth at most what its places cost, the floor from any place is at most what comes from there on.
use Rattle.std.proofs.Common.{◌≡◌, ◌≢◌, ℕ, zero, suc, ◌+◌, ◌-◌, ◌*◌, ◌/◌, ◌%◌, ◌<◌, ◌≤◌, arith, refl, ap, ◌∙◌, inl, inr, ◌⊎◌, Bool, true, false}
use Rattle.std.specs.Prelude.{nat_le, ◌==◌, if◌then◌else◌}
use Rattle.std.proofs.lemmas.Bool.{le-leb, lt-leb, eq-eqb, ne_eqb, cond-true, cond-false, cases_lt}
use Rattle.std.proofs.lemmas.Nat.{div-add-mod', mod-mul-add}
use Rattle.std.proofs.Math.Nat.{lt_of_mul-lt-mul_right, mul-le-mul_right}
use Rattle.adpcm_nums.specs.RangeSum.{sum_range}
use Rattle.adpcm_nums.proofs.RangeSumLaws.{sum_range-add, sum_range-next, sum_range-small}
use Rattle.window_floor.specs.Cut.{own_floor, cut_floor}

-- what begins at a place: a single place, a window, or nothing
pub own-single : (places size : ℕ) (window single : ℕ → ℕ) (p : ℕ) → places - places % size ≤ p → own_floor places size window single p ≡ single p
unfolding own_floor
own-single places size window single p h = cond-true _ _ _ (le-leb _ _ h)

-- a window where one begins
own-window : (places size : ℕ) (window single : ℕ → ℕ) (p : ℕ) → p < places - places % size → p % size ≡ 0 → own_floor places size window single p ≡ window p
unfolding own_floor
own-window places size window single p h e = cond-false _ _ _ (lt-leb _ _ h) ∙ cond-true _ _ _ (eq-eqb _ _ e)

-- nothing within a window
own-none : (places size : ℕ) (window single : ℕ → ℕ) (p : ℕ) → p < places - places % size → 0 < p % size → own_floor places size window single p ≡ 0
unfolding own_floor
own-none places size window single p h e = let other : p % size ≢ 0 = λ z. omega arith in cond-false _ _ _ (lt-leb _ _ h) ∙ cond-false _ _ _ (ne_eqb _ _ other)

-- of two multiples of a size the greater one is greater by the size
multiples-apart : (size a b : ℕ) → a * size < b * size → a * size + size ≤ b * size
multiples-apart size a b h = let less = lt_of_mul-lt-mul_right size h in let both : suc a * size ≤ b * size = mul-le-mul_right size less in omega (arith, both)

-- a window that begins before the single places ends before them
pub window-fits : (places size p : ℕ) → p < places - places % size → p % size ≡ 0 → p + size ≤ places - places % size
window-fits places size p h e =
    let whole = div-add-mod' places size in let here = div-add-mod' p size in
    let apart = multiples-apart size (p / size) (places / size) (omega (arith, whole, here, h, e)) in omega (arith, whole, here, e, apart)

-- within a window nothing begins
inside-window : (size p k : ℕ) → p % size ≡ 0 → k < size → (p + k) % size ≡ k
inside-window size p k e h =
    let here = div-add-mod' p size in let same : p + k ≡ p / size * size + k = omega (arith, here, e) in ap (λ z. z % size) same ∙ mod-mul-add (p / size) size k h

-- so the places of a window sum to its floor
window-sum : (places size rest : ℕ) (window single : ℕ → ℕ) (p : ℕ) → size ≡ suc rest → p < places - places % size → p % size ≡ 0
    → sum_range (own_floor places size window single) p size ≡ window p
window-sum places size rest window single p s h e =
    let fits = window-fits places size p h e in
    let none : (k : ℕ) → k < rest → own_floor places size window single (suc p + k) ≤ 0 =
    λ k below. (let moved : suc p + k ≡ p + suc k = omega arith in
    let inside : (suc p + k) % size ≡ suc k = ap (λ z. z % size) moved ∙ inside-window size p (suc k) e (omega arith) in
    let zero' = own-none places size window single (suc p + k) (omega arith) (omega arith) in omega (arith, zero')) in
    let small = sum_range-small (own_floor places size window single) 0 (suc p) rest none in
    let first = own-window places size window single p h e in
    let split : sum_range (own_floor places size window single) p size ≡ own_floor places size window single p + sum_range (own_floor places size window single) (suc p) rest =
    ap (sum_range (own_floor places size window single) p) s in
    omega (arith, split, first, small)

-- a number is 0 or above it
zero-or-more : (n : ℕ) → (n ≡ 0) ⊎ (0 < n)
zero-or-more n = grind arith

-- with fuel, since a window goes on by its size
rest-below : (places size rest : ℕ) (window single cost : ℕ → ℕ) (from : ℕ) → size ≡ suc rest
    → ((p : ℕ) → from ≤ p → p + size ≤ places → window p ≤ sum_range cost p size)
    → ((p : ℕ) → from ≤ p → p < places → single p ≤ cost p)
    → (fuel p n : ℕ) → from ≤ p → p + n ≡ places → n ≤ fuel → sum_range (own_floor places size window single) p n ≤ sum_range cost p n
rest-below places size rest window single cost from s windows singles fuel p zero a e f = omega arith
rest-below places size rest window single cost from s windows singles zero p (suc n) a e f = absurd (omega arith)
rest-below places size rest window single cost from s windows singles (suc fuel) p (suc n) a e f =
    let later = rest-below places size rest window single cost from s windows singles fuel (suc p) n (omega arith) (omega arith) (omega arith) in
    elim (cases_lt p (places - places % size)) [
      | inr left ↦ (let own = own-single places size window single p left in let paid = singles p a (omega arith) in omega (arith, later, own, paid))
      | inl within ↦ elim (zero-or-more (p % size)) [
        | inr inside ↦ (let own = own-none places size window single p within inside in omega (arith, later, own))
        | inl begins ↦ (
            let fits = window-fits places size p within begins in
            let paid = windows p a (omega arith) in
            let own = window-sum places size rest window single p s within begins in
            let count : suc n ≡ size + (suc n - size) = omega arith in
            let mine = ap (sum_range (own_floor places size window single) p) count ∙ sum_range-add (own_floor places size window single) p size (suc n - size) (p + size) refl in
            let costs = ap (sum_range cost p) count ∙ sum_range-add cost p size (suc n - size) (p + size) refl in
            let ih = rest-below places size rest window single cost from s windows singles fuel (p + size) (suc n - size) (omega arith) (omega arith) (omega arith) in
            omega (arith, mine, costs, own, paid, ih))
      ]
    ]

-- so from any place the floor is at most what comes from there on
pub cut-below : (places size rest : ℕ) (window single cost : ℕ → ℕ) (from : ℕ) → size ≡ suc rest
    → ((p : ℕ) → from ≤ p → p + size ≤ places → window p ≤ sum_range cost p size)
    → ((p : ℕ) → from ≤ p → p < places → single p ≤ cost p)
    → from ≤ places → cut_floor places size window single from ≤ sum_range cost from (places - from)
unfolding cut_floor
cut-below places size rest window single cost from s windows singles within =
    rest-below places size rest window single cost from s windows singles (places - from) from (places - from) (omega arith) (omega arith) (omega arith)

-- of three numbers that are small
either-small : (a b : Bool) (x y most : ℕ) → x ≤ most → y ≤ most → (if a then x else (if b then y else 0)) ≤ most
either-small true b x y most h k = h
either-small false true x y most h k = k
either-small false false x y most h k = omega arith

-- what begins at a place is small where windows and single places are
pub own-small : (places size : ℕ) (window single : ℕ → ℕ) (most p : ℕ) → single p ≤ most → window p ≤ most → own_floor places size window single p ≤ most
unfolding own_floor
own-small places size window single most p h k = either-small (nat_le (places - places % size) p) (p % size == 0) (single p) (window p) most h k

-- and so is the floor
pub cut-small : (places size : ℕ) (window single : ℕ → ℕ) (most p : ℕ) → ((q : ℕ) → single q ≤ most) → ((q : ℕ) → window q ≤ most)
    → cut_floor places size window single p ≤ places * most
unfolding cut_floor
cut-small places size window single most p singles windows =
    let sum = sum_range-small (own_floor places size window single) most p (places - p) (λ k h. own-small places size window single most (p + k) (singles (p + k)) (windows (p + k))) in
    let few : (places - p) * most ≤ places * most = mul-le-mul_right most (omega arith) in omega (arith, sum, few)

-- from the end on nothing is left
pub cut-end : (places size : ℕ) (window single : ℕ → ℕ) → cut_floor places size window single places ≡ 0
unfolding cut_floor
cut-end places size window single = let none : places - places ≡ 0 = omega arith in ap (sum_range (own_floor places size window single) places) none

-- from a place on it is what begins there and the floor from the next place on
pub cut-step : (places size : ℕ) (window single : ℕ → ℕ) (p : ℕ) → p < places
    → cut_floor places size window single p ≡ own_floor places size window single p + cut_floor places size window single (p + 1)
unfolding cut_floor
cut-step places size window single p h = sum_range-next (own_floor places size window single) p (p + 1) places refl (omega arith)
