-- The floor of a block's windows is at most what outputs cost that follow one another as the filter says.
use Rattle.std.proofs.Common.{◌≡◌, ℕ, suc, ◌+◌, ◌-◌, ◌*◌, ◌%◌, ◌<◌, ◌≤◌, arith, refl, ap, sym, ◌∙◌, inl, inr, ◌⊎◌, Bool, true, false, subst}
use Rattle.std.specs.Prelude.{ℤ, pos, negsuc, ◌-ℤ◌, ◌*ℤ◌, unsigned_abs, List, get_or, ◌==◌, if◌then◌else◌}
use Rattle.std.proofs.lemmas.Int.{ints}
use Rattle.std.proofs.lemmas.Bool.{cases_Bool, eqb-true}
use Rattle.std.proofs.Math.Nat.{mul-le-mul}
use Rattle.adpcm_nums.specs.Nums.{square_of}
use Rattle.adpcm_nums.specs.RangeSum.{sum_range}
use Rattle.adpcm_nums.proofs.LeastValueLaws.{least_of-below}
use Rattle.window_floor.specs.Row.{Row, IsNormed, size_of}
use Rattle.window_floor.specs.Floor.{output_cost}
use Rattle.window_floor.specs.Outcome.{IsOutcome}
use Rattle.window_floor.specs.Windows.{Windows, target_at, single_floor, sample_floor, one_window, two_window, three_window, window_at, floor_from, IsSound}
use Rattle.window_floor.specs.Following.{Follow, IsOneOf}
use Rattle.window_floor.proofs.CutLaws.{cut-below}
use Rattle.window_floor.proofs.Truth.{three-cost, pair-cost}

-- what is at most 1 and at most a number is at most its square
above-square : (n m : ℕ) → n ≤ 1 → n ≤ m → n ≤ m * m
above-square n m a b =
    let p = mul-le-mul b b in let c : (n ≡ 0) ⊎ (n ≡ 1) = grind arith in elim c [ inl e ↦ omega arith | inr e ↦ (let q = rw e at p in omega arith) ]

-- twice an output is 1 or more away from an odd target
odd-distance : (y t : ℤ) → unsigned_abs t % 2 ≤ unsigned_abs (pos 2 *ℤ y -ℤ t)
odd-distance y (pos t) = omega (arith, ints)
odd-distance y (negsuc t) = omega (arith, ints)

-- a place alone costs no less than its floor
pub single-below : (w : Row) (y t : ℤ) → (w.scale ≡ pos 1) ⊎ (w.scale ≡ pos 2) → single_floor w t ≤ output_cost w y t
unfolding single_floor
single-below w y t (inl e) = let one : unsigned_abs t % unsigned_abs w.scale ≡ unsigned_abs t % 1 = ap (λ z. unsigned_abs t % unsigned_abs z) e in omega (arith, one)
single-below w y t (inr e) =
    let two : unsigned_abs t % unsigned_abs w.scale ≡ unsigned_abs t % 2 = ap (λ z. unsigned_abs t % unsigned_abs z) e in
    let cost : output_cost w y t ≡ square_of (pos 2 *ℤ y -ℤ t) = ap (λ z. square_of (z *ℤ y -ℤ t)) e in
    let square = above-square (unsigned_abs t % 2) (unsigned_abs (pos 2 *ℤ y -ℤ t)) (omega arith) (odd-distance y t) in
    omega (arith, two, cost, square)

-- that floor is at most 1
pub single-small : (w : Row) (t : ℤ) → (w.scale ≡ pos 1) ⊎ (w.scale ≡ pos 2) → single_floor w t ≤ 1
unfolding single_floor
single-small w t (inl e) = let one : unsigned_abs t % unsigned_abs w.scale ≡ unsigned_abs t % 1 = ap (λ z. unsigned_abs t % unsigned_abs z) e in omega (arith, one)
single-small w t (inr e) = let two : unsigned_abs t % unsigned_abs w.scale ≡ unsigned_abs t % 2 = ap (λ z. unsigned_abs t % unsigned_abs z) e in omega (arith, two)

-- the sizes of windows
pub data Size (w : Row) (size : ℕ) : Type 0 where
  one : size ≡ 1 → Size w size
  two : size ≡ 2 → w.cb ≡ pos 0 → Size w size
  three : size ≡ 3 → Size w size

-- a factor of no size is 0
no-factor : (x : ℤ) → unsigned_abs x ≡ 0 → x ≡ pos 0
no-factor x h = omega (arith, ints)

-- the first of three sizes
size-one : (a b : Bool) (x y z : ℕ) → a ≡ true → b ≡ true → (if a then (if b then x else y) else z) ≡ x
size-one a b x y z h k = rw (h, k) refl

-- the second
size-two : (a b : Bool) (x y z : ℕ) → a ≡ true → b ≡ false → (if a then (if b then x else y) else z) ≡ y
size-two a b x y z h k = rw (h, k) refl

-- the third
size-three : (a b : Bool) (x y z : ℕ) → a ≡ false → (if a then (if b then x else y) else z) ≡ z
size-three a b x y z h = rw h refl

-- and no others
pub size-is : (w : Row) → Size w (size_of w)
unfolding size_of
size-is w =
    elim (cases_Bool (unsigned_abs w.cb == 0)) [
      | inr tied ↦ three (size-three _ (unsigned_abs w.ca == 0) 1 2 3 tied)
      | inl free ↦ elim (cases_Bool (unsigned_abs w.ca == 0)) [
        | inl alone ↦ one (size-one _ _ 1 2 3 free alone)
        | inr pair ↦ two (size-two _ _ 1 2 3 free pair) (no-factor w.cb (eqb-true _ _ free))
      ]
    ]

-- no output that is a sample costs less than the nearest sample
sample-below : (w : Row) (samples : List ℤ) (y x : ℤ) → IsOneOf samples y → sample_floor w samples x ≤ output_cost w y x
unfolding sample_floor
sample-below w samples y x h =
    let code = h.within in
    let least = least_of-below (λ i. output_cost w (get_or samples i (pos 0)) x) 15 h.code (omega arith) in
    let same = ap (λ z. output_cost w z x) h.is in omega (arith, least, same)

-- the costs of a window's places
abbrev pub costs : Row → List ℤ → (ℕ → ℤ) → ℕ → ℕ
costs w targets y p = output_cost w (y p) (target_at targets p)

-- a window of one place costs no less than its floor
one-below : (b : Windows) (from : ℕ) (y : ℕ → ℤ) (targets : List ℤ) (p : ℕ) → (b.row.scale ≡ pos 1) ⊎ (b.row.scale ≡ pos 2) → Follow b from y → size_of b.row ≡ 1
    → from ≤ p → p < b.places → window_at b 1 targets p ≤ costs b.row targets y p
unfolding window_at one_window
one-below b from y targets p scale follow size after within =
    let window = sample-below b.row b.samples (y p) (target_at targets p) (follow.one size p after within) in
    let single = single-below b.row (y p) (target_at targets p) scale in omega (arith, window, single)

-- one of two places
two-below : (b : Windows) (from : ℕ) (y : ℕ → ℤ) (targets : List ℤ) (p : ℕ) → (b.row.scale ≡ pos 1) ⊎ (b.row.scale ≡ pos 2) → IsNormed b.row → b.row.cb ≡ pos 0
    → Follow b from y → size_of b.row ≡ 2 → from ≤ p → suc p < b.places → window_at b 2 targets p ≤ costs b.row targets y p + costs b.row targets y (suc p)
unfolding window_at two_window
two-below b from y targets p scale normed free follow size after within =
    let outcome = follow.two size p after within in
    let next : target_at targets (p + 1) ≡ target_at targets (suc p) = ap (target_at targets) (omega arith) in
    let cost = ap (output_cost b.row (y (suc p))) next in
    let window = pair-cost b.row b.samples b.first b.second (target_at targets p) (target_at targets (p + 1)) outcome.0 (y p) (y (suc p)) normed free outcome.1 in
    let first = single-below b.row (y p) (target_at targets p) scale in
    let second = single-below b.row (y (suc p)) (target_at targets (p + 1)) scale in omega (arith, cost, window, first, second)

-- one of three places
three-below : (b : Windows) (from : ℕ) (y : ℕ → ℤ) (targets : List ℤ) (p : ℕ) → (b.row.scale ≡ pos 1) ⊎ (b.row.scale ≡ pos 2) → IsNormed b.row
    → Follow b from y → size_of b.row ≡ 3 → from ≤ p → suc (suc p) < b.places
    → window_at b 3 targets p ≤ costs b.row targets y p + costs b.row targets y (suc p) + costs b.row targets y (suc (suc p))
unfolding window_at three_window
three-below b from y targets p scale normed follow size after within =
    let outcome = follow.three size p after within in
    let next : target_at targets (p + 1) ≡ target_at targets (suc p) = ap (target_at targets) (omega arith) in
    let last : target_at targets (p + 2) ≡ target_at targets (suc (suc p)) = ap (target_at targets) (omega arith) in
    let cost = ap (output_cost b.row (y (suc p))) next in
    let cost' = ap (output_cost b.row (y (suc (suc p)))) last in
    let window = three-cost b.row b.samples b.first b.second (target_at targets p) (target_at targets (p + 1)) (target_at targets (p + 2)) (y p) (y (suc p)) (y (suc (suc p))) normed outcome in
    let first = single-below b.row (y p) (target_at targets p) scale in
    let second = single-below b.row (y (suc p)) (target_at targets (p + 1)) scale in
    let third = single-below b.row (y (suc (suc p))) (target_at targets (p + 2)) scale in omega (arith, cost, cost', window, first, second, third)

-- a window costs no less than its floor
window-below : (b : Windows) (from : ℕ) (y : ℕ → ℤ) (targets : List ℤ) (size p : ℕ) → (b.row.scale ≡ pos 1) ⊎ (b.row.scale ≡ pos 2) → IsNormed b.row → Follow b from y
    → size_of b.row ≡ size → Size b.row size → from ≤ p → p + size ≤ b.places → window_at b size targets p ≤ sum_range (costs b.row targets y) p size
window-below b from y targets size p scale normed follow s (one e) after within =
    let is : size_of b.row ≡ 1 = s ∙ e in let paid = one-below b from y targets p scale follow is after (omega arith) in
    let window = ap (λ n. window_at b n targets p) e in let cost = ap (sum_range (costs b.row targets y) p) e in omega (arith, window, cost, paid)
window-below b from y targets size p scale normed follow s (two e free) after within =
    let is : size_of b.row ≡ 2 = s ∙ e in let paid = two-below b from y targets p scale normed free follow is after (omega arith) in
    let window = ap (λ n. window_at b n targets p) e in let cost = ap (sum_range (costs b.row targets y) p) e in omega (arith, window, cost, paid)
window-below b from y targets size p scale normed follow s (three e) after within =
    let is : size_of b.row ≡ 3 = s ∙ e in let paid = three-below b from y targets p scale normed follow is after (omega arith) in
    let window = ap (λ n. window_at b n targets p) e in let cost = ap (sum_range (costs b.row targets y) p) e in omega (arith, window, cost, paid)

-- a size is above 0
some-size : (w : Row) (size : ℕ) → Size w size → size ≡ suc (size - 1)
some-size w size (one e) = omega arith
some-size w size (two e free) = omega arith
some-size w size (three e) = omega arith

-- no outputs that follow one another cost less than the floor
pub floor-below : (b : Windows) (from : ℕ) (y : ℕ → ℤ) (targets : List ℤ) → IsSound b → Follow b from y → from ≤ b.places
    → floor_from b targets from ≤ sum_range (costs b.row targets y) from (b.places - from)
unfolding floor_from
floor-below b from y targets sound follow within =
    let size = size-is b.row in
    cut-below b.places (size_of b.row) (size_of b.row - 1) (window_at b (size_of b.row) targets) (λ q. single_floor b.row (target_at targets q)) (costs b.row targets y) from
    (some-size b.row (size_of b.row) size)
    (λ p after fits. window-below b from y targets (size_of b.row) p sound.scale sound.normed follow refl size after fits)
    (λ p after fits. single-below b.row (y p) (target_at targets p) sound.scale) within

-- outputs that are samples or outcomes, whatever the two before them, follow one another
pub follow-by : (b : Windows) (output : ℕ → ℤ → ℤ → ℤ) (code : ℕ → ℕ) (from : ℕ) (y last older : ℕ → ℤ)
    → (size_of b.row ≡ 1 → (c : ℕ) (o r : ℤ) → c < 16 → IsOneOf b.samples (output c o r))
    → (2 ≤ size_of b.row → (c : ℕ) (o r : ℤ) → c < 16 → IsOutcome b.row b.samples b.first b.second r o (output c o r))
    → ((q : ℕ) → q < b.places → code q < 16)
    → ((q : ℕ) → from ≤ q → y q ≡ output (code q) (last q) (older q))
    → ((q : ℕ) → from ≤ q → last (suc q) ≡ y q)
    → ((q : ℕ) → from ≤ q → y (suc (suc q)) ≡ output (code (suc (suc q))) (y (suc q)) (y q))
    → Follow b from y
follow-by b output code from y last older free tied fits next lasts third = record {
  one = λ size q after within. subst (IsOneOf b.samples) (sym (next q after)) (free size (code q) (last q) (older q) (fits q within));
  two = λ size q after within. (
    older (suc q),
    (let is = next (suc q) (omega arith) ∙ ap (λ o. output (code (suc q)) o (older (suc q))) (lasts q after) in
        subst (IsOutcome b.row b.samples b.first b.second (older (suc q)) (y q)) (sym is) (tied (omega arith) (code (suc q)) (y q) (older (suc q)) (fits (suc q) within))),
  );
  three = λ size q after within.
      subst (IsOutcome b.row b.samples b.first b.second (y q) (y (suc q))) (sym (third q after))
      (tied (omega arith) (code (suc (suc q))) (y (suc q)) (y q) (fits (suc (suc q)) within));
}
