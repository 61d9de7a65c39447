-- A table of floors that is filled from its end, and a sum that stops early.
use Rattle.std.proofs.Common.{◌≡◌, ◌≢◌, ℕ, ◌+◌, ◌<◌, ◌≤◌, List, length, set, get_or, min, arith, ap, sym, ◌∙◌, subst, inl, inr, ◌⊎◌}
use Rattle.std.specs.Prelude.{ℤ}
use Rattle.std.proofs.lemmas.List.{get_or-set_other, get_or-set_same}
use Rattle.window_floor.specs.Row.{size_of}
use Rattle.window_floor.specs.Windows.{Windows, target_at, single_floor, window_at, own_at, floor_from}
use Rattle.window_floor.proofs.CutLaws.{cut-end, cut-step}

-- from the end on nothing is left
pub floor-end : (b : Windows) (targets : List ℤ) → floor_from b targets b.places ≡ 0
unfolding floor_from
floor-end b targets = cut-end b.places (size_of b.row) (window_at b (size_of b.row) targets) (λ q. single_floor b.row (target_at targets q))

-- from a place on it is what begins there and the floor from the next place on
pub floor-step : (b : Windows) (targets : List ℤ) (p : ℕ) → p < b.places → floor_from b targets p ≡ own_at b targets p + floor_from b targets (p + 1)
unfolding floor_from own_at
floor-step b targets p h = cut-step b.places (size_of b.row) (window_at b (size_of b.row) targets) (λ q. single_floor b.row (target_at targets q)) p h

-- the table holds the floors from a place on
abbrev pub HoldsFrom : Windows → List ℤ → List ℕ → ℕ → Type 0
HoldsFrom b targets table from = (p : ℕ) → p ≤ b.places → from ≤ p → get_or table p 0 ≡ floor_from b targets p

-- a table with a number put in at a place
table-put : (b : Windows) (targets : List ℤ) (table : List ℕ) (from v : ℕ) → from < length table → v ≡ floor_from b targets from
    → ((p : ℕ) → p ≤ b.places → from < p → get_or table p 0 ≡ floor_from b targets p) → HoldsFrom b targets (set table from v) from
table-put b targets table from v inside is later p within after =
    let either : (from ≡ p) ⊎ (from < p) = grind arith in
    elim either [
      | inl here ↦ subst (λ (q : ℕ). get_or (set table from v) q 0 ≡ floor_from b targets q) here (get_or-set_same table from v 0 inside ∙ is)
      | inr above ↦ (let other : p ≢ from = λ e. omega arith in get_or-set_other table from p v 0 other ∙ later p within above)
    ]

-- the end of the table holds 0
pub table-begun : (b : Windows) (targets : List ℤ) (table : List ℕ) → length table ≡ b.places + 1 → HoldsFrom b targets (set table b.places 0) b.places
table-begun b targets table size =
    table-put b targets table b.places 0 (omega arith) (sym (floor-end b targets)) (λ p within above. absurd (omega arith))

-- one place more
pub sum-more : (b : Windows) (targets : List ℤ) (p next sum own : ℕ) → p < b.places → next ≡ p + 1 → sum ≡ floor_from b targets next → own ≡ own_at b targets p
    → sum + own ≡ floor_from b targets p
sum-more b targets p next sum own h e so_far is =
    let step = floor-step b targets p h in let same = ap (floor_from b targets) e in omega (arith, step, same, so_far, is)

-- the table holds one place more
pub table-more : (b : Windows) (targets : List ℤ) (table : List ℕ) (p next v : ℕ) → length table ≡ b.places + 1 → p < b.places → next ≡ p + 1 → v ≡ floor_from b targets p
    → HoldsFrom b targets table next → HoldsFrom b targets (set table p v) p
table-more b targets table p next v size h e is holds = table-put b targets table p v (omega arith) is (λ q within above. holds q within (omega arith))

-- a sum that has come to the best so far is no less than it, and neither is what it goes on to
pub stopped : (sum rest floor most : ℕ) → sum + rest ≡ floor → most ≤ sum → min sum most ≡ min floor most
stopped sum rest floor most e h = grind arith

-- with what is left the sum stays the whole
pub rest-more : (b : Windows) (targets : List ℤ) (p sum own : ℕ) → p < b.places → own ≡ own_at b targets p → sum + floor_from b targets p ≡ floor_from b targets 0
    → sum + own + floor_from b targets (p + 1) ≡ floor_from b targets 0
rest-more b targets p sum own h is so_far = let step = floor-step b targets p h in omega (arith, step, is, so_far)

-- at the end the sum is the whole
pub rest-none : (b : Windows) (targets : List ℤ) (p sum : ℕ) → p ≡ b.places → sum + floor_from b targets p ≡ floor_from b targets 0 → sum ≡ floor_from b targets 0
rest-none b targets p sum e so_far = let none = ap (floor_from b targets) e ∙ floor-end b targets in omega (arith, none, so_far)
