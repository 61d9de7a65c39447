-- Ascending cells, by their number.
use Rattle.std.proofs.Common.{◌≡◌, ℕ, zero, suc, ◌+◌, ◌<◌, ◌≤◌, List, [], ◌∷◌, length, arith, refl, ap, sym, ◌∙◌, ◌⊎◌, inl, inr, true, false, Some, None}
use Rattle.machine_core.specs.declared.boxes.Cell.{Cell}
use Rattle.box_layers.specs.declared.cell_value.CellValue.{CellValue}
use Rattle.box_layers.specs.Cells.{before, same_cell, IsAfterAll, IsAscending, nth, value_of}
use Rattle.std.proofs.lemmas.Bool.{cond-true, cond-false}
use Rattle.std.proofs.Math.Nat.{eq-or-lt_of_le}
use Rattle.box_layers.proofs.CellOrder.{lt-trans, ge-lt}

pub after-all-at : (c : Cell) (xs : List CellValue) (k : ℕ) → IsAfterAll c xs → k < length xs → before c (nth xs k).cell ≡ true
after-all-at c [] k h l = absurd (omega arith)
after-all-at c (x ∷ xs) zero h l = h.0
after-all-at c (x ∷ xs) (suc k) h l = after-all-at c xs k h.1 (omega arith)

pub ascending-at : (xs : List CellValue) (j k : ℕ) → IsAscending xs → j < k → k < length xs → before (nth xs j).cell (nth xs k).cell ≡ true
ascending-at [] j k h l m = absurd (omega arith)
ascending-at (x ∷ xs) zero zero h l m = absurd (omega arith)
ascending-at (x ∷ xs) zero (suc k) h l m = after-all-at x.cell xs k h.0 (omega arith)
ascending-at (x ∷ xs) (suc j) zero h l m = absurd (omega arith)
ascending-at (x ∷ xs) (suc j) (suc k) h l m = ascending-at xs j k h.1 (omega arith) (omega arith)

pub seek-up : (xs : List CellValue) (c : Cell) (mid : ℕ) → IsAscending xs → mid < length xs → before (nth xs mid).cell c ≡ true
    → (k : ℕ) → k < mid + 1 → before (nth xs k).cell c ≡ true
seek-up xs c mid h l b k m =
    elim (eq-or-lt_of_le {n = k} {m = mid} (omega arith)) [
      | inl same ↦ ap (λ z. before (nth xs z).cell c) same ∙ b
      | inr less ↦ lt-trans _ _ _ (ascending-at xs k mid h less l) b
    ]

pub seek-down : (xs : List CellValue) (c : Cell) (mid : ℕ) → IsAscending xs → before (nth xs mid).cell c ≡ false
    → (k : ℕ) → mid ≤ k → k < length xs → before (nth xs k).cell c ≡ false
seek-down xs c mid h b k m l =
    elim (eq-or-lt_of_le {n = mid} {m = k} m) [
      | inl same ↦ ap (λ z. before (nth xs z).cell c) (sym same) ∙ b
      | inr less ↦ ge-lt (nth xs mid).cell c (nth xs k).cell b (ascending-at xs mid k h less l)
    ]

pub value-first : (xs : List CellValue) (c : Cell) (i : ℕ) → i < length xs → ((k : ℕ) → k < i → same_cell (nth xs k).cell c ≡ false)
    → same_cell (nth xs i).cell c ≡ true → value_of xs c ≡ Some (nth xs i).value
value-first [] c i l h e = absurd (omega arith)
value-first (x ∷ xs) c zero l h e = cond-true _ _ _ e
value-first (x ∷ xs) c (suc i) l h e =
    cond-false (same_cell x.cell c) (Some x.value) (value_of xs c) (h 0 (omega arith)) ∙ value-first xs c i (omega arith) (λ k m. h (suc k) (omega arith)) e

pub value-none : (xs : List CellValue) (c : Cell) → ((k : ℕ) → k < length xs → same_cell (nth xs k).cell c ≡ false) → value_of xs c ≡ None
value-none [] c h = refl
value-none (x ∷ xs) c h = cond-false (same_cell x.cell c) (Some x.value) (value_of xs c) (h 0 (omega arith)) ∙ value-none xs c (λ k l. h (suc k) (omega arith))
