-- What is listed at a place that a search found.
use Rattle.std.proofs.Common.{◌≡◌, ℕ, ◌+◌, ◌<◌, ◌≤◌, List, length, arith, ap, sym, ◌∙◌, ◌⊎◌, inl, inr, subst, true, false, Option, Some, None, ℤ, pos}
use Rattle.std.specs.Prelude.{◌+ℤ◌}
use Rattle.machine_core.specs.declared.boxes.Cell.{Cell}
use Rattle.box_layers.specs.declared.cell_value.CellValue.{CellValue}
use Rattle.box_layers.specs.Cells.{before, same_cell, IsAscending, nth, value_of}
use Rattle.box_layers.specs.Bound.{IsBound, past_of}
use Rattle.std.proofs.lemmas.Bool.{cases_Bool}
use Rattle.box_layers.proofs.CellOrder.{before-not-same, after-not-same, le-not-same, lt-trans, same-true, before-next, same-next, not-next}
use Rattle.box_layers.proofs.Sorted.{ascending-at, value-first, value-none}

below-not-same : (xs : List CellValue) (c : Cell) (i : ℕ) → IsBound xs c i → (k : ℕ) → k < i → same_cell (nth xs k).cell c ≡ false
below-not-same xs c i b k l = before-not-same _ _ (b.below k l)

pub listed-here : (xs : List CellValue) (c : Cell) (i : ℕ) → IsBound xs c i → i < length xs → same_cell (nth xs i).cell c ≡ true → value_of xs c ≡ Some (nth xs i).value
listed-here xs c i b l e = value-first xs c i l (below-not-same xs c i b) e

three-ways : (k i : ℕ) → (k < i) ⊎ ((i < k) ⊎ (k ≡ i))
three-ways k i = grind arith

not-above : (xs : List CellValue) (c : Cell) (i : ℕ) → IsAscending xs → IsBound xs c i → i < length xs → (k : ℕ) → i < k → k < length xs → same_cell (nth xs k).cell c ≡ false
not-above xs c i h b l k m n =
    elim (cases_Bool (same_cell (nth xs i).cell c)) [
      | inl y ↦ after-not-same _ _ (subst (λ (z : Cell). before z (nth xs k).cell ≡ true) (same-true _ _ y) (ascending-at xs i k h m n))
      | inr o ↦ after-not-same _ _ (lt-trans _ _ _ (le-not-same (nth xs i).cell c (b.from i (omega arith) l) o) (ascending-at xs i k h m n))
    ]

pub unlisted-here : (xs : List CellValue) (c : Cell) (i : ℕ) → IsAscending xs → IsBound xs c i → i < length xs → same_cell (nth xs i).cell c ≡ false → value_of xs c ≡ None
unlisted-here xs c i h b l e = value-none xs c (λ k m. (elim (three-ways k i) [
  | inl less ↦ below-not-same xs c i b k less
  | inr more ↦ (elim more [ inl above ↦ not-above xs c i h b l k above m | inr same ↦ ap (λ z. same_cell (nth xs z).cell c) same ∙ e ])
]))

pub unlisted-past : (xs : List CellValue) (c : Cell) (i : ℕ) → IsBound xs c i → length xs ≤ i → value_of xs c ≡ None
unlisted-past xs c i b l = value-none xs c (λ k m. below-not-same xs c i b k (omega arith))

lt-or-ge : (a b : ℕ) → (a < b) ⊎ (b ≤ a)
lt-or-ge a b = grind arith

none-some : {v : ℕ} → None ≡ Some v → ⊥
none-some h = cc

-- the place of the cell in the next column
some-next : (xs : List CellValue) (a b : ℤ) (i v : ℕ) → IsAscending xs → IsBound xs (record { a = a; b = b }) i → value_of xs (record { a = a; b = b }) ≡ Some v → IsBound xs (record { a = a; b = b +ℤ pos 1 }) (i + 1)
some-next xs a b i v h q e =
    let c : Cell = record { a = a; b = b } in
    let fits : i < length xs = elim (lt-or-ge i (length xs)) [ inl l ↦ l | inr g ↦ absurd (none-some (sym (unlisted-past xs c i q g) ∙ e)) ] in
    let same : same_cell (nth xs i).cell c ≡ true = elim (cases_Bool (same_cell (nth xs i).cell c)) [ inl y ↦ y | inr n ↦ absurd (none-some (sym (unlisted-here xs c i h q fits n) ∙ e)) ] in
    record {
      within = omega arith;
      below = λ k l. (elim (three-ways k i) [
        | inl less ↦ before-next _ a b (q.below k less)
        | inr more ↦ (elim more [ inl above ↦ absurd (omega arith) | inr eq ↦ ap (λ z. before (nth xs z).cell (record { a = a; b = b +ℤ pos 1 })) eq ∙ same-next _ a b same ])
      ]);
      from = λ k l m. not-next _ a b (q.from k (omega arith) m) (not-above xs c i h q fits k (omega arith) m);
    }

none-next : (xs : List CellValue) (a b : ℤ) (i : ℕ) → IsAscending xs → IsBound xs (record { a = a; b = b }) i → value_of xs (record { a = a; b = b }) ≡ None → IsBound xs (record { a = a; b = b +ℤ pos 1 }) i
none-next xs a b i h q e =
    let c : Cell = record { a = a; b = b } in
    let at : i < length xs → same_cell (nth xs i).cell c ≡ false = λ l. (elim (cases_Bool (same_cell (nth xs i).cell c)) [ inl y ↦ absurd (none-some (sym e ∙ listed-here xs c i q l y)) | inr n ↦ n ]) in
    record {
      within = q.within;
      below = λ k l. before-next _ a b (q.below k l);
      from = λ k l m. (elim (three-ways k i) [
        | inl less ↦ absurd (omega arith)
        | inr more ↦ (elim more [
          | inl above ↦ not-next _ a b (q.from k l m) (not-above xs c i h q (omega arith) k above m)
          | inr eq ↦ not-next _ a b (q.from k l m) (ap (λ z. same_cell (nth xs z).cell c) eq ∙ at (omega arith))
        ])
      ]);
    }

pub bound-next : (xs : List CellValue) (a b : ℤ) (i : ℕ) → IsAscending xs → IsBound xs (record { a = a; b = b }) i
    → (o : Option ℕ) → value_of xs (record { a = a; b = b }) ≡ o → IsBound xs (record { a = a; b = b +ℤ pos 1 }) (past_of i o)
bound-next xs a b i h q (Some v) e = some-next xs a b i v h q e
bound-next xs a b i h q None e = none-next xs a b i h q e
