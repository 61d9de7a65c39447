-- The first fault of a segment's cells, found one layer after another, is the one that a check answers.
use Rattle.std.proofs.Common.{◌≡◌, ℕ, zero, suc, ◌+◌, ◌<◌, ◌≤◌, ℤ, List, [], ◌∷◌, length, arith, refl, ap, sym, ◌∙◌, subst, Some, None, inl, inr, ◌⊎◌, true, false, nat_lt}
use Rattle.std.specs.Prelude.{slice_get, Option}
use Rattle.std.proofs.lemmas.Bool.{cases_Bool, cond-true, cond-false}
use Rattle.std.proofs.lemmas.Bool.Decides.{nat_tests}
use Rattle.machine_core.specs.declared.boxes.Cell.{Cell}
use Rattle.machine_core.specs.Rules.{Rules}
use Rattle.box_layers.specs.Cells.{nth}
use Rattle.box_layers.specs.declared.cell_value.CellValue.{CellValue}
use Rattle.box_layers.specs.Certificates.{Certificate, IsAccepted, found}
use Rattle.bound_cert.specs.Content.{Layer, Segment, AreSorted}
use Rattle.cert_check.specs.declared.checking.CellFault.{CellFault}
use Rattle.cert_check.specs.Layers.{certificate_in}
use Rattle.cert_check.specs.Faults.{AreLayers, HoldsBelow, IsCellFault, IsFirstFault, LayersHold, index_of}
use Rattle.cert_check.proofs.Accept.{accepted}
use Rattle.cert_check.proofs.Refused.{refused}
use Rattle.bank_check.specs.Cells.{cells_fault, layers_fault, or_later, segment_fault}

lt-true : (a b : ℕ) → a < b → nat_lt a b ≡ true
lt-true a b h = grind (arith, nat_tests)

lt-false : (a b : ℕ) → b ≤ a → nat_lt a b ≡ false
lt-false a b h = grind (arith, nat_tests)

is-lt : (a b : ℕ) → nat_lt a b ≡ true → a < b
is-lt a b h = grind (arith, nat_tests)

is-ge : (a b : ℕ) → nat_lt a b ≡ false → b ≤ a
is-ge a b h = grind (arith, nat_tests)

-- cells whose values hold have no fault
cells-hold : (f : Cell → ℕ) (layer k : ℕ) (cells : List CellValue) → HoldsBelow f cells (length cells) → cells_fault f layer k cells ≡ None
unfolding cells_fault
cells-hold f layer k [] hold = refl
cells-hold f layer k (x ∷ xs) hold =
    cond-false (nat_lt (f x.cell) x.value) _ _ (lt-false (f x.cell) x.value (hold 0 (omega arith))) ∙ cells-hold f layer (suc k) xs (λ j within. hold (suc j) (omega arith))

-- the fault of cells that are counted from number k on
abbrev IsFaultFrom : (Cell → ℕ) → List CellValue → ℕ → ℕ → ℕ → CellFault → Type 0
IsFaultFrom f cells layer k j e =
    (e.layer ≡ layer) × (e.cell ≡ k + j) × (j < length cells) × (e.value ≡ (nth cells j).value) × (e.found ≡ f (nth cells j).cell) × (f (nth cells j).cell < (nth cells j).value) × HoldsBelow f cells j

made : (layer cell value found : ℕ) (e : CellFault) → e.layer ≡ layer → e.cell ≡ cell → e.value ≡ value → e.found ≡ found
    → Some (record { layer = layer; cell = cell; value = value; found = found }) ≡ Some e
made layer cell value found e a b c d = let mk : ℕ → ℕ → ℕ → ℕ → CellFault = λ p q s t. record { layer = p; cell = q; value = s; found = t } in
    ap (λ z. Some (mk z cell value found)) (sym a) ∙ (ap (λ z. Some (mk e.layer z value found)) (sym b) ∙ (ap (λ z. Some (mk e.layer e.cell z found)) (sym c) ∙ ap (λ z. Some (mk e.layer e.cell e.value z)) (sym d)))

cells-refused : (f : Cell → ℕ) (layer k j : ℕ) (cells : List CellValue) (e : CellFault) → IsFaultFrom f cells layer k j e → cells_fault f layer k cells ≡ Some e
unfolding cells_fault
cells-refused f layer k j [] e is = absurd (let h = is.2 in omega arith)
cells-refused f layer k zero (x ∷ xs) e is =
    cond-true (nat_lt (f x.cell) x.value) _ _ (lt-true (f x.cell) x.value is.5)
    ∙ made layer k x.value (f x.cell) e is.0 (let h = is.1 in omega arith) is.3 is.4
cells-refused f layer k (suc j) (x ∷ xs) e is =
    cond-false (nat_lt (f x.cell) x.value) _ _ (lt-false (f x.cell) x.value (is.6 0 (omega arith)))
    ∙ cells-refused f layer (suc k) j xs e (is.0, (let h = is.1 in omega arith), (let h = is.2 in omega arith), is.3, is.4, is.5, λ i less. is.6 (suc i) (omega arith))

cell-refused : (f : Cell → ℕ) (layer : ℕ) (cells : List CellValue) (e : CellFault) → IsCellFault f cells layer e → cells_fault f layer 0 cells ≡ Some e
cell-refused f layer cells e is =
    let above : f (nth cells e.cell).cell < (nth cells e.cell).value = (let a = is.above in let b = is.value_is in let d = is.found_is in omega arith) in
    cells-refused f layer 0 e.cell cells e (is.layer_is, omega arith, is.cell_in, is.value_is, is.found_is, above, is.first)

-- the same of layers
abbrev found_in : Rules → List ℤ → Certificate → Layer → Cell → ℕ
found_in r targets c x = found r targets c (index_of r x.key) x.key.lane

layers-hold : (r : Rules) (targets : List ℤ) (c : Certificate) (j : ℕ) (layers : List Layer) → LayersHold r targets c layers (length layers) → layers_fault r targets c j layers ≡ None
unfolding layers_fault
layers-hold r targets c j [] hold = refl
layers-hold r targets c j (x ∷ xs) hold =
    ap (λ (o : Option CellFault). or_later o (layers_fault r targets c (suc j) xs)) (cells-hold (found_in r targets c x) j 0 x.cells (hold 0 x (omega arith) refl))
    ∙ layers-hold r targets c (suc j) xs (λ i y within here. hold (suc i) y (omega arith) here)

layers-refused : (r : Rules) (targets : List ℤ) (c : Certificate) (j i : ℕ) (layers : List Layer) (x : Layer) (e : CellFault) → e.layer ≡ j + i → slice_get layers i ≡ Some x
    → cells_fault (found_in r targets c x) e.layer 0 x.cells ≡ Some e → LayersHold r targets c layers i → layers_fault r targets c j layers ≡ Some e
unfolding layers_fault
layers-refused r targets c j i [] x e place here fault earlier = absurd (cc)
layers-refused r targets c j zero (y ∷ ys) x e place here fault earlier =
    let same : y ≡ x = cc in
    let at : e.layer ≡ j = omega arith in
    let mine : cells_fault (found_in r targets c y) j 0 y.cells ≡ Some e = subst (λ (z : Layer). cells_fault (found_in r targets c z) j 0 z.cells ≡ Some e) (sym same) (subst (λ (n : ℕ). cells_fault (found_in r targets c x) n 0 x.cells ≡ Some e) at fault) in
    ap (λ (o : Option CellFault). or_later o (layers_fault r targets c (suc j) ys)) mine
layers-refused r targets c j (suc i) (y ∷ ys) x e place here fault earlier =
    ap (λ (o : Option CellFault). or_later o (layers_fault r targets c (suc j) ys)) (cells-hold (found_in r targets c y) j 0 y.cells (earlier 0 y (omega arith) refl))
    ∙ layers-refused r targets c (suc j) i ys x e (omega arith) here fault (λ k z less at. earlier (suc k) z (omega arith) at)

-- what a check answers is that fault
pub fault-is : (r : Rules) (targets : List ℤ) (s : Segment) (e : CellFault) → IsFirstFault r targets (certificate_in r s) s.layers e → segment_fault r targets s ≡ Some e
fault-is r targets s e first =
    layers-refused r targets (certificate_in r s) 0 e.layer s.layers first.layer e (omega arith) first.layer_is
    (cell-refused (found_in r targets (certificate_in r s) first.layer) e.layer first.layer.cells e first.fault) first.earlier

hold-more : (f : Cell → ℕ) (x : CellValue) (xs : List CellValue) (n : ℕ) → x.value ≤ f x.cell → HoldsBelow f xs n → HoldsBelow f (x ∷ xs) (suc n)
hold-more f x xs n first later zero within = first
hold-more f x xs n first later (suc k) within = later k (omega arith)

-- a cell whose value is above, and none before it
record IsAbove (f : Cell → ℕ) (cells : List CellValue) : Type 0 where
  at : ℕ
  within : at < length cells
  above : f (nth cells at).cell < (nth cells at).value
  first : HoldsBelow f cells at

above-later : (f : Cell → ℕ) (x : CellValue) (xs : List CellValue) → x.value ≤ f x.cell → IsAbove f xs → IsAbove f (x ∷ xs)
above-later f x xs holds a = record { at = suc a.at; within = (let h = a.within in omega arith); above = a.above; first = hold-more f x xs a.at holds a.first }

-- the values of cells hold, or one is the first above
decide-cells : (f : Cell → ℕ) (cells : List CellValue) → HoldsBelow f cells (length cells) ⊎ IsAbove f cells
decide-cells f [] = inl (λ k within. absurd (omega arith))
decide-cells f (x ∷ xs) = elim (cases_Bool (nat_lt (f x.cell) x.value)) [
  | inl above ↦ inr (record { at = 0; within = omega arith; above = is-lt (f x.cell) x.value above; first = λ k less. absurd (omega arith) })
  | inr holds ↦ elim (decide-cells f xs) [
    | inl all ↦ inl (hold-more f x xs (length xs) (is-ge (f x.cell) x.value holds) all)
    | inr some ↦ inr (above-later f x xs (is-ge (f x.cell) x.value holds) some)
  ]
]

layers-more : (r : Rules) (targets : List ℤ) (c : Certificate) (x : Layer) (xs : List Layer) (n : ℕ) → HoldsBelow (found_in r targets c x) x.cells (length x.cells)
    → LayersHold r targets c xs n → LayersHold r targets c (x ∷ xs) (suc n)
layers-more r targets c x xs n first later zero y within here =
    let same : x ≡ y = cc in subst (λ (z : Layer). HoldsBelow (found_in r targets c z) z.cells (length z.cells)) same first
layers-more r targets c x xs n first later (suc j) y within here = later j y (omega arith) here

record IsLayerAbove (r : Rules) (targets : List ℤ) (c : Certificate) (layers : List Layer) : Type 0 where
  at : ℕ
  layer : Layer
  here : slice_get layers at ≡ Some layer
  cell : IsAbove (found_in r targets c layer) layer.cells
  earlier : LayersHold r targets c layers at

decide-layers : (r : Rules) (targets : List ℤ) (c : Certificate) (layers : List Layer) → LayersHold r targets c layers (length layers) ⊎ IsLayerAbove r targets c layers
decide-layers r targets c [] = inl (λ j x within here. absurd (omega arith))
decide-layers r targets c (x ∷ xs) = elim (decide-cells (found_in r targets c x) x.cells) [
  | inr above ↦ inr (record { at = 0; layer = x; here = refl; cell = above; earlier = λ j y less here. absurd (omega arith) })
  | inl hold ↦ elim (decide-layers r targets c xs) [
    | inl all ↦ inl (layers-more r targets c x xs (length xs) hold all)
    | inr some ↦ inr (record { at = suc some.at; layer = some.layer; here = some.here; cell = some.cell; earlier = layers-more r targets c x xs some.at hold some.earlier })
  ]
]

first-above : (r : Rules) (targets : List ℤ) (c : Certificate) (layers : List Layer) → IsLayerAbove r targets c layers → (e : CellFault) × IsFirstFault r targets c layers e
first-above r targets c layers a =
    let f = found_in r targets c a.layer in
    let cells = a.layer.cells in
    let k = a.cell.at in (
      record { layer = a.at; cell = k; value = (nth cells k).value; found = f (nth cells k).cell },
      record {
        layer = a.layer;
        layer_is = a.here;
        fault = record { layer_is = refl; cell_in = a.cell.within; value_is = refl; found_is = refl; above = a.cell.above; first = a.cell.first };
        earlier = a.earlier;
      },
    )

-- an accepted certificate has none
pub none-where-accepted : (r : Rules) (targets : List ℤ) (s : Segment) → AreLayers r s.level s.blocks s.layers → AreSorted s.layers → IsAccepted r targets (certificate_in r s) → segment_fault r targets s ≡ None
none-where-accepted r targets s are sorted is = elim (decide-layers r targets (certificate_in r s) s.layers) [
  | inl hold ↦ layers-hold r targets (certificate_in r s) 0 s.layers hold
  | inr above ↦ absurd (let some = first-above r targets (certificate_in r s) s.layers above in refused r targets s.level s.blocks s.layers some.0 are sorted some.1 is)
]

none-some : {e : CellFault} → None ≡ Some e → ⊥
none-some h = cc

-- and where there is none, it is accepted
pub accepted-where-none : (r : Rules) (targets : List ℤ) (s : Segment) → AreLayers r s.level s.blocks s.layers → segment_fault r targets s ≡ None → IsAccepted r targets (certificate_in r s)
accepted-where-none r targets s are none = elim (decide-layers r targets (certificate_in r s) s.layers) [
  | inl hold ↦ accepted r targets s.level s.blocks s.layers are hold
  | inr above ↦ absurd (let some = first-above r targets (certificate_in r s) s.layers above in none-some (sym none ∙ fault-is r targets s some.0 some.1))
]
