-- A listed value above what is found is the reason to refuse a certificate.
use Rattle.std.proofs.Common.{◌≡◌, ℕ, zero, suc, ◌%◌, ◌<◌, ◌≤◌, ℤ, List, [], ◌∷◌, length, arith, refl, ap, sym, ◌∙◌, subst, Some, true}
use Rattle.std.specs.Prelude.{slice_get}
use Rattle.std.proofs.lemmas.Bool.{cond-true, cond-false}
use Rattle.std.proofs.lemmas.Bool.Decides.{nat_tests}
use Rattle.machine_core.specs.Rules.{Rules}
use Rattle.machine_core.proofs.Places.{block-of, place-of}
use Rattle.box_layers.specs.declared.cell_value.CellValue.{CellValue}
use Rattle.box_layers.specs.declared.key.Key.{Key}
use Rattle.box_layers.specs.Cells.{IsAscending, nth, value_of}
use Rattle.box_layers.specs.Keys.{key_same}
use Rattle.box_layers.specs.Certificates.{IsAccepted, found}
use Rattle.box_layers.proofs.CellOrder.{before-not-same, same-refl}
use Rattle.box_layers.proofs.Sorted.{ascending-at, value-first}
use Rattle.bound_cert.specs.Content.{Layer, AreSorted}
use Rattle.cert_check.specs.declared.checking.CellFault.{CellFault}
use Rattle.block_steps.specs.Ways.{key_for}
use Rattle.cert_check.specs.Layers.{cells_for, certificate_of}
use Rattle.cert_check.specs.Faults.{AreLayers, IsFirstFault, index_of}
use Rattle.cert_check.proofs.Upward.{before-not, below-at}

-- each cell is listed with its value
cell-listed : (cells : List CellValue) (k : ℕ) → IsAscending cells → k < length cells → value_of cells (nth cells k).cell ≡ Some (nth cells k).value
cell-listed cells k ascends within = value-first cells (nth cells k).cell k within (λ j less. before-not-same _ _ (ascending-at cells j k ascends less within)) (same-refl (nth cells k).cell)

same-key : (k : Key) → key_same k k ≡ true
same-key k = grind (arith, nat_tests)

-- each layer is the one with its key, and its cells ascend
layer-listed : (layers : List Layer) (j : ℕ) (x : Layer) → AreSorted layers → slice_get layers j ≡ Some x → cells_for layers x.key ≡ x.cells
layer-listed [] j x s e = absurd (cc)
layer-listed (y ∷ ys) zero x s e =
    let q : y ≡ x = cc in
    subst (λ (z : Layer). cells_for (y ∷ ys) z.key ≡ z.cells) q (cond-true (key_same y.key y.key) y.cells (cells_for ys y.key) (same-key y.key))
layer-listed (y ∷ ys) (suc j) x s e = cond-false (key_same y.key x.key) y.cells (cells_for ys x.key) (before-not y.key x.key (below-at y.key ys j x s.2 e)) ∙ layer-listed ys j x s.3 e

layer-ascends : (layers : List Layer) (j : ℕ) (x : Layer) → AreSorted layers → slice_get layers j ≡ Some x → IsAscending x.cells
layer-ascends [] j x s e = absurd (cc)
layer-ascends (y ∷ ys) zero x s e = let q : y ≡ x = cc in subst (λ (z : Layer). IsAscending z.cells) q s.1
layer-ascends (y ∷ ys) (suc j) x s e = layer-ascends ys j x s.3 e

-- the key of the sample that a layer stands before is the layer's
key-back : (m : Rules) (k : Key) → k.place < m.decoder.samples → key_for m (index_of m k) k.lane ≡ k
key-back m k within =
    let mk : ℕ → ℕ → Key = λ b p. record { block = b; place = p; lane = k.lane } in
    ap (λ b. mk b (index_of m k % m.decoder.samples)) (block-of k.block m.decoder.samples k.place (index_of m k) refl within)
    ∙ ap (mk k.block) (place-of k.block m.decoder.samples k.place (index_of m k) refl within)

not-both : (value found most : ℕ) → found < value → found ≡ most → value ≤ most → ⊥
not-both value found most above is within = absurd (omega arith)

pub refused : (m : Rules) (targets : List ℤ) (level blocks : ℕ) (layers : List Layer) (e : CellFault) → AreLayers m level blocks layers → AreSorted layers
    → IsFirstFault m targets (certificate_of m layers level blocks) layers e → IsAccepted m targets (certificate_of m layers level blocks) → ⊥
refused m targets level blocks layers e are sorted first accepted =
    let x = first.layer in
    let c = certificate_of m layers level blocks in
    let fault = first.fault in
    let place = (are.each e.layer x first.layer_is).place in
    let cell = (nth x.cells e.cell).cell in
    let here : c.listed (index_of m x.key) x.key.lane cell ≡ Some (nth x.cells e.cell).value =
    ap (λ (k : Key). value_of (cells_for layers k) cell) (key-back m x.key place)
    ∙ (ap (λ (z : List CellValue). value_of z cell) (layer-listed layers e.layer x sorted first.layer_is) ∙ cell-listed x.cells e.cell (layer-ascends layers e.layer x sorted first.layer_is) fault.cell_in) in
    let within = (accepted (index_of m x.key) x.key.lane cell (nth x.cells e.cell).value here).1 in
    not-both e.value e.found (found m targets c (index_of m x.key) x.key.lane cell) fault.above fault.found_is (subst (λ (z : ℕ). z ≤ found m targets c (index_of m x.key) x.key.lane cell) (sym fault.value_is) within)
