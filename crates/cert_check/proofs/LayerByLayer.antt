-- Layer after layer.
use Rattle.std.proofs.Common.{◌≡◌, ℕ, zero, suc, ◌+◌, ◌<◌, ◌≤◌, ℤ, List, [], ◌∷◌, length, drop, sym, ◌∙◌, ap, refl, arith, subst, inl, inr, ◌⊎◌, Some, None, Option, add-one}
use Rattle.std.specs.Prelude.{slice_get}
use Rattle.std.proofs.lemmas.List.{drop-drop}
use Rattle.machine_core.specs.declared.boxes.Cell.{Cell}
use Rattle.machine_core.specs.Rules.{Rules, IsMachine}
use Rattle.box_layers.specs.Certificates.{found}
use Rattle.box_layers.specs.declared.cell_value.CellValue.{CellValue}
use Rattle.box_layers.specs.declared.key.Key.{Key}
use Rattle.box_layers.specs.Cells.{nth}
use Rattle.box_layers.specs.Keys.{key_same}
use Rattle.std.proofs.lemmas.Bool.{cond-true, cond-false}
use Rattle.std.proofs.Common.{true, false}
use Rattle.bound_cert.specs.Content.{Layer, Here, AreSorted, next_of, first_at}
use Rattle.cert_check.specs.declared.checking.CellFault.{CellFault}
use Rattle.cert_check.specs.Layers.{certificate_of, from_here, cells_for}
use Rattle.cert_check.specs.Faults.{AreLayers, IsLayer, HoldsBelow, LayersHold, IsCellFault, IsFirstFault, index_of}
use Rattle.cert_check.proofs.Upward.{found-later}

pub get-head : (k : ℕ) (xs ys : List Layer) (x : Layer) → (x ∷ ys) ≡ drop k xs → slice_get xs k ≡ Some x
get-head zero xs ys x h = ap (λ z. slice_get z 0) (sym h)
get-head (suc k) [] ys x h = absurd (cc)
get-head (suc k) (z ∷ xs) ys x h = get-head k xs ys x h

pub tail-drop : (k : ℕ) (xs ys : List Layer) (x : Layer) → (x ∷ ys) ≡ drop k xs → ys ≡ drop (k + 1) xs
tail-drop k xs ys x h = ap (drop 1) h ∙ drop-drop 1 k xs

pub first-from : (at : ℕ) (layers : List Layer) → from_here (first_at at layers) ≡ layers
first-from at [] = refl
first-from at (x ∷ xs) = refl

pub next-from : (h : Here) → from_here (next_of h) ≡ h.later
next-from h = first-from _ h.later

some-same : {x y : Layer} → Some x ≡ Some y → x ≡ y
some-same h = cc

below-or-same : (j k : ℕ) → k < j + 1 → (k < j) ⊎ (k ≡ j)
below-or-same j k h = grind arith

below-same : (f g : Cell → ℕ) (cells : List CellValue) (n : ℕ) → ((c : Cell) → f c ≡ g c) → HoldsBelow f cells n → HoldsBelow g cells n
below-same f g cells n e h k l = subst (λ z. (nth cells k).value ≤ z) (e (nth cells k).cell) (h k l)

fault-same : (f g : Cell → ℕ) (cells : List CellValue) (n : ℕ) (x : CellFault) → ((c : Cell) → f c ≡ g c) → IsCellFault f cells n x → IsCellFault g cells n x
fault-same f g cells n x e h = record {
  layer_is = h.layer_is;
  cell_in = h.cell_in;
  value_is = h.value_is;
  found_is = h.found_is ∙ e (nth cells x.cell).cell;
  above = h.above;
  first = below-same f g cells x.cell e h.first;
}

-- the values of layer j, by all layers
layer-holds : (m : Rules) → IsMachine m → (targets : List ℤ) (level blocks : ℕ) (layers : List Layer) (j : ℕ) (x : Layer) (later : List Layer) → AreSorted layers → slice_get layers j ≡ Some x
    → later ≡ drop (j + 1) layers → x.key.place < m.decoder.samples → (c : Cell) → found m targets (certificate_of m later level blocks) (index_of m x.key) x.key.lane c ≡ found m targets (certificate_of m layers level blocks) (index_of m x.key) x.key.lane c
layer-holds m laws targets level blocks layers j x later s get l p c =
    ap (λ (z : List Layer). found m targets (certificate_of m z level blocks) (index_of m x.key) x.key.lane c) (l ∙ ap (λ n. drop n layers) (add-one j))
    ∙ found-later m laws targets level blocks layers j x x.key.lane c s get p

pub layers-more : (m : Rules) → IsMachine m → (targets : List ℤ) (level blocks : ℕ) (layers : List Layer) (j : ℕ) (x : Layer) (later : List Layer) → AreSorted layers → AreLayers m level blocks layers
    → (x ∷ later) ≡ drop j layers → LayersHold m targets (certificate_of m layers level blocks) layers j
    → HoldsBelow (found m targets (certificate_of m later level blocks) (index_of m x.key) x.key.lane) x.cells (length x.cells)
    → LayersHold m targets (certificate_of m layers level blocks) layers (j + 1)
layers-more m laws targets level blocks layers j x later s are d h here j' y lt get =
    let at = get-head j layers later x d in
    let e = layer-holds m laws targets level blocks layers j x later s at (tail-drop j layers later x d) (are.each j x at).place in
    elim (below-or-same j j' lt) [
      | inl less ↦ h j' y less get
      | inr same ↦ (
          let xy : x ≡ y = some-same (sym at ∙ (ap (slice_get layers) (sym same) ∙ get)) in
          let b = below-same (found m targets (certificate_of m later level blocks) (index_of m x.key) x.key.lane) (found m targets (certificate_of m layers level blocks) (index_of m x.key) x.key.lane) x.cells (length x.cells) e here in
          subst (λ (z : Layer). HoldsBelow (found m targets (certificate_of m layers level blocks) (index_of m z.key) z.key.lane) z.cells (length z.cells)) xy b)
    ]

pub first-fault : (m : Rules) → IsMachine m → (targets : List ℤ) (level blocks : ℕ) (layers : List Layer) (j n : ℕ) (x : Layer) (later : List Layer) (f : CellFault) → AreSorted layers → AreLayers m level blocks layers
    → (x ∷ later) ≡ drop j layers → n ≡ j → LayersHold m targets (certificate_of m layers level blocks) layers j
    → IsCellFault (found m targets (certificate_of m later level blocks) (index_of m x.key) x.key.lane) x.cells n f
    → IsFirstFault m targets (certificate_of m layers level blocks) layers f
first-fault m laws targets level blocks layers j n x later f s are d n_is h fault =
    let at = get-head j layers later x d in
    let e = layer-holds m laws targets level blocks layers j x later s at (tail-drop j layers later x d) (are.each j x at).place in
    let k : f.layer ≡ j = fault.layer_is ∙ n_is in
    let b = fault-same (found m targets (certificate_of m later level blocks) (index_of m x.key) x.key.lane) (found m targets (certificate_of m layers level blocks) (index_of m x.key) x.key.lane) x.cells n f e fault in
    record {
      layer = x;
      layer_is = ap (slice_get layers) k ∙ at;
      fault = subst (λ (z : ℕ). IsCellFault (found m targets (certificate_of m layers level blocks) (index_of m x.key) x.key.lane) x.cells z f) (sym fault.layer_is) b;
      earlier = subst (λ (z : ℕ). LayersHold m targets (certificate_of m layers level blocks) layers z) (sym k) h;
    }

-- layers that are read to their end
pub none-left : (layers : List Layer) (j : ℕ) → j < length layers → [] ≡ drop j layers → ⊥
none-left [] j h e = absurd (omega arith)
none-left (x ∷ xs) zero h e = cc
none-left (x ∷ xs) (suc j) h e = none-left xs j (omega arith) e

-- the same, where the code's level and blocks are the segment's
pub layers-more-at : (m : Rules) → IsMachine m → (targets : List ℤ) (level blocks level' blocks' : ℕ) (layers : List Layer) (j : ℕ) (h : Here) → AreSorted layers → AreLayers m level blocks layers
    → level' ≡ level → blocks' ≡ blocks → from_here (Some h) ≡ drop j layers → LayersHold m targets (certificate_of m layers level blocks) layers j
    → HoldsBelow (found m targets (certificate_of m h.later level' blocks') (index_of m h.layer.key) h.layer.key.lane) h.layer.cells (length h.layer.cells)
    → LayersHold m targets (certificate_of m layers level blocks) layers (j + 1)
layers-more-at m laws targets level blocks level' blocks' layers j h s are p q d hold here =
    let a = subst (λ z. HoldsBelow (found m targets (certificate_of m h.later z blocks') (index_of m h.layer.key) h.layer.key.lane) h.layer.cells (length h.layer.cells)) p here in
    let b = subst (λ z. HoldsBelow (found m targets (certificate_of m h.later level z) (index_of m h.layer.key) h.layer.key.lane) h.layer.cells (length h.layer.cells)) q a in
    layers-more m laws targets level blocks layers j h.layer h.later s are d hold b

pub first-fault-at : (m : Rules) → IsMachine m → (targets : List ℤ) (level blocks level' blocks' : ℕ) (layers : List Layer) (j : ℕ) (h : Here) (f : CellFault) → AreSorted layers → AreLayers m level blocks layers
    → level' ≡ level → blocks' ≡ blocks → from_here (Some h) ≡ drop j layers → LayersHold m targets (certificate_of m layers level blocks) layers j
    → IsCellFault (found m targets (certificate_of m h.later level' blocks') (index_of m h.layer.key) h.layer.key.lane) h.layer.cells j f
    → IsFirstFault m targets (certificate_of m layers level blocks) layers f
first-fault-at m laws targets level blocks level' blocks' layers j h f s are p q d hold fault =
    let a = subst (λ z. IsCellFault (found m targets (certificate_of m h.later z blocks') (index_of m h.layer.key) h.layer.key.lane) h.layer.cells j f) p fault in
    let b = subst (λ z. IsCellFault (found m targets (certificate_of m h.later level z) (index_of m h.layer.key) h.layer.key.lane) h.layer.cells j f) q a in
    first-fault m laws targets level blocks layers j j h.layer h.later f s are d refl hold b

pub layer-fits : (m : Rules) (level blocks level' blocks' : ℕ) (layers : List Layer) (j : ℕ) (h : Here) → AreLayers m level blocks layers → level' ≡ level → blocks' ≡ blocks → from_here (Some h) ≡ drop j layers
    → IsLayer m level' blocks' h.layer
layer-fits m level blocks level' blocks' layers j h are p q d =
    let a = are.each j h.layer (get-head j layers h.later h.layer d) in
    subst (λ z. IsLayer m level' z h.layer) (sym q) (subst (λ z. IsLayer m z blocks h.layer) (sym p) a)

pub next-rest : (layers : List Layer) (j : ℕ) (h : Here) (o : Option Here) → from_here (Some h) ≡ drop j layers → o ≡ next_of h → from_here o ≡ drop (j + 1) layers
next-rest layers j h o d e = ap (λ (z : Option Here). from_here z) e ∙ (next-from h ∙ tail-drop j layers h.later h.layer d)

pub cells-first : (layers : List Layer) (at : ℕ) (h : Here) (key : Key) → Some h ≡ first_at at layers → key_same h.layer.key key ≡ true → h.layer.cells ≡ cells_for layers key
cells-first layers at h key e y =
    let d : from_here (Some h) ≡ layers = ap (λ (z : Option Here). from_here z) e ∙ first-from at layers in
    sym (ap (λ (z : List Layer). cells_for z key) (sym d) ∙ cond-true (key_same h.layer.key key) h.layer.cells (cells_for h.later key) y)

pub cells-behind : (layers : List Layer) (at : ℕ) (h : Here) (key : Key) → Some h ≡ first_at at layers → key_same h.layer.key key ≡ false → cells_for h.later key ≡ cells_for layers key
cells-behind layers at h key e n =
    let d : from_here (Some h) ≡ layers = ap (λ (z : Option Here). from_here z) e ∙ first-from at layers in
    sym (ap (λ (z : List Layer). cells_for z key) (sym d) ∙ cond-false (key_same h.layer.key key) h.layer.cells (cells_for h.later key) n)

pub cells-none : (layers : List Layer) (at : ℕ) (key : Key) → None ≡ first_at at layers → [] ≡ cells_for layers key
cells-none layers at key e =
    let d : [] ≡ layers = ap (λ (z : Option Here). from_here z) e ∙ first-from at layers in ap (λ (z : List Layer). cells_for z key) d
