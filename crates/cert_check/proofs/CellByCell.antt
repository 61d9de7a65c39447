-- Cell after cell: what is found for one, as far as its value.
use Rattle.std.proofs.Common.{◌≡◌, ℕ, ◌+◌, ◌-◌, ◌<◌, ◌≤◌, List, length, sym, ◌∙◌, ap, refl, arith, subst, inl, inr, ◌⊎◌, min}
use Rattle.machine_core.specs.declared.boxes.Cell.{Cell}
use Rattle.machine_core.specs.Floors.{top}
use Rattle.box_layers.specs.declared.cell_value.CellValue.{CellValue}
use Rattle.box_layers.specs.Cells.{nth}
use Rattle.cert_check.specs.Faults.{HoldsBelow, IsCellFault}

below-or-same : (j k : ℕ) → k < j + 1 → (k < j) ⊎ (k ≡ j)
below-or-same j k h = grind arith

-- a value above what is found
pub fault-at : (f : Cell → ℕ) (cells : List CellValue) (layer i slack found : ℕ) (c : CellValue) → c ≡ nth cells i → i < length cells → c.value ≤ top → slack ≡ min c.value (top - 1)
    → found ≡ min (slack + 1) (f c.cell) → found < c.value → HoldsBelow f cells i → IsCellFault f cells layer (record { layer = layer; cell = i; value = c.value; found = found })
fault-at f cells layer i slack found c e within small s q above first =
    let is : found ≡ f c.cell = omega arith in
    record {
      layer_is = refl;
      cell_in = within;
      value_is = ap (λ (z : CellValue). z.value) e;
      found_is = is ∙ ap (λ (z : CellValue). f z.cell) e;
      above = above;
      first = first;
    }

-- one that is not
pub holds-more : (f : Cell → ℕ) (cells : List CellValue) (i slack found : ℕ) (c : CellValue) → c ≡ nth cells i → found ≡ min (slack + 1) (f c.cell) → c.value ≤ found → HoldsBelow f cells i → HoldsBelow f cells (i + 1)
holds-more f cells i slack found c e q within all k less =
    elim (below-or-same i k less) as (λ _. (nth cells k).value ≤ f (nth cells k).cell) [
      | inl l ↦ all k l
      | inr same ↦ subst (λ (z : ℕ). (nth cells z).value ≤ f (nth cells z).cell) (sym same) (subst (λ (z : CellValue). z.value ≤ f z.cell) e (omega arith))
    ]
