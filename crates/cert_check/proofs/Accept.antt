use Rattle.std.proofs.Common.{◌≡◌, ℕ, suc, ◌*◌, ◌/◌, ◌<◌, ◌≤◌, ℤ, List, [], ◌∷◌, length, sym, ◌∙◌, ap, refl, arith, subst, inl, inr, Some, None, IsTrue, true}
use Rattle.machine_core.specs.Blocks.{first_only}
use Rattle.std.specs.Prelude.{slice_get}
use Rattle.std.proofs.lemmas.Bool.Decides.{nat_tests}
use Rattle.std.proofs.lemmas.Nat.{div-add-mod'}
use Rattle.std.proofs.Math.Nat.{mul-le-mul_right}
use Rattle.machine_core.specs.declared.boxes.Cell.{Cell}
use Rattle.machine_core.specs.Rules.{Rules}
use Rattle.box_layers.specs.Certificates.{found, IsAccepted, value}
use Rattle.box_layers.specs.declared.key.Key.{Key}
use Rattle.box_layers.specs.declared.cell_value.CellValue.{CellValue}
use Rattle.bound_cert.specs.Content.{Layer}
use Rattle.box_layers.specs.Cells.{value_of, same_cell, nth}
use Rattle.box_layers.specs.Keys.{key_same}
use Rattle.machine_core.specs.Blocks.{first_only}
use Rattle.machine_core.specs.Floors.{floor_of_blocks}
use Rattle.machine_core.specs.Cells.{is_level}
use Rattle.block_steps.specs.Ways.{key_for}
use Rattle.cert_check.specs.Layers.{cells_for, certificate_of}
use Rattle.cert_check.specs.Faults.{AreLayers, LayersHold, index_of}
use Rattle.std.proofs.lemmas.Bool.{cases_Bool, cond-true, cond-false}
use Rattle.box_layers.proofs.CellOrder.{same-true}

none-some : {v : ℕ} → None ≡ Some v → ⊥
none-some h = cc

-- where a cell is listed, it stands somewhere with that value
record Stands (cells : List CellValue) (cell : Cell) (v : ℕ) : Type 0 where
  k : ℕ
  fits : k < length cells
  cell_is : (nth cells k).cell ≡ cell
  value_is : (nth cells k).value ≡ v

some-same : {x y : ℕ} → Some x ≡ Some y → x ≡ y
some-same h = cc

stands : (cells : List CellValue) (cell : Cell) (v : ℕ) → value_of cells cell ≡ Some v → Stands cells cell v
stands [] cell v e = absurd (none-some e)
stands (x ∷ xs) cell v e =
    elim (cases_Bool (same_cell x.cell cell)) [
      | inl y ↦ record { k = 0; fits = omega arith; cell_is = same-true x.cell cell y; value_is = some-same (sym (cond-true _ _ _ y) ∙ e) }
      | inr n ↦ (let s = stands xs cell v (sym (cond-false _ _ _ n) ∙ e) in
          record { k = suc s.k; fits = (let f = s.fits in omega arith); cell_is = s.cell_is; value_is = s.value_is })
    ]

record Found (layers : List Layer) (key : Key) (cell : Cell) (v : ℕ) : Type 0 where
  j : ℕ
  x : Layer
  is : slice_get layers j ≡ Some x
  fits : j < length layers
  same : key_same x.key key ≡ true
  at : Stands x.cells cell v

found-at : (layers : List Layer) (key : Key) (cell : Cell) (v : ℕ) → value_of (cells_for layers key) cell ≡ Some v → Found layers key cell v
found-at [] key cell v e = absurd (none-some e)
found-at (x ∷ xs) key cell v e =
    elim (cases_Bool (key_same x.key key)) [
      | inl y ↦ record {
        j = 0;
        x = x;
        is = refl;
        fits = omega arith;
        same = y;
        at = stands x.cells cell v (subst (λ (z : List CellValue). value_of z cell ≡ Some v) (cond-true (key_same x.key key) x.cells (cells_for xs key) y) e);
      }
      | inr n ↦ (let s = found-at xs key cell v (subst (λ (z : List CellValue). value_of z cell ≡ Some v) (cond-false (key_same x.key key) x.cells (cells_for xs key) n) e) in
          record { j = suc s.j; x = s.x; is = s.is; fits = (let f = s.fits in omega arith); same = s.same; at = s.at })
    ]

key-true : (key other : Key) → key_same key other ≡ true → (key.block ≡ other.block) × (key.place ≡ other.place) × (key.lane ≡ other.lane)
key-true key other h = (grind (arith, nat_tests), grind (arith, nat_tests), grind (arith, nat_tests))

pub accepted : (m : Rules) (targets : List ℤ) (level blocks : ℕ) (layers : List Layer) → AreLayers m level blocks layers
    → LayersHold m targets (certificate_of m layers level blocks) layers (length layers) → IsAccepted m targets (certificate_of m layers level blocks)
accepted m targets level blocks layers are hold i lane cell v e =
    let f = found-at layers (key_for m i lane) cell v e in
    let l = are.each f.j f.x f.is in
    let k = key-true f.x.key (key_for m i lane) f.same in
    let w : f.x.key.block * m.decoder.samples ≡ i / m.decoder.samples * m.decoder.samples = ap (λ z. z * m.decoder.samples) k.0 in
    let d = div-add-mod' i m.decoder.samples in
    let index : index_of m f.x.key ≡ i = omega arith in
    let lb = l.block in let lp = l.place in
    let most : suc f.x.key.block * m.decoder.samples ≤ blocks * m.decoder.samples = mul-le-mul_right m.decoder.samples lb in
    let h = hold f.j f.x f.fits f.is f.at.k f.at.fits in
    let c = certificate_of m layers level blocks in
    let h1 = subst (λ (z : ℕ). z ≤ found m targets c (index_of m f.x.key) f.x.key.lane (nth f.x.cells f.at.k).cell) f.at.value_is h in
    let h2 = subst (λ (z : Cell). v ≤ found m targets c (index_of m f.x.key) f.x.key.lane z) f.at.cell_is h1 in
    let h3 = subst (λ (z : ℕ). v ≤ found m targets c z f.x.key.lane cell) index h2 in
    (omega arith, subst (λ (z : ℕ). v ≤ found m targets c i z cell) k.2 h3)

-- without layers the floor is the bound
pub bound : (m : Rules) (targets : List ℤ) (level blocks v sum : ℕ) (layers : List Layer) → (0 < length layers → IsTrue (is_level level))
    → floor_of_blocks m first_only targets blocks ≤ sum → (IsTrue (is_level level) → value m targets (certificate_of m layers level blocks) ≤ sum)
    → v ≡ value m targets (certificate_of m layers level blocks) → v ≤ sum
bound m targets level blocks v sum [] level_is floor claim e = omega arith
bound m targets level blocks v sum (x ∷ xs) level_is floor claim e = let c = claim (level_is (omega arith)) in omega arith
