-- When a layer's values hold, and the first that does not.
use Rattle.std.specs.Prelude.{◌≡◌, ℕ, ◌<◌, ◌≤◌, List, length, IsTrue, slice_get, Some, ℤ, ◌+◌, ◌*◌}
use Rattle.machine_core.specs.Rules.{grid}
use Rattle.machine_core.specs.Cells.{is_cell}
use Rattle.box_layers.specs.declared.key.Key.{Key}
use Rattle.box_layers.specs.declared.cell_value.CellValue.{CellValue}
use Rattle.box_layers.specs.Cells.{nth}
use Rattle.bound_cert.specs.Content.{Layer}
use Rattle.block_steps.specs.declared.plan.Plan.{Plan}
use Rattle.machine_core.specs.declared.boxes.Cell.{Cell}
use Rattle.machine_core.specs.Rules.{Rules}
use Rattle.box_layers.specs.Certificates.{found, Certificate}
use Rattle.cert_check.specs.declared.checking.CellFault.{CellFault}
use Rattle.cert_check.specs.Layers.{certificate_of}

abbrev pub found_by : Rules → Plan → List Layer → ℕ → ℕ → Cell → ℕ
found_by m p later i lane = found m p.targets.now (certificate_of m later p.level p.blocks) i lane

abbrev pub AreCells : Rules → ℕ → List CellValue → Type 0
AreCells m level cells = (k : ℕ) → k < length cells → IsTrue (is_cell (grid m) level (nth cells k).cell)

-- the first n values are at most what is found
abbrev pub HoldsBelow : (Cell → ℕ) → List CellValue → ℕ → Type 0
HoldsBelow f cells n = (k : ℕ) → k < n → (nth cells k).value ≤ f (nth cells k).cell

pub record IsCellFault (f : Cell → ℕ) (cells : List CellValue) (layer : ℕ) (e : CellFault) : Type 0 where
  pub layer_is : e.layer ≡ layer
  pub cell_in : e.cell < length cells
  pub value_is : e.value ≡ (nth cells e.cell).value
  pub found_is : e.found ≡ f (nth cells e.cell).cell
  pub above : e.found < e.value
  pub first : HoldsBelow f cells e.cell

abbrev pub index_of : Rules → Key → ℕ
index_of m key = key.block * m.decoder.samples + key.place

pub record IsLayer (m : Rules) (level blocks : ℕ) (x : Layer) : Type 0 where
  pub block : x.key.block < blocks
  pub place : x.key.place < m.decoder.samples
  pub cells : AreCells m level x.cells

pub record AreLayers (m : Rules) (level blocks : ℕ) (layers : List Layer) : Type 0 where
  pub each : (j : ℕ) (x : Layer) → slice_get layers j ≡ Some x → IsLayer m level blocks x

-- each value of the first n layers is at most what is found
abbrev pub LayersHold : Rules → List ℤ → Certificate → List Layer → ℕ → Type 0
LayersHold m targets c layers n = (j : ℕ) (x : Layer) → j < n → slice_get layers j ≡ Some x
    → HoldsBelow (found m targets c (index_of m x.key) x.key.lane) x.cells (length x.cells)

-- the first listed cell whose value is above what is found
pub record IsFirstFault (m : Rules) (targets : List ℤ) (c : Certificate) (layers : List Layer) (e : CellFault) : Type 0 where
  pub layer : Layer
  pub layer_is : slice_get layers e.layer ≡ Some layer
  pub fault : IsCellFault (found m targets c (index_of m layer.key) layer.key.lane) layer.cells e.layer e
  pub earlier : LayersHold m targets c layers e.layer
