-- Cells and their values in two lists.
use Rattle.std.specs.Prelude.{ℕ, List, [], ◌∷◌, Option, Some, None}
use Rattle.machine_core.specs.declared.boxes.Cell.{Cell}
use Rattle.box_layers.specs.declared.cell_value.CellValue.{CellValue}
use Rattle.box_layers.specs.declared.layer.Layer.{Layer}

-- each cell with its value
abbrev pub paired : List Cell → List ℕ → List CellValue
paired [] vs = []
paired (c ∷ cs) [] = []
paired (c ∷ cs) (v ∷ vs) = record { cell = c; value = v } ∷ paired cs vs

-- what a layer lists; where there is no layer, nothing
abbrev pub cells_in : {A : Type 0} → (A → List CellValue) → Option A → List CellValue
cells_in f None = []
cells_in f (Some x) = f x

abbrev pub cells_of : Option Layer → List CellValue
cells_of layer = cells_in (λ (l : Layer). paired l.cells.now l.values.now) layer
