-- What layers list.
use Rattle.std.specs.Prelude.{ℕ, List, [], ◌∷◌, if◌then◌else◌, Option, Some, None}
use Rattle.machine_core.specs.declared.boxes.Cell.{Cell}
use Rattle.machine_core.specs.Rules.{Rules}
use Rattle.box_layers.specs.Certificates.{Certificate}
use Rattle.box_layers.specs.declared.key.Key.{Key}
use Rattle.box_layers.specs.declared.cell_value.CellValue.{CellValue}
use Rattle.bound_cert.specs.Content.{Layer, Here, Segment}
use Rattle.box_layers.specs.Cells.{value_of}
use Rattle.box_layers.specs.Keys.{key_same}
use Rattle.block_steps.specs.Ways.{key_for}

-- the cells of the first layer with a key, none where it is not there
abbrev pub cells_for : List Layer → Key → List CellValue
cells_for [] key = []
cells_for (x ∷ xs) key = if key_same x.key key then x.cells else cells_for xs key

abbrev pub listed_in : Rules → List Layer → ℕ → ℕ → Cell → Option ℕ
listed_in m layers i lane = value_of (cells_for layers (key_for m i lane))

abbrev pub certificate_of : Rules → List Layer → ℕ → ℕ → Certificate
certificate_of m layers level blocks = record { level = level; blocks = blocks; listed = listed_in m layers }

-- what a segment's certificate says
abbrev pub certificate_in : Rules → Segment → Certificate
certificate_in m s = certificate_of m s.layers s.level s.blocks

-- the cells of a layer that may not be there
abbrev pub cells_here : Option Here → List CellValue
cells_here None = []
cells_here (Some h) = h.layer.cells

-- a layer and those after it
abbrev pub from_here : Option Here → List Layer
from_here None = []
from_here (Some h) = h.layer ∷ h.later
