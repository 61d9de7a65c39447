-- The first listed cell, in the order of the file, whose value is above what is found.
use Rattle.std.specs.Prelude.{ℕ, suc, ℤ, nat_lt, if◌then◌else◌, List, [], ◌∷◌, Option, Some, None}
use Rattle.machine_core.specs.declared.boxes.Cell.{Cell}
use Rattle.machine_core.specs.Rules.{Rules}
use Rattle.box_layers.specs.Certificates.{Certificate, found}
use Rattle.box_layers.specs.declared.cell_value.CellValue.{CellValue}
use Rattle.bound_cert.specs.Content.{Layer, Segment}
use Rattle.cert_check.specs.declared.checking.CellFault.{CellFault}
use Rattle.cert_check.specs.Faults.{index_of}
use Rattle.cert_check.specs.Layers.{certificate_in}

-- of the cells of a layer, from its cell number k on
unfoldable pub cells_fault : (Cell → ℕ) → ℕ → ℕ → List CellValue → Option CellFault
cells_fault f layer k [] = None
cells_fault f layer k (x ∷ xs) =
    if nat_lt (f x.cell) x.value then Some (record { layer = layer; cell = k; value = x.value; found = f x.cell }) else cells_fault f layer (suc k) xs

-- the fault of this layer, else of a later one
abbrev pub or_later : Option CellFault → Option CellFault → Option CellFault
or_later (Some fault) later = Some fault
or_later None later = later

-- of the layers from number j on
unfoldable pub layers_fault : Rules → List ℤ → Certificate → ℕ → List Layer → Option CellFault
layers_fault r targets c j [] = None
layers_fault r targets c j (x ∷ xs) = or_later (cells_fault (found r targets c (index_of r x.key) x.key.lane) j 0 x.cells) (layers_fault r targets c (suc j) xs)

-- of a segment
abbrev pub segment_fault : Rules → List ℤ → Segment → Option CellFault
segment_fault r targets s = layers_fault r targets (certificate_in r s) 0 s.layers
