-- Cells before each sample as the layers of a certificate, one for each lane.
use Rattle.std.specs.Prelude.{ℕ, suc, ◌+◌, length, ◌/◌, ◌%◌, ◌==◌, if◌then◌else◌, List, [], ◌∷◌, ◌++◌}
use Rattle.box_layers.specs.declared.cell_value.CellValue.{CellValue}
use Rattle.box_layers.specs.declared.key.Key.{Key}
use Rattle.bound_cert.specs.Content.{Layer, Plain}
use Rattle.open_cells.specs.declared.node.Node.{Node}
use Rattle.branch_bound.specs.declared.levels.LevelCert.{LevelCert}

abbrev pub key_at : ℕ → ℕ → ℕ → Key
key_at block place lane = record { block = block; place = place; lane = lane }

abbrev pub cell_of_node : Node → CellValue
cell_of_node x = record { cell = x.cell; value = x.cost }

-- cells of a lane before layers, of which the first may be of the same lane
abbrev pub joined : ℕ → ℕ → ℕ → List CellValue → List Layer → List Layer
joined block place lane cells [] = record { key = key_at block place lane; cells = cells } ∷ []
joined block place lane cells (x ∷ xs) =
    if x.key.lane == lane then record { key = key_at block place lane; cells = cells ++ x.cells } ∷ xs else record { key = key_at block place lane; cells = cells } ∷ x ∷ xs

-- the cells before a sample, cut where the lane changes
abbrev pub cut : ℕ → ℕ → List Node → List Layer
cut block place [] = []
cut block place (x ∷ xs) = joined block place x.lane (cell_of_node x ∷ []) (cut block place xs)

-- those before sample i and later ones
abbrev pub keyed : ℕ → ℕ → List (List Node) → List Layer
keyed samples i [] = []
keyed samples i (x ∷ xs) = cut (i / samples) (i % samples) x ++ keyed samples (suc i) xs

-- how many cells layers have
abbrev pub cell_total : List Layer → ℕ
cell_total [] = 0
cell_total (x ∷ xs) = length x.cells + cell_total xs

-- what a search shows at a level, as it is stored
abbrev pub stored_as : ℕ → LevelCert → Plain
stored_as samples c = record { blocks = c.blocks; level = c.level; bound = c.bound; layers = keyed samples 0 c.layers }
