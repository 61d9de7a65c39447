-- Rows of nodes that lie in layers: a layer for each run of nodes of one lane whose cells ascend.
use Rattle.std.specs.Prelude.{◌≡◌, ℕ, suc, ◌<◌, ◌≤◌, List, [], ◌∷◌, ◌++◌, take, drop, map, true, slice_index_or}
use Rattle.std.specs.Bool.{⊤}
use Rattle.std.specs.List.{All, flat_map}
use Rattle.machine_core.specs.declared.boxes.Cell.{Cell}
use Rattle.box_layers.specs.Cells.{before}
use Rattle.box_layers.specs.Layers.{LayerLists}
use Rattle.open_cells.specs.declared.node.Node.{Node}
use Rattle.open_cells.specs.declared.row.Row.{Row}

abbrev pub cells_of : List Node → List Cell
cells_of xs = map (λ (x : Node). x.cell) xs

abbrev pub costs_of : List Node → List ℕ
costs_of xs = map (λ (x : Node). x.cost) xs

-- a node stands in a layer behind another
pub record Follows (x y : Node) : Type 0 where
  pub lane_is : y.lane ≡ x.lane
  pub after : before x.cell y.cell ≡ true

-- of the first n nodes each stands behind the one before it
abbrev pub IsRun : List Node → ℕ → Type 0
IsRun xs n = (k : ℕ) (d : Node) → suc k < n → Follows (slice_index_or xs k d) (slice_index_or xs (suc k) d)

-- cells of a lane with their costs
abbrev pub nodes_in : ℕ → List Cell → List ℕ → List Node
nodes_in lane [] vs = []
nodes_in lane (c ∷ cs) [] = []
nodes_in lane (c ∷ cs) (v ∷ vs) = record { lane = lane; cell = c; cost = v } ∷ nodes_in lane cs vs

-- the nodes of a layer
abbrev pub layer_nodes : LayerLists → List Node
layer_nodes l = nodes_in l.key.lane l.cells l.values

-- the nodes of layers, one layer after another
unfoldable pub nodes_of : List LayerLists → List Node
nodes_of ls = flat_map layer_nodes ls

-- the nodes of a row
unfoldable pub row_in : List LayerLists → Row → List Node
row_in ls r = nodes_of (drop r.from (take r.end ls))

-- each layer's key has a number below n as its block
abbrev pub AreNumbered : ℕ → List LayerLists → Type 0
AreNumbered n [] = ⊤
AreNumbered n (l ∷ ls) = (l.key.block < n) × AreNumbered n ls

-- each row lies within n layers
abbrev pub AreWithin : ℕ → List Row → Type 0
AreWithin n rows = All (λ r. (r.from ≤ r.end) × (r.end ≤ n)) rows

-- more layers stand behind the old ones
pub record Grows (old new : List LayerLists) : Type 0 where
  pub more : List LayerLists
  pub is : new ≡ old ++ more
