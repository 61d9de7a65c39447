-- What listed cells are worth, layer by layer from the end.
use Rattle.std.specs.Prelude.{◌≡◌, ℕ, zero, suc, ◌-◌, ◌*◌, ◌<◌, ℤ, List, [], length, min, map}
use Rattle.open_cells.specs.declared.node.Node.{Node}
use Rattle.open_cells.specs.Nodes.{listed_in, IsRising}
use Rattle.open_cells.specs.declared.search.Search.{Search}
use Rattle.open_cells.specs.Counts.{nodes_at}
use Rattle.adpcm_nums.specs.LeastValue.{least}
use Rattle.block_steps.specs.Tables.{HoldRows, IsSpot}
use Rattle.block_steps.specs.declared.plan.Plan.{Plan}
use Rattle.block_steps.specs.declared.spots.Spot.{Spot}
use Rattle.box_layers.specs.Certificates.{Certificate, found}
use Rattle.box_layers.specs.Looking.{cell_near, or_else, span_count}
use Rattle.machine_core.specs.Floors.{block_targets, top}
use Rattle.machine_core.specs.Rules.{Rules}
use Rattle.machine_core.specs.declared.boxes.Cell.{Cell}

-- what a cell near a corner is worth
abbrev pub cell_worth : List Node → ℕ → ℕ → Cell → ℕ → ℕ → ℕ
cell_worth next lane unlisted low x y = or_else (listed_in next lane (cell_near low x y)) unlisted

-- the least of a row
abbrev pub row_worth : List Node → ℕ → ℕ → Cell → Cell → ℕ → ℕ
row_worth next lane unlisted low high x = least (span_count low.b high.b) (cell_worth next lane unlisted low x) top

-- one layer as a certificate
abbrev pub layer_certificate : ℕ → ℕ → List Node → Certificate
layer_certificate level blocks next = record { level = level; blocks = blocks; listed = λ i. listed_in next }

-- all layers as a certificate
abbrev pub layers_certificate : ℕ → ℕ → List (List Node) → Certificate
layers_certificate level blocks layers = record { level = level; blocks = blocks; listed = λ i. listed_in (nodes_at layers i) }

-- the sample in work, with its block's tables
pub record IsHere (m : Rules) (s : Search) (at : Spot) : Type 0 where
  pub spot : IsSpot m at
  pub within : at.index < s.end
  pub rows : HoldRows m (block_targets m s.targets.now at.block) s.rows.now

-- what ways on are found by, of what a search reads
abbrev pub plan_in : Search → Plan
plan_in s = record { targets = s.targets; rows = s.rows; later = s.later; blocks = s.blocks; end = s.end; level = s.level }

-- a node with what its cell is worth before the layer `next`
abbrev pub valued : Rules → List ℤ → ℕ → ℕ → ℕ → ℕ → List Node → Node → Node
valued m targets blocks level most i next x = record { lane = x.lane; cell = x.cell; cost = min most (found m targets (layer_certificate level blocks next) i x.lane x.cell) }

-- each layer has the cells of a front, with what they are worth before the next layer
pub record AreValued (m : Rules) (targets : List ℤ) (blocks level most : ℕ) (fronts layers : List (List Node)) : Type 0 where
  pub size : length layers ≡ blocks * m.decoder.samples
  pub each : (i : ℕ) → i < blocks * m.decoder.samples → nodes_at layers i ≡ map (valued m targets blocks level most i (nodes_at layers (suc i))) (nodes_at fronts i)

-- the layer before the k-th, none before the first
abbrev pub prior : List (List Node) → ℕ → List Node
prior layers zero = []
prior layers (suc k) = nodes_at layers k

-- the last k layers of n, the last first
pub record AreBacked (m : Rules) (targets : List ℤ) (blocks level most : ℕ) (fronts layers : List (List Node)) (n k : ℕ) : Type 0 where
  pub size : length layers ≡ k
  pub each : (j : ℕ) → j < k → nodes_at layers j ≡ map (valued m targets blocks level most (n - suc j) (prior layers j)) (nodes_at fronts (n - suc j))
  pub rising : (j : ℕ) → j < k → IsRising (nodes_at layers j)
