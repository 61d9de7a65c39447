-- A least list, sample by sample.
use Rattle.std.specs.Prelude.{◌≡◌, ℕ, zero, suc, ◌+◌, ◌*◌, ◌/◌, ◌%◌, ◌<◌, ◌≤◌, ℤ, List, length, get_or, Some, true}
use Rattle.open_cells.specs.Nodes.{listed_in, IsRising}
use Rattle.open_cells.specs.declared.node.Node.{Node}
use Rattle.open_cells.specs.Counts.{nodes_at}
use Rattle.branch_bound.specs.Worth.{layers_certificate}
use Rattle.box_layers.specs.Certificates.{IsAccepted, lane_at}
use Rattle.branch_bound.specs.Searched.{IsSearched}
use Rattle.machine_core.specs.Blocks.{Blocks, first_only, rule_of, state_at}
use Rattle.machine_core.specs.Cells.{cell_of}
use Rattle.machine_core.specs.Decoder.{start}
use Rattle.machine_core.specs.Rules.{Rules, grid}
use Rattle.machine_core.specs.Sums.{sum_from}
use Rattle.machine_core.specs.declared.state.State.{State}
use Rattle.open_cells.specs.Paths.{Opens}

-- blocks begun before sample i
abbrev pub begun : Rules → ℕ → ℕ
begun m zero = 0
begun m (suc i) = suc (i / m.decoder.samples)

abbrev pub list_of : List ℕ → List ℕ → Blocks
list_of heads symbols = record { heads = heads; symbols = symbols }

-- the state before sample i is reached by an open path that costs no more than the list so far, and `left` is listed for it
pub record IsListed (m : Rules) (targets : List ℤ) (blocks most : ℕ) (layers : List (List Node)) (i head cost left : ℕ) (at : State) : Type 0 where
  pub listed : listed_in (nodes_at layers i) (lane_at m head i) (cell_of (grid m) 0 at) ≡ Some left
  pub path : ℕ
  pub opened : Opens m targets blocks 0 most i (lane_at m head i) (cell_of (grid m) 0 at) path
  pub cheap : path ≤ cost

-- the first i samples of a list that comes to `total`
pub record IsWalk (m : Rules) (targets : List ℤ) (blocks most total : ℕ) (layers : List (List Node)) (heads symbols : List ℕ) (at : State) (head left i : ℕ) : Type 0 where
  pub state_is : at ≡ state_at m.decoder (list_of heads symbols) start i
  pub sum_is : sum_from m.decoder (list_of heads symbols) targets 0 i + left ≡ total
  pub symbol_count : length symbols ≡ i
  pub head_count : length heads ≡ begun m i
  pub heads_fit : (b : ℕ) → b < length heads → get_or heads b 0 < m.decoder.heads
  pub heads_allowed : (b : ℕ) → b < length heads → m.decoder.allows (get_or heads b 0) (rule_of first_only b) ≡ true
  pub symbols_fit : (j : ℕ) → j < i → get_or symbols j 0 < m.decoder.symbols (j % m.decoder.samples)
  pub head_is : 0 < i % m.decoder.samples → head ≡ get_or heads (i / m.decoder.samples) 0
  pub ends : i ≡ blocks * m.decoder.samples → left ≡ 0
  pub here : i < blocks * m.decoder.samples → IsListed m targets blocks most layers i head (sum_from m.decoder (list_of heads symbols) targets 0 i) left at

-- the layers that a list is walked through
pub record IsGround (m : Rules) (targets : List ℤ) (blocks most : ℕ) (layers : List (List Node)) : Type 0 where
  pub rising : (i : ℕ) → IsRising (nodes_at layers i)
  pub searched : IsSearched m targets most (layers_certificate 0 blocks layers)
  pub accepted : IsAccepted m targets (layers_certificate 0 blocks layers)
