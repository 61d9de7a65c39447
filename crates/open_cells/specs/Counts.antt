-- How many cells open paths reach.
use Rattle.std.specs.Prelude.{◌≡◌, ℕ, zero, suc, ◌+◌, ◌*◌, ◌<◌, ◌≤◌, ℤ, List, [], ◌∷◌, length}
use Rattle.open_cells.specs.declared.node.Node.{Node}
use Rattle.open_cells.specs.Nodes.{IsRising}
use Rattle.open_cells.specs.Reach.{AllOpen, IsFront}
use Rattle.machine_core.specs.Rules.{Rules}

-- the nodes before sample i, none where there are no such
abbrev pub nodes_at : List (List Node) → ℕ → List Node
nodes_at [] i = []
nodes_at (x ∷ xs) zero = x
nodes_at (x ∷ xs) (suc i) = nodes_at xs i

-- how many nodes stand in the first n layers
abbrev pub count_of : (ℕ → List Node) → ℕ → ℕ
count_of layers zero = 0
count_of layers (suc n) = count_of layers n + length (layers n)

-- at most `share` cells are reached: a list for each sample holds them all, each once, and no other
pub record IsFew (m : Rules) (targets : List ℤ) (blocks level most share : ℕ) : Type 0 where
  pub layers : ℕ → List Node
  pub each : (i : ℕ) → i < blocks * m.decoder.samples → IsFront m targets blocks level most i (layers i)
  pub few : count_of layers (blocks * m.decoder.samples) ≤ share

-- more than `share` cells are reached: so many stand in a list for each sample, each once
pub record IsMany (m : Rules) (targets : List ℤ) (blocks level most share : ℕ) : Type 0 where
  pub layers : ℕ → List Node
  pub rising : (i : ℕ) → IsRising (layers i)
  pub opened : (i : ℕ) → AllOpen m targets blocks level most i (layers i)
  pub many : share < count_of layers (blocks * m.decoder.samples)

-- all layers of a level
pub record AreFronts (m : Rules) (targets : List ℤ) (blocks level most share : ℕ) (layers : List (List Node)) : Type 0 where
  pub size : length layers ≡ blocks * m.decoder.samples
  pub each : (i : ℕ) → i < blocks * m.decoder.samples → IsFront m targets blocks level most i (nodes_at layers i)
  pub few : count_of (nodes_at layers) (blocks * m.decoder.samples) ≤ share

-- too many cells before one sample
pub record IsOverflow (m : Rules) (targets : List ℤ) (blocks level most room i : ℕ) : Type 0 where
  pub nodes : List Node
  pub rising : IsRising nodes
  pub opened : AllOpen m targets blocks level most i nodes
  pub more : room < length nodes

-- the first n layers
pub record IsBuilt (m : Rules) (targets : List ℤ) (blocks level most share : ℕ) (layers : List (List Node)) (n count : ℕ) : Type 0 where
  pub size : length layers ≡ n
  pub each : (i : ℕ) → i < n → IsFront m targets blocks level most i (nodes_at layers i)
  pub count_is : count ≡ count_of (nodes_at layers) n
  pub few : count ≤ share
