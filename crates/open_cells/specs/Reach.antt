-- What one step of the search reaches.
use Rattle.std.specs.Prelude.{◌≡◌, Result, Err, ℕ, suc, ◌+◌, ◌*◌, ◌^◌, ◌<◌, ◌≤◌, ◌⊎◌, ℤ, pos, List, get_or, IsTrue, ◌%◌, true}
use Rattle.std.specs.List.{Contains}
use Rattle.open_cells.specs.declared.node.Node.{Node}
use Rattle.open_cells.specs.declared.node.Halt.{Halt}
use Rattle.open_cells.specs.declared.node.Halt.TheVariants.{Many}
use Rattle.open_cells.specs.Nodes.{HasNode, IsRising, IsTooMany, Keeps}
use Rattle.open_cells.specs.declared.search.Search.{Search}
use Rattle.bound_cert.specs.Filed.{IsFiled}
use Rattle.block_steps.specs.Tables.{HoldLater, HoldRows, IsSpot}
use Rattle.block_steps.specs.declared.spots.Spot.{Spot}
use Rattle.box_layers.specs.Certificates.{lane_at}
use Rattle.machine_core.specs.Blocks.{first_only}
use Rattle.machine_core.specs.Cells.{IsBetween, cell_box, is_level}
use Rattle.machine_core.specs.Floors.{block_targets, may_take, rest, top}
use Rattle.machine_core.specs.Rules.{Rules, grid}
use Rattle.machine_core.specs.declared.boxes.Cell.{Cell}
use Rattle.machine_core.specs.declared.pieces.Piece.{Piece}
use Rattle.open_cells.specs.Paths.{FitTargets, IsStep, Meets, Opens}

-- a search's numbers fit
pub record IsSearch (m : Rules) (s : Search) : Type 0 where
  pub end : s.end ≡ s.blocks * m.decoder.samples
  pub small : s.end < 2 ^ 31
  pub level : IsTrue (is_level s.level)
  pub most : s.most ≤ top
  pub later : HoldLater m s.targets.now s.blocks s.later.now
  pub fit : FitTargets m s.blocks s.targets.now
  pub filed : IsFiled m
  pub room : m.decoder.heads * m.floor_len < 2 ^ 31

-- the sample in work, with its block's floors
pub record IsCurrent (m : Rules) (s : Search) (at : Spot) : Type 0 where
  pub spot : IsSpot m at
  pub within : suc at.index < s.end
  pub rows : HoldRows m (block_targets m s.targets.now at.block) s.rows.now

-- the sample after it
pub record IsNext (m : Rules) (s : Search) (at next : Spot) : Type 0 where
  pub spot : IsSpot m next
  pub index : next.index ≡ suc at.index
  pub within : next.index < s.end
  pub rows : 0 < next.place → HoldRows m (block_targets m s.targets.now next.block) s.rows.now

-- a node is an open path's end
abbrev pub IsOpen : Rules → Search → ℕ → Node → Type 0
IsOpen m s i x = Opens m s.targets.now s.blocks s.level s.most i x.lane x.cell x.cost

pub record AllOpen (m : Rules) (targets : List ℤ) (blocks level most i : ℕ) (xs : List Node) : Type 0 where
  pub each : (x : Node) → Contains xs x → Opens m targets blocks level most i x.lane x.cell x.cost

abbrev pub AreOpen : Rules → Search → ℕ → List Node → Type 0
AreOpen m s i xs = AllOpen m s.targets.now s.blocks s.level s.most i xs

-- a new node between two corners
pub record IsNew (low high : Cell) (lane cost : ℕ) (x : Node) : Type 0 where
  pub lane_is : x.lane ≡ lane
  pub cost_is : x.cost ≡ cost
  pub between : IsBetween low high x.cell

-- all that stands is as before, or new
abbrev pub IsNewOrOld : Cell → Cell → ℕ → ℕ → List Node → List Node → Type 0
IsNewOrOld low high lane cost old new = (x : Node) → Contains new x → Contains old x ⊎ IsNew low high lane cost x

-- what a piece of a node's image leads to stands in the list
abbrev pub Reaches : Rules → Search → ℕ → Node → Piece → ℕ → List Node → Type 0
Reaches m s i x q to made = (c : Cell) → Meets m s.level q.bx c
    → x.cost + q.cost + rest m first_only s.targets.now s.blocks (suc i) to (cell_box (grid m) s.level c) < s.most → HasNode made to c (x.cost + q.cost)

-- the same of all pieces
abbrev pub ReachesAll : Rules → Search → ℕ → Node → List Piece → ℕ → List Node → Type 0
ReachesAll m s i x pieces to made = (q : Piece) → Contains pieces q → Reaches m s i x q to made

abbrev pub image_at : Rules → Search → ℕ → Cell → ℕ → ℕ → List Piece
image_at m s i cell head symbol = m.image head (i % m.decoder.samples) symbol (cell_box (grid m) s.level cell) (get_or s.targets.now i (pos 0))

-- each piece is a box at a place
pub record AreBoxes (m : Rules) (place : ℕ) (pieces : List Piece) : Type 0 where
  pub each : (q : Piece) → Contains pieces q → IsTrue (m.is_box place q.bx)

-- each piece is a step's from a node
pub record AreSteps (m : Rules) (s : Search) (i : ℕ) (x : Node) (to : ℕ) (pieces : List Piece) : Type 0 where
  pub each : (q : Piece) → Contains pieces q → IsStep m s.targets.now s.level i x.lane x.cell q to

-- of the first symbols under a head
abbrev pub ReachesBySymbols : Rules → Search → ℕ → Node → ℕ → ℕ → List Node → Type 0
ReachesBySymbols m s i x head n made = (symbol : ℕ) → symbol < n → ReachesAll m s i x (image_at m s i x.cell head symbol) (lane_at m head (suc i)) made

-- of the first heads that may be taken
abbrev pub ReachesByHeads : Rules → Search → ℕ → Node → ℕ → List Node → Type 0
ReachesByHeads m s i x n made = (head : ℕ) → head < n → may_take m first_only i x.lane head ≡ true → ReachesBySymbols m s i x head (m.decoder.symbols (i % m.decoder.samples)) made

-- of the first nodes of a layer
abbrev pub ReachesFrom : Rules → Search → ℕ → List Node → ℕ → List Node → Type 0
ReachesFrom m s i front n made = (k : ℕ) (d : Node) → k < n → ReachesByHeads m s i (get_or front k d) m.decoder.heads made

-- a list of open paths' ends before sample i, with more nodes than there is room for where it ends with that word
pub record IsMade (m : Rules) (s : Search) (i : ℕ) (result : Result (Unit {0}) Halt) (made : List Node) : Type 0 where
  pub opened : AreOpen m s i made
  pub many : result ≡ Err Many → IsTooMany s.room made

-- the list after a visit: what stood in it stays, and what was visited reaches it
pub record HasVisited (m : Rules) (s : Search) (i : ℕ) (old new : List Node) (visited : List Node → Type 0) : Type 0 where
  pub opened : AreOpen m s i new
  pub kept : Keeps old new
  pub reached : visited new

-- a list that holds each cell which an open path reaches before sample i, once, with the least cost, and no other cell
pub record IsFront (m : Rules) (targets : List ℤ) (blocks level most i : ℕ) (xs : List Node) : Type 0 where
  pub rising : IsRising xs
  pub opened : AllOpen m targets blocks level most i xs
  pub all : (lane : ℕ) (cell : Cell) (cost : ℕ) → Opens m targets blocks level most i lane cell cost → HasNode xs lane cell cost

abbrev pub IsLayer : Rules → Search → ℕ → List Node → Type 0
IsLayer m s i xs = IsFront m s.targets.now s.blocks s.level s.most i xs

-- more reached cells than there is room for
pub record IsOver (m : Rules) (s : Search) (i : ℕ) (xs : List Node) : Type 0 where
  pub over : IsTooMany s.room xs
  pub opened : AreOpen m s i xs
