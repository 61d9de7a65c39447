-- What a decoder means to all that bounds, searches and checks its lists of blocks.
use Rattle.std.specs.Prelude.{◌≡◌, ℕ, zero, suc, ◌+◌, ◌*◌, ◌^◌, ◌-◌, ◌<◌, ◌≤◌, ℤ, Bool, IsTrue, List, length}
use Rattle.adpcm_nums.specs.Sample.{IsSample, AreSamples}
use Rattle.machine_core.specs.declared.state.State.{State}
use Rattle.machine_core.specs.declared.state.Kind.{Kind}
use Rattle.machine_core.specs.declared.state.HeadRule.{HeadRule}
use Rattle.machine_core.specs.declared.boxes.Bx.{Bx}
use Rattle.machine_core.specs.declared.pieces.Piece.{Piece}
use Rattle.machine_core.specs.Boxes.{InBox}
use Rattle.machine_core.specs.Cells.{Grid}
use Rattle.machine_core.specs.Decoder.{Decoder, Forgets, start, cost_of, miss}

-- a decoder, with its boxes of states and the floors under its blocks
pub record Rules : Type 0 where
  pub decoder : Decoder
  pub kind : Kind
  -- the lane of a head at a place after the first: heads of one lane act alike from there on
  pub lane : ℕ → ℕ → ℕ
  -- whether a box may stand at a place
  pub is_box : ℕ → Bx → Bool
  -- the box of all states
  pub whole : Bx
  -- head, place, box and the block's targets: no state of the box goes on to the block's end at a lower cost
  pub floor : ℕ → ℕ → Bx → List ℤ → ℕ
  -- the numbers that a table of floors has for each place
  pub floors_a_place : ℕ
  -- the length of a head's table of floors, and what it says of a head, a place and a box
  pub floor_len : ℕ
  pub floor_read : ℕ → ℕ → Bx → List ℕ → ℕ
  -- head, place, symbol, box and target: where the states of the box go, each piece at the least cost in it
  pub image : ℕ → ℕ → ℕ → Bx → ℤ → List Piece
  -- place, target and slack: the first and the last of the symbols that may cost at most the slack
  pub first_symbol : ℕ → ℤ → ℕ → ℕ
  pub last_symbol : ℕ → ℤ → ℕ → ℕ
  -- whether the second numbers of states are cut into runs as the first are
  pub cuts_b : Bool

-- how its states are cut into cells
abbrev pub grid : Rules → Grid
grid r = record { whole = r.whole; cuts_b = r.cuts_b }

-- the cost of `count` samples of a block under a head, from place p and a state; `cost` tells of a place and the state after it what it costs
abbrev pub tail_cost : Decoder → (ℕ → State → ℕ) → ℕ → (ℕ → ℕ) → ℕ → State → ℕ → ℕ
tail_cost d cost head symbol p at zero = 0
tail_cost d cost head symbol p at (suc count) =
    cost p (d.step head p (symbol p) at) + tail_cost d cost head symbol (p + 1) (d.step head p (symbol p) at) count

-- a table holds the floors of a block under a head
pub record HoldsFloors (r : Rules) (head : ℕ) (targets : List ℤ) (table : List ℕ) : Type 0 where
  pub size : length table ≡ r.floor_len
  pub holds : (p : ℕ) (bx : Bx) → p < r.decoder.samples → IsTrue (r.is_box p bx) → r.floor_read head p bx table ≡ r.floor head p bx targets

-- what every decoder keeps
pub record IsMachine (r : Rules) : Type 0 where
  pub some_samples : 0 < r.decoder.samples
  -- a file tells a place in 16 bits
  pub few_samples : r.decoder.samples ≤ 2 ^ 16
  pub some_symbols : (p : ℕ) → p < r.decoder.samples → 0 < r.decoder.symbols p
  pub some_head : (rule : HeadRule) → (head : ℕ) × (head < r.decoder.heads) × IsTrue (r.decoder.allows head rule)
  pub start_fits : IsTrue (r.decoder.is_state start)
  -- a step leads from a state to a state
  pub steps : (head p symbol : ℕ) (at : State) → head < r.decoder.heads → p < r.decoder.samples → symbol < r.decoder.symbols p
      → IsTrue (r.decoder.is_state at) → IsTrue (r.decoder.is_state (r.decoder.step head p symbol at))
  pub costs_small : (at : State) (target : ℤ) → IsTrue (r.decoder.is_state at) → IsSample target → cost_of r.decoder at target ≤ 2 ^ 32
  pub forgets : Forgets r.decoder
  -- heads that have one lane at a later place act alike from there on
  pub lanes_alike : (g h p q symbol : ℕ) (at : State) → g < r.decoder.heads → h < r.decoder.heads → 0 < p → p ≤ q → q < r.decoder.samples
      → r.lane g p ≡ r.lane h p → r.decoder.step g q symbol at ≡ r.decoder.step h q symbol at
  -- stay in one lane
  pub lanes_stay : (g h p : ℕ) → g < r.decoder.heads → h < r.decoder.heads → 0 < p → suc p < r.decoder.samples
      → r.lane g p ≡ r.lane h p → r.lane g (suc p) ≡ r.lane h (suc p)
  -- and have the same floors, so that one table serves a lane
  pub floors_alike : (g h p : ℕ) (bx : Bx) (targets : List ℤ) → g < r.decoder.heads → h < r.decoder.heads → 0 < p → p < r.decoder.samples
      → r.lane g p ≡ r.lane h p → r.floor g p bx targets ≡ r.floor h p bx targets
  -- a floor is at most what any symbols cost from any state of the box to the block's end
  pub floors : (head p : ℕ) (bx : Bx) (targets : List ℤ) (symbol : ℕ → ℕ) (at : State) → head < r.decoder.heads → p < r.decoder.samples
      → length targets ≡ r.decoder.samples → AreSamples targets → ((q : ℕ) → q < r.decoder.samples → symbol q < r.decoder.symbols q)
      → IsTrue (r.is_box p bx) → IsTrue (r.decoder.is_state at) → InBox at bx
      → r.floor head p bx targets ≤ tail_cost r.decoder (miss r.decoder targets) head symbol p at (r.decoder.samples - p)
  pub floors_small : (head p : ℕ) (bx : Bx) (targets : List ℤ) → head < r.decoder.heads → p < r.decoder.samples → IsTrue (r.is_box p bx)
      → length targets ≡ r.decoder.samples → AreSamples targets → r.floor head p bx targets ≤ r.decoder.samples * 2 ^ 36
  -- the box of all states may stand at a block's first place
  pub whole_is_box : IsTrue (r.is_box 0 r.whole)
  -- and holds every state
  pub whole_holds : (at : State) → IsTrue (r.decoder.is_state at) → InBox at r.whole
  pub tables_small : r.floor_len ≤ r.floors_a_place * (r.decoder.samples + 1)
