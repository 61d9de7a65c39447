-- Floors in the lent room: a row for each head that leads its lane, and the sums of the later blocks' floors.
use Rattle.std.specs.Prelude.{◌≡◌, ◌≢◌, ℕ, ◌/◌, ◌%◌, ◌<◌, ◌≤◌, ℤ, List, length, slice_index, slice_range, min, ◌+◌, ◌*◌, ◌-◌}
use Rattle.machine_core.specs.Blocks.{first_only}
use Rattle.machine_core.specs.Floors.{top, floors_from}
use Rattle.machine_core.specs.Rules.{Rules, HoldsFloors}
use Rattle.block_steps.specs.declared.spots.Spot.{Spot}

pub record IsSpot (m : Rules) (at : Spot) : Type 0 where
  pub block : at.block ≡ at.index / m.decoder.samples
  pub place : at.place ≡ at.index % m.decoder.samples

abbrev pub row : List ℕ → ℕ → ℕ → List ℕ
row rows len h = slice_range rows (h * len) (h * len + len)

-- the first head of its lane behind a block's first place
abbrev pub IsLeader : Rules → ℕ → Type 0
IsLeader m h = (g : ℕ) → g < h → m.lane g 1 ≢ m.lane h 1

-- a table for each leader of the first n heads, of a block's targets
abbrev pub HoldFirst : Rules → List ℤ → List ℕ → ℕ → Type 0
HoldFirst m targets rows n = (h : ℕ) → h < n → IsLeader m h → HoldsFloors m h targets (row rows m.floor_len h)

pub record HoldRows (m : Rules) (targets : List ℤ) (rows : List ℕ) : Type 0 where
  pub count : length rows ≡ m.decoder.heads * m.floor_len
  -- behind the first place heads of one lane have one floor, so the lane's first head serves for all
  pub each : 1 < m.decoder.samples → HoldFirst m targets rows m.decoder.heads

-- the sums of the floors from each block on
pub record HoldLater (m : Rules) (targets : List ℤ) (blocks : ℕ) (later : List ℕ) : Type 0 where
  pub count : blocks + 1 ≤ length later
  pub each : (b : ℕ) → b ≤ blocks → slice_index later b ≡ min top (floors_from m first_only targets b (blocks - b))
