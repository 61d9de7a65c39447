-- What the ways on from a cell are found by.
use Rattle.std.specs.Prelude.{◌≡◌, ℕ, ◌*◌, ◌^◌, ◌<◌, length, IsTrue}
use Rattle.adpcm_nums.specs.Sample.{AreSamples}
use Rattle.machine_core.specs.Boxes.{low_corner, high_corner}
use Rattle.machine_core.specs.Cells.{is_cell, is_level}
use Rattle.machine_core.specs.declared.boxes.Bx.{Bx}
use Rattle.machine_core.specs.declared.boxes.Cell.{Cell}
use Rattle.machine_core.specs.Floors.{block_targets}
use Rattle.machine_core.specs.Rules.{Rules, grid}
use Rattle.block_steps.specs.declared.spots.Spot.{Spot}
use Rattle.block_steps.specs.declared.plan.Plan.{Plan}
use Rattle.block_steps.specs.Tables.{HoldLater, HoldRows, IsSpot}

-- the corners of boxes are states
abbrev pub HaveCorners : Rules → Type 0
HaveCorners m = (place : ℕ) (bx : Bx) → place < m.decoder.samples → IsTrue (m.is_box place bx) → IsTrue (m.decoder.is_state (low_corner bx)) × IsTrue (m.decoder.is_state (high_corner bx))

pub record IsPlan (m : Rules) (p : Plan) : Type 0 where
  pub end : p.end ≡ p.blocks * m.decoder.samples
  pub small : p.end < 2 ^ 31
  pub level : IsTrue (is_level p.level)
  pub later : HoldLater m p.targets.now p.blocks p.later.now
  pub count : length p.targets.now ≡ p.end
  pub range : AreSamples p.targets.now
  pub corners : HaveCorners m
  pub room : m.decoder.heads * m.floor_len < 2 ^ 31

-- the sample in work, with its block's tables
pub record IsCurrent (m : Rules) (p : Plan) (at : Spot) : Type 0 where
  pub spot : IsSpot m at
  pub within : at.index < p.end
  pub rows : HoldRows m (block_targets m p.targets.now at.block) p.rows.now

-- the sample after it, whose block may be another one without tables
pub record IsNext (m : Rules) (p : Plan) (at : Spot) : Type 0 where
  pub spot : IsSpot m at
  pub within : at.index < p.end
  pub rows : 0 < at.place → HoldRows m (block_targets m p.targets.now at.block) p.rows.now

-- a cell before the sample in work
pub record IsFrom (m : Rules) (p : Plan) (at : Spot) (cell : Cell) : Type 0 where
  pub plan : IsPlan m p
  pub current : IsCurrent m p at
  pub cell_fits : IsTrue (is_cell (grid m) p.level cell)
