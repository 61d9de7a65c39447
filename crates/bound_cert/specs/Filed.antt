-- What ties a decoder to the certificates of its format.
use Rattle.std.specs.Prelude.{◌≡◌, ℕ, ◌<◌, true, IsTrue}
use Rattle.machine_core.specs.declared.boxes.Bx.{Bx}
use Rattle.machine_core.specs.declared.boxes.Cell.{Cell}
use Rattle.machine_core.specs.Boxes.{low_corner, high_corner}
use Rattle.machine_core.specs.Cells.{is_level, is_cell}
use Rattle.machine_core.specs.Rules.{Rules, grid}
use Rattle.bound_cert.specs.Ranges.{cell_fits, lane_fits}

pub record IsFiled (r : Rules) : Type 0 where
  -- the cells that may stand in a file are the cells of states
  pub are_cells : (level : ℕ) (c : Cell) → IsTrue (is_level level) → cell_fits r.kind level c ≡ true → IsTrue (is_cell (grid r) level c)
  pub cells_fit : (level : ℕ) (c : Cell) → IsTrue (is_level level) → IsTrue (is_cell (grid r) level c) → cell_fits r.kind level c ≡ true
  -- a head's lane may stand there
  pub lanes_fit : (head p : ℕ) → head < r.decoder.heads → 0 < p → p < r.decoder.samples → lane_fits r.kind p (r.lane head p) ≡ true
  -- the corners of boxes are states
  pub corners : (p : ℕ) (bx : Bx) → p < r.decoder.samples → IsTrue (r.is_box p bx) → IsTrue (r.decoder.is_state (low_corner bx)) × IsTrue (r.decoder.is_state (high_corner bx))
