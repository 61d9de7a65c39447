-- Where a cell stands, or would stand, in ascending cells.
use Rattle.std.specs.Prelude.{◌≡◌, ℕ, ◌+◌, ◌<◌, ◌≤◌, true, false, List, length, Option, Some, None}
use Rattle.machine_core.specs.declared.boxes.Cell.{Cell}
use Rattle.box_layers.specs.declared.cell_value.CellValue.{CellValue}
use Rattle.box_layers.specs.Cells.{before, nth}

-- the first i cells stand before it, and no other does
pub record IsBound (cells : List CellValue) (c : Cell) (i : ℕ) : Type 0 where
  pub within : i ≤ length cells
  pub below : (k : ℕ) → k < i → before (nth cells k).cell c ≡ true
  pub from : (k : ℕ) → i ≤ k → k < length cells → before (nth cells k).cell c ≡ false

-- the place after a cell, where it is listed
abbrev pub past_of : ℕ → Option ℕ → ℕ
past_of i (Some v) = i + 1
past_of i None = i
