-- What fits its bytes.
use Rattle.std.specs.Prelude.{◌≡◌, ℕ, ◌<◌, ◌≤ℤ◌, pos, negsuc, List, length, ◌^◌, slice_get, Some}
use Rattle.box_layers.specs.declared.cell_value.CellValue.{CellValue}
use Rattle.bound_cert.specs.Content.{Layer, Plain}

pub record SmallCell (x : CellValue) : Type 0 where
  pub a_low : negsuc 32767 ≤ℤ x.cell.a
  pub a_high : x.cell.a ≤ℤ pos 32767
  pub b_low : negsuc 32767 ≤ℤ x.cell.b
  pub b_high : x.cell.b ≤ℤ pos 32767

abbrev pub SmallCells : List CellValue → Type 0
SmallCells xs = (k : ℕ) (x : CellValue) → slice_get xs k ≡ Some x → SmallCell x

pub record SmallLayer (x : Layer) : Type 0 where
  pub block : x.key.block < 65536
  pub place : x.key.place < 65536
  pub lane : x.key.lane < 65536
  pub count : length x.cells < 2 ^ 32
  pub cells : SmallCells x.cells

pub record SmallSegment (x : Plain) : Type 0 where
  pub blocks : x.blocks < 65536
  pub level : x.level < 256
  pub count : length x.layers < 2 ^ 32
  pub layers : (k : ℕ) (y : Layer) → slice_get x.layers k ≡ Some y → SmallLayer y
