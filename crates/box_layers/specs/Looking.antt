-- The least that the cells which a box meets are worth.
use Rattle.std.specs.Prelude.{ℕ, ◌+◌, ℤ, pos, ◌+ℤ◌, ◌-ℤ◌, ◌≤ℤ◌, unsigned_abs, false, if◌then◌else◌, min, Option, Some, None, List}
use Rattle.adpcm_nums.specs.LeastValue.{least}
use Rattle.machine_core.specs.declared.boxes.Bx.{Bx}
use Rattle.machine_core.specs.declared.boxes.Cell.{Cell}
use Rattle.machine_core.specs.Boxes.{low_corner, high_corner}
use Rattle.machine_core.specs.Cells.{cell_of}
use Rattle.machine_core.specs.Rules.{Rules, grid}
use Rattle.machine_core.specs.Floors.{top}
use Rattle.box_layers.specs.declared.cell_value.CellValue.{CellValue}
use Rattle.box_layers.specs.declared.looking.Seen.{Seen}
use Rattle.box_layers.specs.Cells.{value_of}

-- what a cell is worth: its listed value, else a number
abbrev pub or_else : Option ℕ → ℕ → ℕ
or_else (Some v) d = v
or_else None d = d

-- how many numbers there are from one to the other
abbrev pub span_count : ℤ → ℤ → ℕ
span_count low high = unsigned_abs (high -ℤ low) + 1

abbrev pub cell_near : Cell → ℕ → ℕ → Cell
cell_near low x y = record { a = low.a +ℤ pos x; b = low.b +ℤ pos y }

-- the least over the cells from one corner to the other
abbrev pub least_listed : Cell → Cell → (Cell → Option ℕ) → ℕ → ℕ
least_listed low high listed unlisted =
    least (span_count low.a high.a) (λ x. least (span_count low.b high.b) (λ y. or_else (listed (cell_near low x y)) unlisted) top) top

-- the least over the cells that a box meets
abbrev pub look_over : Rules → ℕ → (Cell → Option ℕ) → ℕ → Bx → ℕ
look_over r level listed unlisted bx = least_listed (cell_of (grid r) level (low_corner bx)) (cell_of (grid r) level (high_corner bx)) listed unlisted

-- a low corner and a high one
pub record IsCornered (low high : Cell) : Type 0 where
  pub a_order : low.a ≤ℤ high.a
  pub b_order : low.b ≤ℤ high.b
  pub a_small : high.a ≤ℤ pos 32767

-- what is seen with one more cell, which is listed or not
abbrev pub see_of : Seen → Option ℕ → Seen
see_of s (Some v) = record { best = min s.best v; all = s.all }
see_of s None = record { best = s.best; all = false }

-- the least of what is seen, where a cell that is not listed is worth r
abbrev pub ended : Seen → ℕ → ℕ
ended s r = if s.all then s.best else min s.best r

-- what a cell of a row is worth
abbrev pub worth : List CellValue → Cell → ℕ → ℕ → ℕ → ℕ
worth cells low x r y = or_else (value_of cells (cell_near low x y)) r
