-- Cells of states: a level cuts numbers into runs of 2^level, and states into the cells that two runs make.
use Rattle.std.specs.Prelude.{ℕ, ◌-◌, ◌^◌, ◌==◌, ◌||◌, ◌&&◌, if◌then◌else◌, ℤ, pos, ◌*ℤ◌, ◌≤ℤ◌, int_le, Bool}
use Rattle.adpcm_nums.specs.Nums.{floor_of}
use Rattle.adpcm_nums.specs.Spans.{span_from}
use Rattle.adpcm_nums.specs.declared.span.Span.{Span}
use Rattle.machine_core.specs.declared.state.State.{State}
use Rattle.machine_core.specs.declared.boxes.Bx.{Bx}
use Rattle.machine_core.specs.declared.boxes.Cell.{Cell}

-- the levels at which states are cut (this project's own choice)
abbrev pub is_level : ℕ → Bool
is_level level = level == 0 || (level == 4 || level == 8)

-- the run that a number is in, and the numbers of a run
abbrev pub run_of : ℕ → ℤ → ℤ
run_of level x = floor_of x (2 ^ level)

abbrev pub run_span : ℕ → ℤ → Span
run_span level run = span_from (pos (2 ^ level) *ℤ run) (2 ^ level - 1)

-- a run that holds a number of a span
abbrev pub is_run : ℕ → Span → ℤ → Bool
is_run level s run = int_le (run_of level s.lo) run && int_le run (run_of level s.hi)

-- how states are cut: all of them lie in a box, and their second numbers are cut as the first are, or are not cut at all
pub record Grid : Type 0 where
  pub whole : Bx
  pub cuts_b : Bool

-- the level at which second numbers are cut
abbrev pub level_b : Grid → ℕ → ℕ
level_b g level = if g.cuts_b then level else 0

-- the cell that a state is in, and the box of a cell's states
abbrev pub cell_of : Grid → ℕ → State → Cell
cell_of g level at = record { a = run_of level at.a; b = run_of (level_b g level) at.b }

abbrev pub cell_box : Grid → ℕ → Cell → Bx
cell_box g level cell = record { a = run_span level cell.a; b = run_span (level_b g level) cell.b }

-- a cell that may hold a state
abbrev pub is_cell : Grid → ℕ → Cell → Bool
is_cell g level cell = is_run level g.whole.a cell.a && is_run (level_b g level) g.whole.b cell.b

-- the cell stands between two cells
pub record IsBetween (low high cell : Cell) : Type 0 where
  pub a_low : low.a ≤ℤ cell.a
  pub a_high : cell.a ≤ℤ high.a
  pub b_low : low.b ≤ℤ cell.b
  pub b_high : cell.b ≤ℤ high.b
