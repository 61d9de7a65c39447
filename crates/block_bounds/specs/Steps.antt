-- The steps of a block's layers: sixteen numbers a wrap, the most wraps first.
use Rattle.std.specs.Prelude.{ℕ, ◌/◌, ◌%◌, ℤ, pos, ◌-ℤ◌, ◌*ℤ◌, Bool, true, false}
use Rattle.std.specs.Int.{int_min, int_max}
use Rattle.window_floor.specs.declared.block.BlockWindows.{BlockWindows}

-- the greatest number of wraps
abbrev pub top_wrap : Bool → ℤ
top_wrap true = pos 1
top_wrap false = pos 0

-- the number of the i-th one: past an end of the levels it is that end
abbrev pub number_at : BlockWindows → ℕ → ℤ
number_at b i = int_max (int_min (pos (i % 16) -ℤ pos 8) b.levels.high) b.levels.low

-- what a level less some wraps moves a row by
unfoldable pub moved_by : BlockWindows → ℤ → ℤ → ℤ
moved_by b n k = b.row.scale *ℤ (b.row.d *ℤ (b.levels.step *ℤ n -ℤ pos 32768 *ℤ k))

-- the i-th step, with some of them more than once
abbrev pub step_value : BlockWindows → ℕ → ℤ
step_value b i = moved_by b (number_at b i) (top_wrap b.row.wraps -ℤ pos (i / 16))
