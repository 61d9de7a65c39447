-- What the windows of the code hold.
use Rattle.std.specs.Prelude.{ℤ, pos, unsigned_abs, List, get_or}
use Rattle.window_floor.specs.declared.window.Window.{Window}
use Rattle.window_floor.specs.declared.block.BlockWindows.{BlockWindows}
use Rattle.window_floor.specs.Row.{Row, row}
use Rattle.window_floor.specs.Windows.{Windows}
use Rattle.window_floor.specs.Quantizer.{AreLevels}

-- the row of a window
abbrev pub row_of : Window → Row
row_of w = row w.d w.ca w.cb w.bias (unsigned_abs w.errs) w.scale (unsigned_abs w.norm) w.wraps

-- samples are the levels of a block's codes
abbrev pub StandFor : BlockWindows → List ℤ → Type 0
StandFor b samples = AreLevels b.levels.step b.levels.low b.levels.high samples

-- the windows of a block whose codes stand for these samples
abbrev pub windows_of : BlockWindows → List ℤ → Windows
windows_of b samples = record { places = b.places; row = row_of b.row; samples = samples; first = get_or b.ends 0 (pos 0); second = get_or b.ends 1 (pos 0) }
