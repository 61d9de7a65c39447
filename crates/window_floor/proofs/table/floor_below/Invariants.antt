use Rattle.std.proofs.Common.{◌≡◌, ◌+◌, ◌*◌, ◌^◌, ◌≤◌}
use Rattle.std.specs.Prelude.{ℤ, List}
use Rattle.window_floor.specs.Numbers.{StandFor, windows_of}
use Rattle.window_floor.specs.Windows.{floor_from}
use Rattle.window_floor.proofs.table.floor_below.Given as goal

abbrev pub invariant-loop-place : goal.invariant-loop-place
invariant-loop-place l = record {
  small : l.sum ≤ l.place * 2 ^ 34;
  rest : (samples : List ℤ) → StandFor l.b samples → l.sum + floor_from (windows_of l.b samples) l.targets l.place ≡ floor_from (windows_of l.b samples) l.targets 0;
}
