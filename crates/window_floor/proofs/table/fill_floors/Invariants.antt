use Rattle.std.proofs.Common.{◌≡◌, ◌+◌, ◌-◌, ◌*◌, ◌^◌, ◌≤◌, length}
use Rattle.std.specs.Prelude.{ℤ, List}
use Rattle.window_floor.specs.Numbers.{StandFor, windows_of}
use Rattle.window_floor.specs.Windows.{floor_from}
use Rattle.window_floor.proofs.FloorTable.{HoldsFrom}
use Rattle.window_floor.proofs.table.fill_floors.Given as goal

abbrev pub invariant-loop-place : goal.invariant-loop-place
invariant-loop-place l = record {
  size : length l.table ≡ l.b.places + 1;
  within : l.place ≤ l.b.places;
  small : l.sum ≤ (l.b.places - l.place) * 2 ^ 34;
  sum : (samples : List ℤ) → StandFor l.b samples → l.sum ≡ floor_from (windows_of l.b samples) l.targets l.place;
  filled : (samples : List ℤ) → StandFor l.b samples → HoldsFrom (windows_of l.b samples) l.targets l.table l.place;
}

abbrev pub decreases-loop-place : goal.decreases-loop-place
decreases-loop-place l = l.place
