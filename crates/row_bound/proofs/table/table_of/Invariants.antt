use Rattle.std.proofs.Common.{◌≡◌, ◌≤◌, length}
use Rattle.row_bound.specs.Searching.{AreFloors}
use Rattle.row_bound.proofs.table.table_of.Given as goal

abbrev pub invariant-loop-place : goal.invariant-loop-place
invariant-loop-place l = record {
  prefix : length l.prefix ≡ 28;
  trail : length l.trail ≡ 28;
  low : l.taps ≤ l.place;
  floors : AreFloors l.layers l.steps l.floors;
}
