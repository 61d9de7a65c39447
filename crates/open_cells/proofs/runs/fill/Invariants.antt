use Rattle.std.proofs.Common.{◌≡◌, ◌≤◌, length, take}
use Rattle.open_cells.specs.Rows.{cells_of, costs_of}
use Rattle.open_cells.proofs.runs.fill.Given as goal

abbrev pub invariant-loop-x : goal.invariant-loop-x
invariant-loop-x l = record {
  cells : l.cells.items ≡ cells_of (take l.x-index l.run);
  values : l.values.items ≡ costs_of (take l.x-index l.run);
  cell_count : length l.cells.items ≤ l.x-index;
  value_count : length l.values.items ≤ l.x-index;
}
