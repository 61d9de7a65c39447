use Rattle.std.proofs.Common.{◌≡◌, ◌++◌, take}
use Rattle.open_cells.specs.Rows.{nodes_in}
use Rattle.open_cells.proofs.sample_cells.add_layer.Given as goal

abbrev pub invariant-loop-k : goal.invariant-loop-k
invariant-loop-k l = l.out.items ≡ l.initial.out.items ++ nodes_in l.layer.key.lane (take l.k l.layer.cells.now) (take l.k l.layer.values.now)
