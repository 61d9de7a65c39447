use Rattle.std.proofs.Common.{◌≡◌, ◌≤◌, drop, take}
use Rattle.open_cells.specs.Rows.{nodes_of}
use Rattle.open_cells.proofs.sample_cells.nodes_of_row.Given as goal

abbrev pub invariant-loop-k : goal.invariant-loop-k
invariant-loop-k l = record { from : l.fn.row.from ≤ l.k; end : l.k ≤ l.fn.row.end; nodes : l.nodes.items ≡ nodes_of (drop l.fn.row.from (take l.k l.layers)) }
