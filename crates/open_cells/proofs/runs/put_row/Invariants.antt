use Rattle.std.proofs.Common.{◌≡◌, ◌++◌, length}
use Rattle.open_cells.specs.Rows.{AreNumbered, Grows, nodes_of}
use Rattle.open_cells.proofs.runs.put_row.Given as goal

abbrev pub invariant-loop-rest : goal.invariant-loop-rest
invariant-loop-rest l = record {
  numbered : AreNumbered (length l.layers) l.layers;
  grows : Grows l.initial.layers l.layers;
  nodes : nodes_of l.layers ++ l.rest ≡ nodes_of l.initial.layers ++ l.nodes;
}

abbrev pub decreases-loop-rest : goal.decreases-loop-rest
decreases-loop-rest l = length l.rest
