use Rattle.open_cells.proofs.Boxes.{Rowed}
use Rattle.open_cells.proofs.corners.add_row.Given as goal

abbrev pub invariant-loop-y : goal.invariant-loop-y
invariant-loop-y l = Rowed l.initial.made.items l.made.items l.lane l.a l.low l.high l.cost l.y
