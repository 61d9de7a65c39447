use Rattle.open_cells.proofs.Boxes.{Boxed}
use Rattle.open_cells.proofs.corners.add_box.Given as goal

abbrev pub invariant-loop-x : goal.invariant-loop-x
invariant-loop-x l = Boxed l.initial.made.items l.made.items l.lane l.low l.high l.cost l.x
