use Rattle.branch_bound.proofs.Joining.{Putting}
use Rattle.branch_bound.proofs.keyed.put_layers.Given as goal

abbrev pub invariant-loop-x : goal.invariant-loop-x
invariant-loop-x l = Putting l.block l.place l.nodes l.initial.out.items l.out.items l.lane l.cells.items l.x-index
