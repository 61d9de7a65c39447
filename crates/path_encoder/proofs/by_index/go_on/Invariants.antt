use Rattle.path_encoder.specs.Lists.{AreFit}
use Rattle.path_encoder.proofs.by_index.go_on.Given as goal

abbrev pub invariant-loop-list : goal.invariant-loop-list
invariant-loop-list g l = AreFit (g.M.Machine.rules l.machine).decoder l.next

abbrev pub invariant-loop-slot : goal.invariant-loop-slot
invariant-loop-slot g l = AreFit (g.M.Machine.rules l.machine).decoder l.next
