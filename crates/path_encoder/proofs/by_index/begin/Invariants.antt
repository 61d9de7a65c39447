use Rattle.path_encoder.specs.Lists.{AreFit}
use Rattle.path_encoder.proofs.by_index.begin.Given as goal

abbrev pub invariant-loop-head : goal.invariant-loop-head
invariant-loop-head g l = AreFit (g.M.Machine.rules l.machine).decoder l.lists
