use Rattle.path_encoder.specs.Lists.{AreFit}
use Rattle.path_encoder.proofs.by_index.offer_from.Given as goal

abbrev pub invariant-loop-symbol : goal.invariant-loop-symbol
invariant-loop-symbol g l = AreFit (g.M.Machine.rules l.machine).decoder l.next
