use Rattle.path_encoder.specs.Paths.{AreStates}
use Rattle.path_encoder.proofs.by_codes.next_layer.Given as goal

abbrev pub invariant-loop-ranked : goal.invariant-loop-ranked
invariant-loop-ranked g l = AreStates (g.M.Machine.rules l.machine).decoder l.made.items
