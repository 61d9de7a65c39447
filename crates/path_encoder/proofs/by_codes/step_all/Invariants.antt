use Rattle.path_encoder.specs.Paths.{AreStates}
use Rattle.path_encoder.proofs.by_codes.step_all.Given as goal

abbrev pub invariant-loop-path : goal.invariant-loop-path
invariant-loop-path g l = AreStates (g.M.Machine.rules l.machine).decoder l.next.items
