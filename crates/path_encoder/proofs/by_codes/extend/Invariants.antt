use Rattle.path_encoder.specs.Paths.{AreStates}
use Rattle.path_encoder.proofs.by_codes.extend.Given as goal

abbrev pub invariant-loop-place : goal.invariant-loop-place
invariant-loop-place g l = AreStates (g.M.Machine.rules l.machine).decoder l.scratch.now.items
