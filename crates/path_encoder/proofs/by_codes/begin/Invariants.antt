use Rattle.machine_core.specs.Decoder.{Decoder}
use Rattle.path_encoder.specs.Paths.{AreStates}
use Rattle.path_encoder.proofs.by_codes.begin.Given as goal

abbrev pub invariant-loop-path : goal.invariant-loop-path
invariant-loop-path l = (d : Decoder) → AreStates d l.layer → AreStates d l.now.items
