use Rattle.machine_core.specs.Decoder.{Decoder}
use Rattle.path_encoder.specs.Lists.{AreFit}
use Rattle.path_encoder.proofs.lists.Lists.clear.Given as goal

abbrev pub invariant-loop-i : goal.invariant-loop-i
invariant-loop-i l = (d : Decoder) → AreFit d l.initial.self → AreFit d l.self
