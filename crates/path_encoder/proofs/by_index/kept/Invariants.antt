use Rattle.path_encoder.specs.Lists.{AreFit}
use Rattle.path_encoder.proofs.by_index.kept.Given as goal

abbrev pub invariant-loop-place : goal.invariant-loop-place
invariant-loop-place g l = record {
  now : AreFit (g.M.Machine.rules l.machine).decoder l.now;
  next : AreFit (g.M.Machine.rules l.machine).decoder l.next;
}
