use Rattle.std.proofs.Common.{IsTrue}
use Rattle.strong_bound.proofs.greedy.lead_of.Given as goal

abbrev pub invariant-loop-place : goal.invariant-loop-place
invariant-loop-place g l = record {
  fits : IsTrue ((g.M.Machine.rules l.machine).decoder.is_state l.state);
}
