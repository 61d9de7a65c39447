use Rattle.std.proofs.Common.{IsTrue}
use Rattle.strong_bound.proofs.greedy.best_lead.Given as goal

abbrev pub invariant-loop-head : goal.invariant-loop-head
invariant-loop-head g l = record {
  fits : IsTrue ((g.M.Machine.rules l.machine).decoder.is_state l.best.state);
}
