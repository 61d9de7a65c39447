use Rattle.std.proofs.Common.{◌≤◌}
use Rattle.strong_bound.specs.Quiet.{IsUnderLast}
use Rattle.strong_bound.proofs.states.under_last.Given as goal

abbrev pub invariant-loop-step : goal.invariant-loop-step
invariant-loop-step g l = record {
  most : l.least ≤ l.fn.top;
  under : IsUnderLast (g.M.Machine.rules l.machine).decoder l.targets l.twice l.head l.first l.entry l.paid l.step l.least;
}
