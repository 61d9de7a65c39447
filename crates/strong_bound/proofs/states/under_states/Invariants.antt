use Rattle.std.proofs.Common.{◌≤◌}
use Rattle.strong_bound.proofs.StateLaws.{IsUnderOlder}
use Rattle.strong_bound.proofs.states.under_states.Given as goal

abbrev pub invariant-loop-step : goal.invariant-loop-step
invariant-loop-step g l = record {
  most : l.least ≤ l.fn.top;
  under : IsUnderOlder (g.M.Machine.rules l.machine).decoder l.targets l.twice l.head l.corner l.entry l.step l.least;
}
