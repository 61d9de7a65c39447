use Rattle.std.proofs.Common.{◌-◌, ◌≤◌}
use Rattle.strong_bound.proofs.SymbolCounts.{IsUnderFirst}
use Rattle.strong_bound.proofs.codes.+least_from.Given as goal

abbrev pub decreases-least_from : goal.decreases-least_from
decreases-least_from g l = (g.M.Machine.rules l.machine.now).decoder.samples - l.place

abbrev pub invariant-loop-code : goal.invariant-loop-code
invariant-loop-code g l = record {
  most : l.least ≤ l.fn.top;
  under : IsUnderFirst (g.M.Machine.rules l.machine).decoder l.targets l.twice l.head l.place l.from l.paid l.code l.least;
}
