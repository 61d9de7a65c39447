use Rattle.std.proofs.Common.{◌≤◌, ◌<◌, IsTrue}
use Rattle.strong_bound.specs.Counted.{IsUnder}
use Rattle.strong_bound.proofs.Unders.{IsUnderFirst}
use Rattle.strong_bound.proofs.heads.block_bound_of.Given as goal

abbrev pub invariant-loop-head : goal.invariant-loop-head
invariant-loop-head g l = record {
  most : l.least ≤ l.top;
  under : IsUnderFirst (g.M.LinearMachine.linear l.machine) (g.M.Machine.rules l.machine).decoder l.rule l.counting.leaving l.counting.entering l.targets l.head l.least;
  near : l.near < (g.M.Machine.rules l.machine).decoder.heads → IsTrue ((g.M.Machine.rules l.machine).decoder.allows l.near l.rule) → IsUnder ((g.M.LinearMachine.linear l.machine).windows l.near) l.counting.leaving l.counting.entering l.targets l.least;
}
