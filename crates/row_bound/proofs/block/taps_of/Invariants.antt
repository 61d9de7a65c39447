use Rattle.std.proofs.Common.{◌≤◌}
use Rattle.row_bound.proofs.block.taps_of.Given as goal

abbrev pub invariant-loop-layer : goal.invariant-loop-layer
invariant-loop-layer l = l.taps ≤ 2
