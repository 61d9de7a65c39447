use Rattle.std.proofs.Common.{◌≡◌}
use Rattle.loop_fit.specs.Fit.{targets_of}
use Rattle.loop_fit.proofs.targets.lay_targets.Given as goal

abbrev pub invariant-loop-i : goal.invariant-loop-i
invariant-loop-i l = l.targets ≡ targets_of l.samples l.looped l.front l.i
