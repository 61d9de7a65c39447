use Rattle.std.proofs.Common.{◌≡◌, ◌++◌, drop}
use Rattle.branch_bound.specs.Keyed.{keyed}
use Rattle.branch_bound.proofs.keyed.all_keyed.Given as goal

abbrev pub invariant-loop-i : goal.invariant-loop-i
invariant-loop-i l = keyed l.samples 0 l.layers ≡ l.out.items ++ keyed l.samples l.i (drop l.i l.layers)
