use Rattle.std.proofs.Common.{◌≡◌, ◌≤◌, length}
use Rattle.block_bounds.proofs.StepLaws.{Hold}
use Rattle.block_bounds.proofs.steps.steps_of.Given as goal

abbrev pub invariant-loop-i : goal.invariant-loop-i
invariant-loop-i l = record {
  len : length l.steps ≡ 48;
  few : l.count ≤ l.i;
  hold : Hold l.b l.steps l.count l.i;
}
