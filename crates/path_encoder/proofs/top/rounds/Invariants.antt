use Rattle.std.proofs.Common.{◌≤◌}
use Rattle.path_encoder.specs.Better.{IsChoice}
use Rattle.path_encoder.proofs.top.rounds.Given as goal

abbrev pub invariant-loop-width : goal.invariant-loop-width
invariant-loop-width g l = record {
  choice : IsChoice (g.M.Machine.rules l.machine).decoder l.blocks l.targets l.choice;
  below : l.choice.sum ≤ l.initial.choice.sum;
}
