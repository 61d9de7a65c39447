use Rattle.std.proofs.Common.{ℕ, ◌<◌, IsTrue, get_or}
use Rattle.machine_core.specs.Blocks.{rule_of, first_only}
use Rattle.path_encoder.proofs.played.heads_are_legal.Given as goal

abbrev pub invariant-loop-b : goal.invariant-loop-b
invariant-loop-b g l = let d = (g.M.Machine.rules l.machine).decoder in record {
  fit : (b : ℕ) → b < l.b → get_or l.heads b 0 < d.heads;
  allowed : (b : ℕ) → b < l.b → IsTrue (d.allows (get_or l.heads b 0) (rule_of first_only b));
}
