use Rattle.std.proofs.Common.{ℕ, ◌*◌, ◌%◌, ◌<◌, ◌≤◌, ◌≢◌}
use Rattle.loop_fit.proofs.align.unrolled.Given as goal

-- no fewer rounds take whole blocks
abbrev pub invariant-loop-rounds : goal.invariant-loop-rounds
invariant-loop-rounds l = (j : ℕ) → 1 ≤ j → j < l.rounds → (j * l.len) % l.block ≢ 0
