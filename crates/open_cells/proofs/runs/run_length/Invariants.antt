use Rattle.std.proofs.Common.{length, ◌-◌, ◌<◌, ◌≤◌}
use Rattle.open_cells.specs.Rows.{IsRun}
use Rattle.open_cells.proofs.runs.run_length.Given as goal

abbrev pub invariant-loop-n : goal.invariant-loop-n
invariant-loop-n l = record { some : 0 < l.n; within : l.n ≤ length l.nodes; run : IsRun l.nodes l.n }

abbrev pub decreases-loop-n : goal.decreases-loop-n
decreases-loop-n l = length l.nodes - l.n
