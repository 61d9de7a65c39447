use Rattle.std.proofs.Common.{◌≡◌}
use Rattle.branch_bound.specs.Worth.{cell_worth}
use Rattle.branch_bound.proofs.looks.least_of_row.Given as goal
use Rattle.adpcm_nums.specs.LeastValue.{least}
use Rattle.machine_core.specs.Floors.{top}

abbrev pub invariant-loop-y : goal.invariant-loop-y
invariant-loop-y l = l.best ≡ least l.y (cell_worth l.next l.lane l.unlisted l.low l.x) top
