use Rattle.std.proofs.Common.{◌≡◌}
use Rattle.branch_bound.specs.Worth.{row_worth}
use Rattle.branch_bound.proofs.looks.least_of_box.Given as goal
use Rattle.adpcm_nums.specs.LeastValue.{least}
use Rattle.machine_core.specs.Floors.{top}

abbrev pub invariant-loop-x : goal.invariant-loop-x
invariant-loop-x l = l.best ≡ least l.x (row_worth l.next l.lane l.unlisted l.low l.high) top
