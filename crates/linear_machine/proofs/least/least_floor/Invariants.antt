use Rattle.std.proofs.Common.{◌≡◌}
use Rattle.adpcm_nums.specs.LeastValue.{least}
use Rattle.machine_core.specs.Floors.{allowed_floor, top}
use Rattle.linear_machine.proofs.least.least_floor.Given as goal

abbrev pub invariant-loop-head : goal.invariant-loop-head
invariant-loop-head g l = l.least ≡ least l.head (allowed_floor (g.H.HeadFloors.rules l.heads) l.rule l.targets) top
