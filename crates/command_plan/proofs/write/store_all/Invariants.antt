use Rattle.std.proofs.Common.{take}
use Rattle.command_plan.specs.Steps.{HasStored}
use Rattle.command_plan.proofs.write.store_all.Given as goal

abbrev pub invariant-loop-write : goal.invariant-loop-write
invariant-loop-write g l = HasStored (take l.write-index l.writes) (g.H.Host.world l.initial.host) (g.H.Host.world l.host)
