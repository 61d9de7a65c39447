use Rattle.cert_check.specs.Faults.{HoldsBelow, found_by}
use Rattle.cert_check.proofs.layers.check_cells.Given as goal

abbrev pub invariant-loop-i : goal.invariant-loop-i
invariant-loop-i g l = HoldsBelow (found_by (g.M.Machine.rules l.machine) l.plan l.here.later l.at.index l.lane) l.here.layer.cells l.i
