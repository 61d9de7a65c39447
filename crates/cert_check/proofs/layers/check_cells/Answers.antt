use Rattle.std.proofs.Common.{arith}
use Rattle.cert_check.specs.Faults.{found_by}
use Rattle.cert_check.proofs.CellByCell.{fault-at, holds-more}
use Rattle.cert_check.proofs.layers.check_cells.Goals as goal

pub returns-then-c-found-clause-err : goal.returns-then-c-found-clause-err
returns-then-c-found-clause-err g c =
    let f = found_by (g.M.Machine.rules c.args.machine.now) c.args.plan.now c.args.here.now.later c.args.at.index c.args.lane in
    let n = c.cells-i-end.ensures in let t = c.cell-c.type_inv in
    fault-at f c.args.here.now.layer.cells c.args.layer c.loop-i.i c.min.result c.find-found.result c.cell-c.result c.cell-c.ensures (omega arith) (omega arith) c.min.ensures c.find-found.ensures c.if-c-found.true c.loop-i.invariant

pub loop-i-preserved : goal.loop-i-preserved
loop-i-preserved g c =
    let f = found_by (g.M.Machine.rules c.args.machine.now) c.args.plan.now c.args.here.now.later c.args.at.index c.args.lane in
    holds-more f c.args.here.now.layer.cells c.loop-i.i c.min.result c.find-found.result c.cell-c.result c.cell-c.ensures c.find-found.ensures (omega arith) c.loop-i.invariant
