use Rattle.std.proofs.Common.{arith}
use Rattle.open_cells.proofs.Merging.{keeps-trans, blank}
use Rattle.open_cells.proofs.Fronts.{from-more}
use Rattle.open_cells.proofs.stepping.add_front.Goals as goal

pub loop-x-preserved : goal.loop-x-preserved
loop-x-preserved g c =
    let m = g.M.Machine.rules c.args.machine.now in let s = c.args.s.now in let i = c.args.at.index in
    let v = c.in-Ok.ensures.visited in let k = v.kept in
    record {
      opened = v.opened;
      kept = keeps-trans _ _ _ c.loop-x.invariant.kept k;
      reached = from-more m s i c.loop-x.x-index c.args.front.now _ _ blank c.loop-x-test.true k c.loop-x.invariant.reached v.reached;
    }

pub returns-clause-visited : goal.returns-clause-visited
returns-clause-visited g c =
    let t = c.loop-x-test.false in
    let v = c.loop-x.invariant in
    record { opened = v.opened; kept = v.kept; reached = λ k d h. v.reached k d (omega arith) }
