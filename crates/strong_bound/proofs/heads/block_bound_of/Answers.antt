use Rattle.std.proofs.Common.{arith}
use Rattle.strong_bound.proofs.Unders.{first-more, under-less}
use Rattle.strong_bound.proofs.heads.block_bound_of.Goals as goal

pub loop-head-preserved : goal.loop-head-preserved
loop-head-preserved g c =
    let l = g.M.LinearMachine.linear c.args.machine.now in
    let d = (g.M.Machine.rules c.args.machine.now).decoder in
    let old = c.loop-head.invariant in
    let next = c.next_tried-least in record {
      most = omega (arith, next.ensures.most, old.most);
      under = first-more l d c.args.rule c.args.counting.leaving c.args.counting.entering c.args.targets.now c.loop-head.head c.loop-head.least next.result old.under next.ensures.most next.ensures.under;
      near = λ within allowed. under-less (l.windows c.args.near) c.args.counting.leaving c.args.counting.entering c.args.targets.now c.loop-head.least next.result next.ensures.most (old.near within allowed);
    }
