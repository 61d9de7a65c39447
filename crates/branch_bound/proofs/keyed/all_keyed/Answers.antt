use Rattle.std.proofs.Common.{arith, ◌∙◌}
use Rattle.branch_bound.proofs.Joining.{keyed-more}
use Rattle.branch_bound.proofs.keyed.all_keyed.Goals as goal

pub loop-i-preserved : goal.loop-i-preserved
loop-i-preserved c =
    keyed-more c.args.samples c.args.layers.now c.loop-i.out.items c.put_layers.new.out.items c.loop-i.i c.as_slice.result.now (let t = c.loop-i-test.true in let n = c.len-i-end.ensures in let e = c.loop-i.auto.i-end in omega arith)
    c.loop-i.invariant (c.as_slice.ensures.value ∙ c.in-Ok.ensures) c.in-Ok-put_layers.ensures
