use Rattle.std.proofs.Common.{arith, refl}
use Rattle.open_cells.proofs.RowLaws.{layer-taken}
use Rattle.open_cells.proofs.sample_cells.add_layer.Goals as goal

pub loop-k-preserved : goal.loop-k-preserved
loop-k-preserved c =
    layer-taken c.args.out.now.items c.loop-k.out.items c.push.new.self.items c.args.layer.key.lane c.args.layer.cells.now c.args.layer.values.now c.loop-k.k _ _ _
    (let t = c.loop-k-test.true in let e = c.loop-k.auto.k-end in omega arith) c.args.layer.same_length c.loop-k.invariant refl c.in-Ok.ensures.items
