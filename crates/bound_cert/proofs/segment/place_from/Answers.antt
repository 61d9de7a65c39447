use Rattle.bound_cert.specs.Content.{begins_at}
use Rattle.bound_cert.specs.Places.{layers_at}
use Rattle.bound_cert.proofs.Beginning.{go-ahead}
use Rattle.bound_cert.proofs.segment.place_from.Goals as goal

pub loop-at-preserved : goal.loop-at-preserved
loop-at-preserved c =
    (go-ahead c.args.bytes.now c.loop-at.at c.loop-at.left c.u32_in.result c.args.wanted (begins_at c.args.start (layers_at c.args.bytes.now c.args.start c.args.count) c.args.wanted)
    c.u32_in.ensures c.loop-at-test.true c.loop-at.invariant).1
