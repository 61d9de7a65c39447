-- There is room for all.
use Rattle.std.proofs.Common.{ap, arith, length, take}
use Rattle.std.proofs.lemmas.List.{length-append, length-take}
use Rattle.beam_encoder.proofs.history.append.Goals as goal

pub push-requires : goal.push-requires
push-requires c =
    let kept = ap length c.reserve.ensures.items in
    let size = ap length c.loop-node.invariant in
    let long = length-append c.reserve.new.self.items (take c.loop-node.node-index c.args.layer.now) in
    omega (arith, size, long, kept, c.requires, c.loop-node.auto, length-take c.loop-node.node-index c.args.layer.now)
