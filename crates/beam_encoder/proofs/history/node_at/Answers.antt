-- Its place among all nodes.
use Rattle.std.proofs.Common.{arith}
use Rattle.beam_encoder.proofs.Links.{node-in, node-place}
use Rattle.beam_encoder.proofs.history.node_at.Goals as goal

pub overflow_add-begin_of : goal.overflow_add-begin_of
overflow_add-begin_of c =
    let p = node-place _ _ _ c.begin_of.result _ c.begin_of.ensures c.requires.place in
    let few = c.requires.few in
    omega (arith, p, few)

pub get-requires : goal.get-requires
get-requires c = node-place _ _ _ _ _ c.begin_of.ensures c.requires.place

pub returns : goal.returns
returns c = node-in _ _ _ _ _ c.get.result c.begin_of.ensures c.requires.place c.get.ensures
