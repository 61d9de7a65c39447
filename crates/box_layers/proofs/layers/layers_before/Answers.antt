use Rattle.std.proofs.Common.{arith, rules}
use Rattle.std.proofs.lemmas.List.Sorted.{IsPartitionPoint-from_clause}
use Rattle.box_layers.specs.declared.layer.Layer.{Layer}
use Rattle.box_layers.specs.Keys.{key_before}
use Rattle.box_layers.proofs.Placed.{parted}
use Rattle.box_layers.proofs.layers.layers_before.Goals as goal

pub returns-clause-below : goal.returns-clause-below
returns-clause-below c =
    let point = IsPartitionPoint-from_clause (λ (l : Layer). key_before l.key c.args.key) _ _ c.partition_point.ensures.partitioned (parted c.args.layers.now c.args.key c.requires) (λ a r q k. search rules) in
    λ k d h. point.0 k d (omega arith) h

pub returns-clause-from : goal.returns-clause-from
returns-clause-from c =
    let point = IsPartitionPoint-from_clause (λ (l : Layer). key_before l.key c.args.key) _ _ c.partition_point.ensures.partitioned (parted c.args.layers.now c.args.key c.requires) (λ a r q k. search rules) in
    λ k d h l. point.1 k d h l
