use Rattle.std.proofs.Common.{ltb, arith, rules}
use Rattle.std.proofs.lemmas.Bool.{ltb-true, ltb-false}
use Rattle.std.proofs.lemmas.List.Sorted.{IsPartitionPoint-from_clause, IsPartitionedBy-ltb}
use Rattle.open_cells.specs.Nodes.{rank}
use Rattle.open_cells.proofs.Look.{non-decreasing}
use Rattle.open_cells.proofs.looking.first_from.Goals as goal

pub returns-clause-below : goal.returns-clause-below
returns-clause-below c =
    let parted = IsPartitionedBy-ltb rank _ c.args.at (non-decreasing c.args.nodes.now c.requires) in
    let point = IsPartitionPoint-from_clause (λ p. ltb (rank p) c.args.at) _ _ c.partition_point.ensures.partitioned parted (λ a r q k. search rules) in
    λ k d h. ltb-true _ _ (point.0 k d (omega arith) h)

pub returns-clause-above : goal.returns-clause-above
returns-clause-above c =
    let parted = IsPartitionedBy-ltb rank _ c.args.at (non-decreasing c.args.nodes.now c.requires) in
    let point = IsPartitionPoint-from_clause (λ p. ltb (rank p) c.args.at) _ _ c.partition_point.ensures.partitioned parted (λ a r q k. search rules) in
    λ k d h l. ltb-false _ _ (point.1 k d h l)
