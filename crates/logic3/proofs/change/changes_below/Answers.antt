use Rattle.std.proofs.Common.{rules, ltb}
use Rattle.std.proofs.lemmas.List.Sorted.{IsPartitionPoint-from_clause, IsPartitionedBy-ltb}
use Rattle.logic3.specs.declared.change.Change.{Change}
use Rattle.logic3.proofs.Rising.{RisesBy-ascends, take-partition}
use Rattle.logic3.proofs.change.changes_below.Goals as goal

pub returns : goal.returns
returns c =
    let parted = IsPartitionedBy-ltb (λ (change : Change). change.tick) _ c.args.tick (RisesBy-ascends (λ (change : Change). change.tick) _ c.requires) in
    let point = IsPartitionPoint-from_clause (λ (change : Change). ltb change.tick c.args.tick) _ _ c.partition_point-early.ensures.partitioned parted (λ a r q k. search rules) in
    take-partition (λ (change : Change). ltb change.tick c.args.tick) _ _ c.partition_point-early.ensures.bound point
