use Rattle.std.proofs.Common.{rules}
use Rattle.std.specs.Int.Signed.{le_z}
use Rattle.std.proofs.lemmas.List.Sorted.{IsPartitionPoint-from_clause}
use Rattle.guard_integers.proofs.RangeLists.HoldingRange.{begins_in_order}
use Rattle.guard_integers.proofs.ranges.begun_by.Goals as goal

pub returns-clause-begun : goal.returns-clause-begun
returns-clause-begun c =
    let parted = begins_in_order c.args.ranges.now c.args.number c.requires in
    (IsPartitionPoint-from_clause (λ r. le_z r.low c.args.number) _ _ c.partition_point.ensures.partitioned parted (λ a r q k. search rules)).0

pub returns-clause-later : goal.returns-clause-later
returns-clause-later c =
    let parted = begins_in_order c.args.ranges.now c.args.number c.requires in
    (IsPartitionPoint-from_clause (λ r. le_z r.low c.args.number) _ _ c.partition_point.ensures.partitioned parted (λ a r q k. search rules)).1
