use Rattle.std.proofs.Common.{nat_lt, rules}
use Rattle.std.proofs.lemmas.List.Sorted.{IsPartitionPoint-from_clause, IsPartitionedBy-ltb}
use Rattle.guest_futex.specs.Waits.{Wait}
use Rattle.guest_futex.proofs.OrderLaws.{never_falls, passing_before}
use Rattle.guest_futex.proofs.queue.start_of.Goals as goal

pub returns : goal.returns
returns c =
    let parted = IsPartitionedBy-ltb (λ (w : Wait). w.addr) _ c.args.addr (never_falls 0 c.args.waits.now c.requires) in
    let point =
    IsPartitionPoint-from_clause
    (λ (w : Wait). nat_lt w.addr c.args.addr) _ _ c.partition_point.ensures.partitioned parted
    (λ a r q k. search rules) in
    passing_before
    (λ w. nat_lt w.addr c.args.addr) c.args.waits.now c.partition_point.result c.partition_point.ensures.bound
    point.0 point.1
