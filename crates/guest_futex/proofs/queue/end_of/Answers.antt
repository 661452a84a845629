use Rattle.std.proofs.Common.{◌∙◌, rules}
use Rattle.std.specs.Prelude.{nat_le}
use Rattle.std.proofs.lemmas.List.Sorted.{IsPartitionPoint-from_clause, IsPartitionedBy-leb}
use Rattle.guest_futex.specs.Waits.{Wait}
use Rattle.guest_futex.proofs.OrderLaws.{never_falls, passing_before, length-no_higher}
use Rattle.guest_futex.proofs.queue.end_of.Goals as goal

pub returns : goal.returns
returns c =
    let parted = IsPartitionedBy-leb (λ (w : Wait). w.addr) _ c.args.addr (never_falls 0 c.args.waits.now c.requires) in
    let point =
    IsPartitionPoint-from_clause
    (λ (w : Wait). nat_le w.addr c.args.addr) _ _ c.partition_point.ensures.partitioned parted
    (λ a r q k. search rules) in
    passing_before
    (λ w. nat_le w.addr c.args.addr) c.args.waits.now c.partition_point.result c.partition_point.ensures.bound
    point.0 point.1
    ∙ length-no_higher c.args.addr c.args.waits.now
