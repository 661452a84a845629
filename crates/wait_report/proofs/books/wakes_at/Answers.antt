use Rattle.std.proofs.Common.{arith, rules}
use Rattle.std.specs.Ordering.{is_le, is_lt}
use Rattle.std.proofs.lemmas.List.Sorted.{IsPartitionPoint-from_clause}
use Rattle.wait_report.specs.Rows.{spot_order}
use Rattle.wait_report.specs.declared.books.Wake.{Wake}
use Rattle.wait_report.proofs.OrderLemmas.{AreEnds, between_ends, lower_first, start_first, upto_first}
use Rattle.wait_report.proofs.books.wakes_at.Goals as goal

ends : (c : goal.After-partition_point-end)
    → AreEnds c.args.wakes.now c.args.spot c.requires c.partition_point-start.result c.partition_point-end.result
ends c =
    let ws = c.args.wakes.now in
    let s = c.args.spot in
    let lower = IsPartitionPoint-from_clause (λ (w : Wake). is_lt (spot_order w.spot s)) ws
    c.partition_point-start.result c.partition_point-start.ensures.partitioned (lower_first ws s c.requires)
    (λ a r f k. search rules) in
    let upto = IsPartitionPoint-from_clause (λ (w : Wake). is_le (spot_order w.spot s)) ws
    c.partition_point-end.result c.partition_point-end.ensures.partitioned (upto_first ws s c.requires)
    (λ a r f k. search rules) in
    record {
      start_within = c.partition_point-start.ensures.bound;
      end_within = c.partition_point-end.ensures.bound;
      lower = lower.0;
      from = lower.1;
      upto = upto.0;
      above = upto.1;
    }

pub slice_bounds-result-count : goal.slice_bounds-result-count
slice_bounds-result-count c = start_first c.args.wakes.now c.args.spot c.requires _ _ (ends c)

pub slice_bounds-result-start : goal.slice_bounds-result-start
slice_bounds-result-start c =
    let first = start_first c.args.wakes.now c.args.spot c.requires _ _ (ends c) in omega (arith, first)

pub returns : goal.returns
returns c =
    let ws = c.args.wakes.now in
    let s = c.args.spot in
    let lower = IsPartitionPoint-from_clause (λ (w : Wake). is_lt (spot_order w.spot s)) ws
    c.partition_point-start.result c.partition_point-start.ensures.partitioned (lower_first ws s c.requires)
    (λ a r f k. search rules) in
    let upto = IsPartitionPoint-from_clause (λ (w : Wake). is_le (spot_order w.spot s)) ws
    c.partition_point-end.result c.partition_point-end.ensures.partitioned (upto_first ws s c.requires)
    (λ a r f k. search rules) in
    between_ends ws s c.requires c.partition_point-start.result c.partition_point-end.result (record {
      start_within = c.partition_point-start.ensures.bound;
      end_within = c.partition_point-end.ensures.bound;
      lower = lower.0;
      from = lower.1;
      upto = upto.0;
      above = upto.1;
    })
