use Rattle.std.proofs.Common.{rules, ◌≡◌, ◌+◌, leb, sym, ◌∙◌, arith}
use Rattle.std.proofs.lemmas.List.Sorted.{IsPartitionPoint-from_clause}
use Rattle.sym_map.specs.declared.range.Range.{Range}
use Rattle.sym_map.proofs.Ranges.{rises_by_start, found, last_of-take, none_below}
use Rattle.sym_map.proofs.range.cover_at.Goals as goal

pub returns-in-Some : goal.returns-in-Some
returns-in-Some c =
    let point = IsPartitionPoint-from_clause (λ (r : Range). leb r.start c.args.address) c.args.ranges.now
    c.partition_point-below.result c.partition_point-below.ensures.partitioned
    (rises_by_start c.args.ranges.now c.args.address c.requires) (λ a r f k. search rules) in
    let place : c.partition_point-below.result ≡ c.in-Some.last + 1 = omega (arith, c.in-Some.ensures) in
    sym (found c.args.ranges.now c.args.address c.partition_point-below.result c.partition_point-below.ensures.bound
    point ∙ last_of-take c.args.ranges.now _ c.in-Some.last _ c.partition_point-below.ensures.bound place)

pub returns-in-None : goal.returns-in-None
returns-in-None c =
    let point = IsPartitionPoint-from_clause (λ (r : Range). leb r.start c.args.address) c.args.ranges.now
    c.partition_point-below.result c.partition_point-below.ensures.partitioned
    (rises_by_start c.args.ranges.now c.args.address c.requires) (λ a r f k. search rules) in
    let place : c.partition_point-below.result ≡ 0 = omega (arith, c.in-None.ensures) in
    sym (found c.args.ranges.now c.args.address c.partition_point-below.result c.partition_point-below.ensures.bound
    point ∙ none_below c.args.ranges.now _ place)
