use Rattle.std.proofs.Common.{rules, ◌≡◌, ◌+◌, ◌<◌, leb, length, sym, ◌∙◌, arith}
use Rattle.std.proofs.lemmas.List.Sorted.{IsPartitionPoint-from_clause}
use Rattle.sym_map.specs.declared.range.Range.{Range}
use Rattle.sym_map.specs.inner.Nearby.{no_range}
use Rattle.sym_map.proofs.Ranges.{rises_by_start, found, last_of-take, none_below}
use Rattle.sym_map.proofs.NearRanges.{held, said_is, said_is_nothing}
use Rattle.sym_map.proofs.range.number_near.Goals as goal

pub returns-then-is_held-clause-says : goal.returns-then-is_held-clause-says
returns-then-is_held-clause-says c =
    held c.args.ranges.now c.args.near c.args.address c.requires (sym c.is_held.ensures ∙ c.if-is_held.true)

pub returns-in-Some-clause-says : goal.returns-in-Some-clause-says
returns-in-Some-clause-says c =
    let point = IsPartitionPoint-from_clause (λ (r : Range). leb r.start c.args.address) c.args.ranges.now
    c.partition_point-below.result c.partition_point-below.ensures.partitioned
    (rises_by_start c.args.ranges.now c.args.address c.requires) (λ a r f k. search rules) in
    let place : c.partition_point-below.result ≡ c.in-Some.last + 1 = omega (arith, c.in-Some.ensures) in
    let within : c.in-Some.last < length c.args.ranges.now
    = omega (arith, place, c.partition_point-below.ensures.bound) in
    said_is c.args.ranges.now c.in-Some.last no_range within
    ∙ sym (found c.args.ranges.now c.args.address c.partition_point-below.result c.partition_point-below.ensures.bound
    point ∙ last_of-take c.args.ranges.now _ c.in-Some.last no_range c.partition_point-below.ensures.bound place)

pub returns-in-None-clause-says : goal.returns-in-None-clause-says
returns-in-None-clause-says c =
    let point = IsPartitionPoint-from_clause (λ (r : Range). leb r.start c.args.address) c.args.ranges.now
    c.partition_point-below.result c.partition_point-below.ensures.partitioned
    (rises_by_start c.args.ranges.now c.args.address c.requires) (λ a r f k. search rules) in
    let place : c.partition_point-below.result ≡ 0 = omega (arith, c.in-None.ensures) in
    said_is_nothing c.args.ranges.now
    ∙ sym (found c.args.ranges.now c.args.address c.partition_point-below.result c.partition_point-below.ensures.bound
    point ∙ none_below c.args.ranges.now _ place)
