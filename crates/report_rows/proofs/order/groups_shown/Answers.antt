use Rattle.std.proofs.Common.{◌*◌, nat_le, ◌∙◌, ap, map}
use Rattle.std.specs.List.{filter}
use Rattle.std.proofs.lemmas.List.{take_all}
use Rattle.report_rows.specs.Tables.{lists}
use Rattle.report_rows.proofs.OrderLemmas.{groups_arranged}
use Rattle.report_rows.proofs.order.groups_shown.Goals as goal

pub returns : goal.returns
returns c =
    let options = c.args.options.now in
    groups_arranged c.args.costs.now options c.args.total (lists c.args.members.now) c.args.places.now
    c.in_ok-ranks.ranks.items c.sort.new.self.items c.groups.shown.items c.in_ok-ranks.ensures
    c.sort.ensures.permutation
    c.in_ok-sort.ensures.sorted
    (c.groups.invariant
    ∙ ap (λ rs. map (λ r. r.group) (filter (λ r. nat_le (options.threshold * c.args.total) (r.cost.0 * 100)) rs))
    (take_all c.groups.rank-index c.deref-rank-items.result.now c.groups-test.false ∙ c.deref-rank-items.ensures.value))
