use Rattle.std.proofs.Common.{◌≡◌, ◌*◌, nat_le, map, take}
use Rattle.std.specs.Prelude.{filter}
use Rattle.report_rows.proofs.order.groups_shown.Given as goal

abbrev pub invariant-groups : goal.invariant-groups
invariant-groups l = l.shown.items ≡ map (λ r. r.group)
    (filter (λ r. nat_le (l.options.threshold * l.total) (r.cost.0 * 100)) (take l.rank-index l.rank-items))
