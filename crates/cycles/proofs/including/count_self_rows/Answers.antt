use Rattle.std.proofs.Common.{◌≡◌, ℕ, [], get_or, ap, subst, ◌∙◌}
use Rattle.cg_read.specs.Profiles.{IsProfile}
use Rattle.cycles.specs.inner.Counting.{AddsToGroup, AddsToTotals}
use Rattle.cycles.proofs.CountLemmas.{row_is, self_row_counted, self_row_shape}
use Rattle.cycles.proofs.including.count_self_rows.Goals as goal

pub rows-preserved : goal.rows-preserved
rows-preserved c =
    let p = c.args.profile.now in
    let groups = c.args.groups.now in
    let row = c.row-item.result in
    let i : ℕ = c.rows.row-index in
    let profile = subst IsProfile c.profile.view_is c.profile.invariant in
    let rows = c.deref-row-items.ensures.value ∙ ap (λ q. q.self_rows) c.profile.view_is in
    let read = row_is c.deref-row-items.result.now p.self_rows i row rows c.rows-test.true c.row-item.is in
    let cost : c.as_slice-cost.result.now ≡ row.cost = c.as_slice-cost.ensures.value ∙ ap (λ r. r.cost) c.row.view_is in
    let number : c.group_of.result ≡ get_or groups.number row.func 0 = c.group_of.ensures
    ∙ ap (λ r. get_or groups.number r.func 0) c.row.view_is in
    let totals = subst (λ k. AddsToTotals c.rows.sums k c.add_to_totals.new.self) cost c.add_to_totals.ensures in
    let adds =
    subst (λ k. AddsToGroup c.add_to_totals.new.self
    (get_or groups.number row.func 0) k c.add_to_group.new.self) cost
    (subst
    (λ g. AddsToGroup c.add_to_totals.new.self g c.as_slice-cost.result.now c.add_to_group.new.self) number
    c.add_to_group.ensures) in
    record {
      shape =
          self_row_shape p groups profile c.requires.groups [] i row read.0 read.1 c.rows.sums c.add_to_totals.new.self
          c.add_to_group.new.self c.rows.invariant.shape totals adds;
      counts =
          λ arcs before.
          self_row_counted p groups profile c.requires.groups arcs i row read.0 read.1 c.rows.sums
          c.add_to_totals.new.self c.add_to_group.new.self
          (c.rows.invariant.counts arcs before) totals adds;
    }
