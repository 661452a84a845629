use Rattle.std.proofs.Common.{◌≡◌, length, map, sym, ap, subst, ◌∙◌, arith}
use Rattle.cg_read.specs.Profiles.{Contents, IsProfile}
use Rattle.report_rows.specs.Entries.{AreWithin, costs_of, entry_values, self_entry}
use Rattle.report_rows.specs.declared.entries.By.TheVariants as by
use Rattle.report_rows.proofs.RowLemmas.{all_within, totals_there}
use Rattle.report_rows.proofs.lists.totals.Goals as goal

pub sum_of-requires : goal.sum_of-requires
sum_of-requires c =
    let p = c.args.profile.now in
    let same = c.profile.view_is in
    let is = ap entry_values c.deref-2.ensures.value ∙ c.in_ok-entries.ensures
    ∙ ap (map (self_entry by.All)) (c.deref.ensures.value ∙ ap (λ (q : Contents). q.self_rows) same) in
    let events : c.len.result ≡ length p.events =
    omega (arith, c.len.ensures, ap (λ (q : Contents). length q.events) same) in
    subst (λ n. AreWithin n (entry_values c.deref-2.result.now)) (sym events)
    (subst (AreWithin (length p.events)) (sym is)
    (all_within p (subst IsProfile same c.profile.invariant) c.requires by.All))

pub returns : goal.returns
returns c =
    let p = c.args.profile.now in
    let same = c.profile.view_is in
    let is = ap entry_values c.deref-2.ensures.value ∙ c.in_ok-entries.ensures
    ∙ ap (map (self_entry by.All)) (c.deref.ensures.value ∙ ap (λ (q : Contents). q.self_rows) same) in
    let events : c.len.result ≡ length p.events =
    omega (arith, c.len.ensures, ap (λ (q : Contents). length q.events) same) in
    c.in_ok-sum_of.ensures.cost ∙ ap (λ n. costs_of n (entry_values c.deref-2.result.now)) events
    ∙ ap (costs_of (length p.events)) is
    ∙ totals_there p (subst IsProfile same c.profile.invariant) c.requires by.All
