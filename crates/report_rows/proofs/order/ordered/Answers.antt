use Rattle.std.proofs.Common.{◌≡◌, ◌<◌, List, All, length, get_or, sym, ap, subst, ◌∙◌, arith}
use Rattle.std.specs.List.Sorted.{IsPermutation}
use Rattle.cg_read.specs.Profiles.{Contents, function_at}
use Rattle.cg_read.specs.declared.rows.FuncKey.{FuncKey}
use Rattle.cycles.specs.Costs.{group_at}
use Rattle.report_rows.specs.Orders.{IsArranged, key_order, members, numbers}
use Rattle.report_rows.specs.Ranks.{ArePlaces}
use Rattle.report_rows.specs.Tables.{AreLists}
use Rattle.report_rows.proofs.OrderLemmas.{all_below}
use Rattle.report_rows.proofs.OrderLemmas.{count_of}
use Rattle.report_rows.proofs.order.ordered.Goals as goal

pub places_of-requires : goal.places_of-requires
places_of-requires c =
    let order = c.in_ok-functions.functions.items in
    let same = c.in_ok-functions.ensures.same in
    let size = count_of (length c.profile.inside.functions) order same in
    subst (λ o. IsPermutation (numbers (length o)) o) (sym c.deref.ensures.value)
    (subst (λ n. IsPermutation (numbers n) order) (sym size) same)

pub members_of-requires-clause-functions : goal.members_of-requires-clause-functions
members_of-requires-clause-functions c =
    let order = c.in_ok-functions.functions.items in
    let n = length c.profile.inside.functions in
    let count : n ≡ length c.args.groups.now.number =
    ap (λ (q : Contents). length q.functions) c.profile.view_is
    ∙ sym c.requires.numbered.size in
    subst (All (λ f. f < length c.args.groups.now.number)) (sym c.deref-2.ensures.value)
    (subst (λ m. All (λ f. f < m) order) count (all_below n order c.in_ok-functions.ensures.same))

pub members_of-requires-clause-groups : goal.members_of-requires-clause-groups
members_of-requires-clause-groups c =
    let order = c.in_ok-functions.functions.items in
    let n = length c.profile.inside.functions in
    let count : n ≡ length c.args.profile.now.functions =
    ap (λ (q : Contents). length q.functions) c.profile.view_is in
    subst (All (λ f. group_at c.args.groups.now f < length c.args.groups.now.cyclic)) (sym c.deref-2.ensures.value)
    (λ k d lt. c.requires.numbered.below (get_or order k d)
    (omega (arith, count, all_below n order c.in_ok-functions.ensures.same k d lt)))

pub returns : goal.returns
returns c =
    let groups = c.args.groups.now in
    let order = c.in_ok-functions.functions.items in
    let places = c.in_ok-places.places.items in
    let rows = c.in_ok-members.members.items in
    record {
      functions = subst (λ (fs : List FuncKey). IsArranged (λ f g. key_order (function_at fs f) (function_at fs g))
          (numbers (length fs)) order)
          (ap (λ (q : Contents). q.functions) c.profile.view_is) c.in_ok-functions.ensures;
      places = subst (λ o. ArePlaces o places) c.deref.ensures.value c.in_ok-places.ensures;
      members = subst (λ o. AreLists (length groups.cyclic) (members groups o) rows) c.deref-2.ensures.value
          c.in_ok-members.ensures;
    }
