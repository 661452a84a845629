use Rattle.std.proofs.Common.{◌≡◌, length, sym, ap, subst, ◌∙◌, arith, vec_len}
use Rattle.cg_read.specs.Profiles.{IsProfile}
use Rattle.cycles.specs.Costs.{IsInclusive}
use Rattle.cycles.specs.Limits.{IsFirstOver}
use Rattle.cycles.specs.inner.Counting.{HasShape}
use Rattle.cycles.specs.inner.Pairs.{IsPairs}
use Rattle.cycles.proofs.WithinLemmas.{zeros_of, zeros_shape, zeros_count, first_over, all_within, all_inclusive}
use Rattle.cycles.proofs.WithinLemmas.{same_limit}
use Rattle.cycles.proofs.including.inclusive.Goals as goal

pub count_self_rows-requires-clause-shape : goal.count_self_rows-requires-clause-shape
count_self_rows-requires-clause-shape c =
    let whole : vec_len c.profile.inside.events ≡ length c.profile.inside.events.items = omega arith in
    let events : c.len-events.result ≡ length c.args.profile.now.events = c.len-events.ensures ∙ whole
    ∙ ap (λ q. length q.events) c.profile.view_is in
    let e = c.in_ok-sums.ensures in
    let shape =
    zeros_shape (zeros_of events c.count.ensures (c.len.ensures ∙ c.in_ok-pairs.pairs.arcs.ok.0) e.totals e.groups e.pairs e.calls e.limit) in
    subst (λ n. HasShape (length c.args.profile.now.events) (length c.args.groups.now.cyclic) n c.in_ok-sums.sums)
    (sym shape.pair_count) shape

pub count_call_rows-requires-clause-counts : goal.count_call_rows-requires-clause-counts
count_call_rows-requires-clause-counts c =
    let whole : vec_len c.profile.inside.events ≡ length c.profile.inside.events.items = omega arith in
    let events : c.len-events.result ≡ length c.args.profile.now.events = c.len-events.ensures ∙ whole
    ∙ ap (λ q. length q.events) c.profile.view_is in
    let e = c.in_ok-sums.ensures in
    c.count_self_rows.ensures c.in_ok-pairs.pairs.arcs.items
    (zeros_count c.args.profile.now c.args.groups.now c.in_ok-pairs.pairs.arcs.items c.in_ok-sums.sums
    (zeros_of events c.count.ensures (c.len.ensures ∙ c.in_ok-pairs.pairs.arcs.ok.0) e.totals e.groups e.pairs e.calls e.limit))

pub returns-then-sums-events-clause-limit : goal.returns-then-sums-events-clause-limit
returns-then-sums-events-clause-limit c = λ position is.
    let p = c.args.profile.now in
    let whole : vec_len c.profile.inside.events ≡ length c.profile.inside.events.items = omega arith in
    let events : c.len-events.result ≡ length p.events = c.len-events.ensures ∙ whole
    ∙ ap (λ q. length q.events) c.profile.view_is in
    let rows = c.deref.ensures.value ∙ ap (λ q. q.call_rows) c.profile.view_is in
    let pairs =
    subst (λ r. IsPairs r c.in_ok-pairs.pairs.arcs.items c.in_ok-pairs.pairs.numbers.items) rows
    c.in_ok-pairs.ensures in
    subst (IsFirstOver p) (same_limit is)
    (first_over p
    (subst IsProfile c.profile.view_is c.profile.invariant) c.args.groups.now c.requires
    c.in_ok-pairs.pairs.arcs.items c.in_ok-pairs.pairs.numbers.items pairs
    c.count_call_rows.new.sums c.count_call_rows.ensures (omega (arith, events, c.if-sums-events.true)))

pub returns-clause-costs : goal.returns-clause-costs
returns-clause-costs c =
    let p = c.args.profile.now in
    let whole : vec_len c.profile.inside.events ≡ length c.profile.inside.events.items = omega arith in
    let events : c.len-events.result ≡ length p.events = c.len-events.ensures ∙ whole
    ∙ ap (λ q. length q.events) c.profile.view_is in
    let rows = c.deref.ensures.value ∙ ap (λ q. q.call_rows) c.profile.view_is in
    let pairs =
    subst (λ r. IsPairs r c.in_ok-pairs.pairs.arcs.items c.in_ok-pairs.pairs.numbers.items) rows
    c.in_ok-pairs.ensures in
    subst (IsInclusive p c.args.groups.now) (sym c.in_ok-cost_lists.ensures)
    (all_inclusive p
    (subst IsProfile c.profile.view_is c.profile.invariant) c.args.groups.now c.requires
    c.in_ok-pairs.pairs.arcs.items c.in_ok-pairs.pairs.numbers.items pairs
    c.count_call_rows.new.sums c.count_call_rows.ensures (omega (arith, events, c.if-sums-events.false)))

pub returns-clause-within : goal.returns-clause-within
returns-clause-within c =
    let p = c.args.profile.now in
    let whole : vec_len c.profile.inside.events ≡ length c.profile.inside.events.items = omega arith in
    let events : c.len-events.result ≡ length p.events = c.len-events.ensures ∙ whole
    ∙ ap (λ q. length q.events) c.profile.view_is in
    let rows = c.deref.ensures.value ∙ ap (λ q. q.call_rows) c.profile.view_is in
    let pairs =
    subst (λ r. IsPairs r c.in_ok-pairs.pairs.arcs.items c.in_ok-pairs.pairs.numbers.items) rows
    c.in_ok-pairs.ensures in
    all_within p
    (subst IsProfile c.profile.view_is c.profile.invariant) c.args.groups.now c.requires
    c.in_ok-pairs.pairs.arcs.items c.in_ok-pairs.pairs.numbers.items pairs
    c.count_call_rows.new.sums c.count_call_rows.ensures (omega (arith, events, c.if-sums-events.false))
