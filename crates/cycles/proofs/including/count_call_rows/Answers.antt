use Rattle.std.proofs.Common.{◌≡◌, ℕ, get_or, ap, subst, ◌∙◌, arith}
use Rattle.std.proofs.lemmas.List.{get_or_default}
use Rattle.cg_read.specs.Profiles.{IsProfile}
use Rattle.cycles.specs.inner.Counting.{AddsCalls, AddsToPair}
use Rattle.cycles.proofs.CountLemmas.{row_is, call_row_counted}
use Rattle.cycles.proofs.including.count_call_rows.Goals as goal

pub rows-preserved : goal.rows-preserved
rows-preserved c =
    let p = c.args.profile.now in
    let groups = c.args.groups.now in
    let numbers = c.args.pairs.now.numbers.items in
    let row = c.row-item.result in
    let i : ℕ = c.rows.i in
    let profile = subst IsProfile c.profile.view_is c.profile.invariant in
    let rows = c.deref-row-items.ensures.value ∙ ap (λ q. q.call_rows) c.profile.view_is in
    let read = row_is c.deref-row-items.result.now p.call_rows i row rows c.rows-test.true c.row-item.is in
    let cost : c.deref.result.now ≡ row.cost = c.deref.ensures.value ∙ ap (λ r. r.cost) c.row.view_is in
    let pair : c.index-pair.result.now ≡ get_or numbers i 0 = c.index-pair.ensures
    ∙ get_or_default numbers i c.index-pair.result.now 0 (omega (arith, c.requires.pairs.count, read.0)) in
    let costs = subst (λ k. AddsToPair c.rows.sums (get_or numbers i 0) k c.add_to_pair.new.self) cost
    (subst (λ n. AddsToPair c.rows.sums n c.deref.result.now c.add_to_pair.new.self) pair c.add_to_pair.ensures) in
    let calls = subst (λ n. AddsCalls c.add_to_pair.new.self n row.calls c.add_calls.new.self) pair
    (subst (λ k. AddsCalls c.add_to_pair.new.self c.index-pair.result.now k c.add_calls.new.self)
    (ap (λ r. r.calls) c.row.view_is) c.add_calls.ensures) in
    call_row_counted p groups profile c.requires.groups c.args.pairs.now.arcs.items numbers c.requires.pairs i row
    read.0 read.1
    c.rows.sums c.add_to_pair.new.self c.add_calls.new.self c.count_leaving.new.sums c.rows.invariant costs calls
    c.count_leaving.ensures.leaving c.count_leaving.ensures.staying
