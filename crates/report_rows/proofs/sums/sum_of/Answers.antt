use Rattle.std.proofs.Common.{◌<◌, length, get_or, sym, ap, ◌∙◌, arith}
use Rattle.std.proofs.lemmas.List.{take_all}
use Rattle.report_rows.specs.Entries.{cost_of, entry_values}
use Rattle.report_rows.proofs.SumLemmas.{calls_more_le, cost_more_le, costs_from_places, width_at}
use Rattle.report_rows.proofs.sums.sum_of.Goals as goal

pub overflow_add-calls : goal.overflow_add-calls
overflow_add-calls c =
    let e = c.entry-item.result in
    omega (
      arith,
      calls_more_le c.args.entries.now c.entries.entry-index e c.entries-test.true c.entry-item.is,
      c.entries.invariant.calls,
      c.requires.calls,
    )

pub add_cost-requires-clause-alike : goal.add_cost-requires-clause-alike
add_cost-requires-clause-alike c =
    let e = c.entry-item.result in
    let width = width_at c.args.events c.args.entries.now c.entries.entry-index e c.requires c.entries-test.true
    c.entry-item.is in
    ap length c.deref_mut.ensures.value ∙ c.entries.invariant.width
    ∙ sym (ap length (c.deref.ensures.value ∙ c.numbers.view_is) ∙ width)

pub add_cost-requires-clause-fits : goal.add_cost-requires-clause-fits
add_cost-requires-clause-fits c = λ k lt.
    let e = c.entry-item.result in
    let more = cost_more_le c.args.entries.now c.entries.entry-index e k c.entries-test.true c.entry-item.is in
    let below : k < c.args.events =
    omega (arith, lt, ap length c.deref_mut.ensures.value, c.entries.invariant.width) in
    omega (
      arith,
      more,
      c.requires.cost k below,
      c.entries.invariant.cost k below,
      ap (λ xs. get_or xs k 0) c.deref_mut.ensures.value,
      ap (λ xs. get_or xs k 0) (c.deref.ensures.value ∙ c.numbers.view_is),
    )

pub returns-clause-cost : goal.returns-clause-cost
returns-clause-cost c =
    costs_from_places c.args.events (entry_values c.args.entries.now) c.entries.cost.items c.entries.invariant.width
    (λ k lt. c.entries.invariant.cost k lt
    ∙ ap (λ es. cost_of (entry_values es) k)
    (take_all c.entries.entry-index c.args.entries.now c.entries-test.false))
