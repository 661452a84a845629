use Rattle.std.proofs.Common.{ℕ, rules}
use Rattle.std.proofs.lemmas.List.Sorted.{IsNonDecreasingBy-from_sort, answers_always}
use Rattle.addr_rows.specs.Texts.{all_rows}
use Rattle.addr_rows.specs.declared.row.RowRef.{RowRef}
use Rattle.addr_rows.specs.inner.Refs.{listed}
use Rattle.addr_rows.proofs.RefLemmas.{ordered, within}
use Rattle.addr_rows.proofs.row.Rows.by_function.Goals as goal

abbrev key : RowRef → ℕ
key place = place.function

pub returns-clause-within : goal.returns-clause-within
returns-clause-within c =
    within (all_rows (listed c.args.syms.now c.args.self.now)) c.in_ok-sorted.sorted.items
    c.sort_by_key.new.self.items c.in_ok-sorted.ensures c.sort_by_key.ensures.permutation

pub returns-clause-rows : goal.returns-clause-rows
returns-clause-rows c functions small =
    let sorted = c.sort_by_key.new.self.items in
    let computes = answers_always _ _ _ (λ f a r f' called. search rules) in
    ordered (all_rows (listed c.args.syms.now c.args.self.now)) c.in_ok-sorted.sorted.items sorted
    c.in_ok-sorted.ensures c.sort_by_key.ensures.permutation functions (c.sort_by_key.ensures.stable key computes)
    (IsNonDecreasingBy-from_sort key sorted (c.in_ok-sort_by_key.ensures.sorted key computes)) small
