use Rattle.std.proofs.Common.{ℕ, ◌<◌, All, [], refl, sym, ap, ◌∙◌, subst, rules}
use Rattle.std.proofs.lemmas.List.Sorted.{All-permutation, IsNonDecreasingBy-from_sort, answers_always}
use Rattle.cg_format.specs.Rows.{by_function, function_of}
use Rattle.cg_format.specs.declared.row.Row.{Row}
use Rattle.cg_format.specs.declared.row.Row.TheVariants.{Line}
use Rattle.cg_format.proofs.RowLemmas.{sorted_by_groups}
use Rattle.cg_format.proofs.row.rows_by_function.Goals as goal

abbrev key : Row → ℕ
key row = (function_of row).0

-- a row of this function
abbrev made : ℕ → Row
made n = Line (record { place = record { func = record { 0 = n }; file = record { 0 = 0 }; line = 0 }; cost = [] })

pub returns-clause-rows : goal.returns-clause-rows
returns-clause-rows g c functions small =
    let rows = c.in_ok-sorted.sorted.items in
    let sorted = c.sort_by_key.new.self.items in
    let computes = answers_always _ _ _ (λ f a r f' called. search rules) in
    let stable = c.sort_by_key.ensures.stable key computes in
    let rise = c.in_ok-sort_by_key.ensures.sorted key computes in
    let all = c.in_ok-sorted.ensures in
    let below : Row → Type 0 = λ row. key row < functions in
    sorted_by_groups key made (λ n. refl) functions rows sorted stable (IsNonDecreasingBy-from_sort key sorted rise)
    (All-permutation below rows sorted c.sort_by_key.ensures.permutation (subst (All below) (sym all) small))
    ∙ ap (by_function functions) all
