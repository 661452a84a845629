use Rattle.std.proofs.Common.{IsPermutation, filter}
use Rattle.std.specs.Map.{keys_of}
use Rattle.std.proofs.lemmas.List.Sorted.{IsPermutation-map, IsPermutation-trans}
use Rattle.std.proofs.lemmas.Result.{IfOk-weaker}
use Rattle.std.proofs.lemmas.Map.Keys.{IsDistinct-IsPermutation}
use Rattle.arc_costs.proofs.SortLemmas.{distinct_kept}
use Rattle.arc_costs.proofs.table.Table.sorted.Goals as goal

pub sorted_by_key-requires : goal.sorted_by_key-requires
sorted_by_key-requires g c =
    let same = g.K.PartialEq.eq in
    let some = filter (λ e. g.A.Amount.is_some e.1) c.args.self.now.rows in
    IsDistinct-IsPermutation same g.met.K.Eq.laws.symm (keys_of some) (keys_of c.in_ok-list_rows.field-0.items)
    (IsPermutation-map (λ e. e.0) some c.in_ok-list_rows.field-0.items c.in_ok-list_rows.ensures.rows)
    (distinct_kept same (λ e. g.A.Amount.is_some e.1) c.args.self.now.rows c.list_rows.ensures.apart)

pub returns-clause-rows : goal.returns-clause-rows
returns-clause-rows g c =
    let some = filter (λ e. g.A.Amount.is_some e.1) c.args.self.now.rows in
    IfOk-weaker c.sorted_by_key.result (λ v. IsPermutation c.in_ok-list_rows.field-0.items v.items)
    (λ v. IsPermutation some v.items)
    (λ v sorted. IsPermutation-trans some c.in_ok-list_rows.field-0.items v.items c.in_ok-list_rows.ensures.rows sorted)
    c.sorted_by_key.ensures.rows
