use Rattle.std.proofs.Common.{◌≡◌, ◌<◌, ℕ, [], ◌∷◌, ◌++◌, IsPermutation, filter, get_or, length, map, take, sym, ap}
use Rattle.std.proofs.Common.{◌∙◌, subst, arith}
use Rattle.std.proofs.lemmas.List.{get_or_read, length-append, map-append, take_all, take_more}
use Rattle.arc_costs.proofs.SomeLemmas.{all_listed, within}
use Rattle.arc_costs.proofs.amount_tree.AmountTree.list_rows.Given.{Over}
use Rattle.arc_costs.proofs.amount_tree.AmountTree.list_rows.Goals as goal
use Rattle.arc_costs.proofs.amount_tree.AmountTree.list_rows.Goals.{In-rows}

-- each index is one of a row
below : (g : Over) (c : In-rows g)
    → get_or c.deref-index-items.result.now c.rows.index-index 0 < length c.rows-rows.result.now
below g c =
    let some = c.self.inside.some.items in
    let items = c.deref-index-items.ensures.value in
    let long = ap length items in
    let in_rows = within g.A.Amount.is_some c.self.inside.rows.entries some c.self.invariant.each c.rows.index-index 0
    (omega (arith, long, c.rows-test.true)) in
    let rows = ap (λ es. length es) c.rows-rows.ensures.rows in
    let same = ap (λ is. get_or is c.rows.index-index 0) items in
    omega (arith, in_rows, rows, same)

pub bounds-rows-index : goal.bounds-rows-index
bounds-rows-index g c = below g (goal.at.bounds-rows-index g c).In-rows

pub offset_bounds-rows-index : goal.offset_bounds-rows-index
offset_bounds-rows-index g c = let less = below g (goal.at.offset_bounds-rows-index g c).In-rows in omega (arith, less)

pub rows-preserved : goal.rows-preserved
rows-preserved g c = record {
  long =
      let more = length-append c.rows.listed.items (c.of.result ∷ []) in
      let items = ap (λ rows. length rows) c.in_ok-push.ensures.items in
      omega (arith, more, items, c.rows.invariant.long);
  rows = λ d.
      let is = c.deref-index-items.result.now in
      let n = c.rows.index-index in
      let at : ℕ → g.row.K.Denot × g.row.A.Denot = λ i. get_or c.rows-rows.result.now i d in
      let row : c.of.result ≡ at (get_or is n 0)
      = c.of.ensures ∙ get_or_read c.rows-rows.result.now (get_or is n 0) c.index-rows-index.result
      (below g (goal.at.rows-preserved g c).In-rows) c.index-rows-index.is d in
      c.in_ok-push.ensures.items ∙ (λ i. c.rows.invariant.rows d i ++ row i ∷ [])
      ∙ sym (map-append at (take n is) (get_or is n 0 ∷ [])) ∙ ap (map at) (sym (take_more is n 0 c.rows-test.true));
}

pub returns-clause-rows : goal.returns-clause-rows
returns-clause-rows g c =
    let is = c.deref-index-items.ensures.value in
    let many = ap length is in
    let rows = c.rows-rows.ensures.rows ∙ ap (λ v. v.entries) c.self.view_is in
    let all = take_all c.rows.index-index c.deref-index-items.result.now c.rows-test.false in
    let listed : IsPermutation (filter (λ e. g.A.Amount.is_some e.1) c.self.inside.rows.entries) c.rows.listed.items
    = all_listed g.A.Amount.is_some c.self.inside.rows.entries c.self.inside.some.items c.rows.listed.items
    c.self.invariant.each (omega (arith, many, c.rows.invariant.long, c.rows.auto.index-index-end, c.rows-test.false))
    (λ d. c.rows.invariant.rows d
    ∙ (λ i. map (λ n. get_or (c.rows-rows.ensures.rows i) n d) ((all ∙ is) i))) in
    subst (λ v. IsPermutation (filter (λ e. g.A.Amount.is_some e.1) v.entries) c.rows.listed.items) c.self.view_is
    listed
