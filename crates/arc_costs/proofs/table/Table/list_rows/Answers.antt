use Rattle.std.proofs.Common.{◌≡◌, ◌++◌, [], ◌∷◌, IsPermutation, filter, Bool, sym, ap, ◌∙◌, subst}
use Rattle.std.specs.List.{IsDistinct}
use Rattle.std.specs.Map.{keys_of}
use Rattle.arc_costs.specs.inner.Shape.{all_rows}
use Rattle.arc_costs.proofs.SortLemmas.{distinct_rows, listed_more, listed_still}
use Rattle.arc_costs.proofs.table.Table.list_rows.Given.{Over}
use Rattle.arc_costs.proofs.table.Table.list_rows.Goals as goal
use Rattle.arc_costs.proofs.table.Table.list_rows.Goals.{After-list_rows, else-is_some, then-is_some+in_ok-push}

apart : (g : Over) (c : After-list_rows g) → IsDistinct g.K.PartialEq.eq (keys_of c.args.self.now.rows)
apart g c =
    subst (λ v. IsDistinct g.K.PartialEq.eq (keys_of v.rows)) c.self.view_is
    (distinct_rows g.K.PartialEq.eq g.met.K.Eq.laws c.self.inside.known.entries c.self.inside.newest
    c.list_rows.ensures.apart g.A.Amount.is_whole c.self.invariant)

pub returns-in_err-rows-clause-apart : goal.returns-in_err-rows-clause-apart
returns-in_err-rows-clause-apart g c = apart g (goal.at.returns-in_err-rows-clause-apart g c).After-list_rows

pub returns-in_err-push-clause-apart : goal.returns-in_err-push-clause-apart
returns-in_err-push-clause-apart g c = apart g (goal.at.returns-in_err-push-clause-apart g c).After-list_rows

pub returns-clause-apart : goal.returns-clause-apart
returns-clause-apart g c = apart g (goal.at.returns-clause-apart g c).After-list_rows

pub returns-clause-rows : goal.returns-clause-rows
returns-clause-rows g c =
    let known = c.self.inside.known.entries in
    let some : g.row.K.Denot × g.row.A.Denot → Bool = λ e. g.A.Amount.is_some e.1 in
    let row : g.row.K.Denot × g.row.A.Denot = c.in-Some.row in
    let rows : known ++ row ∷ [] ≡ c.args.self.now.rows
    = ap (all_rows known) (sym c.in-Some.is) ∙ ap (λ v. v.rows) c.self.view_is in
    let list_rows = c.in_ok-rows.ensures.rows in
    subst (λ es. IsPermutation (filter some es) c.if-is_some.rows.items) rows
    (elim c.if-is_some.branch [
      | then-is_some+in_ok-push w ↦
          subst (IsPermutation (filter some (known ++ row ∷ [])))
          (sym (ap (λ v. v.items) w.rows-is ∙ w.in_ok-push.ensures.items))
          (subst (λ r. IsPermutation (filter some (known ++ row ∷ [])) (c.in_ok-rows.rows.items ++ r ∷ []))
          (sym w.of.ensures)
          (listed_more some known c.in_ok-rows.rows.items row list_rows
          (sym c.is_some.ensures ∙ w.if-is_some.true)))
      | else-is_some w ↦
          subst (λ v. IsPermutation (filter some (known ++ row ∷ [])) v.items) (sym w.rows-is)
          (listed_still some known c.in_ok-rows.rows.items row list_rows
          (sym c.is_some.ensures ∙ w.if-is_some.false))
    ])
