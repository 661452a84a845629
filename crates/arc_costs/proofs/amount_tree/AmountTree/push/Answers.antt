use Rattle.std.proofs.Common.{◌≤◌, ◌+◌, [], ◌∷◌, ◌++◌, length, sym, ap, ◌∙◌, subst, arith}
use Rattle.arc_costs.specs.inner.Somes.{Knows}
use Rattle.arc_costs.proofs.SomeLemmas.{knows_pushed, knows_pushed_nothing, no_more}
use Rattle.arc_costs.proofs.amount_tree.AmountTree.push.Given.{Over}
use Rattle.arc_costs.proofs.amount_tree.AmountTree.push.Goals as goal
use Rattle.arc_costs.proofs.amount_tree.AmountTree.push.Goals.{In_ok-push}

-- there is a place for the index of one row more
has_place : (g : Over) (c : In_ok-push g) → length c.self.inside.rows.entries + 1 ≤ c.self.inside.some.cap
has_place g c =
    let spare = ap (λ v. v.spare) c.self.view_is in
    let fits = c.self.invariant.fits in
    omega (arith, spare, fits, c.in_ok-reserve.ensures.spare)

pub push_reserved-requires : goal.push_reserved-requires
push_reserved-requires g c =
    let place = has_place g (goal.at.push_reserved-requires g c).In_ok-push in
    let less = no_more g.A.Amount.is_some c.self.inside.rows.entries c.self.inside.some.items c.self.invariant.each in
    omega (arith, place, less, c.self.inside.some.ok.0)

pub invariant_of-self-then-is_some : goal.invariant_of-self-then-is_some
invariant_of-self-then-is_some g c =
    let place = has_place g (goal.at.invariant_of-self-then-is_some g c).In_ok-push in
    let rows = c.self.inside.rows.entries ++ (c.args.key, c.args.amount) ∷ [] in
    let knows = knows_pushed g.A.Amount.is_some c.self.inside.rows.entries c.self.inside.some.items
    c.self.inside.some.cap c.self.invariant (c.args.key, c.args.amount) place (sym c.is_some.ensures ∙ c.if-is_some.true) in
    subst (λ rows. Knows g.A.Amount.is_some rows c.push_reserved.new.self.items c.push_reserved.new.self.cap)
    (sym c.in_ok-push.ensures.entries)
    (subst (λ is. Knows g.A.Amount.is_some rows is c.push_reserved.new.self.cap)
    (sym (c.push_reserved.ensures.items ∙ ap (λ n. c.self.inside.some.items ++ n ∷ []) c.len-index.ensures.len))
    (subst (Knows g.A.Amount.is_some rows (c.self.inside.some.items ++ length c.self.inside.rows.entries ∷ []))
    (sym c.push_reserved.ensures.capacity) knows))

pub invariant_of-self-else-is_some : goal.invariant_of-self-else-is_some
invariant_of-self-else-is_some g c =
    let place = has_place g (goal.at.invariant_of-self-else-is_some g c).In_ok-push in
    subst (λ rows. Knows g.A.Amount.is_some rows c.self.inside.some.items c.self.inside.some.cap)
    (sym c.in_ok-push.ensures.entries)
    (knows_pushed_nothing g.A.Amount.is_some c.self.inside.rows.entries c.self.inside.some.items c.self.inside.some.cap
    c.self.invariant (c.args.key, c.args.amount) place (sym c.is_some.ensures ∙ c.if-is_some.false))
