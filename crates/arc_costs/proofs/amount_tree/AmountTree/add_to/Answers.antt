use Rattle.std.proofs.Common.{◌≡◌, length, sym, ap, ◌∙◌, subst, arith}
use Rattle.indexmap.specs.IndexMap.{set_value_at}
use Rattle.arc_costs.specs.inner.Shape.{AllWhole}
use Rattle.arc_costs.specs.inner.Somes.{Knows}
use Rattle.arc_costs.proofs.SomeLemmas.{knows_still, length-set_value_at, whole_at}
use Rattle.arc_costs.proofs.amount_tree.AmountTree.add_to.Given.{Over}
use Rattle.arc_costs.proofs.amount_tree.AmountTree.add_to.Goals as goal
use Rattle.arc_costs.proofs.amount_tree.AmountTree.add_to.Goals.{After-add_to}

-- the rows after the addition
added : (g : Over) (c : After-add_to g) → c.add_to.new.self.entries
    ≡ set_value_at c.self.inside.rows.entries c.args.index
    (g.A.Amount.plus c.value.result.now (g.P.Part.amount c.args.amount.now))
added g c = c.add_to.ensures.entries c.value.result.now c.value.ensures

pub invariant_of-self : goal.invariant_of-self
invariant_of-self g c =
    let es = c.self.inside.rows.entries in
    let held = c.value.result.now in
    let amount = g.P.Part.amount c.args.amount.now in
    let whole = subst (λ v. AllWhole g.A.Amount.is_whole v.entries) (sym c.self.view_is) c.requires.whole in
    let some = c.is_begun.ensures c.if-is_begun.true in
    let still = g.met.A.Amount.plus_is_some held amount
    (whole_at g.A.Amount.is_whole es c.args.index held whole c.value.ensures) c.add_to.ensures.whole some in
    subst (λ rows. Knows g.A.Amount.is_some rows c.self.inside.some.items c.self.inside.some.cap)
    (sym (added g (goal.at.invariant_of-self g c).After-add_to))
    (knows_still g.A.Amount.is_some es c.self.inside.some.items c.self.inside.some.cap c.self.invariant c.args.index
    (g.A.Amount.plus held amount) held c.value.ensures (still ∙ sym some))

pub returns-then-is_begun-clause-spare : goal.returns-then-is_begun-clause-spare
returns-then-is_begun-clause-spare g c =
    let es = c.self.inside.rows.entries in
    let now = added g (goal.at.returns-then-is_begun-clause-spare g c).After-add_to in
    let sum = g.A.Amount.plus c.value.result.now (g.P.Part.amount c.args.amount.now) in
    let long = length-set_value_at es c.args.index sum in
    let same = ap (λ rows. length rows) now in
    let spare = ap (λ v. v.spare) c.self.view_is in
    omega (arith, long, same, spare, c.add_to.ensures.spare)
