use Rattle.std.proofs.Common.{◌≡◌, ◌<◌, ℕ, [], ◌∷◌, ◌++◌, length, slice_get, true, false, sym, ap, ◌∙◌, subst, arith}
use Rattle.std.specs.Map.{values_of}
use Rattle.indexmap.specs.IndexMap.{set_value_at}
use Rattle.arc_costs.specs.inner.Shape.{AllWhole}
use Rattle.arc_costs.specs.inner.Somes.{Knows}
use Rattle.arc_costs.proofs.SomeLemmas.{became, has_place, knows_noted, knows_still, length-set_value_at, read_back}
use Rattle.arc_costs.proofs.SomeLemmas.{stayed, whole_at}
use Rattle.arc_costs.proofs.amount_tree.AmountTree.begin.Given.{Over}
use Rattle.arc_costs.proofs.amount_tree.AmountTree.begin.Goals as goal
use Rattle.arc_costs.proofs.amount_tree.AmountTree.begin.Goals.{After-add_to, Then-is_some-was_some}

-- the rows after the addition
added : (g : Over) (c : After-add_to g) → c.add_to.new.self.entries
    ≡ set_value_at c.self.inside.rows.entries c.args.index
    (g.A.Amount.plus c.value.result.now (g.P.Part.amount c.args.amount.now))
added g c = c.add_to.ensures.entries c.value.result.now c.value.ensures

long : (g : Over) (c : After-add_to g) → length c.add_to.new.self.entries ≡ length c.self.inside.rows.entries
long g c =
    ap (λ rows. length rows) (added g c)
    ∙ length-set_value_at c.self.inside.rows.entries c.args.index
    (g.A.Amount.plus c.value.result.now (g.P.Part.amount c.args.amount.now))

pub value-requires-2 : goal.value-requires-2
value-requires-2 g c =
    let same = long g (goal.at.value-requires-2 g c).After-add_to in
    let within = subst (λ v. c.args.index < length v.entries) (sym c.self.view_is) c.requires.within in
    omega (arith, same, within)

-- what the row held before, and what it holds now
became_some : (g : Over) (c : Then-is_some-was_some g)
    → (g.A.Amount.is_some c.value.result.now ≡ false)
    × (g.A.Amount.is_some (g.A.Amount.plus c.value.result.now (g.P.Part.amount c.args.amount.now)) ≡ true)
became_some g c =
    let held = c.value.result.now in
    let amount = g.P.Part.amount c.args.amount.now in
    let whole = subst (λ v. AllWhole g.A.Amount.is_whole v.entries) (sym c.self.view_is) c.requires.whole in
    let now = ap g.A.Amount.is_some
    (read_back c.self.inside.rows.entries c.args.index held (g.A.Amount.plus held amount) c.value-2.result.now
    c.value.ensures
    (ap (λ rows. slice_get (values_of rows) c.args.index) (sym (c.add_to.ensures.entries held c.value.ensures))
    ∙ c.value-2.ensures)) ∙ sym c.is_some-is_some.ensures in
    let both = became c.is_some-is_some.result c.is_some-was_some.result c.if-is_some-was_some.true
    (λ some. sym now ∙ g.met.A.Amount.plus_is_some held amount
    (whole_at g.A.Amount.is_whole c.self.inside.rows.entries c.args.index held whole c.value.ensures)
    c.add_to.ensures.whole (sym c.is_some-was_some.ensures ∙ some)) in
    (sym c.is_some-was_some.ensures ∙ both.0, now ∙ both.1)

pub push_reserved-requires : goal.push_reserved-requires
push_reserved-requires g c =
    let both = became_some g (goal.at.push_reserved-requires g c).Then-is_some-was_some in
    let place = has_place g.A.Amount.is_some c.self.inside.rows.entries c.self.inside.some.items c.self.inside.some.cap
    c.self.invariant c.args.index (g.A.Amount.plus c.value.result.now (g.P.Part.amount c.args.amount.now))
    c.value.result.now c.value.ensures both.0 both.1 in
    omega (arith, place, c.self.inside.some.ok.0)

pub invariant_of-self : goal.invariant_of-self
invariant_of-self g c =
    let both = became_some g (goal.at.invariant_of-self g c).Then-is_some-was_some in
    subst (λ rows. Knows g.A.Amount.is_some rows c.push_reserved.new.self.items c.push_reserved.new.self.cap)
    (sym (added g (goal.at.invariant_of-self g c).After-add_to))
    (subst (λ is. Knows g.A.Amount.is_some
    (set_value_at c.self.inside.rows.entries c.args.index
    (g.A.Amount.plus c.value.result.now (g.P.Part.amount c.args.amount.now)))
    is c.push_reserved.new.self.cap) (sym c.push_reserved.ensures.items)
    (subst (λ (n : ℕ). Knows g.A.Amount.is_some
    (set_value_at c.self.inside.rows.entries c.args.index
    (g.A.Amount.plus c.value.result.now (g.P.Part.amount c.args.amount.now)))
    (c.self.inside.some.items ++ c.args.index ∷ []) n) (sym c.push_reserved.ensures.capacity)
    (knows_noted g.A.Amount.is_some c.self.inside.rows.entries c.self.inside.some.items c.self.inside.some.cap
    c.self.invariant c.args.index (g.A.Amount.plus c.value.result.now (g.P.Part.amount c.args.amount.now))
    c.value.result.now c.value.ensures both.0 both.1)))

pub invariant_of-self-else-is_some-was_some : goal.invariant_of-self-else-is_some-was_some
invariant_of-self-else-is_some-was_some g c =
    let step = (goal.at.invariant_of-self-else-is_some-was_some g c).After-add_to in
    subst (λ rows. Knows g.A.Amount.is_some rows c.self.inside.some.items c.self.inside.some.cap) (sym (added g step))
    (knows_still g.A.Amount.is_some c.self.inside.rows.entries c.self.inside.some.items c.self.inside.some.cap
    c.self.invariant c.args.index (g.A.Amount.plus c.value.result.now (g.P.Part.amount c.args.amount.now))
    c.value.result.now c.value.ensures
    (ap g.A.Amount.is_some
    (read_back c.self.inside.rows.entries c.args.index c.value.result.now
    (g.A.Amount.plus c.value.result.now (g.P.Part.amount c.args.amount.now)) c.value-2.result.now c.value.ensures
    (ap (λ rows. slice_get (values_of rows) c.args.index) (sym (added g step)) ∙ c.value-2.ensures))
    ∙ sym c.is_some-is_some.ensures
    ∙ stayed c.is_some-is_some.result c.is_some-was_some.result c.if-is_some-was_some.false
    ∙ c.is_some-was_some.ensures))

pub returns-then-is_some-was_some-clause-spare : goal.returns-then-is_some-was_some-clause-spare
returns-then-is_some-was_some-clause-spare g c =
    let same = long g (goal.at.returns-then-is_some-was_some-clause-spare g c).After-add_to in
    let spare = ap (λ v. v.spare) c.self.view_is in
    omega (arith, same, spare, c.add_to.ensures.spare, c.push_reserved.ensures.capacity)

pub returns-else-is_some-was_some-clause-spare : goal.returns-else-is_some-was_some-clause-spare
returns-else-is_some-was_some-clause-spare g c =
    let same = long g (goal.at.returns-else-is_some-was_some-clause-spare g c).After-add_to in
    let spare = ap (λ v. v.spare) c.self.view_is in
    omega (arith, same, spare, c.add_to.ensures.spare)
