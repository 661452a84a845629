use Rattle.std.proofs.Common.{◌≡◌, ◌<◌, Some, length, slice_get, ap, sym, ◌∙◌, subst}
use Rattle.std.specs.Map.{keys_of, values_of}
use Rattle.indexmap.specs.IndexMap.{set_value_at}
use Rattle.arc_costs.specs.inner.Tree.{HasRoom, IsTree}
use Rattle.arc_costs.proofs.TreeLemmas.{element, keys_stay, value_set, value_there}
use Rattle.arc_costs.proofs.key_tree.KeyTree.add_to.Goals as goal
use Rattle.arc_costs.proofs.key_tree.KeyTree.add_to.Goals.{After-index_mut}

there : (g : _) (c : After-index_mut g) → slice_get c.self.inside.rows.items c.args.index ≡ Some c.index_mut.result.now
there g c =
    element c.self.inside.rows.items c.args.index c.index_mut.result.now c.index_mut.ensures.value
    (subst (λ v. c.args.index < length v.entries) (sym c.self.view_is) c.requires.within)

pub invariant_of-self : goal.invariant_of-self
invariant_of-self g c =
    let es = c.self.inside.rows.items in
    subst (λ ks. IsTree g.K.PartialEq.eq g.K.Digits.digit ks c.self.inside.next.items
    × HasRoom c.self.inside.room c.self.inside.rows.len c.self.inside.rows.cap c.self.inside.next.len
    c.self.inside.next.cap)
    (sym (ap keys_of (value_set es c.args.index c.index_mut.result.now c.add_to.new.sum
    (there g (goal.at.invariant_of-self g c).After-index_mut)) ∙ keys_stay es c.args.index c.add_to.new.sum))
    c.self.invariant

pub returns-clause-entries : goal.returns-clause-entries
returns-clause-entries g c = λ held at.
    let here = there g (goal.at.returns-clause-entries g c).After-index_mut in
    let is = value_there c.self.inside.rows.items c.args.index c.index_mut.result.now held here
    (ap (λ v. slice_get (values_of v.entries) c.args.index) c.self.view_is ∙ at) in
    value_set c.self.inside.rows.items c.args.index c.index_mut.result.now c.add_to.new.sum here
    ∙ (λ i. set_value_at (c.self.view_is i).entries c.args.index
    ((c.add_to.ensures.sum ∙ ap (λ v. g.A.Amount.plus v (g.P.Part.amount c.args.amount.now)) is) i))
