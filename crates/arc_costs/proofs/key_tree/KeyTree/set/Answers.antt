use Rattle.std.proofs.Common.{◌≡◌, ◌<◌, Some, length, slice_get, ap, sym, ◌∙◌, subst}
use Rattle.std.specs.Map.{keys_of}
use Rattle.indexmap.specs.IndexMap.{set_value_at}
use Rattle.arc_costs.specs.inner.Tree.{HasRoom, IsTree}
use Rattle.arc_costs.proofs.TreeLemmas.{element, keys_stay, value_set}
use Rattle.arc_costs.proofs.key_tree.KeyTree.set.Goals as goal
use Rattle.arc_costs.proofs.key_tree.KeyTree.set.Goals.{After-index_mut}

there : (g : _) (c : After-index_mut g) → slice_get c.self.inside.rows.items c.args.index ≡ Some c.index_mut.result.now
there g c =
    element c.self.inside.rows.items c.args.index c.index_mut.result.now c.index_mut.ensures.value
    (subst (λ v. c.args.index < length v.entries) (sym c.self.view_is) c.requires)

pub invariant_of-self : goal.invariant_of-self
invariant_of-self g c =
    let es = c.self.inside.rows.items in
    subst (λ ks. IsTree g.K.PartialEq.eq g.K.Digits.digit ks c.self.inside.next.items
    × HasRoom c.self.inside.room c.self.inside.rows.len c.self.inside.rows.cap c.self.inside.next.len
    c.self.inside.next.cap)
    (sym (ap keys_of (value_set es c.args.index c.index_mut.result.now c.args.value
    (there g (goal.at.invariant_of-self g c).After-index_mut)) ∙ keys_stay es c.args.index c.args.value))
    c.self.invariant

pub returns-clause-entries : goal.returns-clause-entries
returns-clause-entries g c =
    value_set c.self.inside.rows.items c.args.index c.index_mut.result.now c.args.value
    (there g (goal.at.returns-clause-entries g c).After-index_mut)
    ∙ ap (λ v. set_value_at v.entries c.args.index c.args.value) c.self.view_is
