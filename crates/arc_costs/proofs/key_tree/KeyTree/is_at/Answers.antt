use Rattle.std.proofs.Common.{◌≡◌, Some, length, position, slice_get, subst, sym, ap, ◌∙◌}
use Rattle.std.specs.Map.{keys_of}
use Rattle.arc_costs.proofs.EntryLemmas.{at_own_key, place_at}
use Rattle.std.proofs.lemmas.Bool.{ltb-true}
use Rattle.arc_costs.proofs.TreeLemmas.{element}
use Rattle.arc_costs.proofs.key_tree.KeyTree.is_at.Goals as goal

pub returns-in-Some : goal.returns-in-Some
returns-in-Some g c =
    λ same.
    let rows = c.self.inside.rows.items in
    let row = c.in-Some.row.now in
    let there =
    element c.deref.result.now c.args.index row c.in-Some.ensures.lookup.1
    (ltb-true c.args.index (length c.deref.result.now) (sym c.in-Some.ensures.lookup.0)) in
    let test = g.K.PartialEq.eq c.args.key.now in
    subst (λ v. position test (keys_of v.entries) ≡ Some c.args.index) c.self.view_is
    (place_at g.K.PartialEq.eq c.args.key.now rows c.args.index row.1
    (at_own_key g.K.PartialEq.eq c.args.key.now g.met.K.Eq.laws rows c.args.index row
    (ap (λ es. slice_get es c.args.index) (sym c.deref.ensures.value) ∙ there) (sym c.is.ensures ∙ same) c.self.invariant.0.apart))
