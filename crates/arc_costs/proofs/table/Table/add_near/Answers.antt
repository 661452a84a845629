use Rattle.std.proofs.Common.{◌≡◌, Some, position, slice_get, refl, sym, ap, ◌∙◌, subst}
use Rattle.indexmap.specs.IndexMap.{set_value_at}
use Rattle.std.specs.Map.{keys_of, values_of}
use Rattle.arc_costs.specs.inner.Shape.{IsSound, all_rows}
use Rattle.arc_costs.proofs.TreeLemmas.{value_of_place}
use Rattle.arc_costs.proofs.EntryLemmas.{IsAbsent, IsAt, at_position}
use Rattle.arc_costs.proofs.TableLemmas.{known_held, known_place, known_room, new_place, slot_place}
use Rattle.arc_costs.proofs.TableLemmas.{known_rows, known_sound, new_held, new_room, new_rows}
use Rattle.arc_costs.proofs.TableLemmas.{slot_held, slot_rows, slot_sound, unfound}
use Rattle.arc_costs.proofs.table.Table.add_near.Given.{Over}
use Rattle.arc_costs.proofs.table.Table.add_near.Goals as goal
use Rattle.arc_costs.proofs.table.Table.add_near.Goals.{After-add_to, After-len-last, In-Some}

-- the key stands in the map
held : (g : Over) (c : In-Some g)
    → (v : g.row.A.Denot) × (slice_get (values_of c.self.inside.known.entries) c.in-Some.index ≡ Some v)
held g c =
    value_of_place g.K.PartialEq.eq c.args.key c.self.inside.known.entries c.in-Some.index (sym c.in-Some.ensures.index)

there : (g : Over) (c : In-Some g)
    → IsAt g.K.PartialEq.eq c.args.key c.self.inside.known.entries c.in-Some.index (held g c).0
there g c =
    at_position g.K.PartialEq.eq c.args.key c.self.inside.known.entries c.in-Some.index (held g c).0
    (sym c.in-Some.ensures.index) (held g c).1

-- the key is not in the map
absent : (g : Over) (c : After-len-last g) → IsAbsent g.K.PartialEq.eq c.args.key c.self.inside.known.entries
absent g c =
    unfound g.K.PartialEq.eq c.args.key c.self.inside.known.entries c.index_near.result c.in_default.is
    c.index_near.ensures.found

-- the entries after the addition
added : (g : Over) (c : After-add_to g)
    → c.add_to.new.self.entries ≡ set_value_at c.self.inside.known.entries c.in-Some.index
    (g.A.Amount.plus (held g (goal.at.returns-in-Some-clause-rows g c).In-Some).0 (g.P.Part.amount c.args.amount.now))
added g c =
    let v = held g (goal.at.returns-in-Some-clause-rows g c).In-Some in c.add_to.ensures.entries v.0 v.1

pub add_to-requires-clause-fits : goal.add_to-requires-clause-fits
add_to-requires-clause-fits g c = λ v at.
    subst (λ u. g.A.Amount.can_add u (g.P.Part.amount c.args.amount.now))
    (known_held g.K.PartialEq.eq g.A.Amount.plus g.A.Amount.nothing c.args.key (g.P.Part.amount c.args.amount.now)
    c.self.inside.known.entries c.self.inside.newest c.self.inside.known.spare c.args.self.now c.self.view_is
    c.in-Some.index v v
    (at_position g.K.PartialEq.eq c.args.key c.self.inside.known.entries c.in-Some.index v
    (sym c.in-Some.ensures.index) at)) c.requires.fits

pub invariant_of-self : goal.invariant_of-self
invariant_of-self g c =
    let here = (goal.at.invariant_of-self g c).In-Some in
    subst (λ es. IsSound g.K.PartialEq.eq g.A.Amount.is_whole es c.self.inside.newest)
    (sym (added g (goal.at.invariant_of-self g c).After-add_to))
    (known_sound g.K.PartialEq.eq g.A.Amount.plus g.A.Amount.nothing c.args.key (g.P.Part.amount c.args.amount.now)
    c.self.inside.known.entries c.self.inside.newest c.self.inside.known.spare c.args.self.now c.self.view_is
    c.in-Some.index (held g here).0 _ (there g here) g.A.Amount.is_whole g.met.A.Amount.plus_whole
    c.add_to.ensures.whole c.self.invariant refl)

pub returns-in-Some-clause-rows : goal.returns-in-Some-clause-rows
returns-in-Some-clause-rows g c =
    let here = (goal.at.returns-in-Some-clause-rows g c).In-Some in
    ap (λ es. all_rows es c.self.inside.newest) (added g (goal.at.returns-in-Some-clause-rows g c).After-add_to)
    ∙ known_rows g.K.PartialEq.eq g.A.Amount.plus g.A.Amount.nothing c.args.key (g.P.Part.amount c.args.amount.now)
    c.self.inside.known.entries c.self.inside.newest c.self.inside.known.spare c.args.self.now c.self.view_is
    c.in-Some.index (held g here).0 _ (there g here) refl

pub returns-in-Some-clause-room : goal.returns-in-Some-clause-room
returns-in-Some-clause-room g c =
    let here = (goal.at.returns-in-Some-clause-room g c).In-Some in
    known_room g.K.PartialEq.eq g.A.Amount.plus g.A.Amount.nothing c.args.key (g.P.Part.amount c.args.amount.now)
    c.self.inside.known.entries c.self.inside.newest c.self.inside.known.spare c.args.self.now c.self.view_is
    c.in-Some.index (held g here).0 (held g here).0 (there g here)

pub add_to-requires-in-Some-newest : goal.add_to-requires-in-Some-newest
add_to-requires-in-Some-newest g c =
    subst (λ v. g.A.Amount.can_add v (g.P.Part.amount c.args.amount.now))
    (slot_held g.K.PartialEq.eq g.A.Amount.plus g.A.Amount.nothing c.args.key (g.P.Part.amount c.args.amount.now)
    c.self.inside.known.entries c.self.inside.newest c.self.inside.known.spare c.args.self.now c.self.view_is
    (absent g (goal.at.add_to-requires-in-Some-newest g c).After-len-last) c.in-Some-newest.row c.in-Some-newest.is
    c.requires.room) c.requires.fits

pub invariant_of-self-in-Some-newest : goal.invariant_of-self-in-Some-newest
invariant_of-self-in-Some-newest g c =
    slot_sound g.K.PartialEq.eq g.A.Amount.plus g.A.Amount.nothing c.args.key (g.P.Part.amount c.args.amount.now)
    c.self.inside.known.entries c.self.inside.newest c.self.inside.known.spare c.args.self.now c.self.view_is
    (absent g (goal.at.invariant_of-self-in-Some-newest g c).After-len-last) c.in-Some-newest.row c.in-Some-newest.is
    c.requires.room c.add_to-in-Some-newest.new.sum
    c.add_to-in-Some-newest.ensures.sum g.A.Amount.is_whole g.met.A.Amount.plus_whole
    c.add_to-in-Some-newest.ensures.whole c.self.invariant

pub returns-in-Some-newest-clause-rows : goal.returns-in-Some-newest-clause-rows
returns-in-Some-newest-clause-rows g c =
    slot_rows g.K.PartialEq.eq g.A.Amount.plus g.A.Amount.nothing c.args.key (g.P.Part.amount c.args.amount.now)
    c.self.inside.known.entries c.self.inside.newest c.self.inside.known.spare c.args.self.now c.self.view_is
    (absent g (goal.at.returns-in-Some-newest-clause-rows g c).After-len-last) c.in-Some-newest.row c.in-Some-newest.is
    c.requires.room c.add_to-in-Some-newest.new.sum
    c.add_to-in-Some-newest.ensures.sum

pub add_to-requires-in-None : goal.add_to-requires-in-None
add_to-requires-in-None g c =
    subst (λ v. g.A.Amount.can_add v (g.P.Part.amount c.args.amount.now))
    (new_held g.K.PartialEq.eq g.A.Amount.plus g.A.Amount.nothing c.args.key (g.P.Part.amount c.args.amount.now)
    c.self.inside.known.entries c.self.inside.newest c.self.inside.known.spare c.args.self.now c.self.view_is
    (absent g (goal.at.add_to-requires-in-None g c).After-len-last) c.in-None.is ∙ sym c.zero-sum.ensures)
    c.requires.fits

pub returns-in-None-clause-rows : goal.returns-in-None-clause-rows
returns-in-None-clause-rows g c =
    new_rows g.K.PartialEq.eq g.A.Amount.plus g.A.Amount.nothing c.args.key (g.P.Part.amount c.args.amount.now)
    c.self.inside.known.entries c.self.inside.newest c.self.inside.known.spare c.args.self.now c.self.view_is
    (absent g (goal.at.returns-in-None-clause-rows g c).After-len-last) c.in-None.is c.add_to-in-None.new.sum
    (c.add_to-in-None.ensures.sum
    ∙ ap (λ v. g.A.Amount.plus v (g.P.Part.amount c.args.amount.now)) c.zero-sum.ensures
    ∙ g.met.A.Amount.nothing_plus (g.P.Part.amount c.args.amount.now) c.add_to-in-None.ensures.whole)

pub returns-in-None-clause-room : goal.returns-in-None-clause-room
returns-in-None-clause-room g c =
    new_room g.K.PartialEq.eq g.A.Amount.plus g.A.Amount.nothing c.args.key (g.P.Part.amount c.args.amount.now)
    c.self.inside.known.entries c.self.inside.newest c.self.inside.known.spare c.args.self.now c.self.view_is
    (absent g (goal.at.returns-in-None-clause-room g c).After-len-last) c.in-None.is

pub returns-in-Some-clause-place : goal.returns-in-Some-clause-place
returns-in-Some-clause-place g c =
    let here = (goal.at.returns-in-Some-clause-place g c).In-Some in
    ap (λ es. position (g.K.PartialEq.eq c.args.key) (keys_of (all_rows es c.self.inside.newest)))
    (added g (goal.at.returns-in-Some-clause-place g c).After-add_to)
    ∙ known_place g.K.PartialEq.eq g.A.Amount.plus g.A.Amount.nothing c.args.key (g.P.Part.amount c.args.amount.now)
    c.self.inside.known.entries c.self.inside.newest c.self.inside.known.spare c.args.self.now c.self.view_is
    c.in-Some.index (held g here).0 _ (there g here)

pub returns-in-Some-newest-clause-place : goal.returns-in-Some-newest-clause-place
returns-in-Some-newest-clause-place g c =
    slot_place g.K.PartialEq.eq g.A.Amount.plus g.A.Amount.nothing c.args.key (g.P.Part.amount c.args.amount.now)
    c.self.inside.known.entries c.self.inside.newest c.self.inside.known.spare c.args.self.now c.self.view_is
    (absent g (goal.at.returns-in-Some-newest-clause-place g c).After-len-last) c.in-Some-newest.row c.in-Some-newest.is
    c.requires.room c.add_to-in-Some-newest.new.sum
    ∙ ap Some (sym c.len-last.ensures.len)

pub returns-in-None-clause-place : goal.returns-in-None-clause-place
returns-in-None-clause-place g c =
    new_place g.K.PartialEq.eq g.A.Amount.plus g.A.Amount.nothing c.args.key (g.P.Part.amount c.args.amount.now)
    c.self.inside.known.entries c.self.inside.newest c.self.inside.known.spare c.args.self.now c.self.view_is
    (absent g (goal.at.returns-in-None-clause-place g c).After-len-last) c.add_to-in-None.new.sum
    (g.met.K.Eq.laws.refl c.args.key) ∙ ap Some (sym c.len-last.ensures.len)
