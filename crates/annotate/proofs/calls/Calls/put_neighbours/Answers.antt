use Rattle.std.proofs.Common.{◌≡◌, ◌<◌, ◌++◌, ℕ, List, Vec, length, get_or, flat_map, sym, ap, subst, ◌∙◌, arith}
use Rattle.std.specs.List.{filter}
use Rattle.std.specs.declared.alloc.Global.{Global}
use Rattle.std.proofs.lemmas.List.{take_all}
use Rattle.report_rows.specs.Entries.{AreWithin, EntryValue, is_at, entry_values}
use Rattle.annotate.specs.inner.Layout.{neighbour_line}
use Rattle.report_rows.specs.declared.entries.Entry.{Entry}
use Rattle.report_rows.proofs.OrderLemmas.{all_below}
use Rattle.annotate.proofs.PlaceLemmas.{place_below, said_there, place_texts}
use Rattle.annotate.proofs.calls.Calls.put_neighbours.Goals as goal

abbrev Item : Type 0
Item = ℕ × Vec Entry Global

item_there : (xs ys : List Item) (i : ℕ) (e : Item) → xs ≡ ys → i < length xs → e ≡ get_or xs i e
    → (i < length ys) × (e ≡ get_or ys i e)
item_there xs ys i e same lt is = (omega (arith, lt, ap length same), is ∙ ap (λ es. get_or es i e) same)

pub bounds-functions-place : goal.bounds-functions-place
bounds-functions-place c =
    let fs = c.args.self.now.view.now.functions.now in
    let e = c.places-item.result in
    let there = item_there c.deref-place-items.result.now c.in_ok-by_place.field-0.entries c.places.place-index e
    (c.deref-place-items.ensures.value ∙ c.in_ok-places.ensures) c.places-test.true c.places-item.is in
    place_below (entry_values c.args.rows.now) c.in_ok-by_place.field-0 c.in_ok-by_place.ensures (length fs)
    c.requires.rows.below c.places.place-index e there.0 there.1

pub offset_bounds-functions-place : goal.offset_bounds-functions-place
offset_bounds-functions-place c =
    let fs = c.args.self.now.view.now.functions.now in
    let e = c.places-item.result in
    let there = item_there c.deref-place-items.result.now c.in_ok-by_place.field-0.entries c.places.place-index e
    (c.deref-place-items.ensures.value ∙ c.in_ok-places.ensures) c.places-test.true c.places-item.is in
    let below : e.0 < length fs =
    place_below (entry_values c.args.rows.now) c.in_ok-by_place.field-0 c.in_ok-by_place.ensures (length fs)
    c.requires.rows.below c.places.place-index e there.0 there.1 in
    omega arith

pub put_call-requires-clause-other : goal.put_call-requires-clause-other
put_call-requires-clause-other c =
    let v = c.args.self.now.view.now in
    let fs = v.functions.now in
    let n = length v.profile.now.functions in
    let e = c.places-item.result in
    let there = item_there c.deref-place-items.result.now c.in_ok-by_place.field-0.entries c.places.place-index e
    (c.deref-place-items.ensures.value ∙ c.in_ok-places.ensures) c.places-test.true c.places-item.is in
    let below = place_below (entry_values c.args.rows.now) c.in_ok-by_place.field-0 c.in_ok-by_place.ensures (length fs)
    c.requires.rows.below c.places.place-index e there.0 there.1 in
    all_below n fs c.requires.calls.view.in_order.same e.0 0 below

pub put_call-requires-clause-within : goal.put_call-requires-clause-within
put_call-requires-clause-within c =
    let v = c.args.self.now.view.now in
    let e = c.places-item.result in
    let there = item_there c.deref-place-items.result.now c.in_ok-by_place.field-0.entries c.places.place-index e
    (c.deref-place-items.ensures.value ∙ c.in_ok-places.ensures) c.places-test.true c.places-item.is in
    let below = place_below (entry_values c.args.rows.now) c.in_ok-by_place.field-0 c.in_ok-by_place.ensures
    (length v.functions.now)
    c.requires.rows.below c.places.place-index e there.0 there.1 in
    let is = said_there (entry_values c.args.rows.now) c.in_ok-by_place.field-0 c.in_ok-by_place.ensures
    (length v.functions.now)
    c.requires.rows.below c.places.place-index e there.0 there.1 in
    let at : entry_values c.deref.result.now ≡ filter (is_at e.0) (entry_values c.args.rows.now) = ap entry_values c.deref.ensures.value ∙ is in
    subst (AreWithin (length v.profile.now.events)) (sym at) (c.requires.rows.within e.0 below)

pub returns : goal.returns
returns c =
    let v = c.args.self.now.view.now in
    let fs = v.functions.now in
    let ks = entry_values c.args.rows.now in
    let g : ℕ → List EntryValue → List ℕ = λ place rows. neighbour_line v c.args.mark.now c.args.function
    (get_or fs place 0) rows in
    let items = c.deref-place-items.ensures.value ∙ c.in_ok-places.ensures in
    c.places.invariant
    ∙ ap (λ es. c.args.text.now ++ flat_map (λ e. g e.0 (entry_values e.1.items)) es)
    (take_all c.places.place-index c.deref-place-items.result.now c.places-test.false ∙ items)
    ∙ ap (λ t. c.args.text.now ++ t)
    (place_texts ks c.in_ok-by_place.field-0 c.in_ok-by_place.ensures (length fs) c.requires.rows.below g)
