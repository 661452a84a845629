use Rattle.std.proofs.Common.{◌≡◌, ◌<◌, ◌++◌, [], length, ap, refl, sym, subst, ◌∙◌, arith}
use Rattle.std.specs.Prelude.{OnOk}
use Rattle.std.proofs.lemmas.List.{get_or-map}
use Rattle.report_rows.specs.Entries.{entry_values}
use Rattle.annotate.specs.inner.Layout.{neighbours_text}
use Rattle.annotate.proofs.CallLemmas.{neighbours_within, side_is}
use Rattle.annotate.proofs.calls.Calls.put_side.Goals as goal

pub put_neighbours-requires-clause-rows : goal.put_neighbours-requires-clause-rows
put_neighbours-requires-clause-rows c =
    let x = c.args.self.now in
    let v = x.view.now in
    let f = c.args.function in
    let inside : f < length c.args.lists.now = omega (arith, c.requires.function, c.requires.lists.size) in
    let is = ap entry_values (c.deref.ensures.value ∙ ap (λ r. r.items) c.index-lists-function.is
    ∙ sym (get_or-map (λ r. r.items) c.args.lists.now f c.index-lists-function.result [] inside))
    ∙ c.requires.lists.exact f c.requires.function in
    neighbours_within v v.profile.now x.places.now c.args.end f (entry_values c.deref.result.now) refl c.requires.calls.profile
    c.requires.calls.within c.requires.calls.view.in_order.same c.requires.calls.places is

pub returns : goal.returns
returns c =
    let x = c.args.self.now in
    let v = x.view.now in
    let f = c.args.function in
    let ks = entry_values c.deref.result.now in
    let inside : f < length c.args.lists.now = omega (arith, c.requires.function, c.requires.lists.size) in
    let is = ap entry_values (c.deref.ensures.value ∙ ap (λ r. r.items) c.index-lists-function.is
    ∙ sym (get_or-map (λ r. r.items) c.args.lists.now f c.index-lists-function.result [] inside))
    ∙ c.requires.lists.exact f c.requires.function in
    subst (λ t. OnOk c.put_neighbours.result (c.put_neighbours.new.text ≡ c.args.text.now ++ t))
    (ap (λ mark. neighbours_text v mark f ks) c.mark_of.ensures
    ∙ side_is v c.requires.calls.profile x.places.now c.requires.calls.view.in_order.same c.requires.calls.places f
    c.args.end ks is)
    c.put_neighbours.ensures
