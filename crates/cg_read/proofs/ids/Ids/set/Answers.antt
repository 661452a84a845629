use Rattle.std.proofs.Common.{◌≡◌, ◌∙◌, ℕ, List, true, false, Some, cond, sym, length, slice_get}
use Rattle.std.specs.Str.{bytes_eq}
use Rattle.std.proofs.lemmas.Result.{on_ok_weaker}
use Rattle.cg_read.specs.inner.Ids.{is_same, at_place, number_in, other_number, place_of}
use Rattle.cg_read.proofs.IdLemmas.{sets_other, counts_next, counts_again}
use Rattle.cg_read.proofs.ids.Ids.set.Goals as goal

pub returns-then-is_at : goal.returns-then-is_at
unfolding number_in
returns-then-is_at c =
    let place : place_of c.args.id.now ≡ Some c.in-Some.spot = sym c.place_of.ensures ∙ c.in-Some.is in
    let there : is_same c.args.id.now (slice_get c.args.self.now.slots.items c.in-Some.spot) ≡ true
    = rw c.deref.ensures.value at (sym c.is_at.ensures ∙ c.if-is_at.true) in
    rw c.again.ensures
    (counts_again c.args.id.now c.args.number c.args.self.now.slots.items (other_number c.args.self.now) c.in-Some.spot
    place there)

pub returns-then-spot-len : goal.returns-then-spot-len
unfolding number_in
returns-then-spot-len c =
    let place : place_of c.args.id.now ≡ Some c.in-Some.spot = sym c.place_of.ensures ∙ c.in-Some.is in
    let apart : is_same c.args.id.now (at_place c.args.self.now.slots.items (place_of c.args.id.now)) ≡ false
    = rw place (rw c.deref.ensures.value at (sym c.is_at.ensures ∙ c.if-is_at.false)) in
    let new = c.set_other-then-spot-len.new.self in
    on_ok_weaker c.set_other-then-spot-len.result
    (λ (sets : (q : List ℕ) → other_number new q
    ≡ cond (bytes_eq c.args.id.now q) (Some c.args.number) (other_number c.args.self.now q)).
    λ q. rw c.set_other-then-spot-len.ensures.counted
    (sets_other c.args.id.now c.args.number c.args.self.now.slots.items (other_number c.args.self.now) (other_number new)
    sets apart q))
    c.set_other-then-spot-len.ensures.others

pub returns : goal.returns
unfolding number_in
returns c =
    let place : place_of c.args.id.now ≡ Some c.in-Some.spot = sym c.place_of.ensures ∙ c.in-Some.is in
    let next : c.in-Some.spot ≡ length c.args.self.now.slots.items
    = c.if-spot-len.false ∙ c.len.ensures ∙ c.args.self.now.slots.ok.0 in
    λ q. rw (c.in_ok-push.ensures.items, c.again-2.ensures)
    (counts_next c.args.id.now c.args.number c.args.self.now.slots.items (other_number c.args.self.now)
    (rw next at place) q)
