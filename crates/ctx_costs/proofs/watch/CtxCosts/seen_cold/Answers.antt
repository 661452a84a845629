use Rattle.std.proofs.Common.{List, Some, ap, length, refl, subst, sym, ◌<◌, ◌≡◌, ◌∙◌, true, false}
use Rattle.ctx_costs.proofs.Others.{any-map, true_false}
use Rattle.ctx_rows.specs.Telling.{CanCount}
use Rattle.ctx_rows.specs.States.{CtxState, after_seen, is_track_of, knows, track}
use Rattle.ctx_costs.specs.inner.Tracks.{Book, IsPlaceOf, track_of}
use Rattle.ctx_costs.proofs.ReadyLemmas.{is_there}
use Rattle.ctx_costs.proofs.SeenLemmas.{as_ready, here_can, here_live, ready_of, seen_state}
use Rattle.ctx_costs.proofs.SeenLemmas.{seen_watch}
use Rattle.ctx_costs.proofs.watch.CtxCosts.seen_cold.Goals as goal

pub unreachable-requires : goal.unreachable-requires
unreachable-requires c =
    let thread = c.args.event.now.thread in
    let known : is_there thread c.self.inside.tracks.items ≡ true
    = sym (any-map (is_track_of thread) track_of c.self.inside.tracks.items)
    ∙ ap (λ (w : CtxState). knows w thread) c.self.view_is ∙ c.requires.knows in
    let none : is_there thread c.self.inside.tracks.items ≡ false
    = ap (is_there thread) (sym c.deref.ensures.value) ∙ c.in_default.ensures in
    true_false (sym known ∙ none)

pub note-requires-clause-live : goal.note-requires-clause-live
note-requires-clause-live c =
    let at : IsPlaceOf c.self.inside.tracks.items c.args.event.now.thread (Some c.in-Some.place)
    = subst (λ (bs : List Book). IsPlaceOf bs c.args.event.now.thread (Some c.in-Some.place)) c.deref.ensures.value
    c.in-Some.ensures in
    here_live c.self.inside.callers c.self.inside.contexts c.self.inside.contexts c.self.inside.tracks.items
    (ready_of c.self.inside.stepped c.self.inside.roomy)
    (as_ready c.self.inside.callers c.self.inside.contexts c.self.inside.tracks.items c.self.inside.stepped
    c.self.inside.roomy c.self.invariant) c.args.event.now.thread c.in-Some.place at.0 at.1 c.index_mut.result.now _
    c.index_mut.ensures.value
    (subst (λ (w : CtxState). 0 < length (track w c.args.event.now.thread).stack) (sym c.self.view_is) c.requires.live)

pub note-requires-clause-sums : goal.note-requires-clause-sums
note-requires-clause-sums c =
    let at : IsPlaceOf c.self.inside.tracks.items c.args.event.now.thread (Some c.in-Some.place)
    = subst (λ (bs : List Book). IsPlaceOf bs c.args.event.now.thread (Some c.in-Some.place)) c.deref.ensures.value
    c.in-Some.ensures in
    here_can c.self.inside.callers c.self.inside.contexts c.self.inside.contexts c.self.inside.tracks.items
    (ready_of c.self.inside.stepped c.self.inside.roomy)
    (as_ready c.self.inside.callers c.self.inside.contexts c.self.inside.tracks.items c.self.inside.stepped
    c.self.inside.roomy c.self.invariant) c.args.event.now.thread c.in-Some.place at.0 at.1 c.index_mut.result.now _
    c.index_mut.ensures.value
    c.args.cost.now
    (subst (λ (w : CtxState). CanCount (track w c.args.event.now.thread) c.args.cost.now) (sym c.self.view_is)
    c.requires.sums)

pub invariant_of-self : goal.invariant_of-self
invariant_of-self c =
    let at : IsPlaceOf c.self.inside.tracks.items c.args.event.now.thread (Some c.in-Some.place)
    = subst (λ (bs : List Book). IsPlaceOf bs c.args.event.now.thread (Some c.in-Some.place)) c.deref.ensures.value
    c.in-Some.ensures in
    seen_watch c.self.inside.callers c.self.inside.contexts c.note.new.contexts c.self.inside.tracks.items
    (ready_of c.self.inside.stepped c.self.inside.roomy)
    (as_ready c.self.inside.callers c.self.inside.contexts c.self.inside.tracks.items c.self.inside.stepped
    c.self.inside.roomy c.self.invariant) c.args.event.now.thread c.in-Some.place at.0 at.1 c.index_mut.result.now _
    c.index_mut.ensures.value
    c.args.syms.now c.args.event.now c.args.cost.now c.note.new.track refl c.note.ensures.track c.note.ensures.contexts
    c.note.ensures.kept

pub returns : goal.returns
returns c =
    let at : IsPlaceOf c.self.inside.tracks.items c.args.event.now.thread (Some c.in-Some.place)
    = subst (λ (bs : List Book). IsPlaceOf bs c.args.event.now.thread (Some c.in-Some.place)) c.deref.ensures.value
    c.in-Some.ensures in
    seen_state c.self.inside.callers c.self.inside.contexts c.note.new.contexts c.self.inside.tracks.items
    (ready_of c.self.inside.stepped c.self.inside.roomy)
    (as_ready c.self.inside.callers c.self.inside.contexts c.self.inside.tracks.items c.self.inside.stepped
    c.self.inside.roomy c.self.invariant) c.args.event.now.thread c.in-Some.place at.0 at.1 c.index_mut.result.now _
    c.index_mut.ensures.value
    c.args.syms.now c.args.event.now c.args.cost.now c.note.new.track refl c.note.ensures.track c.note.ensures.contexts
    c.note.ensures.kept
    ∙ ap (λ (w : CtxState). after_seen w c.args.event.now c.args.cost.now c.args.syms.now) c.self.view_is
