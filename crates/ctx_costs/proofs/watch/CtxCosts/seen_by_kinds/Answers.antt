use Rattle.std.proofs.Common.{List, Some, ap, length, refl, subst, sym, ◌<◌, ◌≡◌, ◌∙◌, true, false}
use Rattle.ctx_costs.proofs.Others.{any-map, true_false}
use Rattle.ctx_rows.specs.Telling.{CanCount}
use Rattle.ctx_rows.specs.States.{CtxState, Track, after_seen, is_track_of, knows, track}
use Rattle.ctx_costs.specs.inner.Tracks.{Book, IsPlaceOf, track_of}
use Rattle.ctx_costs.proofs.ReadyLemmas.{is_there}
use Rattle.ctx_costs.proofs.SeenLemmas.{here_can, here_framed, here_kept, here_live, plain_watch, seen_state}
use Rattle.ctx_costs.proofs.watch.CtxCosts.seen_by_kinds.Goals as goal
use Rattle.ctx_costs.proofs.watch.CtxCosts.seen_by_kinds.Goals.{In-Some}

pub unreachable-requires : goal.unreachable-requires
unreachable-requires c =
    let thread = c.args.event.now.thread in
    let known : is_there thread c.self.inside.tracks.items ≡ true
    = sym (any-map (is_track_of thread) track_of c.self.inside.tracks.items)
    ∙ ap (λ (w : CtxState). knows w thread) c.self.view_is ∙ c.requires.knows in
    let none : is_there thread c.self.inside.tracks.items ≡ false
    = ap (is_there thread) (sym c.deref.ensures.value) ∙ c.in_default.ensures in
    true_false (sym known ∙ none)

-- where the track of the thread stands
stands : (c : In-Some) → IsPlaceOf c.self.inside.tracks.items c.args.event.now.thread (Some c.in-Some.place)
stands c =
    subst (λ (bs : List Book). IsPlaceOf bs c.args.event.now.thread (Some c.in-Some.place)) c.deref.ensures.value
    c.in-Some.ensures

pub top-requires : goal.top-requires
top-requires c =
    let at = stands (goal.at.top-requires c).In-Some in
    here_framed c.self.inside.callers c.self.inside.contexts c.self.inside.contexts c.self.inside.tracks.items
    c.self.inside.roomy c.self.invariant c.args.event.now.thread c.in-Some.place at.0 at.1 c.index.result.now _
    c.index.ensures
    (subst (λ (w : CtxState). 0 < length (track w c.args.event.now.thread).stack) (sym c.self.view_is) c.requires.live)

pub is_plain-requires : goal.is_plain-requires
is_plain-requires c =
    let at = stands (goal.at.is_plain-requires c).In-Some in
    record {
      live = here_framed c.self.inside.callers c.self.inside.contexts c.self.inside.contexts c.self.inside.tracks.items
          c.self.inside.roomy c.self.invariant c.args.event.now.thread c.in-Some.place at.0 at.1
          c.index-2.result.now _ c.index-2.ensures
          (subst (λ (w : CtxState). 0 < length (track w c.args.event.now.thread).stack) (sym c.self.view_is)
          c.requires.live);
    }

pub note_plain-requires-clause-live : goal.note_plain-requires-clause-live
note_plain-requires-clause-live c =
    let at = stands (goal.at.note_plain-requires-clause-live c).In-Some in
    here_live c.self.inside.callers c.self.inside.contexts c.self.inside.contexts c.self.inside.tracks.items
    c.self.inside.roomy c.self.invariant c.args.event.now.thread c.in-Some.place at.0 at.1 c.index_mut.result.now _
    c.index_mut.ensures.value
    (subst (λ (w : CtxState). 0 < length (track w c.args.event.now.thread).stack) (sym c.self.view_is) c.requires.live)

pub note_plain-requires-clause-numbers : goal.note_plain-requires-clause-numbers
note_plain-requires-clause-numbers c =
    let at = stands (goal.at.note_plain-requires-clause-numbers c).In-Some in
    here_framed c.self.inside.callers c.self.inside.contexts c.self.inside.contexts c.self.inside.tracks.items
    c.self.inside.roomy c.self.invariant c.args.event.now.thread c.in-Some.place at.0 at.1 c.index_mut.result.now _
    c.index_mut.ensures.value
    (subst (λ (w : CtxState). 0 < length (track w c.args.event.now.thread).stack) (sym c.self.view_is) c.requires.live)

pub note_plain-requires-clause-sums : goal.note_plain-requires-clause-sums
note_plain-requires-clause-sums c =
    let at = stands (goal.at.note_plain-requires-clause-sums c).In-Some in
    here_can c.self.inside.callers c.self.inside.contexts c.self.inside.contexts c.self.inside.tracks.items
    c.self.inside.roomy c.self.invariant c.args.event.now.thread c.in-Some.place at.0 at.1 c.index_mut.result.now _
    c.index_mut.ensures.value c.args.ones.now
    (subst (λ (w : CtxState). CanCount (track w c.args.event.now.thread) c.args.ones.now) (sym c.self.view_is)
    c.requires.sums)

pub invariant_of-self : goal.invariant_of-self
invariant_of-self c =
    let at = stands (goal.at.invariant_of-self c).In-Some in
    let kept = here_kept c.self.inside.callers c.self.inside.contexts c.self.inside.contexts c.self.inside.tracks.items
    c.self.inside.roomy c.self.invariant c.args.event.now.thread c.in-Some.place at.0 at.1 c.index_mut.result.now _
    c.index_mut.ensures.value in
    plain_watch c.self.inside.callers c.self.inside.contexts c.self.inside.contexts c.self.inside.tracks.items
    c.self.inside.roomy c.self.invariant c.args.event.now.thread c.in-Some.place at.0 at.1 c.index_mut.result.now _
    c.index_mut.ensures.value c.note_plain.new.track
    (c.note_plain.ensures.kept c.self.inside.callers c.self.inside.contexts.contexts kept)
    (ap (λ (t : Track). t.thread)
    (c.note_plain.ensures.track c.self.inside.callers c.self.inside.contexts.contexts kept))
    c.note_plain.ensures.room

pub returns : goal.returns
returns c =
    let at = stands (goal.at.returns c).In-Some in
    let kept = here_kept c.self.inside.callers c.self.inside.contexts c.self.inside.contexts c.self.inside.tracks.items
    c.self.inside.roomy c.self.invariant c.args.event.now.thread c.in-Some.place at.0 at.1 c.index_mut.result.now _
    c.index_mut.ensures.value in
    seen_state c.self.inside.callers c.self.inside.contexts c.self.inside.contexts c.self.inside.tracks.items
    c.self.inside.roomy c.self.invariant c.args.event.now.thread c.in-Some.place at.0 at.1 c.index_mut.result.now _
    c.index_mut.ensures.value c.args.syms.now c.args.event.now c.args.ones.now c.note_plain.new.track refl
    (c.note_plain.ensures.track c.self.inside.callers c.self.inside.contexts.contexts kept)
    (c.note_plain.ensures.contexts c.self.inside.callers c.self.inside.contexts.contexts)
    (c.note_plain.ensures.kept c.self.inside.callers c.self.inside.contexts.contexts kept)
    ∙ ap (λ (w : CtxState). after_seen w c.args.event.now c.args.ones.now c.args.syms.now) c.self.view_is
