use Rattle.std.proofs.Common.{◌≡◌, ◌∙◌, List, Some, ap, false, subst, sym, true}
use Rattle.ctx_costs.proofs.Others.{any-map, true_false}
use Rattle.ctx_rows.specs.States.{CtxState, after_part, is_track_of, knows}
use Rattle.ctx_costs.specs.inner.Tracks.{Book, IsPlaceOf, track_of}
use Rattle.ctx_costs.proofs.ReadyLemmas.{is_there}
use Rattle.ctx_costs.proofs.SeenLemmas.{as_ready, cut_state, cut_watch, ready_of}
use Rattle.ctx_costs.proofs.watch.CtxCosts.cut.Goals as goal

pub unreachable-requires : goal.unreachable-requires
unreachable-requires c =
    let thread = c.args.thread in
    let known : is_there thread c.self.inside.tracks.items ≡ true
    = sym (any-map (is_track_of thread) track_of c.self.inside.tracks.items)
    ∙ ap (λ (w : CtxState). knows w thread) c.self.view_is ∙ c.requires.known in
    let none : is_there thread c.self.inside.tracks.items ≡ false
    = ap (is_there thread) (sym c.deref.ensures.value) ∙ c.in_default.ensures in
    true_false (sym known ∙ none)

pub invariant_of-self : goal.invariant_of-self
invariant_of-self c =
    let at : IsPlaceOf c.self.inside.tracks.items c.args.thread (Some c.in-Some.place)
    = subst (λ (bs : List Book). IsPlaceOf bs c.args.thread (Some c.in-Some.place)) c.deref.ensures.value
    c.in-Some.ensures in
    cut_watch c.self.inside.callers c.self.inside.contexts c.self.inside.contexts c.self.inside.tracks.items
    c.self.inside.roomy
    c.self.invariant c.args.thread c.in-Some.place at.0 at.1 c.index_mut.result.now _ c.index_mut.ensures.value
    c.cut.new.self
    c.cut.ensures.frames c.cut.ensures.lines c.cut.ensures.arcs c.cut.ensures.stack c.cut.ensures.same
    c.cut.ensures.framed c.cut.ensures.room

pub returns : goal.returns
returns c =
    let at : IsPlaceOf c.self.inside.tracks.items c.args.thread (Some c.in-Some.place)
    = subst (λ (bs : List Book). IsPlaceOf bs c.args.thread (Some c.in-Some.place)) c.deref.ensures.value
    c.in-Some.ensures in
    cut_state c.self.inside.callers c.self.inside.contexts c.self.inside.contexts c.self.inside.tracks.items
    (ready_of c.self.inside.stepped c.self.inside.roomy)
    (as_ready c.self.inside.callers c.self.inside.contexts c.self.inside.tracks.items c.self.inside.stepped
    c.self.inside.roomy c.self.invariant) c.args.thread c.in-Some.place at.0 at.1 c.index_mut.result.now _ c.index_mut.ensures.value
    c.cut.new.self
    c.cut.ensures.frames c.cut.ensures.lines c.cut.ensures.arcs c.cut.ensures.stack c.cut.ensures.same
    c.cut.ensures.framed
    ∙ ap (λ (w : CtxState). after_part w c.args.thread) c.self.view_is
