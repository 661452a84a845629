use Rattle.std.proofs.Common.{◌≡◌, ◌∙◌, List, Some, ap, get_or, map, subst, sym}
use Rattle.event_costs.specs.Keys.{Place}
use Rattle.contexts.specs.Contexts.{Context}
use Rattle.ctx_rows.specs.States.{CtxState, after_ready}
use Rattle.ctx_costs.specs.inner.Tracks.{Book, IsFramed, IsPlaceOf, IsRoomy, track_of}
use Rattle.ctx_costs.proofs.ReadyLemmas.{begun_state, begun_watch, given_err, is_there, known_state, ready_watch}
use Rattle.ctx_costs.proofs.ReadyLemmas.{reserved_watch, still_state, still_watch}
use Rattle.ctx_costs.proofs.SeenLemmas.{as_ready, ready_of}
use Rattle.recorder.proofs.ReadyLemmas.{one_element}
use Rattle.ctx_costs.proofs.watch.CtxCosts.ready_cold.Goals as goal

pub invariant_of-self-in_err-reserve-2 : goal.invariant_of-self-in_err-reserve-2
invariant_of-self-in_err-reserve-2 c =
    let at : IsPlaceOf c.self.inside.tracks.items c.args.thread (Some c.in-Some.place)
    = subst (λ (bs : List Book). IsPlaceOf bs c.args.thread (Some c.in-Some.place)) c.deref.ensures.value
    c.in-Some.ensures in
    let same : (d : Book) → c.index_mut.result.now ≡ get_or c.self.inside.tracks.items c.in-Some.place d
    = λ d. c.index_mut.ensures.value
    ∙ one_element c.self.inside.tracks.items c.in-Some.place c.index_mut.result.now d at.0 in
    still_watch c.self.inside.callers c.self.inside.contexts c.reserve.new.self c.self.inside.tracks.items
    c.self.inside.roomy
    c.self.invariant c.args.thread c.in-Some.place c.reserve-in-Some.new.self at.0 at.1
    (λ d. c.reserve-in-Some.ensures.track ∙ ap track_of (same d))
    (λ d was. c.reserve-in-Some.ensures.framed (subst IsFramed (sym (same d)) was)) c.reserve.ensures.contexts
    c.in_ok-reserve.ensures.room
    (λ d was. c.reserve-in-Some.ensures.room_kept (subst IsRoomy (sym (same d)) was))

pub returns-in_err-reserve-2-clause-err : goal.returns-in_err-reserve-2-clause-err
returns-in_err-reserve-2-clause-err c =
    let at : IsPlaceOf c.self.inside.tracks.items c.args.thread (Some c.in-Some.place)
    = subst (λ (bs : List Book). IsPlaceOf bs c.args.thread (Some c.in-Some.place)) c.deref.ensures.value
    c.in-Some.ensures in
    let same : (d : Book) → c.index_mut.result.now ≡ get_or c.self.inside.tracks.items c.in-Some.place d
    = λ d. c.index_mut.ensures.value
    ∙ one_element c.self.inside.tracks.items c.in-Some.place c.index_mut.result.now d at.0 in
    given_err c.from_residual-in_err-reserve-2.result _
    (still_state c.self.inside.callers c.self.inside.contexts c.reserve.new.self c.self.inside.tracks.items
    (ready_of c.self.inside.stepped c.self.inside.roomy)
    (as_ready c.self.inside.callers c.self.inside.contexts c.self.inside.tracks.items c.self.inside.stepped
    c.self.inside.roomy c.self.invariant) c.args.thread c.in-Some.place c.reserve-in-Some.new.self at.0 at.1
    (λ d. c.reserve-in-Some.ensures.track ∙ ap track_of (same d))
    (λ d was. c.reserve-in-Some.ensures.framed (subst IsFramed (sym (same d)) was)) c.reserve.ensures.contexts
    c.in_ok-reserve.ensures.room
    ∙ c.self.view_is)

pub invariant_of-self-in-Some : goal.invariant_of-self-in-Some
invariant_of-self-in-Some c =
    let at : IsPlaceOf c.self.inside.tracks.items c.args.thread (Some c.in-Some.place)
    = subst (λ (bs : List Book). IsPlaceOf bs c.args.thread (Some c.in-Some.place)) c.deref.ensures.value
    c.in-Some.ensures in
    let same : (d : Book) → c.index_mut.result.now ≡ get_or c.self.inside.tracks.items c.in-Some.place d
    = λ d. c.index_mut.ensures.value
    ∙ one_element c.self.inside.tracks.items c.in-Some.place c.index_mut.result.now d at.0 in
    ready_watch c.self.inside.callers c.self.inside.contexts c.reserve.new.self c.self.inside.tracks.items
    (ready_of c.self.inside.stepped c.self.inside.roomy)
    (as_ready c.self.inside.callers c.self.inside.contexts c.self.inside.tracks.items c.self.inside.stepped
    c.self.inside.roomy c.self.invariant) c.args.thread c.in-Some.place c.reserve-in-Some.new.self at.0 at.1
    (λ d. c.reserve-in-Some.ensures.track ∙ ap track_of (same d))
    (λ d was. c.reserve-in-Some.ensures.framed (subst IsFramed (sym (same d)) was)) c.reserve.ensures.contexts
    c.in_ok-reserve.ensures.room
    c.in_ok-reserve-2.ensures.room

pub returns-in-Some-clause-ok : goal.returns-in-Some-clause-ok
returns-in-Some-clause-ok c =
    let at : IsPlaceOf c.self.inside.tracks.items c.args.thread (Some c.in-Some.place)
    = subst (λ (bs : List Book). IsPlaceOf bs c.args.thread (Some c.in-Some.place)) c.deref.ensures.value
    c.in-Some.ensures in
    let same : (d : Book) → c.index_mut.result.now ≡ get_or c.self.inside.tracks.items c.in-Some.place d
    = λ d. c.index_mut.ensures.value
    ∙ one_element c.self.inside.tracks.items c.in-Some.place c.index_mut.result.now d at.0 in
    known_state c.self.inside.callers c.self.inside.contexts c.reserve.new.self c.self.inside.tracks.items
    (ready_of c.self.inside.stepped c.self.inside.roomy)
    (as_ready c.self.inside.callers c.self.inside.contexts c.self.inside.tracks.items c.self.inside.stepped
    c.self.inside.roomy c.self.invariant) c.args.thread c.in-Some.place c.reserve-in-Some.new.self at.0 at.1
    (λ d. c.reserve-in-Some.ensures.track ∙ ap track_of (same d))
    (λ d was. c.reserve-in-Some.ensures.framed (subst IsFramed (sym (same d)) was)) c.reserve.ensures.contexts
    c.in_ok-reserve.ensures.room
    c.args.syms.now c.args.pc
    ∙ ap (λ (w : CtxState). after_ready w c.args.thread c.args.pc c.args.syms.now) c.self.view_is

pub invariant_of-self-2 : goal.invariant_of-self-2
invariant_of-self-2 c = begun_watch c.self.inside.callers c.reserve.new.self c.begin.new.contexts
    c.self.inside.tracks.items (ready_of c.self.inside.stepped c.self.inside.roomy)
    (reserved_watch c.self.inside.callers c.self.inside.contexts c.reserve.new.self c.self.inside.tracks.items
    (ready_of c.self.inside.stepped c.self.inside.roomy) c.reserve.ensures.contexts c.in_ok-reserve.ensures.room (as_ready c.self.inside.callers c.self.inside.contexts c.self.inside.tracks.items c.self.inside.stepped
    c.self.inside.roomy c.self.invariant)) c.args.thread
    c.place-2.inside.func c.begin.new.tracks.items
    (ap (is_there c.args.thread) (sym c.deref.ensures.value) ∙ c.in_default.ensures) c.in_ok-reserve.ensures.room
    c.in_ok-begin.ensures.ok

pub returns-clause-ok : goal.returns-clause-ok
returns-clause-ok c =
    begun_state c.self.inside.callers c.reserve.new.self c.begin.new.contexts c.self.inside.tracks.items
    (ready_of c.self.inside.stepped c.self.inside.roomy)
    (reserved_watch c.self.inside.callers c.self.inside.contexts c.reserve.new.self c.self.inside.tracks.items
    (ready_of c.self.inside.stepped c.self.inside.roomy) c.reserve.ensures.contexts c.in_ok-reserve.ensures.room (as_ready c.self.inside.callers c.self.inside.contexts c.self.inside.tracks.items c.self.inside.stepped
    c.self.inside.roomy c.self.invariant)) c.args.thread
    c.place-2.inside.func c.begin.new.tracks.items
    (ap (is_there c.args.thread) (sym c.deref.ensures.value) ∙ c.in_default.ensures) c.in_ok-reserve.ensures.room
    c.in_ok-begin.ensures.ok
    c.args.syms.now c.args.pc (ap (λ (p : Place). p.func) (c.place-2.view_is ∙ c.place.ensures.place))
    ∙ ap (λ (cs : List Context). after_ready (record {
      callers = c.self.inside.callers;
      contexts = cs;
      tracks = map track_of c.self.inside.tracks.items;
      ready = (ready_of c.self.inside.stepped c.self.inside.roomy);
    }) c.args.thread c.args.pc c.args.syms.now) c.reserve.ensures.contexts
    ∙ ap (λ (w : CtxState). after_ready w c.args.thread c.args.pc c.args.syms.now) c.self.view_is
