use Rattle.std.proofs.Common.{◌≡◌, ◌∙◌, List, Some, ap, false, map, subst, sym, true}
use Rattle.ctx_costs.proofs.Others.{any-map, true_false}
use Rattle.contexts.specs.Contexts.{Context}
use Rattle.ctx_rows.specs.Telling.{named_rows, rows_in}
use Rattle.ctx_rows.specs.States.{CtxState, is_track_of, knows}
use Rattle.ctx_costs.specs.inner.Naming.{AreNamedRows}
use Rattle.ctx_costs.specs.inner.Tracks.{Book, IsPlaceOf, track_of}
use Rattle.ctx_costs.proofs.ReadyLemmas.{is_there}
use Rattle.ctx_costs.proofs.RowsLemmas.{rows_are, state_rows}
use Rattle.ctx_costs.proofs.SeenLemmas.{here_kept, ready_of, track_now}
use Rattle.ctx_costs.proofs.watch.CtxCosts.rows_by_number.Goals as goal

pub unreachable-requires : goal.unreachable-requires
unreachable-requires c =
    let thread = c.args.thread in
    let known : is_there thread c.self.inside.tracks.items ≡ true
    = sym (any-map (is_track_of thread) track_of c.self.inside.tracks.items)
    ∙ ap (λ (w : CtxState). knows w thread) c.self.view_is ∙ c.requires.known in
    let none : is_there thread c.self.inside.tracks.items ≡ false
    = ap (is_there thread) (sym c.deref.ensures.value) ∙ c.in_default.ensures in
    true_false (sym known ∙ none)

pub rows-requires-clause-lines : goal.rows-requires-clause-lines
rows-requires-clause-lines c =
    let at : IsPlaceOf c.self.inside.tracks.items c.args.thread (Some c.in-Some.place)
    = subst (λ (bs : List Book). IsPlaceOf bs c.args.thread (Some c.in-Some.place)) c.deref.ensures.value
    c.in-Some.ensures in
    (here_kept c.self.inside.callers c.self.inside.contexts c.self.inside.contexts c.self.inside.tracks.items
    c.self.inside.roomy
    c.self.invariant c.args.thread c.in-Some.place at.0 at.1 c.index.result.now _ c.index.ensures).sound.sums.line_sums

pub returns : goal.returns
returns c =
    let at : IsPlaceOf c.self.inside.tracks.items c.args.thread (Some c.in-Some.place)
    = subst (λ (bs : List Book). IsPlaceOf bs c.args.thread (Some c.in-Some.place)) c.deref.ensures.value
    c.in-Some.ensures in
    let w : CtxState = record {
      callers = c.self.inside.callers;
      contexts = c.self.inside.contexts.contexts;
      tracks = map track_of c.self.inside.tracks.items;
      ready = ready_of c.self.inside.stepped c.self.inside.roomy;
    } in
    let own = track_now c.self.inside.callers c.self.inside.contexts c.self.inside.contexts c.self.inside.tracks.items
    c.self.inside.roomy
    c.self.invariant c.args.thread c.in-Some.place at.0 at.1 c.index.result.now _ c.index.ensures in
    let same = c.requires.contexts ∙ sym (ap (λ (v : CtxState). v.contexts) c.self.view_is) in
    let named = named_rows c.args.contexts.now c.in_order.result in
    state_rows w c.args.thread (track_of c.index.result.now) named own
    (rows_are c.self.inside.callers c.self.inside.contexts.contexts (track_of c.index.result.now)
    (here_kept c.self.inside.callers c.self.inside.contexts c.self.inside.contexts c.self.inside.tracks.items
    c.self.inside.roomy
    c.self.invariant c.args.thread c.in-Some.place at.0 at.1 c.index.result.now _ c.index.ensures).sound
    c.self.invariant.distinct c.in_ok-rows.rows c.in_ok-rows.ensures.rows c.in_ok-rows.ensures.whole_lines
    c.in_ok-rows.ensures.whole_arcs named
    (subst (λ (cs : List Context). AreNamedRows cs c.in_ok-rows.rows named) same c.in_order.ensures))
    ∙ ap (λ (v : CtxState). rows_in v c.args.thread) c.self.view_is
