use Rattle.std.proofs.Common.{◌≡◌, ◌∙◌, ap, map, sym, true}
use Rattle.ctx_costs.proofs.Others.{any-map}
use Rattle.ctx_rows.specs.States.{CtxState, after_ready, is_track_of, knows}
use Rattle.ctx_costs.specs.inner.Tracks.{track_of}
use Rattle.ctx_costs.proofs.ReadyLemmas.{is_there}
use Rattle.ctx_costs.proofs.SeenLemmas.{known_ready, placed_there, ready_of}
use Rattle.ctx_costs.proofs.watch.CtxCostsWatch.ready.Goals as goal

pub returns-then-is_some-clause-ok : goal.returns-then-is_some-clause-ok
returns-then-is_some-clause-ok c =
    let thread = c.args.thread in
    let there : is_there thread c.self.inside.tracks.items ≡ true
    = ap (is_there thread) (sym c.deref.ensures.value)
    ∙ placed_there c.near_place.result c.deref.result.now thread c.near_place.ensures
    (sym c.is_some.ensures ∙ c.if-is_some.true) in
    let w : CtxState = record {
      callers = c.self.inside.callers;
      contexts = c.self.inside.contexts.contexts;
      tracks = map track_of c.self.inside.tracks.items;
      ready = ready_of c.self.inside.stepped c.self.inside.roomy;
    } in
    let known : knows w thread ≡ true = any-map (is_track_of thread) track_of c.self.inside.tracks.items ∙ there in
    ap (λ r. record w { ready = r }) (c.is_thread.ensures c.if-is_thread.true)
    ∙ known_ready w thread c.args.pc c.args.syms.now known
    ∙ ap (λ (v : CtxState). after_ready v thread c.args.pc c.args.syms.now) c.self.view_is
