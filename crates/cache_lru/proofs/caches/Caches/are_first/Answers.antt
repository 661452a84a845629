use Rattle.std.proofs.Common.{[], ◌∷◌, ◌++◌, sym, subst}
use Rattle.cache_lru.specs.Costs.{StandForEvents, data_references, fetch_of, fetches}
use Rattle.cache_lru.specs.History.{history_of}
use Rattle.cache_lru.proofs.HistoryLemmas.{StandsFor-access, all_hit-misses, all_hit-stands}
use Rattle.cache_lru.proofs.caches.Caches.are_first.Goals as goal

pub returns-clause-misses : goal.returns-clause-misses
returns-clause-misses c =
    λ yes shapes events stand. let held = subst (λ k. StandForEvents shapes k events) (sym c.self.view_is) stand in
    all_hit-misses shapes events c.args.event.now
    (c.is_first.ensures.hit c.if-not-is_first.false shapes.i1 (history_of shapes.i1 (fetches events)) held.i1)
    (c.is_data_first.ensures.hit yes shapes.d1 (data_references events) held.d1)

pub returns-clause-stands : goal.returns-clause-stands
returns-clause-stands c =
    λ yes shapes events stand. let held = subst (λ k. StandForEvents shapes k events) (sym c.self.view_is) stand in
    subst (λ k. StandForEvents shapes k (events ++ c.args.event.now ∷ [])) c.self.view_is
    (all_hit-stands shapes events c.args.event.now
    (c.is_first.ensures.hit c.if-not-is_first.false shapes.i1 (history_of shapes.i1 (fetches events)) held.i1)
    (c.is_data_first.ensures.hit yes shapes.d1 (data_references events) held.d1) _ _ _
    (StandsFor-access shapes.i1 _ (fetches events) (fetch_of c.args.event.now)
    (c.is_first.ensures.stands c.if-not-is_first.false shapes.i1 (history_of shapes.i1 (fetches events)) held.i1))
    (c.is_data_first.ensures.stands yes shapes.d1 (data_references events) held.d1)
    held.ll)
