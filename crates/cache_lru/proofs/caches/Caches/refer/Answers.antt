use Rattle.std.proofs.Common.{◌++◌, sym, subst}
use Rattle.cache_lru.specs.Costs.{StandForEvents, fetches, data_references, onward, onward_fetch}
use Rattle.cache_lru.proofs.HistoryLemmas.{StandForEvents-push, misses_are}
use Rattle.cache_lru.proofs.caches.Caches.refer.Goals as goal

pub returns-clause-misses : goal.returns-clause-misses
returns-clause-misses c =
    λ shapes events stand. let held = subst (λ k. StandForEvents shapes k events) (sym c.self.view_is) stand in
    let fetched = c.refer_through-fetch.ensures in
    let referred = c.refer_data-reference.ensures in
    let before = onward shapes events ++ onward_fetch shapes events c.args.event.now in
    let sent = fetched.last_stands shapes.i1 shapes.ll (fetches events) (onward shapes events) held.i1 held.ll in
    misses_are shapes events c.args.event.now _ _ _ _
    (fetched.first_misses shapes.i1 (fetches events) held.i1)
    (referred.first_misses shapes.d1 (data_references events) held.d1)
    (fetched.last_misses shapes.i1 shapes.ll (fetches events) (onward shapes events) held.i1 held.ll)
    (referred.last_misses shapes.d1 shapes.ll (data_references events) before held.d1 sent)

pub returns-clause-stands : goal.returns-clause-stands
returns-clause-stands c =
    λ shapes events stand. let held = subst (λ k. StandForEvents shapes k events) (sym c.self.view_is) stand in
    let fetched = c.refer_through-fetch.ensures in
    let referred = c.refer_data-reference.ensures in
    let before = onward shapes events ++ onward_fetch shapes events c.args.event.now in
    let sent = fetched.last_stands shapes.i1 shapes.ll (fetches events) (onward shapes events) held.i1 held.ll in
    StandForEvents-push shapes events c.args.event.now _ _ _
    (fetched.first_stands shapes.i1 (fetches events) held.i1)
    (referred.first_stands shapes.d1 (data_references events) held.d1)
    (referred.last_stands shapes.d1 shapes.ll (data_references events) before held.d1 sent)
