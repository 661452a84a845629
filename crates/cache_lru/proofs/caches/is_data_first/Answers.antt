use Rattle.std.proofs.Common.{◌≡◌, false, List, ◌++◌, ◌||◌, ap, sym, subst, ◌∙◌}
use Rattle.std.specs.List.{list_any}
use Rattle.std.proofs.lemmas.List.{append-nil}
use Rattle.cache_lru.specs.Costs.{access_of}
use Rattle.cache_lru.specs.History.{Access, access_misses, history_of}
use Rattle.cache_lru.specs.Lines.{StandsFor}
use Rattle.cache_lru.proofs.HistoryLemmas.{StandsFor-access, one_access}
use Rattle.cache_lru.proofs.caches.is_data_first.Goals as goal

pub returns-in-Nothing-clause-hit : goal.returns-in-Nothing-clause-hit
returns-in-Nothing-clause-hit c =
    λ yes shape earlier stands. ap (λ touch. list_any (access_misses shape earlier) (access_of touch)) c.in-Nothing.is

pub returns-in-Nothing-clause-stands : goal.returns-in-Nothing-clause-stands
returns-in-Nothing-clause-stands c =
    λ yes shape earlier stands.
    let none : earlier ++ access_of c.args.touch ≡ earlier
    = ap (λ touch. earlier ++ access_of touch) c.in-Nothing.is ∙ append-nil earlier in
    subst (λ (accesses : List Access). StandsFor shape c.args.cache.now (history_of shape accesses)) (sym none) stands

pub returns-in-Read-clause-hit : goal.returns-in-Read-clause-hit
returns-in-Read-clause-hit c =
    λ yes shape earlier stands.
    let one = one_access c.args.touch c.in-Read.addr c.in-Read.len c.from.result c.from.ensures c.in-Read.is in
    ap (list_any (access_misses shape earlier)) one
    ∙ ap (λ b. b || false) (c.is_first.ensures.hit yes shape (history_of shape earlier) stands)

pub returns-in-Read-clause-stands : goal.returns-in-Read-clause-stands
returns-in-Read-clause-stands c =
    λ yes shape earlier stands.
    let one = one_access c.args.touch c.in-Read.addr c.in-Read.len c.from.result c.from.ensures c.in-Read.is in
    subst (λ (accesses : List Access). StandsFor shape c.args.cache.now (history_of shape (earlier ++ accesses)))
    (sym one)
    (StandsFor-access shape _ earlier (record { addr = c.in-Read.addr; len = c.from.result })
    (c.is_first.ensures.stands yes shape (history_of shape earlier) stands))
