use Rattle.std.proofs.Common.{[], ◌∷◌, ◌++◌, sym, subst}
use Rattle.cache_lru.specs.Costs.{StandForEvents}
use Rattle.cache_lru.proofs.caches.Caches.missed.Goals as goal

pub returns-then-are_first-clause-stands : goal.returns-then-are_first-clause-stands
returns-then-are_first-clause-stands c =
    λ shapes events stand.
    subst (λ k. StandForEvents shapes k (events ++ c.args.event.now ∷ [])) (sym c.are_first.ensures.same)
    (c.are_first.ensures.stands c.if-are_first.true shapes events stand)

pub returns-clause-stands : goal.returns-clause-stands
returns-clause-stands c =
    λ shapes events stand.
    c.refer.ensures.stands shapes events
    (subst (λ k. StandForEvents shapes k events) (sym c.are_first.ensures.same) stand)
