use Rattle.std.proofs.Common.{◌∙◌, false, refl}
use Rattle.cache_lru.specs.Costs.{no_kind}
use Rattle.cache_lru.proofs.RunLemmas.{event_cost-is}
use Rattle.cache_lru.proofs.caches.Caches.cost.Goals as goal

pub returns-clause-cost : goal.returns-clause-cost
returns-clause-cost c =
    λ shapes events stand. c.cost.ensures.cost ∙ c.ones_of.ensures
    ∙ event_cost-is false shapes events c.args.event.now _ no_kind (c.refer-missed.ensures.misses shapes events stand)
    (λ kind. refl)
