use Rattle.std.proofs.Common.{◌∙◌, ap, Bool}
use Rattle.event_costs.specs.Kinds.{cost_by}
use Rattle.cache_lru.specs.Branches.{branch_counts}
use Rattle.cache_lru.specs.Costs.{branch_cost_after}
use Rattle.cache_lru.proofs.predictors.Predictors.cost.Goals as goal

pub returns-clause-cost : goal.returns-clause-cost
unfolding branch_cost_after
returns-clause-cost c =
    λ events stand. c.cost.ensures.cost ∙ c.with_branch.ensures.alone c.none.ensures
    ∙ ap (λ (fails : Bool). cost_by (branch_counts c.args.event.now.done.branch fails))
    (c.predict-fails.ensures.fails events stand)
