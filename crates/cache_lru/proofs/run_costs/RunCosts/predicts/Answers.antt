use Rattle.std.proofs.Common.{[], ◌∷◌, ◌++◌, sym, subst, ◌∙◌}
use Rattle.cache_lru.specs.Costs.{RunCosts, TablesStandWhere}
use Rattle.cache_lru.proofs.RunLemmas.{no_kinds, still_stand, unbranched, unpredicted}
use Rattle.cache_lru.proofs.run_costs.RunCosts.predicts.Goals as goal

pub returns-in-None-clause-kinds : goal.returns-in-None-clause-kinds
returns-in-None-clause-kinds c =
    λ no branches events event is stand.
    unbranched branches _ events event
    (subst (λ (k : RunCosts). TablesStandWhere branches k.tables events) (sym c.self.view_is) stand) c.in-None.is

pub returns-in-None-clause-stands : goal.returns-in-None-clause-stands
returns-in-None-clause-stands c =
    λ no branches events event is stand.
    subst (λ (k : RunCosts). TablesStandWhere branches k.tables (events ++ event ∷ [])) c.self.view_is
    (unpredicted branches _ events (events ++ event ∷ [])
    (subst (λ (k : RunCosts). TablesStandWhere branches k.tables events) (sym c.self.view_is) stand) c.in-None.is)

pub returns-in-Some-clause-kinds : goal.returns-in-Some-clause-kinds
returns-in-Some-clause-kinds c =
    λ no branches events event is stand. no_kinds branches events event (is ∙ c.is_branch.ensures no)

pub returns-in-Some-clause-stands : goal.returns-in-Some-clause-stands
returns-in-Some-clause-stands c =
    λ no branches events event is stand. still_stand branches _ events event (is ∙ c.is_branch.ensures no) stand
