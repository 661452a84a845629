use Rattle.std.proofs.Common.{◌≤◌, All, [], ◌∷◌, ◌++◌, refl, sym, subst, ◌∙◌}
use Rattle.cache_lru.specs.Costs.{RunCosts, StandForEvents, StandForRun, TablesStandWhere, no_kind}
use Rattle.cache_lru.proofs.HistoryLemmas.{event_cost-ones}
use Rattle.cache_lru.proofs.RunLemmas.{event_cost-is}
use Rattle.cache_lru.proofs.run_costs.RunCosts.plain_ones.Goals as goal

pub returns-clause-cost : goal.returns-clause-cost
returns-clause-cost c =
    λ branches shapes events stand.
    let held = subst (λ (k : RunCosts). StandForRun branches shapes k events) (sym c.self.view_is) stand in
    c.ones_of.ensures
    ∙ event_cost-is branches shapes events c.args.event.now _ no_kind
    (c.are_first.ensures.misses c.if-not-are_first.false shapes events held.caches)
    (λ kind. sym (c.predicts.ensures.kinds c.if-predicts.false branches events c.args.event.now refl stand.tables
    kind))

pub returns-clause-stands : goal.returns-clause-stands
returns-clause-stands c =
    λ branches shapes events stand.
    let held = subst (λ (k : RunCosts). StandForRun branches shapes k events) (sym c.self.view_is) stand in
    record {
      caches = subst (λ k. StandForEvents shapes k (events ++ c.args.event.now ∷ [])) (sym c.are_first.ensures.same)
          (c.are_first.ensures.stands c.if-not-are_first.false shapes events held.caches);
      tables = subst (λ (k : RunCosts). TablesStandWhere branches k.tables (events ++ c.args.event.now ∷ []))
          (sym c.self.view_is)
          (c.predicts.ensures.stands c.if-predicts.false branches events c.args.event.now refl stand.tables);
    }

pub returns-clause-ones : goal.returns-clause-ones
returns-clause-ones c =
    λ branches shapes events stand.
    subst (λ numbers. All (λ n. n ≤ 1) numbers) (sym (returns-clause-cost c branches shapes events stand))
    (event_cost-ones branches shapes events c.args.event.now)
