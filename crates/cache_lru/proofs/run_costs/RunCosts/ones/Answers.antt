use Rattle.std.proofs.Common.{◌≤◌, All, Some, Bool, [], ◌∷◌, ◌++◌, sym, subst, ap, ◌∙◌}
use Rattle.cache_lru.specs.Costs.{RunCosts, StandForRun, TablesStandWhere, counts_as_branch, no_kind}
use Rattle.cache_lru.specs.Branches.{branch_counts}
use Rattle.cache_lru.proofs.HistoryLemmas.{event_cost-ones}
use Rattle.cache_lru.proofs.RunLemmas.{asked, event_cost-is, unasked, without}
use Rattle.cache_lru.proofs.run_costs.RunCosts.ones.Goals as goal

pub returns-in_default-clause-stands : goal.returns-in_default-clause-stands
returns-in_default-clause-stands c =
    λ branches shapes events stand.
    let held = subst (λ (k : RunCosts). StandForRun branches shapes k events) (sym c.self.view_is) stand in
    record {
      caches = c.missed-missed.ensures.stands shapes events held.caches;
      tables = without branches c.self.inside.predictors events _ held.tables c.in_default.not-Some;
    }

pub returns-clause-stands : goal.returns-clause-stands
returns-clause-stands c =
    λ branches shapes events stand.
    let held = subst (λ (k : RunCosts). StandForRun branches shapes k events) (sym c.self.view_is) stand in
    let there = asked branches c.self.inside.predictors events c.in-Some.predictors held.tables c.in-Some.is in
    record {
      caches = c.missed-missed.ensures.stands shapes events held.caches;
      tables = subst (λ (b : Bool). TablesStandWhere b (Some c.predict-fails.new.self) (events ++ c.args.event.now ∷ []))
          (sym there.0) (c.predict-fails.ensures.stands events there.1);
    }

pub returns-in_default-clause-cost : goal.returns-in_default-clause-cost
returns-in_default-clause-cost c =
    λ branches shapes events stand.
    let held = subst (λ (k : RunCosts). StandForRun branches shapes k events) (sym c.self.view_is) stand in
    let no = unasked branches c.self.inside.predictors events held.tables c.in_default.not-Some in
    c.ones_of-ones.ensures
    ∙ event_cost-is branches shapes events c.args.event.now _ no_kind
    (c.missed-missed.ensures.misses shapes events held.caches)
    (λ kind. sym (ap (λ (b : Bool). counts_as_branch b events c.args.event.now kind) no))

pub returns-in_default-clause-ones : goal.returns-in_default-clause-ones
returns-in_default-clause-ones c =
    λ branches shapes events stand.
    subst (λ numbers. All (λ n. n ≤ 1) numbers) (sym (returns-in_default-clause-cost c branches shapes events stand))
    (event_cost-ones branches shapes events c.args.event.now)

pub returns-clause-cost : goal.returns-clause-cost
returns-clause-cost c =
    λ branches shapes events stand.
    let held = subst (λ (k : RunCosts). StandForRun branches shapes k events) (sym c.self.view_is) stand in
    let there = asked branches c.self.inside.predictors events c.in-Some.predictors held.tables c.in-Some.is in
    let branch = c.args.event.now.done.branch in
    c.with_branch.ensures.event c.args.event.now.done.touch _ c.ones_of-ones.ensures
    ∙ event_cost-is branches shapes events c.args.event.now _ (branch_counts branch c.predict-fails.result)
    (c.missed-missed.ensures.misses shapes events held.caches)
    (λ kind. ap (λ (fails : Bool). branch_counts branch fails kind) (c.predict-fails.ensures.fails events there.1)
    ∙ sym (ap (λ (b : Bool). counts_as_branch b events c.args.event.now kind) there.0))

pub returns-clause-ones : goal.returns-clause-ones
returns-clause-ones c =
    λ branches shapes events stand.
    subst (λ numbers. All (λ n. n ≤ 1) numbers) (sym (returns-clause-cost c branches shapes events stand))
    (event_cost-ones branches shapes events c.args.event.now)
