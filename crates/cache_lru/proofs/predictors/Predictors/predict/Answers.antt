use Rattle.std.proofs.Common.{◌∙◌, List, [], ◌∷◌, ◌++◌, ℕ, ap, sym, subst, rules}
use Rattle.std.proofs.lemmas.List.{with_items_is}
use Rattle.std.specs.Prelude.{slice_index, slice_set}
use Rattle.cache_lru.specs.Branches.{TablesStandFor, counter_after, counter_of, destination_fails, outcome_fails}
use Rattle.cache_lru.specs.Branches.{target_of}
use Rattle.cache_lru.proofs.BranchLemmas.{fails-cond, fails-indirect, fails-none, stands-cond, stands-indirect}
use Rattle.cache_lru.proofs.BranchLemmas.{stands-none}
use Rattle.cache_lru.proofs.predictors.Predictors.predict.Goals as goal

pub returns-in-Nothing-clause-fails : goal.returns-in-Nothing-clause-fails
returns-in-Nothing-clause-fails c =
    λ events stand. fails-none c.args.self.now events c.args.event.now stand c.in-Nothing.is

pub returns-in-Nothing-clause-stands : goal.returns-in-Nothing-clause-stands
returns-in-Nothing-clause-stands c =
    λ events stand. stands-none c.args.self.now events c.args.event.now stand c.in-Nothing.is

pub returns-in-Cond-clause-fails : goal.returns-in-Cond-clause-fails
returns-in-Cond-clause-fails c =
    λ events stand. let held = subst (λ k. TablesStandFor k events) (sym c.self.view_is) stand in
    let counter = counter_of c.args.event.now.done.pc in
    fails-cond _ events c.args.event.now held c.in-Cond.taken c.predict_outcome.result c.in-Cond.is
    (c.predict_outcome.ensures.fails
    ∙ ap (λ (counts : List ℕ). outcome_fails (slice_index counts counter) c.in-Cond.taken) c.deref_mut.ensures.value)

pub returns-in-Cond-clause-stands : goal.returns-in-Cond-clause-stands
returns-in-Cond-clause-stands c =
    λ events stand. let held = subst (λ k. TablesStandFor k events) (sym c.self.view_is) stand in
    let counter = counter_of c.args.event.now.done.pc in
    subst (λ (counts : List ℕ). TablesStandFor (record { counts = counts; addresses = c.self.inside.addresses.items })
    (events ++ c.args.event.now ∷ []))
    (sym (with_items_is c.self.inside.counts c.predict_outcome.new.counts (search rules)))
    (stands-cond _ events c.args.event.now held c.in-Cond.taken c.predict_outcome.new.counts c.in-Cond.is
    c.self.invariant.counters
    (c.predict_outcome.ensures.learned
    ∙ ap (λ (counts : List ℕ). slice_set counts counter
    (counter_after (slice_index counts counter) c.in-Cond.taken)) c.deref_mut.ensures.value))

pub returns-in-Indirect-clause-fails : goal.returns-in-Indirect-clause-fails
returns-in-Indirect-clause-fails c =
    λ events stand. let held = subst (λ k. TablesStandFor k events) (sym c.self.view_is) stand in
    let target = target_of c.args.event.now.done.pc in
    let next = c.args.event.now.done.next in
    fails-indirect _ events c.args.event.now held c.predict_destination.result c.in-Indirect.is
    (c.predict_destination.ensures.fails
    ∙ ap (λ (addresses : List ℕ). destination_fails
    (slice_index addresses target) next) c.deref_mut-in-Indirect.ensures.value)

pub returns-in-Indirect-clause-stands : goal.returns-in-Indirect-clause-stands
returns-in-Indirect-clause-stands c =
    λ events stand. let held = subst (λ k. TablesStandFor k events) (sym c.self.view_is) stand in
    let target = target_of c.args.event.now.done.pc in
    let next = c.args.event.now.done.next in
    subst (λ (addresses : List ℕ). TablesStandFor
    (record { counts = c.self.inside.counts.items; addresses = addresses }) (events ++ c.args.event.now ∷ []))
    (sym (with_items_is c.self.inside.addresses c.predict_destination.new.addresses (search rules)))
    (stands-indirect _ events c.args.event.now held c.predict_destination.new.addresses c.in-Indirect.is
    c.self.invariant.targets
    (c.predict_destination.ensures.learned
    ∙ ap (λ (addresses : List ℕ). slice_set addresses target next) c.deref_mut-in-Indirect.ensures.value))
