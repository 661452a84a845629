-- The predictors after one more event, and what it costs as a branch.
use Rattle.std.proofs.Common.{◌≡◌, ℕ, ◌<◌, ◌==◌, Bool, true, false, List, [], ◌∷◌, ◌++◌, length, refl, ap, sym, ◌∙◌}
use Rattle.std.proofs.Common.{arith}
use Rattle.std.specs.Prelude.{filter, fold, slice_index, slice_set, if◌then◌else◌}
use Rattle.std.specs.List.{flat_map}
use Rattle.std.proofs.lemmas.Bool.Decides.{nat_tests}
use Rattle.std.proofs.lemmas.Grind.{common_steps, flat_map-append, fold-append}
use Rattle.std.proofs.lemmas.List.{append-nil}
use Rattle.std.proofs.lemmas.List.Elements.{filter-append}
use Rattle.event_costs.specs.declared.event.Event.{Event}
use Rattle.event_costs.specs.declared.event.Branch.TheVariants.{Nothing, Cond, Indirect}
use Rattle.cache_lru.specs.Branches.{Tables, TablesStandFor, address_at, count_at, counter_after, counter_of}
use Rattle.cache_lru.specs.Branches.{destination_fails, destination_of, destinations, fails_after, outcome_fails}
use Rattle.cache_lru.specs.Branches.{outcome_of, outcomes, target_of}

filtered_one : {A : Type 0} (f : Event → List A) (event : Event) (b : Bool)
    → flat_map f (if b then event ∷ [] else []) ≡ (if b then f event else [])
filtered_one f event true = append-nil (f event)
filtered_one f event false = refl

-- what the events of some kind give, with one more event
filtered-push : {A : Type 0} (p : Event → Bool) (f : Event → List A) (events : List Event) (event : Event)
    → flat_map f (filter p (events ++ event ∷ [])) ≡ flat_map f (filter p events) ++ (if p event then f event else [])
filtered-push p f events event =
    ap (flat_map f) (filter-append p events (event ∷ []))
    ∙ flat_map-append f (filter p events) (filter p (event ∷ []))
    ∙ ap (λ t. flat_map f (filter p events) ++ t) (filtered_one f event (p event))

count_at-push : (counter : ℕ) (events : List Event) (event : Event)
    → count_at counter (events ++ event ∷ [])
    ≡ fold counter_after (count_at counter events)
    (if counter_of event.done.pc == counter then outcome_of event.done.branch else [])
count_at-push counter events event =
    ap (fold counter_after 0)
    (filtered-push (λ e. counter_of e.done.pc == counter) (λ e. outcome_of e.done.branch) events event)
    ∙ fold-append counter_after 0 (outcomes counter events) _

address_at-push : (target : ℕ) (events : List Event) (event : Event)
    → address_at target (events ++ event ∷ [])
    ≡ fold (λ _ address. address) (address_at target events)
    (if target_of event.done.pc == target then destination_of event.done.branch event.done.next else [])
address_at-push target events event =
    ap (fold (λ _ address. address) 0)
    (filtered-push (λ e. target_of e.done.pc == target) (λ e. destination_of e.done.branch e.done.next) events event)
    ∙ fold-append (λ (_ address : ℕ). address) 0 (destinations target events) _

-- no outcome and no destination changes nothing
nothing_counted : {A : Type 0} (f : ℕ → A → ℕ) (n : ℕ) (b : Bool) → n ≡ fold f n (if b then [] else [])
nothing_counted f n true = refl
nothing_counted f n false = refl

one_counted : {A : Type 0} (f : ℕ → A → ℕ) (n : ℕ) (x : A) (b : Bool)
    → (if b then f n x else n) ≡ fold f n (if b then x ∷ [] else [])
one_counted f n x true = refl
one_counted f n x false = refl

-- a number that is made anew from itself, and the others
changed_at : (f : ℕ → ℕ) (xs : List ℕ) (i k : ℕ) → i < length xs
    → slice_index (slice_set xs i (f (slice_index xs i))) k
    ≡ (if i == k then f (slice_index xs k) else slice_index xs k)
changed_at f xs i k lt = grind (arith, common_steps, nat_tests)

module _ (kept : Tables) (events : List Event) (event : Event) (stand : TablesStandFor kept events) where
  same_counts : outcome_of event.done.branch ≡ [] → (counter : ℕ) → counter < 16384
      → slice_index kept.counts counter ≡ count_at counter (events ++ event ∷ [])
  same_counts none counter lt =
      stand.counts counter lt
      ∙ nothing_counted counter_after (count_at counter events) (counter_of event.done.pc == counter)
      ∙ ap (λ (os : List Bool). fold counter_after (count_at counter events)
      (if counter_of event.done.pc == counter then os else [])) (sym none)
      ∙ sym (count_at-push counter events event)

  same_addresses : destination_of event.done.branch event.done.next ≡ [] → (target : ℕ) → target < 512
      → slice_index kept.addresses target ≡ address_at target (events ++ event ∷ [])
  same_addresses none target lt =
      stand.addresses target lt
      ∙ nothing_counted (λ (_ address : ℕ). address) (address_at target events) (target_of event.done.pc == target)
      ∙ ap (λ (ds : List ℕ). fold (λ (_ address : ℕ). address) (address_at target events)
      (if target_of event.done.pc == target then ds else [])) (sym none)
      ∙ sym (address_at-push target events event)

  pub stands-none : event.done.branch ≡ Nothing → TablesStandFor kept (events ++ event ∷ [])
  stands-none is = record {
    counts = same_counts (ap outcome_of is);
    addresses = same_addresses (ap (λ b. destination_of b event.done.next) is);
  }

  pub fails-none : event.done.branch ≡ Nothing → false ≡ fails_after events event
  fails-none is = rw is refl

  pub stands-cond : (taken : Bool) (counts : List ℕ) → event.done.branch ≡ Cond taken → length kept.counts ≡ 16384
      → (let i = counter_of event.done.pc in
      counts ≡ slice_set kept.counts i (counter_after (slice_index kept.counts i) taken))
      → TablesStandFor (record { counts = counts; addresses = kept.addresses }) (events ++ event ∷ [])
  stands-cond taken counts is long learned =
      let i = counter_of event.done.pc in
      record {
        counts = λ counter lt. ap (λ (cs : List ℕ). slice_index cs counter) learned
            ∙ changed_at (λ n. counter_after n taken) kept.counts i counter (omega arith)
            ∙ ap (λ (n : ℕ). if i == counter then counter_after n taken else n) (stand.counts counter lt)
            ∙ one_counted counter_after (count_at counter events) taken (i == counter)
            ∙ ap (λ (os : List Bool). fold counter_after (count_at counter events) (if i == counter then os else []))
            (sym (ap outcome_of is))
            ∙ sym (count_at-push counter events event);
        addresses = same_addresses (ap (λ b. destination_of b event.done.next) is);
      }

  pub fails-cond : (taken fails : Bool) → event.done.branch ≡ Cond taken
      → fails ≡ outcome_fails (slice_index kept.counts (counter_of event.done.pc)) taken
      → fails ≡ fails_after events event
  fails-cond taken fails is test =
      test ∙ ap (λ n. outcome_fails n taken) (stand.counts (counter_of event.done.pc) (omega arith)) ∙ rw is refl

  pub stands-indirect : (addresses : List ℕ) → event.done.branch ≡ Indirect → length kept.addresses ≡ 512
      → addresses ≡ slice_set kept.addresses (target_of event.done.pc) event.done.next
      → TablesStandFor (record { counts = kept.counts; addresses = addresses }) (events ++ event ∷ [])
  stands-indirect addresses is long learned =
      let i = target_of event.done.pc in
      record {
        counts = same_counts (ap outcome_of is);
        addresses = λ target lt. ap (λ (xs : List ℕ). slice_index xs target) learned
            ∙ changed_at (λ _. event.done.next) kept.addresses i target (omega arith)
            ∙ ap (λ (n : ℕ). if i == target then event.done.next else n) (stand.addresses target lt)
            ∙ one_counted (λ (_ address : ℕ). address) (address_at target events) event.done.next (i == target)
            ∙ ap (λ (ds : List ℕ). fold (λ (_ address : ℕ). address) (address_at target events)
            (if i == target then ds else [])) (sym (ap (λ b. destination_of b event.done.next) is))
            ∙ sym (address_at-push target events event);
      }

  pub fails-indirect : (fails : Bool) → event.done.branch ≡ Indirect
      → fails ≡ destination_fails (slice_index kept.addresses (target_of event.done.pc)) event.done.next
      → fails ≡ fails_after events event
  fails-indirect fails is test =
      test ∙ ap (λ n. destination_fails n event.done.next) (stand.addresses (target_of event.done.pc) (omega arith))
      ∙ rw is refl
