-- The branches of events and how they are predicted. All threads share the predictors. The rules are this project's
-- own.
use Rattle.std.specs.Prelude.{◌≡◌, ℕ, ◌+◌, ◌-◌, ◌/◌, ◌%◌, ◌<◌, ◌==◌, nat_le, min, Bool, true, false, not, ◌&&◌}
use Rattle.std.specs.Prelude.{if◌then◌else◌}
use Rattle.std.specs.Prelude.{List, [], ◌∷◌, filter, fold, slice_index}
use Rattle.std.specs.List.{flat_map}
use Rattle.event_costs.specs.declared.event.Event.{Event}
use Rattle.event_costs.specs.declared.event.Branch.{Branch}
use Rattle.event_costs.specs.declared.event.Branch.TheVariants.{Nothing, Cond, Indirect}
use Rattle.event_costs.specs.declared.kind.Kind.{Kind}
use Rattle.event_costs.specs.declared.kind.Kind.TheVariants.{Bc, Bcm, Bi, Bim}

-- A conditional branch at a pc uses one of 16,384 counters, and an indirect one one of 512 targets.
abbrev pub counter_of : ℕ → ℕ
counter_of pc = pc / 4 % 16384

abbrev pub target_of : ℕ → ℕ
target_of pc = pc / 4 % 512

-- whether a conditional branch was taken
abbrev pub outcome_of : Branch → List Bool
outcome_of (Cond taken) = taken ∷ []
outcome_of _ = []

-- where an indirect branch went
abbrev pub destination_of : Branch → ℕ → List ℕ
destination_of Indirect next = next ∷ []
destination_of _ next = []

-- the outcomes of the conditional branches that use a counter, oldest first
abbrev pub outcomes : ℕ → List Event → List Bool
outcomes counter events =
    flat_map (λ event. outcome_of event.done.branch) (filter (λ event. counter_of event.done.pc == counter) events)

-- the destinations of the indirect branches that use a target, oldest first
abbrev pub destinations : ℕ → List Event → List ℕ
destinations target events =
    flat_map (λ event. destination_of event.done.branch event.done.next)
    (filter (λ event. target_of event.done.pc == target) events)

-- a counter rises by 1 up to 3 where a branch was taken, and falls by 1 down to 0 where it wasn't
abbrev pub counter_after : ℕ → Bool → ℕ
counter_after count taken = if taken then min (count + 1) 3 else count - 1

-- the count of a counter after these events: it begins at 0
abbrev pub count_at : ℕ → List Event → ℕ
count_at counter events = fold counter_after 0 (outcomes counter events)

-- the address that a target holds: where the last of its branches went, and 0 at first
abbrev pub address_at : ℕ → List Event → ℕ
address_at target events = fold (λ _ address. address) 0 (destinations target events)

-- A branch is predicted taken where its counter is at least 2; the prediction fails where the outcome is the other one.
abbrev pub outcome_fails : ℕ → Bool → Bool
outcome_fails count taken = if taken then not (nat_le 2 count) else nat_le 2 count

-- An indirect branch is predicted to go to its target's address.
abbrev pub destination_fails : ℕ → ℕ → Bool
destination_fails address next = not (address == next)

-- The prediction fails, from the count of its counter or the address of its target. All that is no branch isn't
-- predicted.
abbrev pub branch_fails : Branch → ℕ → ℕ → ℕ → Bool
branch_fails Nothing count address next = false
branch_fails (Cond taken) count address next = outcome_fails count taken
branch_fails Indirect count address next = destination_fails address next

-- that of an event after the events before it
abbrev pub fails_after : List Event → Event → Bool
fails_after before event =
    let pc = event.done.pc in
    branch_fails event.done.branch (count_at (counter_of pc) before) (address_at (target_of pc) before) event.done.next

abbrev pub is_conditional : Branch → Bool
is_conditional (Cond taken) = true
is_conditional _ = false

abbrev pub is_indirect : Branch → Bool
is_indirect Indirect = true
is_indirect _ = false

-- whether a branch counts as a kind of event, from whether its prediction fails
abbrev pub branch_counts : Branch → Bool → Kind → Bool
branch_counts branch fails Bc = is_conditional branch
branch_counts branch fails Bcm = is_conditional branch && fails
branch_counts branch fails Bi = is_indirect branch
branch_counts branch fails Bim = is_indirect branch && fails
branch_counts branch fails _ = false

-- the counts of the counters and the addresses of the targets
pub record Tables : Type 0 where
  pub counts : List ℕ
  pub addresses : List ℕ

-- Tables stand for a list of events where each counter and each target is as these leave it.
pub record TablesStandFor (tables : Tables) (events : List Event) : Type 0 where
  pub counts : (counter : ℕ) → counter < 16384 → slice_index tables.counts counter ≡ count_at counter events
  pub addresses : (target : ℕ) → target < 512 → slice_index tables.addresses target ≡ address_at target events
