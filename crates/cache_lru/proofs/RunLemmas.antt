-- The costs of a run's events, with branches and without.
use Rattle.std.proofs.Common.{◌≡◌, Bool, true, false, List, [], ◌∷◌, ◌++◌, refl, ap, subst, ◌∙◌}
use Rattle.std.specs.Prelude.{Option, Some, None}
use Rattle.event_costs.specs.declared.event.Event.{Event}
use Rattle.event_costs.specs.declared.event.Branch.TheVariants.{Nothing}
use Rattle.cache_lru.specs.Branches.{Tables, TablesStandFor, branch_counts, fails_after}
use Rattle.cache_lru.proofs.BranchLemmas.{stands-none}
use Rattle.event_costs.specs.declared.kind.Kind.{Kind}
use Rattle.event_costs.specs.declared.kind.Kind.TheVariants.{Bc, Bcm, Bi, Bim}
use Rattle.event_costs.specs.Kinds.{cost_by}
use Rattle.cache_lru.specs.Costs.{EventMisses, Shapes, TablesStandWhere, counts_as_branch, counts_by, event_cost}
use Rattle.cache_lru.specs.Costs.{misses_after}

-- what an event costs, from what it misses and as which kinds its branch counts
pub event_cost-is : (branches : Bool) (shapes : Shapes) (events : List Event) (event : Event) (misses : EventMisses)
    (branch : Kind → Bool)
    → misses ≡ misses_after shapes events event
    → ((kind : Kind) → branch kind ≡ counts_as_branch branches events event kind)
    → cost_by (counts_by event.done.touch misses branch) ≡ event_cost branches shapes events event
unfolding event_cost
event_cost-is branches shapes events event misses branch is branch_is =
    λ i. cost_by (counts_by event.done.touch (is i) (λ kind. branch_is kind i))

-- where branches aren't asked for there is nothing to keep up with the events
pub without : (branches : Bool) (tables : Option Tables) (events others : List Event)
    → TablesStandWhere branches tables events
    → ((those : Tables) → tables ≡ Some those → ⊥) → TablesStandWhere branches tables others
without true None events others stand none = stand
without true (Some those) events others stand none = absurd (none those refl)
without false None events others stand none = tt
without false (Some those) events others stand none = stand

-- and where there are predictors, branches are asked for
pub asked : (branches : Bool) (tables : Option Tables) (events : List Event) (those : Tables)
    → TablesStandWhere branches tables events
    → tables ≡ Some those → (branches ≡ true) × TablesStandFor those events
asked true tables events those stand some =
    (refl, subst (λ (t : Option Tables). TablesStandWhere true t events) some stand)
asked false tables events those stand some =
    absurd (subst (λ (t : Option Tables). TablesStandWhere false t events) some stand)

pub unasked : (branches : Bool) (tables : Option Tables) (events : List Event) → TablesStandWhere branches tables events
    → ((those : Tables) → tables ≡ Some those → ⊥) → branches ≡ false
unasked true None events stand none = absurd stand
unasked true (Some those) events stand none = absurd (none those refl)
unasked false tables events stand none = refl

-- where there are no predictors
pub unbranched : (branches : Bool) (tables : Option Tables) (events : List Event) (event : Event)
    → TablesStandWhere branches tables events → tables ≡ None
    → (kind : Kind) → counts_as_branch branches events event kind ≡ false
unbranched true None events event stand none kind = absurd stand
unbranched true (Some those) events event stand none kind = cc
unbranched false tables events event stand none kind = refl

pub unpredicted : (branches : Bool) (tables : Option Tables) (events others : List Event)
    → TablesStandWhere branches tables events → tables ≡ None → TablesStandWhere branches tables others
unpredicted branches tables events others stand none =
    without branches tables events others stand (λ those some. cc)

-- an event that is no branch
none_counts : (fails : Bool) (kind : Kind) → branch_counts Nothing fails kind ≡ false
none_counts fails Bc = refl
none_counts fails Bcm = refl
none_counts fails Bi = refl
none_counts fails Bim = refl
none_counts fails _ = refl

pub no_kinds : (branches : Bool) (events : List Event) (event : Event) → event.done.branch ≡ Nothing
    → (kind : Kind) → counts_as_branch branches events event kind ≡ false
no_kinds true events event is kind =
    ap (λ branch. branch_counts branch (fails_after events event) kind) is
    ∙ none_counts (fails_after events event) kind
no_kinds false events event is kind = refl

pub still_stand : (branches : Bool) (tables : Option Tables) (events : List Event) (event : Event)
    → event.done.branch ≡ Nothing → TablesStandWhere branches tables events
    → TablesStandWhere branches tables (events ++ event ∷ [])
still_stand true None events event is stand = stand
still_stand true (Some those) events event is stand = stands-none those events event stand is
still_stand false None events event is stand = tt
still_stand false (Some those) events event is stand = stand
