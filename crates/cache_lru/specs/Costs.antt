-- The cost of an event after the events before it, of all threads: they share the caches. The numbers have the names
-- and the order of Callgrind's events (Valgrind manual, Callgrind, "Cache simulation options").
use Rattle.std.specs.Prelude.{ℕ, ◌+◌, ◌^◌, ◌≤◌, Bool, true, false, ◌&&◌, List, Option, Some, None, [], ◌∷◌}
use Rattle.std.specs.Prelude.{◌++◌, map, if◌then◌else◌}
use Rattle.std.specs.List.{list_any, flat_map}
use Rattle.event_costs.specs.declared.event.Event.{Event}
use Rattle.event_costs.specs.declared.event.Touch.{Touch}
use Rattle.event_costs.specs.declared.event.Touch.TheVariants.{Nothing, Read, Write}
use Rattle.event_costs.specs.declared.kind.Kind.{Kind}
use Rattle.event_costs.specs.declared.kind.Kind.TheVariants.{Ir, Dr, Dw, I1mr, D1mr, D1mw, ILmr, DLmr, DLmw}
use Rattle.event_costs.specs.Kinds.{cost_by}
use Rattle.cache_lru.specs.Shape.{Shape}
use Rattle.cache_lru.specs.History.{Access, history_of, access_misses}
use Rattle.cache_lru.specs.Lines.{Cache, StandsFor}
use Rattle.cache_lru.specs.Branches.{Tables, TablesStandFor, branch_counts, fails_after}

-- the shapes of the cache of instructions, that of data and the last level
pub record Shapes : Type 0 where
  pub i1 : Shape
  pub d1 : Shape
  pub ll : Shape

-- the fetch of an instruction
abbrev pub fetch_of : Event → Access
fetch_of event = record { addr = event.done.pc; len = 4 }

-- a data reference, if there is one
abbrev pub access_of : Touch → List Access
access_of Nothing = []
access_of (Read addr len) = record { addr = addr; len = len } ∷ []
access_of (Write addr len) = record { addr = addr; len = len } ∷ []

abbrev pub data_of : Event → List Access
data_of event = access_of event.done.touch

abbrev pub is_read : Touch → Bool
is_read (Read _ _) = true
is_read _ = false

abbrev pub is_write : Touch → Bool
is_write (Write _ _) = true
is_write _ = false

-- a data reference has 1 to 4 bytes and ends within the address space
abbrev pub CanRefer : Touch → Type 0
CanRefer Nothing = Unit {0}
CanRefer (Read addr len) = (1 ≤ len) × (len ≤ 4) × (addr + len ≤ 2 ^ 32)
CanRefer (Write addr len) = (1 ≤ len) × (len ≤ 4) × (addr + len ≤ 2 ^ 32)

-- what a function of the elements before it and of the element gives for each element of a list that follows others
abbrev pub each_after : {E A : Type 0} → (List E → E → A) → List E → List E → List A
each_after f earlier [] = []
each_after f earlier (x ∷ xs) = f earlier x ∷ each_after f (earlier ++ x ∷ []) xs

-- the fetches of events, and their data references
abbrev pub fetches : List Event → List Access
fetches events = map fetch_of events

abbrev pub data_references : List Event → List Access
data_references events = flat_map data_of events

-- the fetch of an event misses in I1, and its data reference in D1
abbrev pub misses_i1 : Shapes → List Event → Event → Bool
misses_i1 shapes before event = access_misses shapes.i1 (fetches before) (fetch_of event)

abbrev pub misses_d1 : Shapes → List Event → Event → Bool
misses_d1 shapes before event = list_any (access_misses shapes.d1 (data_references before)) (data_of event)

-- accesses as far as they go on to LL, where the first level has this shape and was referred to by these before
abbrev pub onward_of : Shape → List Access → List Access → List Access
onward_of shape earlier accesses = if list_any (access_misses shape earlier) accesses then accesses else []

-- the fetch of an event as far as it goes on to LL, and its data reference
abbrev pub onward_fetch : Shapes → List Event → Event → List Access
onward_fetch shapes before event = if misses_i1 shapes before event then fetch_of event ∷ [] else []

abbrev pub onward_data : Shapes → List Event → Event → List Access
onward_data shapes before event = onward_of shapes.d1 (data_references before) (data_of event)

-- the accesses of events that go to LL: those that missed in I1 or D1, in their order
abbrev pub onward : Shapes → List Event → List Access
onward shapes events =
    flat_map (λ accesses. accesses)
    (each_after (λ before event. onward_fetch shapes before event ++ onward_data shapes before event) [] events)

-- the data reference of an event misses in LL too; it comes after the fetch
abbrev pub data_misses_ll : Shapes → List Event → Event → Bool
data_misses_ll shapes before event =
    list_any (access_misses shapes.ll (onward shapes before ++ onward_fetch shapes before event))
    (onward_data shapes before event)

-- what an event misses: its fetch and its data reference in I1 and D1, and then in LL
pub record EventMisses : Type 0 where
  pub fetch : Bool
  pub reference : Bool
  pub fetch_in_last : Bool
  pub reference_in_last : Bool

abbrev pub misses_after : Shapes → List Event → Event → EventMisses
misses_after shapes before event = record {
  fetch = misses_i1 shapes before event;
  reference = misses_d1 shapes before event;
  fetch_in_last = list_any (access_misses shapes.ll (onward shapes before)) (onward_fetch shapes before event);
  reference_in_last = data_misses_ll shapes before event;
}

-- whether an event counts as a kind, from its data reference, what it misses, and its branch
abbrev pub counts_by : Touch → EventMisses → (Kind → Bool) → Kind → Bool
counts_by touch misses branch Ir = true
counts_by touch misses branch Dr = is_read touch
counts_by touch misses branch Dw = is_write touch
counts_by touch misses branch I1mr = misses.fetch
counts_by touch misses branch D1mr = is_read touch && misses.reference
counts_by touch misses branch D1mw = is_write touch && misses.reference
counts_by touch misses branch ILmr = misses.fetch_in_last
counts_by touch misses branch DLmr = is_read touch && misses.reference_in_last
counts_by touch misses branch DLmw = is_write touch && misses.reference_in_last
counts_by touch misses branch kind = branch kind

-- as no kind at all
abbrev pub no_kind : Kind → Bool
no_kind kind = false

-- whether an event counts as a kind of branches after the events before it, oldest first, if they are asked for
abbrev pub counts_as_branch : Bool → List Event → Event → Kind → Bool
counts_as_branch branches before event kind =
    branches && branch_counts event.done.branch (fails_after before event) kind

-- The cost of an event after the events before it: 1 for each kind of event that it counts as, else 0.
unfoldable pub event_cost : Bool → Shapes → List Event → Event → List ℕ
event_cost branches shapes before event =
    cost_by (counts_by event.done.touch (misses_after shapes before event) (counts_as_branch branches before event))

-- the costs of the events of a list, in their order: that of each after all events before it, of any thread
abbrev pub event_costs : Bool → Shapes → List Event → List (List ℕ)
event_costs branches shapes events = each_after (event_cost branches shapes) [] events

-- the same where branches aren't asked for
abbrev pub cost_after : Shapes → List Event → Event → List ℕ
cost_after shapes before event = event_cost false shapes before event

abbrev pub costs_of : Shapes → List Event → List (List ℕ)
costs_of shapes events = each_after (cost_after shapes) [] events

-- what branches alone cost
unfoldable pub branch_cost_after : List Event → Event → List ℕ
branch_cost_after before event = cost_by (branch_counts event.done.branch (fails_after before event))

-- what three caches keep
pub record Caches : Type 0 where
  pub i1 : Cache
  pub d1 : Cache
  pub ll : Cache

-- Three caches of these shapes stand for a list of events where each stands for the history that these give it.
pub record StandForEvents (shapes : Shapes) (caches : Caches) (events : List Event) : Type 0 where
  pub i1 : StandsFor shapes.i1 caches.i1 (history_of shapes.i1 (fetches events))
  pub d1 : StandsFor shapes.d1 caches.d1 (history_of shapes.d1 (data_references events))
  pub ll : StandsFor shapes.ll caches.ll (history_of shapes.ll (onward shapes events))

-- What gives each event of a run its cost: the caches, and where branches are asked for the tables of the predictors.
pub record RunCosts : Type 0 where
  pub caches : Caches
  pub tables : Option Tables

abbrev pub TablesStandWhere : Bool → Option Tables → List Event → Type 0
TablesStandWhere true (Some tables) events = TablesStandFor tables events
TablesStandWhere false None events = Unit {0}
TablesStandWhere true None events = ⊥
TablesStandWhere false (Some tables) events = ⊥

-- They stand for a list of events where the caches do, and where the predictors are there exactly if asked for, and do
-- too.
pub record StandForRun (branches : Bool) (shapes : Shapes) (kept : RunCosts) (events : List Event) : Type 0 where
  pub caches : StandForEvents shapes kept.caches events
  pub tables : TablesStandWhere branches kept.tables events
