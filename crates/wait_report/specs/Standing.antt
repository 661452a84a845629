-- When what is kept stands for the steps of a run, and which steps may be told.
use Rattle.std.specs.Prelude.{◌≡◌, ℕ, ◌+◌, ◌<◌, ◌≤◌, ◌^◌, ◌==◌, nat_lt, false, if◌then◌else◌, List, [], ◌∷◌}
use Rattle.std.specs.Prelude.{◌++◌, All, length, slice_index, sum_by, Option, None, Some, is_some}
use Rattle.std.specs.Map.{lookup}
use Rattle.event_costs.specs.Costs.{IsWhole}
use Rattle.event_costs.specs.declared.event.Event.{Event}
use Rattle.event_costs.specs.declared.numbers.ThreadNo.{ThreadNo}
use Rattle.sym_map.specs.SymbolMap.{SymbolMap}
use Rattle.shadow_stack.specs.Traces.{EventOnStack}
use Rattle.part_dump.specs.Steps.{Step, thread_of}
use Rattle.part_dump.specs.Watched.{most_steps, waits}
use Rattle.wait_report.specs.Keeping.{IsRoomy, WaitBooks, WaitState, open_of, same_wake, spot, sum_of, times_of}
use Rattle.wait_report.specs.Rows.{cost_at, ended_at, open_at, same_spot, wait_rows, waits_at}
use Rattle.wait_report.specs.Waits.{cost_of}
use Rattle.wait_report.specs.declared.books.Open.{Open}
use Rattle.wait_report.specs.declared.books.Spot.{Spot}
use Rattle.wait_report.specs.declared.books.Wake.{Wake}

-- ---- what is kept stands for steps

-- the open waits of a thread: none, or this one
abbrev pub AreOpen : List Step → ThreadNo → Option Open → Type 0
AreOpen xs thread None = (word : ℕ) → open_at (spot thread word) xs ≡ 0
AreOpen xs thread (Some o) =
    IsWhole o.start × ((word : ℕ) → open_at (spot thread word) xs ≡ (if o.word == word then 1 else 0))

-- The cost of the waits at a word, from that of those that were ended, where this wait of the thread is open: since an
-- open wait at the word began, the total has risen by its cost.
abbrev pub IsCost : List ℕ → ℕ → List ℕ → (ℕ → ℕ) → Option Open → Type 0
IsCost total word ended cost None = (kind : ℕ) → cost kind ≡ slice_index ended kind
IsCost total word ended cost (Some o) = (kind : ℕ)
    → (slice_index o.start kind ≤ slice_index total kind)
    × (cost kind + (if o.word == word then slice_index o.start kind else 0)
    ≡ slice_index ended kind + (if o.word == word then slice_index total kind else 0))

pub record StandsFor (k : WaitBooks) (xs : List Step) : Type 0 where
  -- the steps are few, and each counts each kind of event at most once
  pub few : length xs ≤ most_steps
  pub ones : (kind : ℕ) → cost_of kind xs ≤ length xs
  pub whole : IsWhole k.total
  pub total : (kind : ℕ) → slice_index k.total kind ≡ cost_of kind xs
  -- who waits has an open wait
  pub asleep : (thread : ThreadNo) → waits thread.0 xs ≡ is_some (open_of thread k)
  pub waiting : (thread : ThreadNo) → AreOpen xs thread (open_of thread k)
  pub known : (s : Spot) → is_some (lookup (same_spot s) k.sums) ≡ nat_lt 0 (waits_at s xs)
  pub waits : (s : Spot) → (sum_of s k).waits ≡ waits_at s xs
  pub whole_sums : (s : Spot) → IsWhole (sum_of s k).cost
  pub costs : (s : Spot)
      → IsCost k.total s.word (sum_of s k).cost (λ kind. cost_at kind s xs) (open_of s.thread k)
  -- one thread waits once at a time
  pub within : (kind : ℕ) (s : Spot) → cost_at kind s xs ≤ cost_of kind xs
  pub known_wakes : (w : Wake) → is_some (lookup (same_wake w) k.wakes) ≡ nat_lt 0 (ended_at w.spot w.waker xs)
  pub ended : (w : Wake) → times_of w k ≡ ended_at w.spot w.waker xs

-- ---- what may be told

-- A step that may follow these: its cost counts each kind of event at most once, and its thread doesn't wait.
pub record MayFollow (earlier : List Step) (x : Step) : Type 0 where
  pub whole : IsWhole x.on_stack.cost
  pub ones : All (λ n. n ≤ 1) x.on_stack.cost
  pub room : length earlier < most_steps
  pub awake : waits (thread_of x) earlier ≡ false

-- each of the steps that follow these may follow those before it
abbrev pub MayAllFollow : List Step → List Step → Type 0
MayAllFollow earlier [] = Unit {0}
MayAllFollow earlier (x ∷ xs) = MayFollow earlier x × MayAllFollow (earlier ++ x ∷ []) xs

-- The costs of all rows together have 64 bits.
abbrev pub HaveSums : List Step → Type 0
HaveSums xs = (kind : ℕ) → sum_by (λ row. slice_index row.cost kind) (wait_rows xs) < 2 ^ 64

-- a step of what was seen
abbrev pub step : EventOnStack → Option ℕ → List ThreadNo → Step
step seen wait woken = record { on_stack = seen; wait = wait; woken = woken }

-- a step as it is told; the stack of its thread is left out
abbrev pub told_step : Event → List ℕ → Option ℕ → List ThreadNo → Step
told_step event cost wait woken = step (record { event = event; cost = cost; stack = [] }) wait woken

-- A step may be told where there is room, and the state stands for steps that it may follow.
pub record CanSee (w : WaitState) (event : Event) (cost : List ℕ) (wait : Option ℕ) (woken : List ThreadNo)
    (syms : SymbolMap) : Type 0 where
  pub room : IsRoomy w
  pub earlier : List Step
  pub stands : StandsFor w.books earlier
  pub follows : MayFollow earlier (told_step event cost wait woken)
