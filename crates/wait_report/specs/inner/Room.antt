-- The room that is kept for the next step.
use Rattle.std.specs.Prelude.{◌≡◌, ℕ, ◌+◌, ◌<◌, ◌≤◌, ◌^◌, All, List, [], ◌∷◌, ◌++◌}
use Rattle.std.specs.Prelude.{Option, None, Some, IfSome}
use Rattle.std.specs.Prelude.{◌==◌, Bool, if◌then◌else◌, map, filter}
use Rattle.std.specs.List.{AllZip, IsDistinct}
use Rattle.std.specs.List.Sorted.{IsPermutation, IsSorted}
use Rattle.std.specs.Map.{keys_of}
use Rattle.std.specs.Ordering.{ordering_then}
use Rattle.std.specs.declared.cmp.Ordering.{Ordering}
use Rattle.std.proofs.Common.{arith}
use Rattle.indexmap.specs.IndexMap.{spare}
use Rattle.event_costs.specs.declared.numbers.ThreadNo.{ThreadNo}
use Rattle.event_costs.specs.Costs.{difference_of_costs, sum_of_costs}
use Rattle.wait_report.specs.Keeping.{WaitBooks, open_count, open_of, same_wake, spot, sum_of, times_of}
use Rattle.shadow_stack.specs.Traces.{EventOnStack}
use Rattle.part_dump.specs.Steps.{Step}
use Rattle.wait_report.specs.Standing.{StandsFor, step}
use Rattle.wait_report.specs.declared.books.Books.{Books}
use Rattle.wait_report.specs.Rows.{same_spot, spot_order, thread_order}
use Rattle.wait_report.specs.declared.books.Open.{Open}
use Rattle.wait_report.specs.declared.books.Spot.{Spot}
use Rattle.wait_report.specs.declared.books.Wake.{Wake}
use Rattle.wait_report.specs.declared.rows.Waker.{Waker}

abbrev pub books_of : Books → WaitBooks
books_of b = record {
  total = b.total;
  waiting = b.waiting.entries;
  sums = b.sums.entries;
  wakes = b.wakes.entries;
}

-- each map takes so many new keys without memory
pub record HasRoom (most : ℕ) (b : Books) : Type 0 where
  pub waiting : most ≤ spare b.waiting
  pub sums : most ≤ b.sums.spare
  pub wakes : most ≤ b.wakes.spare

-- for a wait more, and for a wake of each thread that waits
abbrev pub HasRoomForStep : Books → Type 0
HasRoomForStep b = HasRoom (open_count b.waiting.entries + 1) b

pub less_room : (most less : ℕ) (b : Books) → less ≤ most → HasRoom most b → HasRoom less b
less_room most less b below room = record {
  waiting = omega (arith, below, room.waiting);
  sums = omega (arith, below, room.sums);
  wakes = omega (arith, below, room.wakes);
}

-- Since an open wait of the thread began, the total has not fallen, and what it has risen by can be added to the cost
-- of the waits there that were ended.
pub record HasSpan (k : WaitBooks) (thread : ThreadNo) (o : Open) : Type 0 where
  pub covered : AllZip (λ x y. y ≤ x) k.total o.start
  pub fits : All (λ n. n < 2 ^ 64)
      (sum_of_costs (sum_of (spot thread o.word) k).cost (difference_of_costs k.total o.start))

-- so it is with each open wait
abbrev pub IsSound : WaitBooks → Type 0
IsSound k = (thread : ThreadNo) → IfSome (open_of thread k) (HasSpan k thread)

-- the open wait of a thread can be ended by another
pub record CanEnd (k : WaitBooks) (waker thread : ThreadNo) (o : Open) : Type 0 where
  pub span : HasSpan k thread o
  pub times : times_of (record { spot = spot thread o.word; waker = waker }) k + 1 < 2 ^ 64

-- A step of the thread has passed, of which nothing was told yet but what was seen.
pub record HasPassed (k : WaitBooks) (waker : ThreadNo) : Type 0 where
  pub earlier : List Step
  pub on_stack : EventOnStack
  pub is : on_stack.event.thread ≡ waker
  pub stands : StandsFor k (earlier ++ step on_stack None [] ∷ [])

-- ---- what a row is made of

abbrev pub only_at : ℕ → Option Open → Option Open
only_at word None = None
only_at word (Some o) = if o.word == word then Some o else None

abbrev pub is_wake_of : Spot → Wake → Bool
is_wake_of s w = same_spot w.spot s

-- the threads of the wakes at a spot
abbrev pub wakers_of : Spot → List Wake → List ThreadNo
wakers_of s ws = map (λ w. w.waker) (filter (is_wake_of s) ws)

-- by spot, then waker
abbrev pub wake_order : Wake → Wake → Ordering
wake_order a b = ordering_then (spot_order a.spot b.spot) (thread_order a.waker b.waker)

-- the wakes that are kept, in this order
pub record AreInOrder (k : WaitBooks) (ws : List Wake) : Type 0 where
  pub same : IsPermutation (keys_of k.wakes) ws
  pub apart : IsDistinct same_wake (keys_of k.wakes)
  pub order : IsSorted wake_order ws

abbrev pub waker_in : Spot → WaitBooks → ThreadNo → Waker
waker_in s k thread = record { thread = thread; times = times_of (record { spot = s; waker = thread }) k }
