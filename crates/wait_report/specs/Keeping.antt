-- What is kept of the waits of a run, and what each call makes of it.
use Rattle.std.specs.Prelude.{ℕ, ◌+◌, ◌<◌, ◌==◌, ◌&&◌, Bool, not, nat_le, if◌then◌else◌, List, [], length, count_by, fold}
use Rattle.std.specs.Prelude.{Option, None, Some, is_some, unwrap_or}
use Rattle.std.specs.Map.{lookup}
use Rattle.event_costs.specs.Costs.{difference_of_costs, no_cost, sum_of_costs}
use Rattle.event_costs.specs.declared.numbers.ThreadNo.{ThreadNo}
use Rattle.cg_format.specs.Part.{part_text}
use Rattle.part_dump.specs.Watching.{Meaning}
use Rattle.indexmap.specs.IndexMap.{insert_entry}
use Rattle.wait_report.specs.Rows.{same_spot}
use Rattle.wait_report.specs.declared.books.Open.{Open}
use Rattle.wait_report.specs.declared.books.Spot.{Spot}
use Rattle.wait_report.specs.declared.books.Sum.{Sum}
use Rattle.wait_report.specs.declared.books.Wake.{Wake}

-- The cost of all events; of each thread that has waited, its open wait; of each spot, the waits that began and the
-- cost of those that were ended; and how often a thread has ended a wait at a spot.
pub record WaitBooks : Type 0 where
  pub total : List ℕ
  pub waiting : List (ThreadNo × Option Open)
  pub sums : List (Spot × Sum)
  pub wakes : List (Wake × ℕ)

-- what is kept, and how many rows more each of its three lists takes without memory
pub record WaitState : Type 0 where
  pub books : WaitBooks
  pub room : ℕ

abbrev pub same_thread : ThreadNo → ThreadNo → Bool
same_thread a b = a.0 == b.0

abbrev pub same_wake : Wake → Wake → Bool
same_wake a b = same_spot a.spot b.spot && a.waker.0 == b.waker.0

-- nothing has happened
abbrev pub nothing : WaitBooks
nothing = record { total = no_cost; waiting = []; sums = []; wakes = [] }

-- ---- what is kept of a thread, and of a spot

abbrev pub flat : Option (Option Open) → Option Open
flat None = None
flat (Some o) = o

abbrev pub open_of : ThreadNo → WaitBooks → Option Open
open_of thread k = flat (lookup (same_thread thread) k.waiting)

abbrev pub sum_of : Spot → WaitBooks → Sum
sum_of spot k = unwrap_or (lookup (same_spot spot) k.sums) (record { waits = 0; cost = no_cost })

abbrev pub times_of : Wake → WaitBooks → ℕ
times_of wake k = unwrap_or (lookup (same_wake wake) k.wakes) 0

-- ---- a step

-- an event passes
abbrev pub after_event : List ℕ → WaitBooks → WaitBooks
after_event cost k = record k { total = sum_of_costs k.total cost }

abbrev pub spot : ThreadNo → ℕ → Spot
spot thread word = record { thread = thread; word = word }

abbrev pub begun_sum : Sum → Sum
begun_sum s = record { waits = s.waits + 1; cost = s.cost }

abbrev pub ended_sum : Sum → List ℕ → Sum
ended_sum s cost = record { waits = s.waits; cost = sum_of_costs s.cost cost }

-- a thread begins to wait at a word
abbrev pub begins : ThreadNo → ℕ → WaitBooks → WaitBooks
begins thread word k = record {
  total = k.total;
  waiting = insert_entry same_thread k.waiting thread (Some (record { word = word; start = k.total }));
  sums = insert_entry same_spot k.sums (spot thread word) (begun_sum (sum_of (spot thread word) k));
  wakes = k.wakes;
}

-- the open wait of a thread is ended by another
abbrev pub ends : ThreadNo → ThreadNo → Open → WaitBooks → WaitBooks
ends waker thread o k = record {
  total = k.total;
  waiting = insert_entry same_thread k.waiting thread None;
  sums = insert_entry same_spot k.sums (spot thread o.word)
      (ended_sum (sum_of (spot thread o.word) k) (difference_of_costs k.total o.start));
  wakes = insert_entry same_wake k.wakes (record { spot = spot thread o.word; waker = waker })
      (times_of (record { spot = spot thread o.word; waker = waker }) k + 1);
}

abbrev pub ends_open : ThreadNo → ThreadNo → Option Open → WaitBooks → WaitBooks
ends_open waker thread None k = k
ends_open waker thread (Some o) k = ends waker thread o k

-- a thread is woken by another; where it has no open wait, nothing is ended
abbrev pub wakes : ThreadNo → WaitBooks → ThreadNo → WaitBooks
wakes waker k thread = ends_open waker thread (open_of thread k) k

abbrev pub wakes_all : ThreadNo → List ThreadNo → WaitBooks → WaitBooks
wakes_all waker woken k = fold (wakes waker) k woken

abbrev pub begins_any : ThreadNo → Option ℕ → WaitBooks → WaitBooks
begins_any thread None k = k
begins_any thread (Some word) k = begins thread word k

-- a step of a thread, which ends the waits of those that it wakes, and in which the thread may begin to wait
abbrev pub steps : ThreadNo → List ℕ → Option ℕ → List ThreadNo → WaitBooks → WaitBooks
steps thread cost wait woken k = begins_any thread wait (wakes_all thread woken (after_event cost k))

-- ---- room

-- how many threads have an open wait
abbrev pub open_count : List (ThreadNo × Option Open) → ℕ
open_count es = count_by (λ e. is_some e.1) es

-- for a wait more, and for a wake of each thread that waits
abbrev pub IsRoomy : WaitState → Type 0
IsRoomy w = open_count w.books.waiting < w.room

-- room is made for a wait more, and for a wake of each thread that has waited
abbrev pub roomy : WaitState → WaitState
roomy w = record w { room = if nat_le w.room (length w.books.waiting) then length w.books.waiting + 1 else w.room }

-- a step in which no wait begins or ends
abbrev pub is_quiet : Option ℕ → List ThreadNo → Bool
is_quiet wait woken = not (is_some wait) && (length woken == 0)

abbrev pub watching : Meaning WaitState
watching = record {
  after_ready = λ w thread pc syms. roomy w;
  after_seen = λ w event cost wait woken syms. record {
    books = steps event.thread cost wait woken w.books;
    room = if is_quiet wait woken then w.room else 0;
  };
  after_part = λ w head rows syms. w;
  text = λ w head rows syms. part_text head rows syms;
}
