-- The rows of a trace's waits: the waits of one thread at one word are joined.
use Rattle.std.specs.Prelude.{ℕ, ◌==◌, ◌&&◌, nat_lt, Bool, if◌then◌else◌, List, map, filter, count_by, sum_by}
use Rattle.std.specs.Prelude.{flat_map}
use Rattle.std.specs.Option.{option_to_list}
use Rattle.std.specs.Ordering.{nat_cmp, ordering_then}
use Rattle.std.specs.declared.cmp.Ordering.{Ordering}
use Rattle.event_costs.specs.declared.numbers.ThreadNo.{ThreadNo}
use Rattle.arc_costs.specs.Keys.{by_kind, risen}
use Rattle.part_dump.specs.Steps.{Step}
use Rattle.wait_report.specs.Waits.{Wait, cost_of, is_ended_by, is_open, waits_in}
use Rattle.wait_report.specs.declared.books.Spot.{Spot}
use Rattle.wait_report.specs.declared.rows.WaitRow.{WaitRow}
use Rattle.wait_report.specs.declared.rows.Waker.{Waker}

-- ---- where waits began: a thread and a word

abbrev pub thread_no : ℕ → ThreadNo
thread_no thread = record { 0 = thread }

abbrev pub spot_of : Wait → Spot
spot_of w = record { thread = thread_no w.thread; word = w.word }

abbrev pub same_spot : Spot → Spot → Bool
same_spot a b = a.thread.0 == b.thread.0 && a.word == b.word

-- by thread, then word
abbrev pub spot_order : Spot → Spot → Ordering
spot_order a b = ordering_then (nat_cmp a.thread.0 b.thread.0) (nat_cmp a.word b.word)

abbrev pub thread_order : ThreadNo → ThreadNo → Ordering
thread_order a b = nat_cmp a.0 b.0

-- ---- what the waits of one spot come to

abbrev pub is_at : Spot → Wait → Bool
is_at spot w = same_spot spot (spot_of w)

-- how many there are, how many of them are open, and how many a thread has ended
abbrev pub waits_at : Spot → List Step → ℕ
waits_at spot xs = count_by (is_at spot) (waits_in xs)

abbrev pub open_at : Spot → List Step → ℕ
open_at spot xs = count_by (λ w. is_at spot w && is_open w) (waits_in xs)

abbrev pub ended_at : Spot → ThreadNo → List Step → ℕ
ended_at spot waker xs = count_by (λ w. is_at spot w && is_ended_by waker.0 w) (waits_in xs)

-- the sum of their costs, for a kind of event
abbrev pub cost_at : ℕ → Spot → List Step → ℕ
cost_at kind spot xs = sum_by (λ w. if is_at spot w then cost_of kind w.span else 0) (waits_in xs)

-- ---- rows

-- the spots of all waits
abbrev pub spots_of : List Step → List Spot
spots_of xs = risen spot_order (map spot_of (waits_in xs))

-- the threads that have ended waits of a spot
abbrev pub enders_at : Spot → List Step → List ThreadNo
enders_at spot xs =
    risen thread_order
    (flat_map (λ w. map thread_no (option_to_list w.waker)) (filter (is_at spot) (waits_in xs)))

abbrev pub waker_at : Spot → List Step → ThreadNo → Waker
waker_at spot xs thread = record { thread = thread; times = ended_at spot thread xs }

abbrev pub wakers_at : Spot → List Step → List Waker
wakers_at spot xs = map (waker_at spot xs) (enders_at spot xs)

abbrev pub row_at : List Step → Spot → WaitRow
row_at xs spot = record {
  thread = spot.thread;
  word = spot.word;
  waits = waits_at spot xs;
  unwoken = nat_lt 0 (open_at spot xs);
  cost = by_kind (λ kind. cost_at kind spot xs);
  wakers = wakers_at spot xs;
}

-- the rows of a trace, by rising thread and word
unfoldable pub wait_rows : List Step → List WaitRow
wait_rows xs = map (row_at xs) (spots_of xs)
