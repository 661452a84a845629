-- Sums over segments and threads, the arcs that they have, and what one thread's events decide.
use Rattle.std.specs.Prelude.{◌≡◌, ◌≢◌, ℕ, List, [], ◌∷◌, take, drop, filter, sum_by, Some, true}
use Rattle.event_costs.specs.Keys.{ArcKey}
use Rattle.event_costs.specs.declared.numbers.ThreadNo.{ThreadNo}
use Rattle.sym_map.specs.SymbolMap.{SymbolMap}
use Rattle.shadow_stack.specs.Changes.{change}
use Rattle.shadow_stack.specs.Stacks.{Activation}
use Rattle.shadow_stack.specs.Traces.{CountedEvent, is_by, EventOnStack}
use Rattle.recorder.specs.Sums.{is_arc, of_thread}
pub use Rattle.arc_costs.specs.Keys.{IsIn}

-- the pieces of a list between cuts, each cut given by the number of elements since the one before
abbrev pub pieces : {A : Type 0} → List ℕ → List A → List (List A)
pieces [] xs = xs ∷ []
pieces (n ∷ cuts) xs = take n xs ∷ pieces cuts (drop n xs)

-- no thread comes twice
abbrev pub AreApart : List ThreadNo → Type 0
AreApart [] = Unit {0}
AreApart (t ∷ ts) = ((other : ThreadNo) → IsIn ts other → t.0 ≢ other.0) × AreApart ts

-- each event is of one of these threads
abbrev pub AreOf : List ThreadNo → List EventOnStack → Type 0
AreOf threads [] = Unit {0}
AreOf threads (x ∷ xs) = ((t : ThreadNo) × IsIn threads t × (t.0 ≡ x.event.thread.0)) × AreOf threads xs

-- a number of each thread's events in each segment, summed up
abbrev pub sum_over_all : (List EventOnStack → ℕ) → List ThreadNo → List (List EventOnStack) → ℕ
sum_over_all number threads segments =
    sum_by (λ segment. sum_by (λ thread. number (of_thread thread segment)) threads) segments

-- An event of a list pushes a frame that is entered by this arc.
pub record IsPushed (syms : SymbolMap) (key : ArcKey) (xs : List EventOnStack) : Type 0 where
  pub event : EventOnStack
  pub inside : IsIn xs event
  pub frame : Activation
  pub pushed : (change syms event.event event.stack).pushed ≡ Some frame
  pub entered : is_arc key frame.arc ≡ true

-- the events of one thread in a trace, with their costs
abbrev pub counted_events_by : ThreadNo → List CountedEvent → List CountedEvent
counted_events_by thread trace = filter (is_by thread) trace
