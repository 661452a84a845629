-- Lists of events as a guest's threads give them, in any interleaving.
use Rattle.std.specs.Prelude.{◌≡◌, ◌≤◌, ◌^◌, ℕ, false, not, List, [], ◌∷◌, ◌++◌, length, All, Some, count_by}
use Rattle.event_costs.specs.declared.event.Event.{Event}
use Rattle.sym_map.specs.SymbolMap.{SymbolMap, place_of}
use Rattle.shadow_stack.specs.Kinds.{is_root}
use Rattle.shadow_stack.specs.Stacks.{most_frames, top_of}
use Rattle.shadow_stack.specs.Traces.{CountedEvent, EventOnStack, events_by, events_on_stacks}

-- an event's pc has the function of the top of its thread's stack before it
abbrev pub FitsTop : SymbolMap → EventOnStack → Type 0
FitsTop syms x = top_of x.stack ≡ Some (place_of syms x.event.done.pc).func

abbrev pub FitTops : SymbolMap → List CountedEvent → Type 0
FitTops syms trace = All (FitsTop syms) (events_on_stacks syms trace)

-- a thread's events lead to this pc: the last one's next pc is this one, and it didn't end the thread
abbrev pub LeadTo : List Event → ℕ → Type 0
LeadTo [] pc = Unit {0}
LeadTo (e ∷ []) pc = (e.ends ≡ false) × (e.done.next ≡ pc)
LeadTo (e ∷ (f ∷ es)) pc = LeadTo (f ∷ es) pc

-- each of the events that follow these goes on where its thread's last one led
abbrev pub GoOnFrom : List CountedEvent → List CountedEvent → Type 0
GoOnFrom earlier [] = Unit {0}
GoOnFrom earlier (x ∷ xs) = LeadTo (events_by x.event.thread earlier) x.event.done.pc × GoOnFrom (earlier ++ x ∷ []) xs

abbrev pub GoOn : List CountedEvent → Type 0
GoOn trace = GoOnFrom [] trace

-- what one event adds to any sum is small: no number of its cost is above 1, and no more frames stand on its thread's
-- stack than a run has in all
pub record IsSmall (x : EventOnStack) : Type 0 where
  pub ones : All (λ n. n ≤ 1) x.cost
  pub frames : count_by (λ a. not (is_root a.kind)) x.stack ≤ most_frames

-- such events, and no more than a run has
pub record IsRunSized (xs : List EventOnStack) : Type 0 where
  pub events : length xs ≤ 10 ^ 12
  pub small : All IsSmall xs
