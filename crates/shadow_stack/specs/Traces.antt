-- The stacks of the threads of a trace.
use Rattle.std.specs.Prelude.{ℕ, ◌==◌, Bool, List, [], ◌∷◌, ◌++◌, map, filter, fold}
use Rattle.event_costs.specs.declared.event.Event.{Event}
use Rattle.event_costs.specs.declared.numbers.ThreadNo.{ThreadNo}
use Rattle.sym_map.specs.SymbolMap.{SymbolMap}
use Rattle.shadow_stack.specs.Stacks.{Stack, root}
use Rattle.shadow_stack.specs.Changes.{after}

-- the stack after these events of its thread
abbrev pub stack_after : SymbolMap → Stack → List Event → Stack
stack_after syms s es = fold (after syms) s es

-- the pc of the first event, or this one if there is none
abbrev pub first_pc : List Event → ℕ → ℕ
first_pc [] pc = pc
first_pc (e ∷ es) pc = e.done.pc

-- the stack of a thread after its events so far; it begins at the pc of the first one, or stands at this pc if it has
-- none
abbrev pub stack_of : SymbolMap → List Event → ℕ → Stack
stack_of syms es pc = stack_after syms (root syms (first_pc es pc)) es

-- an event with what it cost
pub record CountedEvent : Type 0 where
  pub event : Event
  pub cost : List ℕ

abbrev pub is_by : ThreadNo → CountedEvent → Bool
is_by thread x = x.event.thread.0 == thread.0

-- the events of one thread, in their order
abbrev pub events_by : ThreadNo → List CountedEvent → List Event
events_by thread xs = map (λ x. x.event) (filter (is_by thread) xs)

-- an event with what it cost, and the stack of its thread before it
pub record EventOnStack : Type 0 where
  pub event : Event
  pub cost : List ℕ
  pub stack : Stack

-- an event that follows these, of all threads
abbrev pub event_on_stack_after : SymbolMap → List CountedEvent → CountedEvent → EventOnStack
event_on_stack_after syms earlier x =
    record { event = x.event; cost = x.cost; stack = stack_of syms (events_by x.event.thread earlier) x.event.done.pc }

abbrev pub events_on_stacks_from : SymbolMap → List CountedEvent → List CountedEvent → List EventOnStack
events_on_stacks_from syms earlier [] = []
events_on_stacks_from syms earlier (x ∷ xs) = event_on_stack_after syms earlier x ∷ events_on_stacks_from syms (earlier ++ x ∷ []) xs

-- the events of a trace, each with the stack of its thread before it
abbrev pub events_on_stacks : SymbolMap → List CountedEvent → List EventOnStack
events_on_stacks syms trace = events_on_stacks_from syms [] trace
