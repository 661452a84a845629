-- The events of a trace in pieces, each event with the stack of its thread before it.
use Rattle.std.specs.Prelude.{◌≡◌, ℕ, List, [], ◌∷◌, ◌++◌, map}
use Rattle.event_costs.specs.declared.numbers.ThreadNo.{ThreadNo}
use Rattle.sym_map.specs.SymbolMap.{SymbolMap}
use Rattle.shadow_stack.specs.Traces.{CountedEvent, EventOnStack, first_pc, events_by, events_on_stacks_from}
use Rattle.recorder.specs.Laws.{counted_events_by}

-- pieces that follow one another, after earlier events
abbrev pub stacked_pieces : SymbolMap → List CountedEvent → List (List CountedEvent) → List (List EventOnStack)
stacked_pieces syms earlier [] = []
stacked_pieces syms earlier (piece ∷ pieces) = events_on_stacks_from syms earlier piece ∷ stacked_pieces syms (earlier ++ piece) pieces

-- what one thread has of each piece
abbrev pub own_pieces : ThreadNo → List (List CountedEvent) → List (List CountedEvent)
own_pieces thread pieces = map (counted_events_by thread) pieces

-- a thread's first event, if it has one, is at this pc
abbrev pub BeginsAt : ThreadNo → ℕ → List CountedEvent → Type 0
BeginsAt thread pc xs = first_pc (events_by thread xs) pc ≡ pc
