-- The events that an account stands for, and the rows of a thread's own events.
use Rattle.std.specs.Prelude.{◌≡◌, ℕ, ◌+◌, ◌++◌, Bool, true, false, List, [], ◌∷◌, map, flat_map, filter, sum_by}
use Rattle.std.specs.Prelude.{slice_index}
use Rattle.std.specs.List.Sorted.{IsStrictlySortedBy}
use Rattle.event_costs.specs.declared.event.Event.{Event}
use Rattle.event_costs.specs.Keys.{ArcKey, Place}
use Rattle.sym_map.specs.SymbolMap.{SymbolMap}
use Rattle.shadow_stack.specs.Changes.{after}
use Rattle.shadow_stack.specs.Frames.{stack}
use Rattle.shadow_stack.specs.Stacks.{Stack}
use Rattle.shadow_stack.specs.Traces.{CountedEvent, EventOnStack, stack_after}
use Rattle.arc_costs.specs.Arcs.{arc_of, arc_sum, call_sum, is_some_arc}
use Rattle.arc_costs.specs.Contents.{Listed}
use Rattle.arc_costs.specs.Lines.{is_some_line, line_sum, place_of}
use Rattle.event_costs.specs.Order.{arc_order, place_order}
use Rattle.recorder.specs.Accounts.{Account}
use Rattle.recorder.specs.Notes.{open_sum}
use Rattle.recorder.specs.Sums.{arc_calls, arc_cost, self_cost}

abbrev pub has_some : {A : Type 0} → List A → Bool
has_some [] = false
has_some (x ∷ xs) = true

-- An account stands for a stack and for events since its last cut: its tables plus, for each open frame, the total less
-- the frame's start, are the sums of these events.
pub record Stands (syms : SymbolMap) (s : Stack) (since : List EventOnStack) (a : Account) : Type 0 where
  pub stack : stack a.frames ≡ s
  pub lines : (kind : ℕ) (place : Place) → line_sum kind place a.lines ≡ self_cost syms kind place since
  pub arcs : (kind : ℕ) (arc : ArcKey) → arc_sum kind arc a.arcs + open_sum kind a.total arc a.frames
      ≡ arc_cost kind arc since
  pub calls : (arc : ArcKey) → call_sum arc a.arcs ≡ arc_calls syms arc since
  pub had_event : a.had_event ≡ has_some since

-- Rows are those of these events: each key comes once, in order, with its sums, and no row is all 0.
pub record AreRowsOf (syms : SymbolMap) (xs : List EventOnStack) (rows : Listed) : Type 0 where
  pub lines : (kind : ℕ) (place : Place) → line_sum kind place rows.lines ≡ self_cost syms kind place xs
  pub arcs : (kind : ℕ) (arc : ArcKey) → arc_sum kind arc rows.arcs ≡ arc_cost kind arc xs
  pub calls : (arc : ArcKey) → call_sum arc rows.arcs ≡ arc_calls syms arc xs
  pub lines_rise : IsStrictlySortedBy place_order (map place_of rows.lines)
  pub arcs_rise : IsStrictlySortedBy arc_order (map arc_of rows.arcs)
  pub some_lines : filter is_some_line rows.lines ≡ rows.lines
  pub some_arcs : filter is_some_arc rows.arcs ≡ rows.arcs

-- Rows are those of an account at a cut: each key comes once, in order, with its sums, the open frames' costs counted
-- in, and no row is all 0.
pub record IsCutOf (a : Account) (rows : Listed) : Type 0 where
  pub lines : (kind : ℕ) (place : Place) → line_sum kind place rows.lines ≡ line_sum kind place a.lines
  pub arcs : (kind : ℕ) (arc : ArcKey) → arc_sum kind arc rows.arcs
      ≡ arc_sum kind arc a.arcs + open_sum kind a.total arc a.frames
  pub calls : (arc : ArcKey) → call_sum arc rows.arcs ≡ call_sum arc a.arcs
  pub lines_rise : IsStrictlySortedBy place_order (map place_of rows.lines)
  pub arcs_rise : IsStrictlySortedBy arc_order (map arc_of rows.arcs)
  pub some_lines : filter is_some_line rows.lines ≡ rows.lines
  pub some_arcs : filter is_some_arc rows.arcs ≡ rows.arcs

-- an event with its cost, alone and with the stack before it
abbrev pub counted_event : Event → List ℕ → CountedEvent
counted_event e cost = record { event = e; cost = cost }

abbrev pub event_on_stack : Stack → Event → List ℕ → EventOnStack
event_on_stack s e cost = record { event = e; cost = cost; stack = s }

-- events of one thread, each with the stack before it; the first has this one
abbrev pub events_on_stack : SymbolMap → Stack → List CountedEvent → List EventOnStack
events_on_stack syms s [] = []
events_on_stack syms s (x ∷ xs) = record {
  event = x.event;
  cost = x.cost;
  stack = s;
} ∷ events_on_stack syms (after syms s x.event) xs

-- the stack after events of one thread
abbrev pub stack_after_events : SymbolMap → Stack → List CountedEvent → Stack
stack_after_events syms s xs = stack_after syms s (map (λ x. x.event) xs)

-- The events of the last piece of a thread's events, each with its stack, which is folded over all pieces: the earlier
-- ones and the last. The sums of these events are the thread's own rows.
abbrev pub last_events_on_stack : SymbolMap → Stack → List (List CountedEvent) → List CountedEvent → List EventOnStack
last_events_on_stack syms s earlier last = events_on_stack syms (stack_after_events syms s (flat_map (λ piece. piece) earlier)) last

-- An account stands for all events of its thread, in the pieces between its cuts; it began with this stack.
pub record StandsFor (syms : SymbolMap) (s : Stack) (earlier : List (List CountedEvent)) (last : List CountedEvent)
    (a : Account) : Type 0 where
  pub since : Stands syms (stack_after_events syms s (flat_map (λ piece. piece) earlier ++ last))
      (last_events_on_stack syms s earlier last) a
  pub total : (kind : ℕ) → slice_index a.total kind
      ≡ sum_by (λ x. slice_index x.cost kind) (flat_map (λ piece. piece) earlier ++ last)

-- Two accounts of a thread say the same but for the starts of its frames and what has been given to the arcs: the sums,
-- with the open frames' costs counted in, are the same.
pub record SameSums (old new : Account) : Type 0 where
  pub stack : stack new.frames ≡ stack old.frames
  pub total : new.total ≡ old.total
  pub lines : new.lines ≡ old.lines
  pub arcs : (kind : ℕ) (arc : ArcKey) → arc_sum kind arc new.arcs + open_sum kind new.total arc new.frames
      ≡ arc_sum kind arc old.arcs + open_sum kind old.total arc old.frames
  pub calls : (arc : ArcKey) → call_sum arc new.arcs ≡ call_sum arc old.arcs
  pub had_event : new.had_event ≡ old.had_event
