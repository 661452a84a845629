-- The events of one thread among those of all.
use Rattle.std.proofs.Common.{◌≡◌, ℕ, Bool, true, false, cond, List, [], ◌∷◌, ◌++◌, map, filter, flat_map, refl, sym}
use Rattle.std.proofs.Common.{ap, ◌∙◌, if◌then◌else◌, append_assoc}
use Rattle.std.proofs.lemmas.Bool.{eqb-true}
use Rattle.std.proofs.lemmas.List.{map-append}
use Rattle.std.proofs.lemmas.List.Elements.{filter-append}
use Rattle.std.proofs.lemmas.List.Sums.{fold_push}
use Rattle.event_costs.specs.declared.event.Event.{Event}
use Rattle.event_costs.specs.declared.numbers.ThreadNo.{ThreadNo}
use Rattle.sym_map.specs.SymbolMap.{SymbolMap}
use Rattle.shadow_stack.specs.Stacks.{Stack, root}
use Rattle.shadow_stack.specs.Changes.{after}
use Rattle.shadow_stack.specs.Traces.{CountedEvent, EventOnStack, first_pc, is_by, events_by, events_on_stacks, event_on_stack_after, events_on_stacks_from, stack_after}
use Rattle.shadow_stack.specs.Traces.{stack_of}
use Rattle.recorder.specs.Laws.{counted_events_by}
use Rattle.recorder.specs.Standing.{last_events_on_stack, events_on_stack, stack_after_events}
use Rattle.recorder.specs.Sums.{of_thread}
use Rattle.once_each.specs.Segments.{BeginsAt, own_pieces, stacked_pieces}
use Rattle.once_each.proofs.SeenLemmas.{append_none, events_by-push}
use Rattle.once_each.proofs.Others.{same_thread}

-- Pieces of a trace

events_on_stacks_from-append : (syms : SymbolMap) (earlier xs ys : List CountedEvent)
    → events_on_stacks_from syms earlier (xs ++ ys) ≡ events_on_stacks_from syms earlier xs ++ events_on_stacks_from syms (earlier ++ xs) ys
events_on_stacks_from-append syms earlier [] ys = ap (λ (l : List CountedEvent). events_on_stacks_from syms l ys) (sym (append_none earlier))
events_on_stacks_from-append syms earlier (x ∷ xs) ys =
    ap (λ (l : List EventOnStack). event_on_stack_after syms earlier x ∷ l)
    (events_on_stacks_from-append syms (earlier ++ x ∷ []) xs ys
    ∙ ap (λ (l : List CountedEvent). events_on_stacks_from syms (earlier ++ x ∷ []) xs ++ events_on_stacks_from syms l ys)
    (append_assoc {A = CountedEvent} earlier (x ∷ []) xs))

pieces_from : (syms : SymbolMap) (earlier : List CountedEvent) (pieces : List (List CountedEvent))
    → flat_map (λ segment. segment) (stacked_pieces syms earlier pieces)
    ≡ events_on_stacks_from syms earlier (flat_map (λ piece. piece) pieces)
pieces_from syms earlier [] = refl
pieces_from syms earlier (piece ∷ pieces) =
    ap (λ (l : List EventOnStack). events_on_stacks_from syms earlier piece ++ l) (pieces_from syms (earlier ++ piece) pieces)
    ∙ sym (events_on_stacks_from-append syms earlier piece (flat_map (λ piece. piece) pieces))

pub all_pieces : (syms : SymbolMap) (pieces : List (List CountedEvent))
    → flat_map (λ segment. segment) (stacked_pieces syms [] pieces) ≡ events_on_stacks syms (flat_map (λ piece. piece) pieces)
all_pieces syms pieces = pieces_from syms [] pieces

-- One thread

module _ (syms : SymbolMap) (thread : ThreadNo) (pc : ℕ) where
  events_by-at : (earlier : List CountedEvent) (x : CountedEvent) (xs : List CountedEvent) → is_by thread x ≡ true
      → events_by thread (earlier ++ x ∷ xs) ≡ events_by thread earlier ++ x.event ∷ events_by thread xs
  events_by-at earlier x xs is =
      ap (map (λ (y : CountedEvent). y.event)) (filter-append (is_by thread) earlier (x ∷ xs))
      ∙ map-append (λ (y : CountedEvent). y.event) (filter (is_by thread) earlier) (filter (is_by thread) (x ∷ xs))
      ∙ ap (λ b. events_by thread earlier ++ map (λ (y : CountedEvent). y.event)
      (cond b (x ∷ filter (is_by thread) xs) (filter (is_by thread) xs))) is

  -- the thread's stack begins at its first pc, wherever it is looked at
  first : (es fs : List Event) (e : Event) → first_pc (es ++ e ∷ fs) pc ≡ pc → first_pc es e.done.pc ≡ pc
  first [] fs e begins = begins
  first (f ∷ es) fs e begins = begins

  own_seen_from : (earlier xs : List CountedEvent) → BeginsAt thread pc (earlier ++ xs)
      → of_thread thread (events_on_stacks_from syms earlier xs)
      ≡ events_on_stack syms (stack_after syms (root syms pc) (events_by thread earlier)) (counted_events_by thread xs)
  own_seen_from earlier [] begins = refl
  own_seen_from earlier (x ∷ xs) begins =
      by (is_by thread x) refl
      (own_seen_from (earlier ++ x ∷ []) xs
      (ap (λ (l : List CountedEvent). first_pc (events_by thread l) pc) (append_assoc {A = CountedEvent} earlier (x ∷ []) xs)
      ∙ begins))
    where
      by : (b : Bool) → is_by thread x ≡ b
          → of_thread thread (events_on_stacks_from syms (earlier ++ x ∷ []) xs)
          ≡ events_on_stack syms (stack_after syms (root syms pc) (events_by thread (earlier ++ x ∷ []))) (counted_events_by thread xs)
          → cond b (event_on_stack_after syms earlier x ∷ of_thread thread (events_on_stacks_from syms (earlier ++ x ∷ []) xs))
          (of_thread thread (events_on_stacks_from syms (earlier ++ x ∷ []) xs))
          ≡ events_on_stack syms (stack_after syms (root syms pc) (events_by thread earlier))
          (cond b (x ∷ counted_events_by thread xs) (counted_events_by thread xs))
      by true is rest =
          let same = same_thread x.event.thread thread (eqb-true x.event.thread.0 thread.0 is) in
          let from = first (events_by thread earlier) (events_by thread xs) x.event
          (ap (λ (l : List Event). first_pc l pc) (sym (events_by-at earlier x xs is)) ∙ begins) in
          let stack : stack_of syms (events_by x.event.thread earlier) x.event.done.pc
          ≡ stack_after syms (root syms pc) (events_by thread earlier) =
          ap (λ (t : ThreadNo). stack_of syms (events_by t earlier) x.event.done.pc) same
          ∙ ap (λ m. stack_after syms (root syms m) (events_by thread earlier)) from in
          let next : stack_after syms (root syms pc) (events_by thread (earlier ++ x ∷ []))
          ≡ after syms (stack_after syms (root syms pc) (events_by thread earlier)) x.event =
          ap (stack_after syms (root syms pc))
          (events_by-push thread earlier x ∙ ap (λ b. events_by thread earlier ++ (if b then x.event ∷ [] else [])) is)
          ∙ fold_push (after syms) (root syms pc) (events_by thread earlier) x.event in
          ap (λ (s : Stack). record { event = x.event; cost = x.cost; stack = s } ∷ of_thread thread
          (events_on_stacks_from syms (earlier ++ x ∷ []) xs)) stack
          ∙ ap (λ (l : List EventOnStack). record {
            event = x.event;
            cost = x.cost;
            stack = stack_after syms (root syms pc) (events_by thread earlier);
          } ∷ l) (rest ∙ ap (λ (s : Stack). events_on_stack syms s (counted_events_by thread xs)) next)
      by false is rest =
          rest
          ∙ ap (λ (es : List Event). events_on_stack syms (stack_after syms (root syms pc) es) (counted_events_by thread xs))
          (events_by-push thread earlier x ∙ ap (λ b. events_by thread earlier ++ (if b then x.event ∷ [] else [])) is
          ∙ append_none (events_by thread earlier))

  own_pieces-all : (pieces : List (List CountedEvent))
      → flat_map (λ piece. piece) (own_pieces thread pieces) ≡ counted_events_by thread (flat_map (λ piece. piece) pieces)
  own_pieces-all [] = refl
  own_pieces-all (piece ∷ pieces) =
      ap (λ (l : List CountedEvent). counted_events_by thread piece ++ l) (own_pieces-all pieces)
      ∙ sym (filter-append (is_by thread) piece (flat_map (λ piece. piece) pieces))

  pub last_piece : (pieces : List (List CountedEvent)) (last : List CountedEvent)
      → BeginsAt thread pc (flat_map (λ piece. piece) pieces ++ last)
      → of_thread thread (events_on_stacks_from syms (flat_map (λ piece. piece) pieces) last)
      ≡ last_events_on_stack syms (root syms pc) (own_pieces thread pieces) (counted_events_by thread last)
  last_piece pieces last begins =
      own_seen_from (flat_map (λ piece. piece) pieces) last begins
      ∙ ap (λ (xs : List CountedEvent). events_on_stack syms (stack_after_events syms (root syms pc) xs) (counted_events_by thread last))
      (sym (own_pieces-all pieces))
