-- The events of a thread in a segment have the stacks that its own events alone give.
use Rattle.std.proofs.Common.{◌≡◌, ℕ, suc, ◌==◌, List, [], ◌∷◌, ◌++◌, length, take, drop, map, flat_map}
use Rattle.std.proofs.Common.{refl, sym, ap, ◌∙◌}
use Rattle.std.proofs.Math.Seq.{drop-append_seam, take-append_seam}
use Rattle.std.proofs.lemmas.List.{map-append}
use Rattle.std.proofs.lemmas.List.Elements.{filter-append}
use Rattle.event_costs.specs.declared.event.Event.{Event}
use Rattle.event_costs.specs.declared.numbers.ThreadNo.{ThreadNo}
use Rattle.sym_map.specs.SymbolMap.{SymbolMap}
use Rattle.sym_map.proofs.SymbolTables.{filter-map}
use Rattle.shadow_stack.specs.Changes.{after}
use Rattle.shadow_stack.specs.Stacks.{Stack}
use Rattle.shadow_stack.specs.Traces.{CountedEvent, EventOnStack, first_pc, stack_after, stack_of}
use Rattle.part_dump.specs.Steps.{Step, steps_of_thread, events_on_stack_of}
use Rattle.recorder.specs.Standing.{last_events_on_stack, stack_after_events}
use Rattle.recorder.specs.Standing as recorder
use Rattle.recorder.specs.Sums.{of_thread}
use Rattle.recorder.proofs.LawLemmas.{alone, events_in, seen_alone}
use Rattle.recorder.proofs.StandingLemmas.{events_on_stack-append}
use Rattle.once_each.specs.Runs.{HaveStacks, costed_step, trace_of}
use Rattle.run_laws.specs.ThreadWork.{first_stack, own_costed_events}

cancel_rest : {X : Type 0} (xs us ys vs : List X) → length xs ≡ length us → xs ++ ys ≡ us ++ vs → ys ≡ vs
cancel_rest xs us ys vs same is =
    sym (drop-append_seam xs ys) ∙ (λ i. drop (same i) (is i)) ∙ drop-append_seam us vs

cancel_front : {X : Type 0} (xs us ys vs : List X) → length xs ≡ length us → xs ++ ys ≡ us ++ vs → xs ≡ us
cancel_front xs us ys vs same is =
    sym (take-append_seam xs ys) ∙ (λ i. take (same i) (is i)) ∙ take-append_seam us vs

module _ (syms : SymbolMap) where
  stack_more : (es : List Event) (e : Event) (pc : ℕ)
      → stack_of syms (es ++ e ∷ []) pc ≡ after syms (stack_of syms es e.done.pc) e
  stack_more [] e pc = refl
  stack_more (d ∷ es) e pc = folded (d ∷ es) (recorder_root d)
    where
      recorder_root : Event → Stack
      recorder_root d = stack_of syms [] d.done.pc

      folded : (es : List Event) (s : Stack) → stack_after syms s (es ++ e ∷ []) ≡ after syms (stack_after syms s es) e
      folded [] s = refl
      folded (d ∷ es) s = folded es (after syms s d)

  -- with the stacks folded one after another
  alone_folded : (earlier xs : List CountedEvent)
      → seen_alone syms earlier xs
      ≡ recorder.events_on_stack syms (stack_of syms (events_in earlier) (first_pc (events_in xs) 0)) xs
  alone_folded earlier [] = refl
  alone_folded earlier (x ∷ xs) =
      ap (λ (ys : List EventOnStack). record {
        event = x.event;
        cost = x.cost;
        stack = stack_of syms (events_in earlier) x.event.done.pc;
      } ∷ ys)
      (alone_folded (earlier ++ x ∷ []) xs
      ∙ ap (λ (s : Stack). recorder.events_on_stack syms s xs)
      (ap (λ (es : List Event). stack_of syms es (first_pc (events_in xs) 0))
      (map-append (λ (y : CountedEvent). y.event) earlier (x ∷ []))
      ∙ stack_more (events_in earlier) x.event (first_pc (events_in xs) 0)))

  as_many : (s : Stack) (xs : List CountedEvent) → length (recorder.events_on_stack syms s xs) ≡ length xs
  as_many s [] = refl
  as_many s (x ∷ xs) = ap (λ n. suc n) (as_many (after syms s x.event) xs)

  -- a thread's events, of all steps
  pub own_folded : (thread : ℕ) (steps : List Step) → HaveStacks syms steps
      → events_on_stack_of thread steps ≡ recorder.events_on_stack syms (first_stack syms thread steps) (own_costed_events thread steps)
  own_folded thread steps have =
      let t : ThreadNo = record { 0 = thread } in
      sym (filter-map (λ (x : Step). x.on_stack) (λ (y : EventOnStack). y.event.thread.0 == thread) steps)
      ∙ ap (of_thread t) have
      ∙ alone syms t (trace_of steps)
      ∙ ap (seen_alone syms []) (filter-map costed_step (λ (y : CountedEvent). y.event.thread.0 == thread) steps)
      ∙ alone_folded [] (own_costed_events thread steps)
      ∙ ap (λ (es : List Event). recorder.events_on_stack syms (stack_of syms [] (first_pc es 0)) (own_costed_events thread steps))
      (events_counted (steps_of_thread thread steps))
    where
      events_counted : (xs : List Step) → events_in (map costed_step xs) ≡ map (λ x. x.on_stack.event) xs
      events_counted [] = refl
      events_counted (x ∷ xs) = ap (λ (es : List Event). x.on_stack.event ∷ es) (events_counted xs)

  -- ---- pieces

  module _ (thread : ℕ) where
    own_seen_append : (xs ys : List Step) → events_on_stack_of thread (xs ++ ys) ≡ events_on_stack_of thread xs ++ events_on_stack_of thread ys
    own_seen_append xs ys =
        ap (map (λ (x : Step). x.on_stack)) (filter-append (λ (x : Step). x.on_stack.event.thread.0 == thread) xs ys)
        ∙ map-append (λ (x : Step). x.on_stack) (steps_of_thread thread xs) (steps_of_thread thread ys)

    own_counted_append : (xs ys : List Step)
        → own_costed_events thread (xs ++ ys) ≡ own_costed_events thread xs ++ own_costed_events thread ys
    own_counted_append xs ys =
        ap (map costed_step) (filter-append (λ (x : Step). x.on_stack.event.thread.0 == thread) xs ys)
        ∙ map-append costed_step (steps_of_thread thread xs) (steps_of_thread thread ys)

    own_pieces : (pieces : List (List Step))
        → own_costed_events thread (flat_map (λ piece. piece) pieces)
        ≡ flat_map (λ piece. piece) (map (own_costed_events thread) pieces)
    own_pieces [] = refl
    own_pieces (piece ∷ pieces) =
        own_counted_append piece (flat_map (λ piece. piece) pieces)
        ∙ ap (λ (xs : List CountedEvent). own_costed_events thread piece ++ xs) (own_pieces pieces)

    same_count : (xs : List Step) → length (events_on_stack_of thread xs) ≡ length (own_costed_events thread xs)
    same_count xs = by (steps_of_thread thread xs)
      where
        by : (ys : List Step) → length (map (λ (x : Step). x.on_stack) ys) ≡ length (map costed_step ys)
        by [] = refl
        by (y ∷ ys) = ap (λ n. suc n) (by ys)

    pub own_last : (steps : List Step) (earlier : List (List Step)) (segment later : List Step) → HaveStacks syms steps
        → steps ≡ flat_map (λ piece. piece) earlier ++ (segment ++ later)
        → events_on_stack_of thread segment
        ≡ last_events_on_stack syms (first_stack syms thread steps) (map (own_costed_events thread) earlier) (own_costed_events thread segment)
    own_last steps earlier segment later have cut =
        let first = first_stack syms thread steps in
        let before = flat_map (λ piece. piece) earlier in
        let then = recorder.events_on_stack syms (stack_after_events syms first (own_costed_events thread before)) in
        let whole : events_on_stack_of thread before ++ events_on_stack_of thread (segment ++ later)
        ≡ recorder.events_on_stack syms first (own_costed_events thread before) ++ then (own_costed_events thread (segment ++ later))
        = sym (own_seen_append before (segment ++ later)) ∙ ap (events_on_stack_of thread) (sym cut)
        ∙ own_folded thread steps have
        ∙ ap (λ (xs : List Step). recorder.events_on_stack syms first (own_costed_events thread xs)) cut
        ∙ ap (recorder.events_on_stack syms first) (own_counted_append before (segment ++ later))
        ∙ events_on_stack-append syms first (own_costed_events thread before) (own_costed_events thread (segment ++ later)) in
        let rest : events_on_stack_of thread segment ++ events_on_stack_of thread later
        ≡ then (own_costed_events thread segment)
        ++ recorder.events_on_stack syms
        (stack_after_events syms (stack_after_events syms first (own_costed_events thread before)) (own_costed_events thread segment))
        (own_costed_events thread later)
        = sym (own_seen_append segment later)
        ∙ cancel_rest (events_on_stack_of thread before) (recorder.events_on_stack syms first (own_costed_events thread before))
        (events_on_stack_of thread (segment ++ later)) (then (own_costed_events thread (segment ++ later)))
        (same_count before ∙ sym (as_many first (own_costed_events thread before))) whole
        ∙ ap then (own_counted_append segment later)
        ∙ events_on_stack-append syms (stack_after_events syms first (own_costed_events thread before)) (own_costed_events thread segment)
        (own_costed_events thread later) in
        cancel_front (events_on_stack_of thread segment) (then (own_costed_events thread segment)) (events_on_stack_of thread later)
        (recorder.events_on_stack syms
        (stack_after_events syms (stack_after_events syms first (own_costed_events thread before)) (own_costed_events thread segment))
        (own_costed_events thread later))
        (same_count segment
        ∙ sym (as_many (stack_after_events syms first (own_costed_events thread before)) (own_costed_events thread segment)))
        rest
        ∙ ap (λ (xs : List CountedEvent). recorder.events_on_stack syms (stack_after_events syms first xs) (own_costed_events thread segment))
        (own_pieces earlier)
