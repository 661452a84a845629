-- The files of a run over the map that tells code by its addresses are those of the run by address.
use Rattle.std.proofs.Common.{◌≡◌, ℕ, ◌+◌, List, [], ◌∷◌, ◌++◌, flat_map, length, Option, None, Some, refl, ap, sym}
use Rattle.std.proofs.Common.{subst, ◌∙◌}
use Rattle.std.specs.List.{enumerate_from}
use Rattle.std.proofs.lemmas.List.{append-nil, length-map}
use Rattle.std.proofs.lemmas.List.Concat.{flat_map-append}
use Rattle.outside.specs.Outside.{Named}
use Rattle.event_costs.specs.declared.numbers.ThreadNo.{ThreadNo}
use Rattle.cg_format.specs.declared.trigger.Trigger.{Trigger}
use Rattle.cg_format.specs.declared.trigger.Trigger.TheVariants.{Termination}
use Rattle.cg_format.specs.declared.head.PartHead.{PartHead}
use Rattle.sym_map.specs.SymbolMap.{SymbolMap}
use Rattle.shadow_stack.specs.Traces.{EventOnStack}
use Rattle.recorder.specs.Rows.{rows_of}
use Rattle.part_dump.specs.Calls.{Call, Readies, Sees, Writes, calls, closed_calls, part_calls, segment_calls}
use Rattle.part_dump.specs.Calls.{steps_calls, thread_calls, tried_calls}
use Rattle.part_dump.specs.Cuts.{DumpPoints, Split, cuts}
use Rattle.part_dump.specs.Steps.{Step, event_of, steps_of_thread, events_on_stack_of, threads}
use Rattle.part_dump.specs.Watching.{after_call, put_of, puts}
use Rattle.part_dump.proofs.CutLemmas.{cuts_together}
use Rattle.sym_map.specs.AddressMap.{address_map}
use Rattle.addr_rows.specs.EventRows.{addr_rows_of}
use Rattle.addr_rows.specs.Files.{addr_files, addr_rows_in, closed_files, files_from, segment_files, thread_files}
use Rattle.addr_rows.specs.Stacked.{AreOn, with_stacks_of}
use Rattle.addr_rows.specs.Translated.{translation}
use Rattle.addr_rows.proofs.AddressMapLemmas.{address_code, address_names}
use Rattle.addr_rows.proofs.AlikeLemmas.{code_back}
use Rattle.addr_rows.proofs.RestackLemmas.{AreAlike, alike_append, back, cuts_stacked, on_append}
use Rattle.addr_rows.proofs.RestackLemmas.{own_events_stacked, resplit, restacked, restacked_alike, restacked_length}
use Rattle.addr_rows.proofs.RestackLemmas.{steps_in, threads_stacked}

module _ (m : SymbolMap) (head : PartHead) (base : List ℕ) where
  abbrev n : SymbolMap
  n = address_map m

  abbrev put : Call → List Named
  put c = put_of translation n base m c

  abbrev put_all : List Call → List Named
  put_all cs = flat_map put cs

  stays : (c : Call) → after_call translation n m c ≡ m
  stays (Readies thread pc) = refl
  stays (Sees x) = refl
  stays (Writes h rows) = refl

  puts_all : (cs : List Call) → puts translation n base m cs ≡ put_all cs
  puts_all [] = refl
  puts_all (c ∷ cs) =
      ap (λ v. put c ++ puts translation n base v cs) (stays c) ∙ ap (λ fs. put c ++ fs) (puts_all cs)

  no_puts : (xs : List Step) → put_all (steps_calls xs) ≡ []
  no_puts [] = refl
  no_puts (x ∷ xs) = no_puts xs

  tried_puts : (tried : Option (ThreadNo × ℕ)) → put_all (tried_calls tried) ≡ []
  tried_puts None = refl
  tried_puts (Some t) = refl

  put_each : {A : Type 0} (g : A → List Call) (f : A → List Named) → ((a : A) → put_all (g a) ≡ f a) → (xs : List A)
      → put_all (flat_map g xs) ≡ flat_map f xs
  put_each g f same [] = refl
  put_each g f same (x ∷ xs) =
      flat_map-append put (g x) (flat_map g xs) ∙ ap (λ fs. fs ++ put_all (flat_map g xs)) (same x)
      ∙ ap (λ fs. f x ++ fs) (put_each g f same xs)

  thread_puts : (part : ℕ) (trigger : Trigger) (thread : ℕ) (ys xs : List EventOnStack) → length ys ≡ length xs
      → put_all (thread_calls (rows_of n) head part trigger thread ys)
      ≡ thread_files head m base part trigger thread (addr_rows_of m ys) xs
  unfolding addr_rows_of
  thread_puts part trigger thread [] [] same = refl
  thread_puts part trigger thread (y ∷ ys) (x ∷ xs) same = refl
  thread_puts part trigger thread [] (x ∷ xs) same = absurd (cc)
  thread_puts part trigger thread (y ∷ ys) [] same = absurd (cc)

  -- a segment that follows these steps, and with the stacks of the map
  part_puts : (earlier past segment : List Step) → AreAlike earlier past → AreOn n past segment → (part : ℕ)
      (trigger : Trigger) → put_all (part_calls (rows_of n) head part segment trigger)
      ≡ segment_files head m base earlier part (with_stacks_of m past segment) trigger
  part_puts earlier past segment alike on part trigger =
      put_each (λ thread. thread_calls (rows_of n) head part trigger thread (events_on_stack_of thread segment)) file each
      (threads segment)
      ∙ ap (λ ts. flat_map file ts) (sym (threads_stacked m past segment))
    where
      again : List Step
      again = with_stacks_of m past segment

      file : ℕ → List Named
      file thread =
          thread_files head m base part trigger thread (addr_rows_in m thread earlier again) (events_on_stack_of thread again)

      as_many : (thread : ℕ) → length (events_on_stack_of thread segment) ≡ length (events_on_stack_of thread again)
      as_many thread =
          length-map (steps_of_thread thread segment) (λ (x : Step). x.on_stack) ∙ sym (length-map (steps_of_thread thread segment) event_of)
          ∙ ap (λ es. length es) (sym (own_events_stacked m thread past segment))
          ∙ length-map (steps_of_thread thread again) event_of ∙ sym (length-map (steps_of_thread thread again) (λ (x : Step). x.on_stack))

      each : (thread : ℕ)
          → put_all (thread_calls (rows_of n) head part trigger thread (events_on_stack_of thread segment)) ≡ file thread
      each thread =
          thread_puts part trigger thread (events_on_stack_of thread segment) (events_on_stack_of thread again) (as_many thread)
          ∙ ap (λ ys. thread_files head m base part trigger thread (addr_rows_of m (events_on_stack_of thread ys))
          (events_on_stack_of thread again)) (sym (back m n earlier past segment alike on))

  closed_puts : (earlier past : List Step) (part : ℕ) (segments : List (List Step × Trigger)) → AreAlike earlier past
      → AreOn n past (steps_in segments)
      → put_all (flat_map (λ s. segment_calls (rows_of n) head s.0 s.1.0 s.1.1) (enumerate_from part segments))
      ≡ files_from head m base earlier part (restacked m past segments)
  closed_puts earlier past part [] alike on = refl
  closed_puts earlier past part (s ∷ segments) alike on =
      let parts = on_append n past s.0 (steps_in segments) on in
      let later = flat_map (λ p. segment_calls (rows_of n) head p.0 p.1.0 p.1.1) (enumerate_from (part + 1) segments) in
      flat_map-append put (segment_calls (rows_of n) head part s.0 s.1) later
      ∙ ap (λ fs. fs ++ put_all later)
      (flat_map-append put (steps_calls s.0) (part_calls (rows_of n) head part s.0 s.1)
      ∙ ap (λ fs. fs ++ put_all (part_calls (rows_of n) head part s.0 s.1)) (no_puts s.0)
      ∙ part_puts earlier past s.0 alike parts.0 part s.1)
      ∙ ap (λ fs. segment_files head m base earlier part (with_stacks_of m past s.0) s.1 ++ fs)
      (closed_puts (earlier ++ with_stacks_of m past s.0) (past ++ s.0) (part + 1) segments
      (alike_append earlier past (with_stacks_of m past s.0) s.0 alike (λ thread. own_events_stacked m thread past s.0))
      parts.1)

  none_alike : AreAlike [] []
  none_alike thread = refl

  -- ---- of a whole run, whose steps are these

  module _ (asked : DumpPoints) (steps : List Step) (on : AreOn n [] steps) where
    abbrev here : Split Step Trigger
    here = cuts n asked steps

    abbrev there : List Step
    there = with_stacks_of m [] steps

    cut_there : cuts m asked there ≡ resplit m [] here
    cut_there = cuts_stacked m n (code_back m n (address_code m)) (address_names m) asked steps on

    on_parts : AreOn n [] (steps_in here.closed) × AreOn n (steps_in here.closed) here.recent
    on_parts =
        on_append n [] (steps_in here.closed) here.recent
        (subst (AreOn n []) (sym (cuts_together n asked steps)) on)

    closed_here : put_all (closed_calls (rows_of n) head here.closed)
        ≡ closed_files head m base (restacked m [] here.closed)
    closed_here = closed_puts [] [] 1 here.closed none_alike on_parts.0

    pub so_far : puts translation n base m
        (closed_calls (rows_of n) head here.closed ++ steps_calls here.recent)
        ≡ closed_files head m base (cuts m asked there).closed
    so_far =
        puts_all (closed_calls (rows_of n) head here.closed ++ steps_calls here.recent)
        ∙ flat_map-append put (closed_calls (rows_of n) head here.closed) (steps_calls here.recent)
        ∙ (λ i. closed_here i ++ no_puts here.recent i)
        ∙ append-nil (closed_files head m base (restacked m [] here.closed))
        ∙ ap (λ (c : Split Step Trigger). closed_files head m base c.closed) (sym cut_there)

    pub whole : (tried : Option (ThreadNo × ℕ))
        → puts translation n base m (calls (rows_of n) head n asked steps tried) ≡ addr_files head m base asked there
    unfolding calls addr_files
    whole tried =
        let last = part_calls (rows_of n) head (length here.closed + 1) here.recent Termination in
        let early = closed_calls (rows_of n) head here.closed in
        let all = restacked m [] here.closed in
        let most = closed_files head m base all in
        puts_all (early ++ steps_calls here.recent ++ tried_calls tried ++ last)
        ∙ flat_map-append put (early ++ steps_calls here.recent ++ tried_calls tried) last
        ∙ ap (λ fs. fs ++ put_all last)
        (flat_map-append put (early ++ steps_calls here.recent) (tried_calls tried)
        ∙ (λ i. flat_map-append put early (steps_calls here.recent) i ++ tried_puts tried i)
        ∙ append-nil (put_all early ++ put_all (steps_calls here.recent))
        ∙ (λ i. closed_here i ++ no_puts here.recent i) ∙ append-nil most)
        ∙ ap (λ fs. most ++ fs)
        (part_puts (steps_in all) (steps_in here.closed) here.recent (restacked_alike m [] here.closed) on_parts.1
        (length here.closed + 1) Termination
        ∙ ap (λ k. segment_files head m base (steps_in all) (k + 1)
        (with_stacks_of m (steps_in here.closed) here.recent) Termination) (sym (restacked_length m [] here.closed)))
        ∙ ap (λ (c : Split Step Trigger). closed_files head m base c.closed
        ++ segment_files head m base (steps_in c.closed) (length c.closed + 1) c.recent Termination) (sym cut_there)
