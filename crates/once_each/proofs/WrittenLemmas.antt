-- The files of a run have the parts of its trace.
use Rattle.std.proofs.Common.{◌≡◌, ℕ, zero, suc, ◌+◌, ◌<◌, ◌==◌, nat_lt, Bool, true, false, cond, List, [], ◌∷◌, ◌++◌}
use Rattle.std.proofs.Common.{length, map, flat_map, refl, sym, ap, subst, ◌∙◌, arith, count_by, sum_by}
use Rattle.std.proofs.Common.{Contains, ⊎_elim, append_assoc}
use Rattle.std.specs.List.{AllZip, enumerate_from}
use Rattle.std.proofs.lemmas.Bool.{eq-eqb, eqb-true}
use Rattle.std.proofs.lemmas.Bool.Decides.{nat_tests}
use Rattle.std.proofs.lemmas.List.{append-nil, map-append}
use Rattle.std.proofs.lemmas.List.Concat.{flat_map-append}
use Rattle.std.proofs.lemmas.List.Elements.{All-from_recursion, All-weaker}
use Rattle.std.proofs.lemmas.List.Folds.{flat_map-map}
use Rattle.std.proofs.lemmas.List.Sums.{sum_by-append, sum_by-cons}
use Rattle.outside.specs.Outside.{Named}
use Rattle.event_costs.specs.declared.numbers.ThreadNo.{ThreadNo}
use Rattle.cg_format.specs.declared.trigger.Trigger.{Trigger}
use Rattle.cg_format.specs.declared.trigger.Trigger.TheVariants.{Termination}
use Rattle.sym_map.specs.SymbolMap.{SymbolMap}
use Rattle.once_each.proofs.Others.{Contains-cons, Contains-first, Contains-from_map, Contains-map, first_or_rest}
use Rattle.shadow_stack.specs.Traces.{EventOnStack, events_on_stacks}
use Rattle.arc_costs.specs.Contents.{Listed}
use Rattle.recorder.specs.Standing.{AreRowsOf}
use Rattle.recorder.specs.Sums.{of_thread}
use Rattle.cg_format.specs.Rows.{below}
use Rattle.cg_format.specs.declared.head.PartHead.{PartHead}
use Rattle.part_dump.specs.Cuts.{DumpPoints, cuts}
use Rattle.part_dump.specs.Parts.{files, segment_files, thread_files}
use Rattle.part_dump.specs.Steps.{Step, greatest, events_on_stack_of, thread_of, threads}
use Rattle.part_dump.specs.Steps as steps
use Rattle.part_dump.proofs.CutLemmas.{cuts_together}
use Rattle.once_each.specs.Parts.{ArePartsOf, ArePartsOfTrace, ThreadRows, is_by}
use Rattle.once_each.specs.Runs.{HaveStacks, stacked_events, trace_of}
use Rattle.once_each.specs.Written.{SumsUp, file_of, files_of, parts_of, segment_parts, segments_of, thread_part}
use Rattle.once_each.proofs.MemberLemmas.{All-members, Contains-filter, Contains-flat_map, each_from}
use Rattle.once_each.proofs.MemberLemmas.{from_filter, from_flat_map}
use Rattle.once_each.proofs.RunLemmas.{thread_within}
use Rattle.once_each.proofs.StackLemmas.{number_of}
use Rattle.once_each.proofs.SumLemmas.{sum_by-flat_map, sum_by-same}

abbrev Segment : Type 0
Segment = List Step × Trigger

-- ---- the events of a thread in a segment

own_is : (thread : ThreadNo) (segment : List Step)
    → of_thread thread (stacked_events segment) ≡ events_on_stack_of thread.0 segment
own_is thread [] = refl
own_is thread (x ∷ xs) = by (thread_of x == thread.0) (own_is thread xs)
  where
    by : (b : Bool) → of_thread thread (stacked_events xs) ≡ events_on_stack_of thread.0 xs
        → cond b (x.on_stack ∷ of_thread thread (stacked_events xs)) (of_thread thread (stacked_events xs))
        ≡ map (λ (y : Step). y.on_stack) (cond b (x ∷ steps.steps_of_thread thread.0 xs) (steps.steps_of_thread thread.0 xs))
    by true rest = ap (λ (l : List EventOnStack). x.on_stack ∷ l) rest
    by false rest = rest

own_among : (thread : ℕ) (segment : List Step) (x : EventOnStack) → Contains (events_on_stack_of thread segment) x
    → Contains (stacked_events segment) x
own_among thread segment x is =
    let from = Contains-from_map (λ (y : Step). y.on_stack) (steps.steps_of_thread thread segment) x is in
    let step = from_filter (λ (y : Step). thread_of y == thread) segment from.0 from.1 in
    subst (Contains (stacked_events segment)) from.2 (Contains-map (λ (y : Step). y.on_stack) segment from.0 step.0)

-- ---- one number among those below

abbrev is_at : ℕ → ℕ → ℕ
is_at k t = number_of (k == t)

one_more : (k n : ℕ) → number_of (nat_lt k n) + number_of (k == n) ≡ number_of (nat_lt k (suc n))
one_more k n = grind (arith, nat_tests)

none_below : (k : ℕ) → 0 ≡ number_of (nat_lt k 0)
none_below k = grind (arith, nat_tests)

sum_below : (k n : ℕ) → sum_by (is_at k) (below n) ≡ number_of (nat_lt k n)
sum_below k zero = none_below k
sum_below k (suc n) =
    let last = sum_by-cons (is_at k) n [] in
    let both = sum_by-append (is_at k) (below n) (n ∷ []) in
    omega (arith, both, last, sum_below k n) ∙ one_more k n

one_below : (k n : ℕ) → k < n → sum_by (is_at k) (below n) ≡ 1
one_below k n small = sum_below k n ∙ within k n small
  where
    within : (k n : ℕ) → k < n → number_of (nat_lt k n) ≡ 1
    within k n small = grind (arith, nat_tests)

-- ---- the parts of a segment

module _ (rows_of : List EventOnStack → Listed) where
  part_exact : (syms : SymbolMap) (segment : List Step) (thread : ℕ) (xs : List EventOnStack) → events_on_stack_of thread segment ≡ xs
      → AreRowsOf syms (events_on_stack_of thread segment) (rows_of (events_on_stack_of thread segment))
      → (part : ThreadRows) → Contains (thread_part rows_of thread xs) part
      → AreRowsOf syms (of_thread part.thread (stacked_events segment)) part.rows
  part_exact syms segment thread [] own exact part is = absurd (omega (arith, is.1))
  part_exact syms segment thread (x ∷ xs) own exact part is =
      let made : ThreadRows = record { thread = record { 0 = thread }; rows = rows_of (x ∷ xs) } in
      ⊎_elim (λ same.
      subst (λ (p : ThreadRows). AreRowsOf syms (of_thread p.thread (stacked_events segment)) p.rows) same
      (subst (λ (ys : List EventOnStack). AreRowsOf syms ys (rows_of (x ∷ xs))) (sym (own_is made.thread segment))
      (subst (λ (ys : List EventOnStack). AreRowsOf syms (events_on_stack_of thread segment) (rows_of ys)) own exact)))
      (λ later. absurd (omega (arith, later.1))) (first_or_rest made [] part is)

  part_count : (y : EventOnStack) (k thread : ℕ) (xs : List EventOnStack) → y.event.thread.0 ≡ k → (k ≡ thread → 0 < length xs)
      → count_by (is_by y) (thread_part rows_of thread xs) ≡ is_at k thread
  part_count y k thread [] of some = sym (by (k == thread) refl)
    where
      by : (b : Bool) → (k == thread) ≡ b → number_of b ≡ 0
      by true is = let more = some (eqb-true k thread is) in absurd (omega (arith, more))
      by false is = refl
  part_count y k thread (x ∷ xs) of some =
      let made : ThreadRows = record { thread = record { 0 = thread }; rows = rows_of (x ∷ xs) } in
      let count = sum_by-cons (λ (p : ThreadRows). number_of (is_by y p)) made [] in
      let here : number_of (is_by y made) ≡ is_at k thread = ap (λ n. number_of (n == thread)) of in
      omega (arith, count, here)

  whole_at : (segment : List Step) (y : EventOnStack) → Contains (stacked_events segment) y
      → count_by (is_by y) (segment_parts rows_of segment) ≡ 1
  whole_at segment y is =
      let from = Contains-from_map (λ (x : Step). x.on_stack) segment y is in
      let x = from.0 in
      let k = thread_of x in
      let of : y.event.thread.0 ≡ k = ap (λ (z : EventOnStack). z.event.thread.0) (sym from.2) in
      let own = Contains-filter (λ (z : Step). thread_of z == k) segment x from.1 (eq-eqb k k refl) in
      let there = (Contains-map (λ (z : Step). z.on_stack) (steps.steps_of_thread k segment) x own).1 in
      let some : (t : ℕ) → k ≡ t → 0 < length (events_on_stack_of t segment) = λ t same.
      subst (λ n. 0 < length (events_on_stack_of n segment)) same (omega (arith, there)) in
      sum_by-flat_map (λ (p : ThreadRows). number_of (is_by y p)) (λ t. thread_part rows_of t (events_on_stack_of t segment))
      (threads segment)
      ∙ sum_by-same (λ t. count_by (is_by y) (thread_part rows_of t (events_on_stack_of t segment))) (is_at k)
      (λ t. part_count y k t (events_on_stack_of t segment) of (some t)) (threads segment)
      ∙ one_below k (suc (greatest segment)) (thread_within segment x from.1)

  pub segment_exact : (syms : SymbolMap) (segment : List Step) → SumsUp syms rows_of (stacked_events segment)
      → ArePartsOf syms (stacked_events segment) (segment_parts rows_of segment)
  segment_exact syms segment sums = record {
    exact = All-from_recursion
        (λ (part : ThreadRows). AreRowsOf syms (of_thread part.thread (stacked_events segment)) part.rows)
        (segment_parts rows_of segment)
        (each_from (λ (part : ThreadRows). AreRowsOf syms (of_thread part.thread (stacked_events segment)) part.rows)
        (segment_parts rows_of segment) (λ part is.
        let from = from_flat_map (λ t. thread_part rows_of t (events_on_stack_of t segment)) (threads segment) part is in
        part_exact syms segment from.item (events_on_stack_of from.item segment) refl
        (sums (events_on_stack_of from.item segment)
        (All-members (events_on_stack_of from.item segment) (stacked_events segment) (own_among from.item segment)))
        part from.has));
    whole = All-from_recursion (λ (y : EventOnStack). count_by (is_by y) (segment_parts rows_of segment) ≡ 1) (stacked_events segment)
        (each_from (λ (y : EventOnStack). count_by (is_by y) (segment_parts rows_of segment) ≡ 1) (stacked_events segment)
        (whole_at segment));
  }

-- ---- the parts of a run

zip_each : {A B C : Type 0} (R : B → C → Type 0) (f : A → B) (g : A → C) (xs : List A)
    → ((x : A) → Contains xs x → R (f x) (g x)) → AllZip R (map f xs) (map g xs)
zip_each R f g [] each = tt
zip_each R f g (x ∷ xs) each =
    (each x (Contains-first x xs), zip_each R f g xs (λ y in'. each y (Contains-cons x xs y in')))

seen_all : (segments : List Segment)
    → flat_map (λ (s : Segment). stacked_events s.0) segments ≡ stacked_events (flat_map (λ (s : Segment). s.0) segments)
seen_all [] = refl
seen_all (s ∷ segments) =
    ap (λ (l : List EventOnStack). stacked_events s.0 ++ l) (seen_all segments)
    ∙ sym (map-append (λ (x : Step). x.on_stack) s.0 (flat_map (λ (s : Segment). s.0) segments))

module _ (syms : SymbolMap) (asked : DumpPoints) (run : List Step) where
  -- the segments put together are the steps
  segments_all : flat_map (λ (s : Segment). s.0) (segments_of syms asked run) ≡ run
  segments_all =
      let closed = (cuts syms asked run).closed in
      let recent = (cuts syms asked run).recent in
      flat_map-append (λ (s : Segment). s.0) closed ((recent, Termination) ∷ [])
      ∙ ap (λ (l : List Step). flat_map (λ (s : Segment). s.0) closed ++ l) (append-nil recent)
      ∙ cuts_together syms asked run

  pub run_parts : (rows_of : List EventOnStack → Listed) → HaveStacks syms run → SumsUp syms rows_of (events_on_stacks syms (trace_of run))
      → ArePartsOfTrace syms (trace_of run) (parts_of rows_of syms asked run)
  run_parts rows_of stacks sums =
      let segments = segments_of syms asked run in
      let events : List EventOnStack = events_on_stacks syms (trace_of run) in
      let whole : flat_map (λ (s : Segment). stacked_events s.0) segments ≡ events
      = seen_all segments ∙ ap stacked_events segments_all ∙ stacks in
      record {
        segments = map (λ (s : Segment). stacked_events s.0) segments;
        whole = flat_map-map (λ (l : List EventOnStack). l) (λ (s : Segment). stacked_events s.0) segments ∙ whole;
        exact = zip_each (ArePartsOf syms) (λ (s : Segment). stacked_events s.0) (λ (s : Segment). segment_parts rows_of s.0)
            segments (λ s in'. segment_exact rows_of syms s.0 (λ xs all.
            sums xs (All-weaker (Contains (stacked_events s.0)) (Contains events) (λ x here.
            subst (λ (l : List EventOnStack). Contains l x) whole
            (Contains-flat_map (λ (t : Segment). stacked_events t.0) segments s x in' here)) xs all)));
      }

-- ---- the files of a run

map_flat : {A B C : Type 0} (g : B → C) (f : A → List B) (h : A → List C) → ((x : A) → map g (f x) ≡ h x)
    → (xs : List A) → map g (flat_map f xs) ≡ flat_map h xs
map_flat g f h same [] = refl
map_flat g f h same (x ∷ xs) =
    map-append g (f x) (flat_map f xs) ∙ ap (λ l. l ++ map g (flat_map f xs)) (same x)
    ∙ ap (λ l. h x ++ l) (map_flat g f h same xs)

module _ (rows_of : List EventOnStack → Listed) (head : PartHead) (syms : SymbolMap) (base : List ℕ) where
  thread_file : (number : ℕ) (trigger : Trigger) (thread : ℕ) (xs : List EventOnStack)
      → map (file_of head syms base number trigger) (thread_part rows_of thread xs)
      ≡ thread_files rows_of head syms base number trigger thread xs
  thread_file number trigger thread [] = refl
  thread_file number trigger thread (x ∷ xs) = refl

  segment_file : (number : ℕ) (s : Segment)
      → map (file_of head syms base number s.1) (segment_parts rows_of s.0)
      ≡ segment_files rows_of head syms base number s.0 s.1
  segment_file number s =
      map_flat (file_of head syms base number s.1) (λ thread. thread_part rows_of thread (events_on_stack_of thread s.0))
      (λ thread. thread_files rows_of head syms base number s.1 thread (events_on_stack_of thread s.0))
      (λ thread. thread_file number s.1 thread (events_on_stack_of thread s.0)) (threads s.0)

  abbrev files_from : ℕ → List Segment → List Named
  files_from number segments =
      flat_map (λ s. map (file_of head syms base s.0 s.1.1) (segment_parts rows_of s.1.0))
      (enumerate_from number segments)

  -- the last segment comes after those that cuts end
  files_last : (number last : ℕ) (closed : List Segment) (s : Segment) → last ≡ number + length closed
      → files_from number (closed ++ s ∷ [])
      ≡ flat_map (λ s. segment_files rows_of head syms base s.0 s.1.0 s.1.1) (enumerate_from number closed)
      ++ segment_files rows_of head syms base last s.0 s.1
  files_last number last [] s is =
      let same : number ≡ last = omega (arith, is) in
      append-nil (map (file_of head syms base number s.1) (segment_parts rows_of s.0)) ∙ segment_file number s
      ∙ ap (λ n. segment_files rows_of head syms base n s.0 s.1) same
  files_last number last (t ∷ closed) s is =
      let here = segment_files rows_of head syms base number t.0 t.1 in
      let rest = flat_map (λ (s : ℕ × Segment). segment_files rows_of head syms base s.0 s.1.0 s.1.1)
      (enumerate_from (number + 1) closed) in
      ap (λ (fs : List Named). fs ++ files_from (number + 1) (closed ++ s ∷ [])) (segment_file number t)
      ∙ ap (λ (fs : List Named). here ++ fs) (files_last (number + 1) last closed s (omega (arith, is)))
      ∙ sym (append_assoc here rest (segment_files rows_of head syms base last s.0 s.1))

  pub run_files : (asked : DumpPoints) (run : List Step)
      → files rows_of head syms base asked run ≡ files_of head syms base rows_of (segments_of syms asked run)
  unfolding files
  run_files asked run =
      let closed = (cuts syms asked run).closed in
      sym (files_last 1 (length closed + 1) closed ((cuts syms asked run).recent, Termination) (omega arith))
