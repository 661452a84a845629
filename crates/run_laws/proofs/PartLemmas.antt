-- The parts of a run: their texts, their rows, and that they can be written.
use Rattle.std.proofs.Common.{◌≡◌, ℕ, suc, ◌+◌, ◌<◌, ◌≤◌, ◌==◌, Bool, true, false, List, [], ◌∷◌, ◌++◌}
use Rattle.std.proofs.Common.{length, map, flat_map, refl, sym, ap, subst, ◌∙◌, arith, count_by, All, Contains, ⊎_elim}
use Rattle.std.proofs.Common.{cond, filter}
use Rattle.std.specs.List.{AllByRecursion, enumerate_from}
use Rattle.std.proofs.lemmas.List.{append-nil, length-append, length-map, map-append}
use Rattle.std.proofs.lemmas.List.Concat.{flat_map-append}
use Rattle.std.proofs.lemmas.List.Elements.{All-contains, All-from_recursion, All-weaker}
use Rattle.event_costs.specs.Costs.{IsWhole}
use Rattle.cg_format.specs.declared.trigger.Trigger.{Trigger}
use Rattle.cg_format.specs.declared.trigger.Trigger.TheVariants.{Termination}
use Rattle.sym_map.specs.SymbolMap.{SymbolMap}
use Rattle.sym_map.proofs.Members.{Contains-cons, Contains-first, Contains-from_map, Contains-map, first_or_rest}
use Rattle.shadow_stack.specs.Traces.{EventOnStack, events_on_stacks}
use Rattle.arc_costs.specs.Contents.{Listed}
use Rattle.cg_format.specs.Part.{part_text}
use Rattle.cg_format.specs.declared.head.PartHead.{PartHead}
use Rattle.part_dump.specs.Cuts.{cuts}
use Rattle.part_dump.specs.Steps.{Step, events_on_stack_of, thread_of, threads}
use Rattle.part_dump.specs.Steps as steps
use Rattle.run_laws.proofs.Others.{cuts_together, all_sum_up, whole_arcs, whole_lines}
use Rattle.profile_run.specs.Program.{Program, head_of_run, CanRun}
use Rattle.recorder.specs.Rows.{rows_of}
use Rattle.profile_run.specs.Trace.{Makes, Stop, RunStep, steps_of}
use Rattle.once_each.specs.Orderly.{IsRunSized, IsSmall}
use Rattle.once_each.specs.Parts.{ArePartsOfTrace, ThreadRows, is_by}
use Rattle.once_each.specs.Runs.{AreOrderlyAfter, stacked_events}
use Rattle.once_each.specs.Written.{SumsUp, file_of, segment_parts, segments_of, thread_part}
use Rattle.once_each.proofs.MemberLemmas.{All-members, Contains-flat_map, each_at, each_from, from_filter, from_flat_map}
use Rattle.once_each.proofs.WrittenLemmas.{run_files, run_parts, segment_exact}
use Rattle.reads_back.specs.Joined.{AreOfOneRun, ArePartsOfRun, WrittenPart, first_command, rows_of_all}
use Rattle.reads_back.specs.Joined.{texts_of}
use Rattle.reads_back.specs.Rows.{AreWritable, command_of}
use Rattle.reads_back.proofs.WritableLemmas.{writable_rows}
use Rattle.run_laws.specs.OwnParts.{files_of_run, texts_of_files}
use Rattle.run_laws.specs.Runs.{command_of_run, events_with_costs, part_of, parts_written, rows_of_run, segment_written}
use Rattle.run_laws.specs.Runs.{thread_rows}
use Rattle.run_laws.proofs.EventLemmas.{have_stacks, orderly, sized}

abbrev Segment : Type 0
Segment = List Step × Trigger

-- ---- texts and rows

module _ (guest : Program) where
  abbrev head : PartHead
  head = head_of_run guest

  abbrev rows : List EventOnStack → Listed
  rows = rows_of guest.syms

  abbrev base : List ℕ
  base = guest.options.base

  abbrev text : WrittenPart → List ℕ
  text part = part_text part.head part.rows guest.syms

  one_texts : (number : ℕ) (trigger : Trigger) (parts : List ThreadRows)
      → map (λ f. f.1) (map (file_of head guest.syms base number trigger) parts)
      ≡ map text (map (part_of head number trigger) parts)
  one_texts number trigger [] = refl
  one_texts number trigger (part ∷ parts) =
      ap (λ (ts : List (List ℕ)). text (part_of head number trigger part) ∷ ts) (one_texts number trigger parts)

  all_texts : (numbered : List (ℕ × Segment))
      → map (λ f. f.1)
      (flat_map (λ s. map (file_of head guest.syms base s.0 s.1.1) (segment_parts rows s.1.0)) numbered)
      ≡ map text (flat_map (λ s. segment_written guest s.0 s.1.0 s.1.1) numbered)
  all_texts [] = refl
  all_texts (s ∷ more) =
      let put = map (file_of head guest.syms base s.0 s.1.1) (segment_parts rows s.1.0) in
      let puts = flat_map (λ s. map (file_of head guest.syms base s.0 s.1.1) (segment_parts rows s.1.0)) more in
      let written = segment_written guest s.0 s.1.0 s.1.1 in
      let later = flat_map (λ s. segment_written guest s.0 s.1.0 s.1.1) more in
      map-append (λ f. f.1) put puts
      ∙ (λ i. one_texts s.0 s.1.1 (segment_parts rows s.1.0) i ++ all_texts more i)
      ∙ sym (map-append text written later)

  pub texts_same : (trace : List RunStep) (stop : Stop)
      → texts_of_files (files_of_run guest trace stop) ≡ texts_of guest.syms (parts_written guest trace)
  texts_same trace stop =
      ap texts_of_files (run_files rows head guest.syms base guest.options.dump_points (steps_of trace))
      ∙ all_texts (enumerate_from 1 (segments_of guest.syms guest.options.dump_points (steps_of trace)))

  -- the rows of the parts are those of the threads in the segments
  module _ {R : Type 0} (of : Listed → List R) where
    one_rows : (number : ℕ) (trigger : Trigger) (parts : List ThreadRows)
        → flat_map (λ (p : WrittenPart). of p.rows) (map (part_of head number trigger) parts)
        ≡ flat_map (λ (p : ThreadRows). of p.rows) parts
    one_rows number trigger [] = refl
    one_rows number trigger (part ∷ parts) = ap (λ rs. of part.rows ++ rs) (one_rows number trigger parts)

    every_row : (number : ℕ) (segments : List Segment)
        → flat_map (λ (p : WrittenPart). of p.rows)
        (flat_map (λ s. segment_written guest s.0 s.1.0 s.1.1) (enumerate_from number segments))
        ≡ flat_map (λ segment. flat_map (λ (p : ThreadRows). of p.rows) segment)
        (map (λ (s : Segment). segment_parts rows s.0) segments)
    every_row number [] = refl
    every_row number (s ∷ segments) =
        let written = segment_written guest number s.0 s.1 in
        let later = flat_map (λ s. segment_written guest s.0 s.1.0 s.1.1) (enumerate_from (number + 1) segments) in
        flat_map-append (λ (p : WrittenPart). of p.rows) written later
        ∙ (λ i. one_rows number s.1 (segment_parts rows s.0) i ++ every_row (number + 1) segments i)

  pub rows_same : (trace : List RunStep) → rows_of_all (parts_written guest trace) ≡ rows_of_run guest trace
  rows_same trace =
      let segments = segments_of guest.syms guest.options.dump_points (steps_of trace) in
      λ i. record {
        lines = every_row (λ listed. listed.lines) 1 segments i;
        arcs = every_row (λ listed. listed.arcs) 1 segments i;
      }

-- ---- the events of a thread in a segment

own_among : (thread : ℕ) (segment : List Step) (x : EventOnStack) → Contains (events_on_stack_of thread segment) x
    → Contains (stacked_events segment) x
own_among thread segment x is =
    let from = Contains-from_map (λ (y : Step). y.on_stack) (steps.steps_of_thread thread segment) x is in
    let step = from_filter (λ (y : Step). thread_of y == thread) segment from.0 from.1 in
    subst (Contains (stacked_events segment)) from.2 (Contains-map (λ (y : Step). y.on_stack) segment from.0 step.0)

fewer_own : (thread : ℕ) (segment : List Step) → length (events_on_stack_of thread segment) ≤ length segment
fewer_own thread segment =
    omega (
      arith,
      length-map (steps.steps_of_thread thread segment) (λ (y : Step). y.on_stack),
      fewer (λ (y : Step). thread_of y == thread) segment,
    )
  where
    fewer : (p : Step → Bool) (xs : List Step) → length (filter p xs) ≤ length xs
    fewer p [] = omega arith
    fewer p (x ∷ xs) = by (p x) (fewer p xs)
      where
        by : (b : Bool) → length (filter p xs) ≤ length xs
            → length (cond b (x ∷ filter p xs) (filter p xs)) ≤ suc (length xs)
        by true less = omega (arith, less)
        by false less = omega (arith, less)

shorter_segment : (segments : List Segment) (s : Segment) → Contains segments s
    → length s.0 ≤ length (flat_map (λ (t : Segment). t.0) segments)
shorter_segment [] s is = absurd (omega (arith, is.1))
shorter_segment (t ∷ segments) s is =
    let long = length-append t.0 (flat_map (λ (u : Segment). u.0) segments) in
    ⊎_elim (λ (e : t ≡ s). let same : length t.0 ≡ length s.0 = ap (λ (u : Segment). length u.0) e in
    omega (arith, long, same))
    (λ later. omega (arith, long, shorter_segment segments s later)) (first_or_rest t segments s is)

-- ---- the parts of a run can be written

each_whole : (syms : SymbolMap) (earlier xs : List Step) → AreOrderlyAfter syms earlier xs
    → AllByRecursion (λ (x : EventOnStack). IsWhole x.cost) (stacked_events xs)
each_whole syms earlier [] each = tt
each_whole syms earlier (x ∷ xs) each = (each.0.whole, each_whole syms (earlier ++ x ∷ []) xs each.1)

stacked_pieces : (segments : List Segment)
    → flat_map (λ (s : Segment). stacked_events s.0) segments ≡ stacked_events (flat_map (λ (s : Segment). s.0) segments)
stacked_pieces [] = refl
stacked_pieces (s ∷ segments) =
    ap (λ (l : List EventOnStack). stacked_events s.0 ++ l) (stacked_pieces segments)
    ∙ sym (map-append (λ (x : Step). x.on_stack) s.0 (flat_map (λ (s : Segment). s.0) segments))

module _ (guest : Program) (can : CanRun guest) (past : List RunStep) (makes : Makes guest past) where
  abbrev syms : SymbolMap
  syms = guest.syms

  abbrev run : List Step
  run = steps_of past

  abbrev all : List EventOnStack
  all = events_on_stacks syms (events_with_costs past)

  abbrev segments : List Segment
  segments = segments_of syms guest.options.dump_points run

  pub together : flat_map (λ (s : Segment). s.0) segments ≡ run
  together =
      let closed = (cuts syms guest.options.dump_points run).closed in
      let recent = (cuts syms guest.options.dump_points run).recent in
      flat_map-append (λ (s : Segment). s.0) closed ((recent, Termination) ∷ [])
      ∙ ap (λ (l : List Step). flat_map (λ (s : Segment). s.0) closed ++ l) (append-nil recent)
      ∙ cuts_together syms guest.options.dump_points run

  in_run : (s : Segment) → Contains segments s → (x : EventOnStack) → Contains (stacked_events s.0) x → Contains all x
  in_run s is x here =
      subst (λ (l : List EventOnStack). Contains l x) (stacked_pieces segments ∙ ap stacked_events together
      ∙ have_stacks guest can past makes)
      (Contains-flat_map (λ (t : Segment). stacked_events t.0) segments s x is here)

  whole_cost : (x : EventOnStack) → Contains all x → IsWhole x.cost
  whole_cost x is =
      each_at (λ (y : EventOnStack). IsWhole y.cost) (stacked_events run) (each_whole syms [] run (orderly guest can past makes)) x
      (subst (λ (l : List EventOnStack). Contains l x) (sym (have_stacks guest can past makes)) is)

  pub sums_up : SumsUp syms (rows_of syms) all
  sums_up xs among =
      all_sum_up syms xs (All-weaker (Contains all) (λ (x : EventOnStack). IsWhole x.cost) whole_cost xs among)

  pub parts_of_trace : ArePartsOfTrace syms (events_with_costs past) (thread_rows guest past)
  parts_of_trace =
      run_parts syms guest.options.dump_points run (rows_of syms) (have_stacks guest can past makes) sums_up

  -- a thread's events in a segment
  module _ (s : Segment) (is : Contains segments s) (thread : ℕ) where
    among : All (Contains all) (events_on_stack_of thread s.0)
    among = All-members (events_on_stack_of thread s.0) all (λ x here. in_run s is x (own_among thread s.0 x here))

    own_sized : IsRunSized (events_on_stack_of thread s.0)
    own_sized =
        let big = sized guest can past makes in
        let many : length run ≡ length (stacked_events run) = sym (length-map run (λ (y : Step). y.on_stack)) in
        let short = shorter_segment segments s is in
        let same : length (flat_map (λ (t : Segment). t.0) segments) ≡ length run = ap length together in
        record {
          events = omega (arith, fewer_own thread s.0, short, same, many, big.events);
          small = All-weaker (Contains all) IsSmall (λ x here. All-contains IsSmall (stacked_events run) x big.small
              (subst (λ (l : List EventOnStack). Contains l x) (sym (have_stacks guest can past makes)) here))
              (events_on_stack_of thread s.0) among;
        }

    own_writable : AreWritable syms (rows_of syms (events_on_stack_of thread s.0))
    own_writable =
        writable_rows syms can.sound (events_with_costs past) (events_on_stack_of thread s.0)
        (rows_of syms (events_on_stack_of thread s.0)) among own_sized (sums_up (events_on_stack_of thread s.0) among)
        (record {
          lines = whole_lines syms (events_on_stack_of thread s.0);
          arcs = whole_arcs syms (events_on_stack_of thread s.0);
        })

    part_writable : (xs : List EventOnStack) → events_on_stack_of thread s.0 ≡ xs → (part : ThreadRows)
        → Contains (thread_part (rows_of syms) thread xs) part → AreWritable syms part.rows
    part_writable [] own part here = absurd (omega (arith, here.1))
    part_writable (x ∷ xs) own part here =
        let made : ThreadRows = record { thread = record { 0 = thread }; rows = rows_of syms (x ∷ xs) } in
        ⊎_elim (λ (same : made ≡ part).
        subst (λ (p : ThreadRows). AreWritable syms p.rows) same
        (subst (λ (ys : List EventOnStack). AreWritable syms (rows_of syms ys)) own own_writable))
        (λ later. absurd (omega (arith, later.1))) (first_or_rest made [] part here)

  segment_writable : (s : Segment) → Contains segments s
      → AllByRecursion (λ (p : ThreadRows). AreWritable syms p.rows) (segment_parts (rows_of syms) s.0)
  segment_writable s is =
      each_from (λ (p : ThreadRows). AreWritable syms p.rows) (segment_parts (rows_of syms) s.0)
      (λ part here.
      let from = from_flat_map (λ t. thread_part (rows_of syms) t (events_on_stack_of t s.0)) (threads s.0) part here in
      part_writable s is from.item (events_on_stack_of from.item s.0) refl part from.has)

  abbrev IsFine : WrittenPart → Type 0
  IsFine part = AreOfOneRun (head_of_run guest) part.head × AreWritable syms part.rows

  fine_parts : (number : ℕ) (trigger : Trigger) (parts : List ThreadRows)
      → AllByRecursion (λ (p : ThreadRows). AreWritable syms p.rows) parts
      → (more : List WrittenPart) → AllByRecursion IsFine more
      → AllByRecursion IsFine (map (part_of (head_of_run guest) number trigger) parts ++ more)
  fine_parts number trigger [] fit more rest = rest
  fine_parts number trigger (part ∷ parts) fit more rest =
      ((record { object = refl; branch = refl }, fit.0), fine_parts number trigger parts fit.1 more rest)

  fine_from : (number : ℕ) (ss : List Segment) → ((s : Segment) → Contains ss s → Contains segments s)
      → AllByRecursion IsFine (flat_map (λ s. segment_written guest s.0 s.1.0 s.1.1) (enumerate_from number ss))
  fine_from number [] of_run = tt
  fine_from number (s ∷ ss) of_run =
      fine_parts number s.1 (segment_parts (rows_of syms) s.0) (segment_writable s (of_run s (Contains-first s ss)))
      (flat_map (λ s. segment_written guest s.0 s.1.0 s.1.1) (enumerate_from (number + 1) ss))
      (fine_from (number + 1) ss (λ t is. of_run t (Contains-cons s ss t is)))

  pub are_parts : ArePartsOfRun (head_of_run guest) syms (parts_written guest past)
  are_parts =
      let fine = fine_from 1 segments (λ s is. is) in
      record {
        one_run = All-weaker IsFine (λ (p : WrittenPart). AreOfOneRun (head_of_run guest) p.head) (λ p is. is.0)
            (parts_written guest past) (All-from_recursion IsFine (parts_written guest past) fine);
        writable = All-weaker IsFine (λ (p : WrittenPart). AreWritable syms p.rows) (λ p is. is.1)
            (parts_written guest past) (All-from_recursion IsFine (parts_written guest past) fine);
      }

  -- ---- the command of the parts

  some_part : (s : Segment) → Contains segments s → (y : Step) (ys : List Step) → s.0 ≡ y ∷ ys
      → 0 < length (segment_parts (rows_of syms) s.0)
  some_part s is y ys steps =
      let exact = segment_exact (rows_of syms) syms s.0
      (λ xs here. sums_up xs (All-weaker (Contains (stacked_events s.0)) (Contains all) (in_run s is) xs here)) in
      let there : Contains (stacked_events s.0) y.on_stack
      = subst (λ (l : List Step). Contains (stacked_events l) y.on_stack) (sym steps) (Contains-first y.on_stack (stacked_events ys)) in
      by (segment_parts (rows_of syms) s.0)
      (All-contains (λ x. count_by (is_by x) (segment_parts (rows_of syms) s.0) ≡ 1) (stacked_events s.0) y.on_stack exact.whole
      there)
    where
      by : (parts : List ThreadRows) → count_by (is_by y.on_stack) parts ≡ 1 → 0 < length parts
      by [] one = absurd (omega (arith, one))
      by (p ∷ ps) one = omega arith

  command_from : (number : ℕ) (ss : List Segment) → ((s : Segment) → Contains ss s → Contains segments s)
      → (x : Step) (xs : List Step) → flat_map (λ (s : Segment). s.0) ss ≡ x ∷ xs
      → first_command (flat_map (λ s. segment_written guest s.0 s.1.0 s.1.1) (enumerate_from number ss))
      ≡ command_of (head_of_run guest)
  command_from number [] of_run x xs flat = absurd (cc)
  command_from number (([], trigger) ∷ ss) of_run x xs flat =
      command_from (number + 1) ss (λ t is. of_run t (Contains-cons ([], trigger) ss t is)) x xs flat
  command_from number ((y ∷ ys, trigger) ∷ ss) of_run x xs flat =
      by (segment_parts (rows_of syms) (y ∷ ys))
      (some_part (y ∷ ys, trigger) (of_run (y ∷ ys, trigger) (Contains-first (y ∷ ys, trigger) ss)) y ys refl)
    where
      by : (parts : List ThreadRows) → 0 < length parts
          → first_command (map (part_of (head_of_run guest) number trigger) parts
          ++ flat_map (λ s. segment_written guest s.0 s.1.0 s.1.1) (enumerate_from (number + 1) ss))
          ≡ command_of (head_of_run guest)
      by [] some = absurd (omega (arith, some))
      by (p ∷ ps) some = refl

pub command_is : (guest : Program) (can : CanRun guest) (past : List RunStep) (makes : Makes guest past)
    → first_command (parts_written guest past) ≡ command_of_run guest past
unfolding cuts
command_is guest can [] makes = refl
command_is guest can (x ∷ xs) makes =
    command_from guest can (x ∷ xs) makes 1 (segments guest can (x ∷ xs) makes) (λ s is. is) x.step (steps_of xs)
    (together guest can (x ∷ xs) makes)
