-- Some of the parts of a run: the sums of their rows are those of their events, and so each counts once.
use Rattle.std.proofs.Common.{◌≡◌, ℕ, zero, suc, ◌+◌, ◌*◌, ◌<◌, ◌≤◌, Bool, true, false, ◌||◌, List, [], ◌∷◌, ◌++◌, length}
use Rattle.std.proofs.Common.{map, flat_map, take, get_or, Option, Some, refl, sym, ap, subst, ◌∙◌, arith}
use Rattle.std.proofs.Common.{if◌then◌else◌, sum_by, count_by, Contains, append_assoc}
use Rattle.std.specs.List.{AllByRecursion, enumerate_from, list_any}
use Rattle.std.specs.Option.{option_map_or}
use Rattle.std.specs.Prelude.{slice_index_or}
use Rattle.std.proofs.lemmas.List.{get_or-take, map-append}
use Rattle.std.proofs.lemmas.List.Elements.{All-filter, recursion_from_All}
use Rattle.std.proofs.lemmas.List.Sums.{sum_by-append, sum_by-cons}
use Rattle.outside.specs.Outside.{Named}
use Rattle.event_costs.specs.Costs.{event_names, events_shown}
use Rattle.event_costs.specs.Keys.{ArcKey}
use Rattle.event_costs.specs.declared.numbers.FuncId.{FuncId}
use Rattle.sym_map.specs.SymbolMap.{place_of}
use Rattle.shadow_stack.specs.Stacks.{Activation, Stack, top_of}
use Rattle.shadow_stack.specs.Traces.{EventOnStack, events_on_stacks}
use Rattle.arc_costs.specs.Contents.{Listed}
use Rattle.arc_costs.specs.Rows.{ArcRow, LineRow}
use Rattle.report_laws.proofs.Others.{in-map, is_group, arcs_within, all_of, of_all, each_at, IsChain, count-cons}
use Rattle.report_laws.proofs.Others.{number_of, on_arc, sum_by-each, sum_by-filter, sum_by-flat_map, sum_by-map}
use Rattle.report_laws.proofs.Others.{sum_by-same, run_files, all_joined_unnamed, are_parts, all_append}
use Rattle.report_laws.proofs.Others.{chains, cost_of, each_from, have_stacks, tops}
use Rattle.call_graph.specs.Groups.{Grouping, is_member}
use Rattle.call_graph.specs.Reach.{IsGroup, Steps}
use Rattle.cg_format.specs.declared.trigger.Trigger.{Trigger}
use Rattle.cg_read.specs.Profiles.{Contents, IsProfile}
use Rattle.cg_read.specs.declared.rows.CallRow.{CallRow}
use Rattle.cg_read.specs.declared.rows.SelfRow.{SelfRow}
use Rattle.cycles.specs.Costs.{IsGroupsOf, IsInclusive, call_arcs, inclusive_cost, self_cost}
use Rattle.part_dump.specs.Steps.{IsPiece, Step, events_on_stack_of, threads}
use Rattle.profile_files.specs.Joined.{Joins, no_rows}
use Rattle.profile_run.specs.Program.{Program, head_of_run, CanRun}
use Rattle.profile_run.specs.Trace.{Makes, Stop, RunStep, steps_of}
use Rattle.recorder.specs.Laws.{IsIn}
use Rattle.recorder.specs.Rows.{rows_of}
use Rattle.once_each.specs.Graphs.{graph}
use Rattle.once_each.specs.Once.{once, stands}
use Rattle.once_each.specs.Orderly.{FitsTop}
use Rattle.once_each.specs.Parts.{ThreadRows}
use Rattle.once_each.specs.Profiles.{Numbering, call_row, self_row}
use Rattle.once_each.specs.Texts.{Naming, numbers_in}
use Rattle.once_each.specs.Written.{file_of, segment_parts, segments_of, thread_part}
use Rattle.once_each.proofs.PartLemmas as parts
use Rattle.reads_back.specs.Joined.{AreOfOneRun, WrittenPart, rows_of_all, texts_of}
use Rattle.reads_back.specs.Rows.{AreWritable, naming}
use Rattle.run_laws.specs.OwnParts.{files_of_run}
use Rattle.run_laws.specs.Profiles.{number_in}
use Rattle.run_laws.specs.Runs.{events_with_costs, part_of, parts_written, segment_written}
use Rattle.run_laws.proofs.PieceLemmas as piece_of_run
use Rattle.report_laws.specs.Chosen.{IsProfileOfParts, events_chosen, file_written, parts_chosen}
use Rattle.report_laws.proofs.AddrOwnPartLemmas.{Segment, each_flat, flat, whole_run}
use Rattle.report_laws.proofs.NumberLemmas.{any_in, group_counts, steps_in}
use Rattle.report_laws.proofs.StandLemmas.{calls_are, selfs_are}

-- ---- the files are those of the parts

module _ (guest : Program) where
  one_files : (number : ℕ) (trigger : Trigger) (ps : List ThreadRows)
      → map (file_of (head_of_run guest) guest.syms guest.options.base number trigger) ps
      ≡ map (file_written guest) (map (part_of (head_of_run guest) number trigger) ps)
  one_files number trigger [] = refl
  one_files number trigger (part ∷ ps) =
      ap (λ (fs : List Named). file_written guest (part_of (head_of_run guest) number trigger part) ∷ fs)
      (one_files number trigger ps)

  all_files : (numbered : List (ℕ × Segment))
      → flat_map (λ s. map (file_of (head_of_run guest) guest.syms guest.options.base s.0 s.1.1)
      (segment_parts (rows_of guest.syms) s.1.0)) numbered
      ≡ map (file_written guest) (flat_map (λ s. segment_written guest s.0 s.1.0 s.1.1) numbered)
  all_files [] = refl
  all_files (s ∷ more) =
      (λ i. one_files s.0 s.1.1 (segment_parts (rows_of guest.syms) s.1.0) i ++ all_files more i)
      ∙ sym (map-append (file_written guest) (segment_written guest s.0 s.1.0 s.1.1)
      (flat_map (λ s. segment_written guest s.0 s.1.0 s.1.1) more))

  pub files_written : (trace : List RunStep) (stop : Stop)
      → files_of_run guest trace stop ≡ map (file_written guest) (parts_written guest trace)
  files_written trace stop =
      run_files (rows_of guest.syms) (head_of_run guest) guest.syms guest.options.base guest.options.dump_points
      (steps_of trace)
      ∙ all_files (enumerate_from 1 (segments_of guest.syms guest.options.dump_points (steps_of trace)))

-- ---- a stack by the numbers of its functions

abbrev numbers_on : (ℕ → ℕ) → Stack → List ℕ
numbers_on number s = map (λ a. number a.func.0) s

-- those beneath the top
abbrev beneath_top : (ℕ → ℕ) → Stack → List ℕ
beneath_top number [] = []
beneath_top number (a ∷ s) = numbers_on number s

abbrev by_numbers : (ℕ → ℕ) → (ℕ → ℕ → Bool) → ArcKey → Bool
by_numbers number test arc = test (number arc.caller.0) (number arc.callee.0)

arcs_are_steps : (Step : ℕ → ℕ → Type 0) (number : ℕ → ℕ) (test : ℕ → ℕ → Bool) (a : Activation) (s : Stack)
    → IsChain Step (a ∷ s)
    → count_by (on_arc (by_numbers number test)) (a ∷ s) ≡ steps_in test (number a.func.0) (numbers_on number s)
arcs_are_steps Step number test a [] chain =
    let none : on_arc (by_numbers number test) a ≡ false
    = ap (λ (o : Option ArcKey). option_map_or (by_numbers number test) o false) chain.0 in
    let count = count-cons (on_arc (by_numbers number test)) a [] in
    let zero_is : number_of (on_arc (by_numbers number test) a) ≡ 0 = ap number_of none in
    omega (arith, count, zero_is)
arcs_are_steps Step number test a (b ∷ s) chain =
    let on = chain.0 in
    let is : on_arc (by_numbers number test) a ≡ test (number b.func.0) (number a.func.0)
    = ap (λ (o : Option ArcKey). option_map_or (by_numbers number test) o false) on.is
    ∙ (λ i. test (number (on.caller i)) (number (on.callee i))) in
    let count = count-cons (on_arc (by_numbers number test)) a (b ∷ s) in
    let one : number_of (on_arc (by_numbers number test) a) ≡ number_of (test (number b.func.0) (number a.func.0))
    = ap number_of is in
    let rest = arcs_are_steps Step number test b s chain.1 in
    omega (arith, count, one, rest)

any_is : (number : ℕ → ℕ) (member : ℕ → Bool) (s : Stack)
    → list_any member (numbers_on number s) ≡ stands (λ f. member (number f)) s
any_is number member [] = refl
any_is number member (a ∷ s) = ap (λ b. member (number a.func.0) || b) (any_is number member s)

-- ---- what a profile shows of rows

length-take-le : {X : Type 0} (n : ℕ) (xs : List X) → length (take n xs) ≤ n
length-take-le zero xs = omega arith
length-take-le (suc n) [] = omega arith
length-take-le (suc n) (x ∷ xs) = let rest = length-take-le n xs in omega (arith, rest)

pub shown : (branches : Bool) (names : List (List ℕ)) (cost : List ℕ) (kind : ℕ)
    → kind < length (events_shown branches names) → get_or (events_shown branches cost) kind 0 ≡ get_or cost kind 0
shown true names cost kind within = refl
shown false names cost kind within =
    get_or-take 9 cost kind 0 (let few = length-take-le 9 names in omega (arith, few, within))

module _ (n : Numbering) (p : Contents) (events : p.events ≡ events_shown n.branches event_names) (kind : ℕ)
    (within : kind < length p.events) where
  shows : (cost : List ℕ) → get_or (events_shown n.branches cost) kind 0 ≡ get_or cost kind 0
  shows cost =
      shown n.branches event_names cost kind (subst (λ (names : List (List ℕ)). kind < length names) events within)

  selfs_shown : (lines : List LineRow) → p.self_rows ≡ map (self_row n) lines → (test : ℕ → Bool)
      → self_cost test p.self_rows kind
      ≡ sum_by (λ (row : LineRow). if test (n.func row.place.func.0) then get_or row.cost kind 0 else 0) lines
  selfs_shown lines rows test =
      ap (λ (rs : List SelfRow). self_cost test rs kind) rows
      ∙ sum_by-map (λ (row : SelfRow). if test row.func then get_or row.cost kind 0 else 0) (self_row n) lines
      ∙ sum_by-same
      (λ (row : LineRow). if test (n.func row.place.func.0)
      then get_or (events_shown n.branches row.cost) kind 0 else 0)
      (λ (row : LineRow). if test (n.func row.place.func.0) then get_or row.cost kind 0 else 0)
      (λ row. ap (λ m. if test (n.func row.place.func.0) then m else 0) (shows row.cost)) lines

  calls_shown : (arcs : List ArcRow) → p.call_rows ≡ map (call_row n) arcs → (test : ℕ → ℕ → Bool)
      → sum_by (λ (row : CallRow). if test row.caller row.callee then get_or row.cost kind 0 else 0) p.call_rows
      ≡ sum_by (λ (row : ArcRow). if by_numbers n.func test row.arc then get_or row.cost kind 0 else 0) arcs
  calls_shown arcs rows test =
      ap (sum_by (λ (row : CallRow). if test row.caller row.callee then get_or row.cost kind 0 else 0)) rows
      ∙ sum_by-map (λ (row : CallRow). if test row.caller row.callee then get_or row.cost kind 0 else 0) (call_row n)
      arcs
      ∙ sum_by-same
      (λ (row : ArcRow). if by_numbers n.func test row.arc
      then get_or (events_shown n.branches row.cost) kind 0 else 0)
      (λ (row : ArcRow). if by_numbers n.func test row.arc then get_or row.cost kind 0 else 0)
      (λ row. ap (λ m. if by_numbers n.func test row.arc then m else 0) (shows row.cost)) arcs

module _ (guest : Program) (can : CanRun guest) (past : List RunStep) (makes : Makes guest past)
    (chosen : ℕ → ℕ → Bool) where
  abbrev events : List EventOnStack
  events = events_chosen guest chosen past

  abbrev segments : List Segment
  segments = segments_of guest.syms guest.options.dump_points (steps_of past)

  together : flat segments ≡ steps_of past
  together = whole_run guest.syms guest.options.dump_points (steps_of past)

  -- a thread's events in a segment, if they are chosen
  abbrev kept : ℕ → ℕ → List Step → List EventOnStack
  kept number thread segment = if chosen number thread then events_on_stack_of thread segment else []

  abbrev kept_of : ℕ × Segment → List EventOnStack
  kept_of s = flat_map (λ thread. kept s.0 thread s.1.0) (threads s.1.0)

  -- ---- the sums of the rows of the parts are those of the events

  module _ {R : Type 0} (rows : Listed → List R) (g : R → ℕ) (f : EventOnStack → ℕ)
      (same : (thread : ℕ) (segment : List Step) → IsPiece (steps_of past) segment
      → sum_by g (rows (rows_of guest.syms (events_on_stack_of thread segment))) ≡ sum_by f (events_on_stack_of thread segment)) where
    -- a part, if it is chosen
    abbrev of_part : WrittenPart → ℕ
    of_part part = if chosen part.head.part part.head.thread.0 then sum_by g (rows part.rows) else 0

    thread_sum : (number : ℕ) (trigger : Trigger) (thread : ℕ) (xs : List EventOnStack)
        → sum_by g (rows (rows_of guest.syms xs)) ≡ sum_by f xs
        → sum_by of_part (map (part_of (head_of_run guest) number trigger) (thread_part (rows_of guest.syms) thread xs))
        ≡ sum_by f (if chosen number thread then xs else [])
    thread_sum number trigger thread [] is = by (chosen number thread)
      where
        by : (b : Bool) → 0 ≡ sum_by f (if b then [] else [])
        by true = refl
        by false = refl
    thread_sum number trigger thread (x ∷ xs) is =
        sum_by-cons of_part (part_of (head_of_run guest) number trigger
        (record { thread = record { 0 = thread }; rows = rows_of guest.syms (x ∷ xs) })) []
        ∙ by (chosen number thread)
      where
        by : (b : Bool) → (if b then sum_by g (rows (rows_of guest.syms (x ∷ xs))) else 0) + 0
            ≡ sum_by f (if b then x ∷ xs else [])
        by true = omega (arith, is)
        by false = refl

    threads_sum : (number : ℕ) (s : Segment) → IsPiece (steps_of past) s.0 → (ts : List ℕ)
        → sum_by of_part (map (part_of (head_of_run guest) number s.1)
        (flat_map (λ thread. thread_part (rows_of guest.syms) thread (events_on_stack_of thread s.0)) ts))
        ≡ sum_by f (flat_map (λ thread. kept number thread s.0) ts)
    threads_sum number s piece [] = refl
    threads_sum number s piece (t ∷ ts) =
        let part = part_of (head_of_run guest) number s.1 in
        let one = thread_part (rows_of guest.syms) t (events_on_stack_of t s.0) in
        let more = flat_map (λ thread. thread_part (rows_of guest.syms) thread (events_on_stack_of thread s.0)) ts in
        ap (sum_by of_part) (map-append part one more) ∙ sum_by-append of_part (map part one) (map part more)
        ∙ (λ i. thread_sum number s.1 t (events_on_stack_of t s.0) (same t s.0 piece) i + threads_sum number s piece ts i)
        ∙ sym (sum_by-append f (kept number t s.0) (flat_map (λ thread. kept number thread s.0) ts))

    sums_from : (earlier : List Step) (number : ℕ) (ss : List Segment)
        → earlier ++ flat ss ≡ steps_of past
        → sum_by of_part (flat_map (λ s. segment_written guest s.0 s.1.0 s.1.1) (enumerate_from number ss))
        ≡ sum_by f (flat_map kept_of (enumerate_from number ss))
    sums_from earlier number [] is = refl
    sums_from earlier number (s ∷ ss) is =
        let after = flat ss in
        let piece : IsPiece (steps_of past) s.0 = record { before = earlier; after = after; whole = is } in
        sum_by-append of_part (segment_written guest number s.0 s.1)
        (flat_map (λ s. segment_written guest s.0 s.1.0 s.1.1) (enumerate_from (number + 1) ss))
        ∙ (λ i. threads_sum number s piece (threads s.0) i
        + sums_from (earlier ++ s.0) (number + 1) ss (append_assoc earlier s.0 after ∙ is) i)
        ∙ sym (sum_by-append f (kept_of (number, s)) (flat_map kept_of (enumerate_from (number + 1) ss)))

    all_sum : sum_by g (flat_map (λ (part : WrittenPart). rows part.rows) (parts_chosen guest chosen past))
        ≡ sum_by f events
    all_sum =
        sum_by-flat_map g (λ (part : WrittenPart). rows part.rows) (parts_chosen guest chosen past)
        ∙ sum_by-filter (λ (part : WrittenPart). chosen part.head.part part.head.thread.0)
        (λ part. sum_by g (rows part.rows)) (parts_written guest past)
        ∙ sums_from [] 1 segments together

  -- ---- what is so of all events of the run is so of these

  module _ (P : EventOnStack → Type 0) (all : AllByRecursion P (events_on_stacks guest.syms (events_with_costs past))) where
    of_step : (y : Step) → IsIn (steps_of past) y → P y.on_stack
    of_step y there =
        of_all P (map (λ (z : Step). z.on_stack) (steps_of past))
        (subst (AllByRecursion P) (sym (have_stacks guest can past makes)) all) y.on_stack
        (in-map (λ (z : Step). z.on_stack) (steps_of past) y there)

    of_thread : (number thread : ℕ) (segment : List Step) → IsPiece (steps_of past) segment
        → AllByRecursion P (kept number thread segment)
    of_thread number thread segment piece = by (chosen number thread)
      where
        by : (b : Bool) → AllByRecursion P (if b then events_on_stack_of thread segment else [])
        by true =
            all_of P (events_on_stack_of thread segment)
            (piece_of_run.each guest past thread segment can makes piece P of_step)
        by false = tt

    of_segments : (earlier : List Step) (number : ℕ) (ss : List Segment)
        → earlier ++ flat ss ≡ steps_of past
        → AllByRecursion P (flat_map kept_of (enumerate_from number ss))
    of_segments earlier number [] is = tt
    of_segments earlier number (s ∷ ss) is =
        let after = flat ss in
        let piece : IsPiece (steps_of past) s.0 = record { before = earlier; after = after; whole = is } in
        all_append P (kept_of (number, s)) (flat_map kept_of (enumerate_from (number + 1) ss))
        (each_flat P (λ thread. kept number thread s.0) (λ thread. of_thread number thread s.0 piece) (threads s.0))
        (of_segments (earlier ++ s.0) (number + 1) ss (append_assoc earlier s.0 after ∙ is))

    pub of_chosen : AllByRecursion P events
    of_chosen = of_segments [] 1 segments together

  abbrev Step' : ℕ → ℕ → Type 0
  Step' = Steps (graph guest.syms (events_with_costs past))

  -- ---- their profile

  module _ (p : Contents) (is : IsProfileOfParts guest chosen past p) (kind : ℕ) (within : kind < length p.events) where
    abbrev names : Naming
    names = naming (head_of_run guest) guest.syms

    abbrev n : Numbering
    n = numbers_in p names

    abbrev rows : Listed
    rows = rows_of_all (parts_chosen guest chosen past)

    abbrev top : EventOnStack → ℕ
    top x = n.func (place_of guest.syms x.event.done.pc).func.0

    abbrev beneath : EventOnStack → List ℕ
    beneath x = beneath_top n.func x.stack

    -- what an event's stack is by numbers
    record IsNumbered (x : EventOnStack) : Type 0 where
      steps : (test : ℕ → ℕ → Bool)
          → count_by (on_arc (by_numbers n.func test)) x.stack ≡ steps_in test (top x) (beneath x)
      any : (member : ℕ → Bool) → any_in member (top x) (beneath x) ≡ stands (λ f. member (n.func f)) x.stack

    numbered : (x : EventOnStack) → Contains events x → IsNumbered x
    numbered x in' =
        by x.stack refl
        (each_at (FitsTop guest.syms) events
        (of_chosen (FitsTop guest.syms) (recursion_from_All (FitsTop guest.syms)
        (events_on_stacks guest.syms (events_with_costs past)) (tops guest can past makes))) x in')
        (each_at (λ (y : EventOnStack). IsChain Step' y.stack) events
        (of_chosen (λ (y : EventOnStack). IsChain Step' y.stack)
        (chains Step' guest.syms (events_with_costs past) (λ f g s. s))) x in')
      where
        by : (s : Stack) → x.stack ≡ s → top_of x.stack ≡ Some (place_of guest.syms x.event.done.pc).func
            → IsChain Step' x.stack → IsNumbered x
        by [] same at_top chain = absurd (none (ap top_of (sym same) ∙ at_top))
          where
            none : top_of [] ≡ Some (place_of guest.syms x.event.done.pc).func → ⊥
            none e = cc
        by (a ∷ s) same at_top chain =
            let at : n.func a.func.0 ≡ top x
            = ap (λ (f : FuncId). n.func f.0) (first (ap top_of (sym same) ∙ at_top)) in
            record {
              steps = λ test.
                  ap (count_by (on_arc (by_numbers n.func test))) same
                  ∙ arcs_are_steps Step' n.func test a s (subst (IsChain Step') same chain)
                  ∙ (λ i. steps_in test (at i) (beneath_top n.func (sym same i)));
              any = λ member.
                  (λ i. any_in member (sym at i) (beneath_top n.func (same i)))
                  ∙ any_is n.func member (a ∷ s)
                  ∙ ap (stands (λ f. member (n.func f))) (sym same);
            }
          where
            first : top_of (a ∷ s) ≡ Some (place_of guest.syms x.event.done.pc).func
                → a.func ≡ (place_of guest.syms x.event.done.pc).func
            first e = cc

    selfs : (test : ℕ → Bool)
        → self_cost test p.self_rows kind ≡ sum_by (λ x. if test (top x) then cost_of kind x else 0) events
    selfs test =
        selfs_shown n p is.rows.events kind within rows.lines (selfs_are p is.profile names rows.lines is.rows.self_rows)
        test
        ∙ all_sum (λ listed. listed.lines)
        (λ (row : LineRow). if test (n.func row.place.func.0) then get_or row.cost kind 0 else 0)
        (λ x. if test (top x) then cost_of kind x else 0)
        (λ thread segment piece. parts.lines_where guest.syms (events_on_stack_of thread segment)
        (rows_of guest.syms (events_on_stack_of thread segment))
        (piece_of_run.are_rows guest past thread segment can makes piece) (λ place. test (n.func place.func.0)) kind)

    calls : (test : ℕ → ℕ → Bool)
        → sum_by (λ (row : CallRow). if test row.caller row.callee then get_or row.cost kind 0 else 0) p.call_rows
        ≡ sum_by (λ x. cost_of kind x * steps_in test (top x) (beneath x)) events
    calls test =
        calls_shown n p is.rows.events kind within rows.arcs (calls_are p is.profile names rows.arcs is.rows.call_rows)
        test
        ∙ all_sum (λ listed. listed.arcs)
        (λ (row : ArcRow). if by_numbers n.func test row.arc then get_or row.cost kind 0 else 0)
        (λ x. cost_of kind x * count_by (on_arc (by_numbers n.func test)) x.stack)
        (λ thread segment piece. parts.arcs_where guest.syms (events_on_stack_of thread segment)
        (rows_of guest.syms (events_on_stack_of thread segment))
        (piece_of_run.are_rows guest past thread segment can makes piece) (by_numbers n.func test) kind)
        ∙ sum_by-each (λ x. cost_of kind x * count_by (on_arc (by_numbers n.func test)) x.stack)
        (λ x. cost_of kind x * steps_in test (top x) (beneath x)) events
        (each_from
        (λ x. cost_of kind x * count_by (on_arc (by_numbers n.func test)) x.stack
        ≡ cost_of kind x * steps_in test (top x) (beneath x)) events
        (λ x in'. ap (λ m. cost_of kind x * m) ((numbered x in').steps test)))

    some_once : (member : ℕ → Bool) → IsGroup (Steps (call_arcs p)) member
        → inclusive_cost member p kind ≡ once (λ f. member (n.func f)) kind events
    some_once member group =
        group_counts top beneath (cost_of kind) events p kind selfs calls member group
        ∙ sum_by-each (λ x. if any_in member (top x) (beneath x) then cost_of kind x else 0)
        (λ x. if stands (λ f. member (n.func f)) x.stack then cost_of kind x else 0) events
        (each_from
        (λ x. (if any_in member (top x) (beneath x) then cost_of kind x else 0)
        ≡ (if stands (λ f. member (n.func f)) x.stack then cost_of kind x else 0)) events
        (λ x in'. ap (λ b. if b then cost_of kind x else 0) ((numbered x in').any member)))

    pub chosen_once : (groups : Grouping) (costs : List (List ℕ)) (group : ℕ) → IsGroupsOf p groups
        → IsInclusive p groups costs → group < length costs
        → get_or (slice_index_or costs group []) kind 0
        ≡ once (λ f. is_member groups group (number_in guest p f)) kind events
    chosen_once groups costs group grouped inclusive less =
        inclusive.exact group kind less within
        ∙ some_once (is_member groups group) (is_group grouped (arcs_within p is.profile) group)

  pub chosen_joined : (p : Contents) → 0 < length (parts_chosen guest chosen past) → IsProfile p
      → Joins (no_rows []) (texts_of guest.syms (parts_chosen guest chosen past)) p
      → IsProfileOfParts guest chosen past p
  chosen_joined p some profile joins =
      let test = λ (part : WrittenPart). chosen part.head.part part.head.thread.0 in
      let all = are_parts guest can past makes in record {
        profile = profile;
        rows = all_joined_unnamed (head_of_run guest) guest.syms can.sound (parts_chosen guest chosen past) p some
            (record {
              one_run = All-filter test (λ (part : WrittenPart). AreOfOneRun (head_of_run guest) part.head)
                  (parts_written guest past) all.one_run;
              writable = All-filter test (λ (part : WrittenPart). AreWritable guest.syms part.rows)
                  (parts_written guest past) all.writable;
            })
            joins;
      }
