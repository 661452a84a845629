-- The files of a run's calls, where a part is made of its thread's events since the last one.
use Rattle.std.proofs.Common.{◌≡◌, ◌≢◌, inl, inr, ℕ, zero, suc, ◌+◌, ◌<◌, ◌≤◌, ◌==◌}
use Rattle.std.proofs.Common.{Bool, true, false, List, [], ◌∷◌, ◌++◌}
use Rattle.std.proofs.Common.{Option, None, Some, flat_map, length, map, refl, ap, sym, subst, ◌∙◌, arith}
use Rattle.std.proofs.Common.{append_assoc}
use Rattle.std.proofs.Common.{if◌then◌else◌}
use Rattle.std.specs.List.{enumerate_from}
use Rattle.std.specs.Prelude.{nat_lt}
use Rattle.std.proofs.lemmas.Bool.Decides.{eqb_tells, nat_tests}
use Rattle.std.proofs.lemmas.List.{append-nil}
use Rattle.std.proofs.lemmas.List.Concat.{flat_map-append}
use Rattle.outside.specs.Outside.{Named}
use Rattle.event_costs.specs.declared.numbers.ThreadNo.{ThreadNo}
use Rattle.cg_format.specs.declared.trigger.Trigger.{Trigger}
use Rattle.cg_format.specs.declared.trigger.Trigger.TheVariants.{Termination}
use Rattle.sym_map.specs.SymbolMap.{SymbolMap}
use Rattle.shadow_stack.specs.Traces.{EventOnStack}
use Rattle.arc_costs.specs.Contents.{Listed}
use Rattle.cg_format.specs.Rows.{below}
use Rattle.cg_format.specs.declared.head.PartHead.{PartHead}
use Rattle.part_dump.specs.Calls.{Call, Readies, Sees, Writes, calls, closed_calls, head_of}
use Rattle.part_dump.specs.Calls.{part_calls, segment_calls, steps_calls, thread_calls, tried_calls}
use Rattle.part_dump.specs.Cuts.{DumpPoints, cuts}
use Rattle.part_dump.specs.Steps.{Step, greatest, steps_of_thread, events_on_stack_of, thread_of, threads}
use Rattle.part_dump.specs.Watched.{steps_in, steps_of}
use Rattle.ctx_rows.proofs.Others.{above_greatest}
use Rattle.ctx_rows.proofs.HoldsLemmas.{if_other, if_same}

pub flat_same : {X Y : Type 0} (f g : X → List Y) → ((x : X) → f x ≡ g x) → (xs : List X) → flat_map f xs ≡ flat_map g xs
flat_same f g same [] = refl
flat_same f g same (x ∷ xs) = λ i. same x i ++ flat_same f g same xs i

-- ---- the steps of calls

-- the steps once a call is made
abbrev pub steps_by : Call → List Step → List Step
steps_by (Readies thread pc) steps = steps
steps_by (Sees x) steps = steps ++ x ∷ []
steps_by (Writes head rows) steps = steps

-- the steps after calls
abbrev pub steps_after : List Step → List Call → List Step
steps_after steps [] = steps
steps_after steps (c ∷ cs) = steps_after (steps_by c steps) cs

pub steps_append : (steps : List Step) (cs ds : List Call)
    → steps_after steps (cs ++ ds) ≡ steps_after (steps_after steps cs) ds
steps_append steps [] ds = refl
steps_append steps (c ∷ cs) ds = steps_append (steps_by c steps) cs ds

pub steps_more_by : (steps : List Step) (c : Call) → steps_by c steps ≡ steps ++ steps_of c
steps_more_by steps (Readies thread pc) = sym (append-nil steps)
steps_more_by steps (Sees x) = refl
steps_more_by steps (Writes head rows) = sym (append-nil steps)

pub steps_after_are : (steps : List Step) (cs : List Call) → steps_after steps cs ≡ steps ++ steps_in cs
steps_after_are steps [] = sym (append-nil steps)
steps_after_are steps (c ∷ cs) =
    steps_after_are (steps_by c steps) cs ∙ ap (λ xs. xs ++ steps_in cs) (steps_more_by steps c)
    ∙ append_assoc steps (steps_of c) (steps_in cs)

-- ---- events since the last part

-- A step that follows these steps counts as this event.
module _ (event_of : List Step → Step → EventOnStack) where
  -- the events of a thread once a call is made after these steps, where it had these since its last part
  abbrev pub since_by : ℕ → List Step → Call → List EventOnStack → List EventOnStack
  since_by thread steps (Readies t pc) before = before
  since_by thread steps (Sees x) before = if thread_of x == thread then before ++ event_of steps x ∷ [] else before
  since_by thread steps (Writes head rows) before = if head.thread.0 == thread then [] else before

  abbrev pub since_after : ℕ → List Step → List EventOnStack → List Call → List EventOnStack
  since_after thread steps before [] = before
  since_after thread steps before (c ∷ cs) =
      since_after thread (steps_by c steps) (since_by thread steps c before) cs

  -- the events of a thread in steps that follow these
  abbrev pub seen_in : ℕ → List Step → List Step → List EventOnStack
  seen_in thread steps [] = []
  seen_in thread steps (x ∷ xs) =
      if thread_of x == thread then event_of steps x ∷ seen_in thread (steps ++ x ∷ []) xs
      else seen_in thread (steps ++ x ∷ []) xs

  pub since_append : (thread : ℕ) (steps : List Step) (before : List EventOnStack) (cs ds : List Call)
      → since_after thread steps before (cs ++ ds)
      ≡ since_after thread (steps_after steps cs) (since_after thread steps before cs) ds
  since_append thread steps before [] ds = refl
  since_append thread steps before (c ∷ cs) ds =
      since_append thread (steps_by c steps) (since_by thread steps c before) cs ds

  none_again : (t : ℕ) (past xs : List Step) → events_on_stack_of t xs ≡ [] → seen_in t past xs ≡ []
  none_again t past [] none = refl
  none_again t past (x ∷ xs) none = by (thread_of x == t) none (none_again t (past ++ x ∷ []) xs)
    where
      never : (ys : List Step) → map (λ (y : Step). y.on_stack) (x ∷ ys) ≡ [] → ⊥
      never ys is = cc

      by : (b : Bool) → map (λ (y : Step). y.on_stack) (if b then x ∷ steps_of_thread t xs else steps_of_thread t xs) ≡ []
          → (events_on_stack_of t xs ≡ [] → seen_in t (past ++ x ∷ []) xs ≡ [])
          → (if b then event_of past x ∷ seen_in t (past ++ x ∷ []) xs else seen_in t (past ++ x ∷ []) xs) ≡ []
      by true is rest = absurd (never (steps_of_thread t xs) is)
      by false is rest = rest is

-- A part is this file of its head and its thread's events.
module _ (event_of : List Step → Step → EventOnStack) (file : PartHead → List EventOnStack → List Named) where
  -- the file of a call, where each thread has these events since its last part
  abbrev pub put_by : (ℕ → List EventOnStack) → Call → List Named
  put_by s (Readies thread pc) = []
  put_by s (Sees x) = []
  put_by s (Writes head rows) = file head (s head.thread.0)

  abbrev pub then_by : List Step → (ℕ → List EventOnStack) → Call → ℕ → List EventOnStack
  then_by past s c thread = since_by event_of thread past c (s thread)

  abbrev pub put_all : List Step → (ℕ → List EventOnStack) → List Call → List Named
  put_all past s [] = []
  put_all past s (c ∷ cs) = put_by s c ++ put_all (steps_by c past) (then_by past s c) cs

  abbrev after_all : List Step → (ℕ → List EventOnStack) → List Call → ℕ → List EventOnStack
  after_all past s cs thread = since_after event_of thread past (s thread) cs

  pub put_same : (cs : List Call) (past : List Step) (s r : ℕ → List EventOnStack) → ((t : ℕ) → s t ≡ r t)
      → put_all past s cs ≡ put_all past r cs
  put_same [] past s r same = refl
  put_same (c ∷ cs) past s r same =
      λ i. by c i ++ put_same cs (steps_by c past) (then_by past s c) (then_by past r c)
      (λ t. ap (since_by event_of t past c) (same t)) i
    where
      by : (d : Call) → put_by s d ≡ put_by r d
      by (Readies thread pc) = refl
      by (Sees x) = refl
      by (Writes head rows) = ap (file head) (same head.thread.0)

  put_append : (cs ds : List Call) (past : List Step) (s : ℕ → List EventOnStack)
      → put_all past s (cs ++ ds) ≡ put_all past s cs ++ put_all (steps_after past cs) (after_all past s cs) ds
  put_append [] ds past s = refl
  put_append (c ∷ cs) ds past s =
      ap (λ (fs : List Named). put_by s c ++ fs) (put_append cs ds (steps_by c past) (then_by past s c))
      ∙ sym (append_assoc (put_by s c) (put_all (steps_by c past) (then_by past s c) cs)
      (put_all (steps_after (steps_by c past) cs) (after_all (steps_by c past) (then_by past s c) cs) ds))

  -- ---- the calls of a run

  put_steps : (xs past : List Step) (s : ℕ → List EventOnStack) → put_all past s (steps_calls xs) ≡ []
  put_steps [] past s = refl
  put_steps (x ∷ xs) past s = put_steps xs (past ++ x ∷ []) (then_by past s (Sees x))

  after_steps : (xs past : List Step) (before : List EventOnStack) (t : ℕ)
      → since_after event_of t past before (steps_calls xs) ≡ before ++ seen_in event_of t past xs
  after_steps [] past before t = sym (append-nil before)
  after_steps (x ∷ xs) past before t =
      after_steps xs (past ++ x ∷ [])
      (if thread_of x == t then before ++ event_of past x ∷ [] else before) t ∙ by (thread_of x == t)
    where
      later : List EventOnStack
      later = seen_in event_of t (past ++ x ∷ []) xs

      by : (b : Bool) → (if b then before ++ event_of past x ∷ [] else before) ++ later
          ≡ before ++ (if b then event_of past x ∷ later else later)
      by true = append_assoc before (event_of past x ∷ []) later
      by false = refl

  steps_calls_are : (xs past : List Step) → steps_after past (steps_calls xs) ≡ past ++ xs
  steps_calls_are [] past = sym (append-nil past)
  steps_calls_are (x ∷ xs) past = steps_calls_are xs (past ++ x ∷ []) ∙ append_assoc past (x ∷ []) xs

  put_tried : (tried : Option (ThreadNo × ℕ)) (past : List Step) (s : ℕ → List EventOnStack)
      → put_all past s (tried_calls tried) ≡ []
  put_tried None past s = refl
  put_tried (Some t) past s = refl

  after_tried : (tried : Option (ThreadNo × ℕ)) (past : List Step) (before : List EventOnStack) (t : ℕ)
      → since_after event_of t past before (tried_calls tried) ≡ before
  after_tried None past before t = refl
  after_tried (Some u) past before t = refl

  -- the files of the parts of a segment that follows these steps, and of all segments; a thread with events has a part
  module _ (head : PartHead) where
    abbrev pub thread_put : ℕ → Trigger → ℕ → List EventOnStack → List EventOnStack → List Named
    thread_put part trigger thread events [] = []
    thread_put part trigger thread events (x ∷ xs) = file (head_of head part trigger thread) events

    abbrev pub segment_puts : List Step → ℕ → List Step → Trigger → List Named
    segment_puts earlier part segment trigger =
        flat_map (λ thread. thread_put part trigger thread (seen_in event_of thread earlier segment)
        (events_on_stack_of thread segment)) (threads segment)

    abbrev pub puts_from : List Step → ℕ → List (List Step × Trigger) → List Named
    puts_from earlier part [] = []
    puts_from earlier part (s ∷ segments) =
        segment_puts earlier part s.0 s.1 ++ puts_from (earlier ++ s.0) (part + 1) segments

  abbrev pub steps_in_all : List (List Step × Trigger) → List Step
  steps_in_all segments = flat_map (λ s. s.0) segments

  -- a thread with events has a part, and one without has none
  abbrev done : List EventOnStack → List EventOnStack → List EventOnStack
  done [] before = before
  done (x ∷ xs) before = []

  module _ (rows_of : List EventOnStack → Listed) (head : PartHead) where
    module _ (part : ℕ) (earlier segment : List Step) (trigger : Trigger) where
      abbrev of_thread : ℕ → List Call
      of_thread thread = thread_calls rows_of head part trigger thread (events_on_stack_of thread segment)

      abbrev at_end : ℕ → List EventOnStack
      at_end thread = seen_in event_of thread earlier segment

      abbrev part_of : ℕ → List Named
      part_of thread = thread_put head part trigger thread (at_end thread) (events_on_stack_of thread segment)

      put_thread : (past : List Step) (s : ℕ → List EventOnStack) (thread : ℕ) (xs : List EventOnStack) → s thread ≡ at_end thread
          → put_all past s (thread_calls rows_of head part trigger thread xs)
          ≡ thread_put head part trigger thread (at_end thread) xs
      put_thread past s thread [] is = refl
      put_thread past s thread (x ∷ xs) is =
          append-nil (file (head_of head part trigger thread) (s thread))
          ∙ ap (file (head_of head part trigger thread)) is

      after_other : (past : List Step) (before : List EventOnStack) (t thread : ℕ) (xs : List EventOnStack) → thread ≢ t
          → since_after event_of t past before (thread_calls rows_of head part trigger thread xs) ≡ before
      after_other past before t thread [] apart = refl
      after_other past before t thread (x ∷ xs) apart = if_other thread t [] before apart

      after_own : (past : List Step) (before : List EventOnStack) (thread : ℕ) (xs : List EventOnStack)
          → since_after event_of thread past before (thread_calls rows_of head part trigger thread xs) ≡ done xs before
      after_own past before thread [] = refl
      after_own past before thread (x ∷ xs) = if_same thread thread [] before refl

      abbrev parts : ℕ → List Call
      parts n = flat_map of_thread (below n)

      one_more : {B : Type 0} (f : ℕ → List B) (n : ℕ) → flat_map f (below (suc n)) ≡ flat_map f (below n) ++ f n
      one_more f n =
          flat_map-append f (below n) (n ∷ []) ∙ ap (λ ys. flat_map f (below n) ++ ys) (append-nil (f n))

      -- the events of a thread once the parts of one more are written
      after_more : (n t : ℕ) (past : List Step) (before : List EventOnStack) → since_after event_of t past before (parts (suc n))
          ≡ since_after event_of t (steps_after past (parts n)) (since_after event_of t past before (parts n)) (of_thread n)
      after_more n t past before =
          ap (since_after event_of t past before) (one_more of_thread n)
          ∙ since_append event_of t past before (parts n) (of_thread n)

      after_below : (n t : ℕ) (past : List Step) (before : List EventOnStack) → n ≤ t
          → since_after event_of t past before (parts n) ≡ before
      after_below zero t past before less = refl
      after_below (suc n) t past before less =
          after_more n t past before
          ∙ ap (λ b. since_after event_of t (steps_after past (parts n)) b (of_thread n))
          (after_below n t past before (omega (arith, less)))
          ∙ after_other (steps_after past (parts n)) before t n (events_on_stack_of n segment) (apart n t less)
        where
          apart : (k u : ℕ) → suc k ≤ u → k ≢ u
          apart k u under same = omega (arith, under, same)

      put_below : (n : ℕ) (past : List Step) (s : ℕ → List EventOnStack) → ((t : ℕ) → s t ≡ at_end t)
          → put_all past s (parts n) ≡ flat_map part_of (below n)
      put_below zero past s same = refl
      put_below (suc n) past s same =
          ap (put_all past s) (one_more of_thread n) ∙ put_append (parts n) (of_thread n) past s
          ∙ (λ i. put_below n past s same i
          ++ put_thread (steps_after past (parts n)) (after_all past s (parts n)) n (events_on_stack_of n segment)
          (after_below n n past (s n) (omega arith) ∙ same n) i)
          ∙ sym (one_more part_of n)

      all_done : (n t : ℕ) (past : List Step) (before : List EventOnStack) → t < n
          → since_after event_of t past before (parts n) ≡ done (events_on_stack_of t segment) before
      all_done zero t past before less = absurd (omega (arith, less))
      all_done (suc n) t past before less =
          after_more n t past before
          ∙ (elim (eqb_tells t n) as (λ _. since_after event_of t (steps_after past (parts n))
          (since_after event_of t past before (parts n)) (of_thread n) ≡ done (events_on_stack_of t segment) before) [
            | inl is ↦
                ap (λ b. since_after event_of t (steps_after past (parts n)) b (of_thread n))
                (after_below n t past before (omega (arith, is.1)))
                ∙ subst (λ k. since_after event_of t (steps_after past (parts n)) before (of_thread k)
                ≡ done (events_on_stack_of t segment) before) is.1
                (after_own (steps_after past (parts n)) before t (events_on_stack_of t segment))
            | inr other ↦
                ap (λ b. since_after event_of t (steps_after past (parts n)) b (of_thread n))
                (all_done n t past before (smaller n t other.1 less))
                ∙ after_other (steps_after past (parts n)) (done (events_on_stack_of t segment) before) t n (events_on_stack_of n segment)
                (λ e. other.1 (sym e))
          ])
        where
          smaller : (k u : ℕ) → u ≢ k → u < suc k → u < k
          smaller k u apart under = omega (arith, apart, under)

      -- the parts of a segment, where each thread has its events in it
      put_parts : (past : List Step) (s : ℕ → List EventOnStack) → ((t : ℕ) → s t ≡ at_end t)
          → put_all past s (part_calls rows_of head part segment trigger)
          ≡ segment_puts head earlier part segment trigger
      put_parts past s same = put_below (suc (greatest segment)) past s same

      each_done : (t : ℕ) (past : List Step) (before : List EventOnStack)
          → since_after event_of t past before (part_calls rows_of head part segment trigger)
          ≡ done (events_on_stack_of t segment) before
      each_done t past before = by (nat_lt t (suc (greatest segment))) refl
        where
          by : (b : Bool) → nat_lt t (suc (greatest segment)) ≡ b
              → since_after event_of t past before (parts (suc (greatest segment))) ≡ done (events_on_stack_of t segment) before
          by true is = all_done (suc (greatest segment)) t past before (grind (arith, nat_tests))
          by false is =
              let beyond : suc (greatest segment) ≤ t = grind (arith, nat_tests) in
              after_below (suc (greatest segment)) t past before beyond
              ∙ ap (λ (ys : List Step). done (map (λ (y : Step). y.on_stack) ys) before)
              (sym (above_greatest t segment (omega (arith, beyond))))

      -- then no thread has an event since its last part
      done_again : (t : ℕ) (xs : List EventOnStack) → events_on_stack_of t segment ≡ xs → done xs (at_end t) ≡ []
      done_again t [] none = none_again event_of t earlier segment none
      done_again t (x ∷ xs) some = refl

      parts_after : (past : List Step) (ts : List ℕ) → steps_after past (flat_map of_thread ts) ≡ past
      parts_after past [] = refl
      parts_after past (t ∷ ts) = by (events_on_stack_of t segment) (parts_after past ts)
        where
          by : (xs : List EventOnStack) → steps_after past (flat_map of_thread ts) ≡ past
              → steps_after past (thread_calls rows_of head part trigger t xs ++ flat_map of_thread ts) ≡ past
          by [] rest = rest
          by (x ∷ xs) rest = rest

      -- a segment that begins where no thread has an event since its last part
      module _ (s : ℕ → List EventOnStack) (none : (t : ℕ) → s t ≡ []) where
        seen_all : (t : ℕ) → since_after event_of t earlier (s t) (steps_calls segment) ≡ at_end t
        seen_all t = after_steps segment earlier (s t) t ∙ ap (λ b. b ++ at_end t) (none t)

        put_segment : put_all earlier s (segment_calls rows_of head part segment trigger)
            ≡ segment_puts head earlier part segment trigger
        put_segment =
            put_append (steps_calls segment) (part_calls rows_of head part segment trigger) earlier s
            ∙ ap (λ (fs : List Named). fs
            ++ put_all (steps_after earlier (steps_calls segment)) (after_all earlier s (steps_calls segment))
            (part_calls rows_of head part segment trigger)) (put_steps segment earlier s)
            ∙ put_parts (steps_after earlier (steps_calls segment)) (after_all earlier s (steps_calls segment)) seen_all

        after_segment : (t : ℕ)
            → since_after event_of t earlier (s t) (segment_calls rows_of head part segment trigger) ≡ []
        after_segment t =
            since_append event_of t earlier (s t) (steps_calls segment) (part_calls rows_of head part segment trigger)
            ∙ ap (λ b. since_after event_of t (steps_after earlier (steps_calls segment)) b
            (part_calls rows_of head part segment trigger)) (seen_all t)
            ∙ each_done t (steps_after earlier (steps_calls segment)) (at_end t)
            ∙ done_again t (events_on_stack_of t segment) refl

      steps_segment : steps_after earlier (segment_calls rows_of head part segment trigger) ≡ earlier ++ segment
      steps_segment =
          steps_append earlier (steps_calls segment) (part_calls rows_of head part segment trigger)
          ∙ parts_after (steps_after earlier (steps_calls segment)) (threads segment)
          ∙ steps_calls_are segment earlier

    abbrev calls_from : ℕ → List (List Step × Trigger) → List Call
    calls_from n segments = flat_map (λ s. segment_calls rows_of head s.0 s.1.0 s.1.1) (enumerate_from n segments)

    put_closed : (n : ℕ) (earlier : List Step) (segments : List (List Step × Trigger)) (s : ℕ → List EventOnStack)
        → ((t : ℕ) → s t ≡ []) → put_all earlier s (calls_from n segments) ≡ puts_from head earlier n segments
    put_closed n earlier [] s none = refl
    put_closed n earlier (p ∷ ps) s none =
        let here = segment_calls rows_of head n p.0 p.1 in
        put_append here (calls_from (n + 1) ps) earlier s
        ∙ (λ i. put_segment n earlier p.0 p.1 s none i
        ++ put_all (steps_segment n earlier p.0 p.1 i) (after_all earlier s here) (calls_from (n + 1) ps))
        ∙ ap (λ (fs : List Named). segment_puts head earlier n p.0 p.1 ++ fs)
        (put_closed (n + 1) (earlier ++ p.0) ps (after_all earlier s here) (after_segment n earlier p.0 p.1 s none))

    after_closed : (n : ℕ) (earlier : List Step) (segments : List (List Step × Trigger)) (s : ℕ → List EventOnStack)
        → ((t : ℕ) → s t ≡ []) → (t : ℕ) → since_after event_of t earlier (s t) (calls_from n segments) ≡ []
    after_closed n earlier [] s none t = none t
    after_closed n earlier (p ∷ ps) s none t =
        let here = segment_calls rows_of head n p.0 p.1 in
        since_append event_of t earlier (s t) here (calls_from (n + 1) ps)
        ∙ ap (λ xs. since_after event_of t xs (since_after event_of t earlier (s t) here) (calls_from (n + 1) ps))
        (steps_segment n earlier p.0 p.1)
        ∙ after_closed (n + 1) (earlier ++ p.0) ps (after_all earlier s here)
        (after_segment n earlier p.0 p.1 s none) t

    steps_closed : (n : ℕ) (earlier : List Step) (segments : List (List Step × Trigger))
        → steps_after earlier (calls_from n segments) ≡ earlier ++ steps_in_all segments
    steps_closed n earlier [] = sym (append-nil earlier)
    steps_closed n earlier (p ∷ ps) =
        steps_append earlier (segment_calls rows_of head n p.0 p.1) (calls_from (n + 1) ps)
        ∙ ap (λ xs. steps_after xs (calls_from (n + 1) ps)) (steps_segment n earlier p.0 p.1)
        ∙ steps_closed (n + 1) (earlier ++ p.0) ps
        ∙ append_assoc earlier p.0 (steps_in_all ps)

    module _ (m : SymbolMap) (asked : DumpPoints) (trace : List Step) where
      abbrev closed : List (List Step × Trigger)
      closed = (cuts m asked trace).closed

      abbrev recent : List Step
      recent = (cuts m asked trace).recent

      abbrev early : List Call
      early = closed_calls rows_of head closed ++ steps_calls recent

      -- the cuts of a run, and the steps after the last of them
      pub put_so_far : put_all [] (λ t. []) early ≡ puts_from head [] 1 closed
      put_so_far =
          put_append (closed_calls rows_of head closed) (steps_calls recent) [] (λ t. [])
          ∙ (λ i. put_closed 1 [] closed (λ t. []) (λ t. refl) i
          ++ put_steps recent (steps_after [] (closed_calls rows_of head closed))
          (after_all [] (λ t. []) (closed_calls rows_of head closed)) i)
          ∙ append-nil (puts_from head [] 1 closed)

      since_recent : (t : ℕ) → since_after event_of t [] [] early
          ≡ seen_in event_of t (steps_in_all closed) recent
      since_recent t =
          since_append event_of t [] [] (closed_calls rows_of head closed) (steps_calls recent)
          ∙ (λ i. since_after event_of t (steps_closed 1 [] closed i) (after_closed 1 [] closed (λ u. []) (λ u. refl) t i)
          (steps_calls recent))
          ∙ after_steps recent (steps_in_all closed) [] t

      -- all of a run
      pub put_run : (tried : Option (ThreadNo × ℕ)) → put_all [] (λ t. []) (calls rows_of head m asked trace tried)
          ≡ puts_from head [] 1 closed
          ++ segment_puts head (steps_in_all closed) (length closed + 1) recent Termination
      unfolding calls
      put_run tried =
          let last = part_calls rows_of head (length closed + 1) recent Termination in
          let before = after_all [] (λ t. []) (early ++ tried_calls tried) in
          let past = steps_after [] (early ++ tried_calls tried) in
          let own_since : (t : ℕ) → before t ≡ seen_in event_of t (steps_in_all closed) recent
          = λ t. since_append event_of t [] [] early (tried_calls tried)
          ∙ after_tried tried (steps_after [] early) (since_after event_of t [] [] early) t ∙ since_recent t in
          put_append (early ++ tried_calls tried) last [] (λ t. [])
          ∙ ap (λ (fs : List Named). fs ++ put_all past before last)
          (put_append early (tried_calls tried) [] (λ t. [])
          ∙ (λ i. put_so_far i ++ put_tried tried (steps_after [] early) (after_all [] (λ t. []) early) i)
          ∙ append-nil (puts_from head [] 1 closed))
          ∙ ap (λ (fs : List Named). puts_from head [] 1 closed ++ fs)
          (put_parts (length closed + 1) (steps_in_all closed) recent Termination past before own_since)
