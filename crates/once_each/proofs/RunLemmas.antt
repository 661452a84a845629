-- The steps of a run are a list of events as the laws want it.
use Rattle.std.proofs.Common.{◌≡◌, ℕ, zero, suc, ◌+◌, ◌<◌, ◌≤◌, ◌==◌, ◌^◌, max, Bool, true, false, cond, List, []}
use Rattle.std.proofs.Common.{◌∷◌, ◌++◌, length, Option, None, Some, map, filter, fold, refl, sym, ap, subst}
use Rattle.std.proofs.Common.{◌∙◌, arith, Contains, ⊎_elim}
use Rattle.std.specs.List.{AllByRecursion}
use Rattle.std.proofs.lemmas.Bool.{eq-eqb, eqb-true}
use Rattle.std.proofs.lemmas.List.{append-nil, length_push, map-append}
use Rattle.std.proofs.lemmas.List.Concat.{flat_map-append}
use Rattle.std.proofs.lemmas.List.Elements.{All-from_recursion, Contains-append_left, Contains-append_right}
use Rattle.event_costs.specs.Runs.{Run}
use Rattle.event_costs.specs.declared.event.Event.{Event}
use Rattle.event_costs.specs.declared.numbers.ThreadNo.{ThreadNo}
use Rattle.sym_map.specs.SymbolMap.{SymbolMap}
use Rattle.once_each.proofs.Others.{Contains-first, first_or_rest, Holds, holds_first, holds_next}
use Rattle.shadow_stack.specs.Stacks.{Stack}
use Rattle.shadow_stack.specs.Traces.{CountedEvent, EventOnStack, events_by, events_on_stacks, event_on_stack_after, events_on_stacks_from, stack_of}
use Rattle.guest_load.specs.Guest.{Guest}
use Rattle.guest_sched.specs.Laws.{IsReached, after_last, is_step_of, last_step, later, pc_after, start_pc}
use Rattle.guest_sched.specs.Machine.{Machine, new_machine, next}
use Rattle.guest_sched.specs.Step.{MachineStep}
use Rattle.cg_format.specs.Rows.{below}
use Rattle.part_dump.specs.Calls.{Call, Readies, Sees, Writes}
use Rattle.part_dump.specs.Steps.{Step, event_of, frames_in, greatest, live, stack_at, thread_of, threads}
use Rattle.part_dump.specs.Steps as steps
use Rattle.part_dump.specs.Watched.{FitAll, Fits, Follows, AreWatched, last_of, steps_in, steps_of}
use Rattle.once_each.specs.Orderly.{GoOnFrom, IsRunSized, IsSmall, LeadTo}
use Rattle.once_each.specs.Runs.{AreOrderly, AreOrderlyAfter, costed_step, events_of, machine_events, stacked_events, trace_of}
use Rattle.once_each.proofs.MemberLemmas.{from_filter, le-sum}

-- ---- the events of a thread, by what tells them

abbrev is_event_by : ThreadNo → Event → Bool
is_event_by thread e = e.thread.0 == thread.0

module _ {X : Type 0} (event : X → Event) where
  own_told : (thread : ThreadNo) (xs : List X)
      → map event (filter (λ x. is_event_by thread (event x)) xs) ≡ filter (is_event_by thread) (map event xs)
  own_told thread [] = refl
  own_told thread (x ∷ xs) = by (is_event_by thread (event x)) (own_told thread xs)
    where
      by : (b : Bool)
          → map event (filter (λ x. is_event_by thread (event x)) xs) ≡ filter (is_event_by thread) (map event xs)
          → map event (cond b (x ∷ filter (λ x. is_event_by thread (event x)) xs)
          (filter (λ x. is_event_by thread (event x)) xs))
          ≡ cond b (event x ∷ filter (is_event_by thread) (map event xs)) (filter (is_event_by thread) (map event xs))
      by true rest = ap (λ (es : List Event). event x ∷ es) rest
      by false rest = rest

  -- events lead where the last of them does
  leads_last : (xs : List X) (pc : ℕ)
      → ((x : X) → last_of xs ≡ Some x → ((event x).ends ≡ false) × ((event x).done.next ≡ pc))
      → LeadTo (map event xs) pc
  leads_last [] pc led = tt
  leads_last (x ∷ []) pc led = led x refl
  leads_last (x ∷ (y ∷ ys)) pc led = leads_last (y ∷ ys) pc led

-- a list of events has those of whatever tells the same
own_same : {X : Type 0} (event : X → Event) (thread : ThreadNo) (trace : List CountedEvent) (xs : List X)
    → events_of trace ≡ map event xs → events_by thread trace ≡ map event (filter (λ x. is_event_by thread (event x)) xs)
own_same event thread trace xs same =
    own_told (λ (x : CountedEvent). x.event) thread trace ∙ ap (filter (is_event_by thread)) same
    ∙ sym (own_told event thread xs)

-- ---- the steps of a machine

later_none : (o : Option MachineStep) → later o None ≡ o
later_none (Some x) = refl
later_none None = refl

last_some : (x : MachineStep) (xs : List MachineStep) → (y : MachineStep) × (last_of (x ∷ xs) ≡ Some y)
last_some x [] = (x, refl)
last_some x (y ∷ ys) = last_some y ys

later_last : (x : MachineStep) (xs : List MachineStep) → later (last_of xs) (Some x) ≡ last_of (x ∷ xs)
later_last x [] = refl
later_last x (y ∷ ys) =
    let some = last_some y ys in
    ap (λ o. later o (Some x)) some.1 ∙ sym some.1

pub last_own : (thread : ThreadNo) (xs : List MachineStep) → last_step thread xs ≡ last_of (filter (is_step_of thread) xs)
last_own thread [] = refl
last_own thread (x ∷ xs) =
    ap (λ o. later o (cond (is_step_of thread x) (Some x) None)) (last_own thread xs) ∙ by (is_step_of thread x)
  where
    by : (b : Bool) → later (last_of (filter (is_step_of thread) xs)) (cond b (Some x) None)
        ≡ last_of (cond b (x ∷ filter (is_step_of thread) xs) (filter (is_step_of thread) xs))
    by true = later_last x (filter (is_step_of thread) xs)
    by false = later_none (last_of (filter (is_step_of thread) xs))

pub led_on : (x : MachineStep) (start : Option ℕ) (pc : ℕ) → after_last (Some x) start ≡ Some pc
    → (x.event.ends ≡ false) × (x.event.done.next ≡ pc)
led_on x start pc is = by x.event.ends refl is
  where
    by : (b : Bool) → x.event.ends ≡ b → cond b None (Some x.event.done.next) ≡ Some pc
        → (x.event.ends ≡ false) × (x.event.done.next ≡ pc)
    by true ends is = absurd (cc)
    by false goes is = (goes, cc)

leads_told : (guest : Guest) (thread : ThreadNo) (told : List MachineStep) (pc : ℕ) → pc_after guest thread told ≡ Some pc
    → LeadTo (map (λ (x : MachineStep). x.event) (filter (is_step_of thread) told)) pc
unfolding pc_after
leads_told guest thread told pc is =
    leads_last (λ (x : MachineStep). x.event) (filter (is_step_of thread) told) pc
    (λ x last. led_on x (start_pc guest thread told) pc
    (ap (λ o. after_last o (start_pc guest thread told)) (sym (last_own thread told ∙ last)) ∙ is))

events-push : (trace : List CountedEvent) (x : CountedEvent) (told : List MachineStep) (y : MachineStep) → events_of trace ≡ machine_events told
    → x.event ≡ y.event → events_of (trace ++ x ∷ []) ≡ machine_events (told ++ y ∷ [])
events-push trace x told y same is =
    map-append (λ (x : CountedEvent). x.event) trace (x ∷ []) ∙ ap (λ es. es ++ x.event ∷ []) same
    ∙ ap (λ e. machine_events told ++ e ∷ []) is ∙ sym (map-append (λ (x : MachineStep). x.event) told (y ∷ []))

goes_on_from : (guest : Guest) (earlier told : List MachineStep) (m n : Machine) (before trace : List CountedEvent)
    → Holds guest earlier m → Run next m told n → events_of before ≡ machine_events earlier
    → events_of trace ≡ machine_events told → GoOnFrom before trace
goes_on_from guest earlier told m n before [] h run was is = tt
goes_on_from guest earlier [] m n before (x ∷ trace) h run was is = absurd (cc)
goes_on_from guest earlier (y ∷ told) m n before (x ∷ trace) h run was is =
    let whole : x.event ∷ events_of trace ≡ y.event ∷ machine_events told = is in
    let same : x.event ≡ y.event = cc in
    let rest : events_of trace ≡ machine_events told = cc in
    let step = holds_next guest earlier m y run.0 h run.1 in
    let own_is : events_by x.event.thread before ≡ map (λ (z : MachineStep). z.event) (filter (is_step_of x.event.thread) earlier)
    = own_same (λ (z : MachineStep). z.event) x.event.thread before earlier was in
    let on : pc_after guest x.event.thread earlier ≡ Some x.event.done.pc
    = ap (λ (e : Event). pc_after guest e.thread earlier) same ∙ step.1.goes_on
    ∙ ap (λ (e : Event). Some e.done.pc) (sym same) in (
      subst (λ (es : List Event). LeadTo es x.event.done.pc) (sym own_is)
          (leads_told guest x.event.thread earlier x.event.done.pc on),
      goes_on_from guest (earlier ++ y ∷ []) told run.0 n (before ++ x ∷ []) trace step.0 run.2
          (events-push before x earlier y was same) rest,
    )

pub machine_goes_on : (guest : Guest) (quantum : ℕ) (seed : Option ℕ) (told : List MachineStep) (m : Machine)
    (trace : List CountedEvent) → IsReached guest quantum seed told m → events_of trace ≡ machine_events told
    → GoOnFrom [] trace
machine_goes_on guest quantum seed told m trace reached same =
    goes_on_from guest [] told (new_machine guest quantum seed) m [] trace
    (holds_first guest quantum seed reached.lawful) reached.run refl same

-- ---- the steps of a run

trace-push : (earlier : List Step) (x : Step) → trace_of (earlier ++ x ∷ []) ≡ trace_of earlier ++ costed_step x ∷ []
trace-push earlier x = map-append costed_step earlier (x ∷ [])

events_same : (xs : List Step) → events_of (trace_of xs) ≡ map event_of xs
events_same [] = refl
events_same (x ∷ xs) = ap (λ es. event_of x ∷ es) (events_same xs)

-- a thread's events are those of its steps
own_steps : (thread : ThreadNo) (xs : List Step) → events_by thread (trace_of xs) ≡ steps.events_of_thread thread.0 xs
own_steps thread xs = own_same event_of thread (trace_of xs) xs (events_same xs)

module _ (syms : SymbolMap) where
  pub stacks_from : (earlier xs : List Step) → AreOrderlyAfter syms earlier xs
      → stacked_events xs ≡ events_on_stacks_from syms (trace_of earlier) (trace_of xs)
  stacks_from earlier [] orderly = refl
  stacks_from earlier (x ∷ xs) orderly =
      let stack : x.on_stack.stack ≡ stack_of syms (events_by (event_of x).thread (trace_of earlier)) (event_of x).done.pc
      = orderly.0.stack
      ∙ ap (λ (es : List Event). stack_of syms es (event_of x).done.pc) (sym (own_steps (event_of x).thread earlier)) in
      ap (λ (s : Stack). record { event = x.on_stack.event; cost = x.on_stack.cost; stack = s } ∷ stacked_events xs) stack
      ∙ ap (λ (l : List EventOnStack). event_on_stack_after syms (trace_of earlier) (costed_step x) ∷ l)
      (stacks_from (earlier ++ x ∷ []) xs orderly.1
      ∙ ap (λ (l : List CountedEvent). events_on_stacks_from syms l (trace_of xs)) (trace-push earlier x))

  follows_leads : (x : Step) (earlier : List Step) → Follows (last_of (steps.steps_of_thread (thread_of x) earlier)) (event_of x)
      → LeadTo (events_by (event_of x).thread (trace_of earlier)) (event_of x).done.pc
  follows_leads x earlier follows =
      subst (λ (es : List Event). LeadTo es (event_of x).done.pc) (sym (own_steps (event_of x).thread earlier))
      (leads_last event_of (steps.steps_of_thread (thread_of x) earlier) (event_of x).done.pc
      (λ y last. subst (λ (o : Option Step). Follows o (event_of x)) last follows))

  pub order_from : (earlier xs : List Step) → AreOrderlyAfter syms earlier xs
      → GoOnFrom (trace_of earlier) (trace_of xs)
  order_from earlier [] orderly = tt
  order_from earlier (x ∷ xs) orderly = (
    follows_leads x earlier orderly.0.follows,
    subst (λ (l : List CountedEvent). GoOnFrom l (trace_of xs)) (trace-push earlier x)
        (order_from (earlier ++ x ∷ []) xs orderly.1),
  )

-- ---- how many steps, and how large

below-has : (n k : ℕ) → k < n → Contains (below n) k
below-has zero k small = absurd (omega arith)
below-has (suc n) k small = by (k == n) refl (below-has n k)
  where
    by : (b : Bool) → (k == n) ≡ b → (k < n → Contains (below n) k) → Contains (below (suc n)) k
    by true is rest =
        subst (Contains (below n ++ n ∷ [])) (sym (eqb-true k n is))
        (Contains-append_right (below n) (n ∷ []) n (0, omega arith, refl))
    by false is rest = Contains-append_left (below n) (n ∷ []) k (rest (other (λ same. cc (eq-eqb k n same, is))))
      where
        other : (k ≡ n → ⊥) → k < n
        other differs = omega (arith, small, differs)

most_least : (most : ℕ) (xs : List Step) → most ≤ fold (λ most x. max most (thread_of x)) most xs
most_least most [] = omega arith
most_least most (x ∷ xs) =
    let rest = most_least (max most (thread_of x)) xs in
    omega (arith, rest)

most_within : (most : ℕ) (xs : List Step) (x : Step) → Contains xs x
    → thread_of x ≤ fold (λ most x. max most (thread_of x)) most xs
most_within most [] x is = absurd (omega (arith, is.1))
most_within most (y ∷ ys) x is =
    ⊎_elim (λ same.
    let number : thread_of y ≡ thread_of x = ap thread_of same in
    omega (arith, number, most_least (max most (thread_of y)) ys))
    (λ later. most_within (max most (thread_of y)) ys x later) (first_or_rest y ys x is)

-- the thread of a step is one of the threads
pub thread_within : (xs : List Step) (x : Step) → Contains xs x → thread_of x < suc (greatest xs)
thread_within xs x is = omega (arith, most_within 0 xs x is)

own_thread : (thread : ℕ) (xs : List Step) (y : Step) (ys : List Step) → steps.steps_of_thread thread xs ≡ y ∷ ys
    → Contains (threads xs) thread
own_thread thread xs y ys is =
    let mine : Contains (steps.steps_of_thread thread xs) y
    = subst (λ (l : List Step). Contains l y) (sym is) (Contains-first y ys) in
    let from = from_filter (λ (x : Step). thread_of x == thread) xs y mine in
    let same = eqb-true (thread_of y) thread from.1 in
    below-has (suc (greatest xs)) thread (omega (arith, same, thread_within xs y from.0))

-- the frames of a thread are among those of all
frames_live : (syms : SymbolMap) (xs : List Step) (thread pc : ℕ)
    → frames_in (stack_at syms xs thread pc) ≤ live syms xs
frames_live syms xs thread pc = by (steps.steps_of_thread thread xs) refl
  where
    by : (mine : List Step) → steps.steps_of_thread thread xs ≡ mine → frames_in (stack_at syms xs thread pc) ≤ live syms xs
    by [] is =
        let none : frames_in (stack_at syms xs thread pc) ≡ 0
        = ap (λ (l : List Step). frames_in (stack_of syms (map event_of l) pc)) is in
        omega (arith, none)
    by (y ∷ ys) is =
        let same : stack_at syms xs thread pc ≡ stack_at syms xs thread 0
        = ap (λ (l : List Step). stack_of syms (map event_of l) pc) is
        ∙ sym (ap (λ (l : List Step). stack_of syms (map event_of l) 0) is) in
        let share = le-sum (λ t. frames_in (stack_at syms xs t 0)) (threads xs) thread (own_thread thread xs y ys is) in
        let frames = ap frames_in same in
        omega (arith, share, frames)

module _ (syms : SymbolMap) where
  small_from : (earlier xs : List Step) → AreOrderlyAfter syms earlier xs → AllByRecursion IsSmall (stacked_events xs)
  small_from earlier [] orderly = tt
  small_from earlier (x ∷ xs) orderly =
      let frames : frames_in x.on_stack.stack ≤ 4194304
      = omega (
        arith,
        orderly.0.frames,
        frames_live syms earlier (thread_of x) (event_of x).done.pc,
        ap frames_in orderly.0.stack,
      ) in (
        record { ones = orderly.0.ones; frames = frames },
        small_from (earlier ++ x ∷ []) xs orderly.1,
      )

  few_from : (earlier xs : List Step) → AreOrderlyAfter syms earlier xs → length earlier ≤ 10 ^ 12
      → length earlier + length (stacked_events xs) ≤ 10 ^ 12
  few_from earlier [] orderly few = omega (arith, few)
  few_from earlier (x ∷ xs) orderly few =
      let more : length (earlier ++ x ∷ []) ≡ length earlier + 1 = length_push earlier x in
      let rest = few_from (earlier ++ x ∷ []) xs orderly.1 (omega (arith, more, orderly.0.room)) in
      omega (arith, more, rest)

  pub stacks : (xs : List Step) → AreOrderly syms xs → stacked_events xs ≡ events_on_stacks syms (trace_of xs)
  stacks xs orderly = stacks_from syms [] xs orderly

  pub run_sized : (xs : List Step) → AreOrderly syms xs → IsRunSized (events_on_stacks syms (trace_of xs))
  run_sized xs orderly =
      subst IsRunSized (stacks xs orderly) (record {
        events = omega (arith, few_from [] xs orderly (omega arith));
        small = All-from_recursion IsSmall (stacked_events xs) (small_from [] xs orderly);
      })

  watched_from : (earlier calls : List Call) → FitAll syms earlier calls
      → AreOrderlyAfter syms (steps_in earlier) (steps_in calls)
  watched_from earlier [] fit = tt
  watched_from earlier (c ∷ calls) fit = by c fit.0
      (subst (λ (xs : List Step). AreOrderlyAfter syms xs (steps_in calls))
      (flat_map-append steps_of earlier (c ∷ []) ∙ ap (λ xs. steps_in earlier ++ xs) (append-nil (steps_of c)))
      (watched_from (earlier ++ c ∷ []) calls fit.1))
    where
      by : (c : Call) → Fits syms earlier c → AreOrderlyAfter syms (steps_in earlier ++ steps_of c) (steps_in calls)
          → AreOrderlyAfter syms (steps_in earlier) (steps_of c ++ steps_in calls)
      by (Readies thread pc) fits rest =
          subst (λ (xs : List Step). AreOrderlyAfter syms xs (steps_in calls)) (append-nil (steps_in earlier)) rest
      by (Sees x) fits rest = (fits.1, rest)
      by (Writes head rows) fits rest =
          subst (λ (xs : List Step). AreOrderlyAfter syms xs (steps_in calls)) (append-nil (steps_in earlier)) rest

  pub watched_orderly : (calls : List Call) → AreWatched syms calls → AreOrderly syms (steps_in calls)
  watched_orderly calls fit = watched_from [] calls fit
