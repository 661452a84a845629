-- The steps of a machine may follow one another in a run.
use Rattle.std.proofs.Common.{◌≡◌, ℕ, ◌==◌, Bool, true, false, cond, not, ◌&&◌, List, [], ◌∷◌, ◌++◌, Option, Some}
use Rattle.std.proofs.Common.{filter, refl, sym, ap, subst, ◌∙◌, if◌then◌else◌, is_some}
use Rattle.std.specs.List.{AllZip, list_any}
use Rattle.event_costs.specs.Costs.{IsWhole}
use Rattle.event_costs.specs.Runs.{Run}
use Rattle.event_costs.specs.declared.event.Event.{Event}
use Rattle.event_costs.specs.declared.numbers.ThreadNo.{ThreadNo}
use Rattle.sym_map.specs.SymbolMap.{SymbolMap}
use Rattle.cache_lru.specs.Costs.{Shapes, event_cost}
use Rattle.guest_load.specs.Guest.{Guest}
use Rattle.guest_sched.specs.Laws.{IsReached, after_last, is_step_of, pc_after, start_pc, waits_after, waits_from}
use Rattle.guest_sched.specs.Laws as told
use Rattle.guest_sched.specs.Machine.{Machine, new_machine, next}
use Rattle.guest_sched.specs.Step.{MachineStep}
use Rattle.once_each.proofs.Others.{Holds, holds_first, holds_next}
use Rattle.part_dump.specs.Steps.{Step, event_of, steps_of_thread}
use Rattle.part_dump.specs.Watched.{Follows, IsOrderly, last_of}
use Rattle.part_dump.specs.Watched as watched
use Rattle.once_each.specs.Runs.{AreOrderly, AreOrderlyAfter, AreTakenAfter, IsTaken, IsMachineStep}
use Rattle.once_each.proofs.RunLemmas.{last_own, led_on}

abbrev AreTold : List MachineStep → List Step → Type 0
AreTold ts xs = AllZip IsMachineStep ts xs

told_push : (ts : List MachineStep) (xs : List Step) (t : MachineStep) (x : Step) → AreTold ts xs → IsMachineStep t x
    → AreTold (ts ++ t ∷ []) (xs ++ x ∷ [])
told_push [] [] t x all is = (is, tt)
told_push [] (y ∷ ys) t x all is = absurd all
told_push (u ∷ us) [] t x all is = absurd all
told_push (u ∷ us) (y ∷ ys) t x all is = (all.0, told_push us ys t x all.1 is)

-- those of one thread
told_own : (thread : ThreadNo) (ts : List MachineStep) (xs : List Step) → AreTold ts xs
    → AreTold (filter (is_step_of thread) ts) (steps_of_thread thread.0 xs)
told_own thread [] [] all = tt
told_own thread [] (x ∷ xs) all = absurd all
told_own thread (t ∷ ts) [] all = absurd all
told_own thread (t ∷ ts) (x ∷ xs) all =
    subst (λ b. AreTold (filter (is_step_of thread) (t ∷ ts)) (cond b (x ∷ steps_of_thread thread.0 xs) (steps_of_thread thread.0 xs)))
    (ap (λ (e : Event). e.thread.0 == thread.0) (sym all.0.event)) (by (is_step_of thread t) (told_own thread ts xs all.1))
  where
    by : (b : Bool) → AreTold (filter (is_step_of thread) ts) (steps_of_thread thread.0 xs)
        → AreTold (cond b (t ∷ filter (is_step_of thread) ts) (filter (is_step_of thread) ts))
        (cond b (x ∷ steps_of_thread thread.0 xs) (steps_of_thread thread.0 xs))
    by true rest = (all.0, rest)
    by false rest = rest

follows_last : (ts : List MachineStep) (xs : List Step) (e : Event) → AreTold ts xs
    → ((t : MachineStep) → last_of ts ≡ Some t → (t.event.ends ≡ false) × (t.event.done.next ≡ e.done.pc))
    → Follows (last_of xs) e
follows_last [] [] e all led = tt
follows_last [] (x ∷ xs) e all led = absurd all
follows_last (t ∷ ts) [] e all led = absurd all
follows_last (t ∷ []) (x ∷ []) e all led =
    let last = led t refl in
    (ap (λ (f : Event). f.ends) all.0.event ∙ last.0, ap (λ (f : Event). f.done.next) all.0.event ∙ last.1)
follows_last (t ∷ []) (x ∷ (y ∷ ys)) e all led = absurd all.1
follows_last (t ∷ (u ∷ us)) (x ∷ []) e all led = absurd all.1
follows_last (t ∷ (u ∷ us)) (x ∷ (y ∷ ys)) e all led = follows_last (u ∷ us) (y ∷ ys) e all.1 led

follows_told : (guest : Guest) (thread : ThreadNo) (ts : List MachineStep) (xs : List Step) (e : Event) → AreTold ts xs
    → pc_after guest thread ts ≡ Some e.done.pc → Follows (last_of (steps_of_thread thread.0 xs)) e
unfolding pc_after
follows_told guest thread ts xs e all goes =
    follows_last (filter (is_step_of thread) ts) (steps_of_thread thread.0 xs) e (told_own thread ts xs all)
    (λ t last. led_on t (start_pc guest thread ts) e.done.pc
    (ap (λ o. after_last o (start_pc guest thread ts)) (sym (last_own thread ts ∙ last)) ∙ goes))

waits_same : (thread : ThreadNo) (before : Bool) (ts : List MachineStep) (xs : List Step) → AreTold ts xs
    → watched.waits_after thread.0 before xs ≡ waits_from thread before ts
waits_same thread before [] [] all = refl
waits_same thread before [] (x ∷ xs) all = absurd all
waits_same thread before (t ∷ ts) [] all = absurd all
waits_same thread before (t ∷ ts) (x ∷ xs) all =
    ap (λ b. watched.waits_after thread.0 b xs)
    (ap (λ (e : Event). if e.thread.0 == thread.0 then is_some x.wait
    else (before && not (watched.is_woken thread.0 x))) all.0.event
    ∙ ap (λ (w : Option ℕ). if t.event.thread.0 == thread.0 then is_some w
    else (before && not (watched.is_woken thread.0 x))) all.0.wait
    ∙ ap (λ (ws : List ThreadNo). if t.event.thread.0 == thread.0 then is_some t.wait
    else (before && not (list_any (λ u. u.0 == thread.0) ws))) all.0.woken)
    ∙ waits_same thread (waits_after thread before t) ts xs all.1

waits_told : (thread : ThreadNo) (ts : List MachineStep) (xs : List Step) → AreTold ts xs
    → watched.waits thread.0 xs ≡ told.waits thread ts
unfolding told.waits
waits_told thread ts xs all = waits_same thread false ts xs all

orderly_step : (syms : SymbolMap) (guest : Guest) (earlier : List MachineStep) (before : List Step) (t : MachineStep) (x : Step)
    → AreTold earlier before → told.InOrder guest earlier t → IsTaken syms before t x → IsOrderly syms before x
orderly_step syms guest earlier before t x all order is =
    let event : event_of x ≡ t.event = is.step_is.event in
    let thread = ap (λ (e : Event). e.thread) event in
    record {
      follows = follows_told guest (event_of x).thread earlier before (event_of x) all
          (ap (λ (u : ThreadNo). pc_after guest u earlier) thread ∙ order.goes_on
          ∙ ap (λ (e : Event). Some e.done.pc) (sym event));
      whole = is.whole;
      ones = is.ones;
      room = is.room;
      frames = is.frames;
      stack = is.stack;
      awake = waits_told (event_of x).thread earlier before all ∙ ap (λ (u : ThreadNo). told.waits u earlier) thread
          ∙ order.awake;
      wakes = λ other woken. waits_told (record { 0 = other }) earlier before all
          ∙ order.wakes (record { 0 = other })
          (ap (λ (ws : List ThreadNo). list_any (λ u. u.0 == other) ws) (sym is.step_is.woken) ∙ woken);
    }

orderly_from : (syms : SymbolMap) (guest : Guest) (earlier ts : List MachineStep) (m n : Machine) (before xs : List Step)
    → Holds guest earlier m → Run next m ts n → AreTold earlier before → AreTakenAfter syms before ts xs
    → AreOrderlyAfter syms before xs
orderly_from syms guest earlier [] m n before [] h run all taken = tt
orderly_from syms guest earlier [] m n before (x ∷ xs) h run all taken = absurd taken
orderly_from syms guest earlier (t ∷ ts) m n before [] h run all taken = absurd taken
orderly_from syms guest earlier (t ∷ ts) m n before (x ∷ xs) h run all taken =
    let step = holds_next guest earlier m t run.0 h run.1 in (
      orderly_step syms guest earlier before t x all step.1 taken.0,
      orderly_from syms guest (earlier ++ t ∷ []) ts run.0 n (before ++ x ∷ []) xs step.0 run.2
          (told_push earlier before t x all taken.0.step_is) taken.1,
    )

pub machine_orderly : (syms : SymbolMap) (guest : Guest) (quantum : ℕ) (seed : Option ℕ) (ts : List MachineStep)
    (m : Machine) (xs : List Step) → IsReached guest quantum seed ts m → AreTakenAfter syms [] ts xs
    → AreOrderly syms xs
machine_orderly syms guest quantum seed ts m xs reached taken =
    orderly_from syms guest [] ts (new_machine guest quantum seed) m [] xs
    (holds_first guest quantum seed reached.lawful) reached.run tt taken

-- ---- what they cost

pub cost_whole : (branches : Bool) (shapes : Shapes) (earlier : List Event) (event : Event)
    → IsWhole (event_cost branches shapes earlier event)
unfolding event_cost
cost_whole branches shapes earlier event = refl
