-- The order of a run's steps, by what holds of the machine that they lead to.
use Rattle.std.proofs.Common.{◌≡◌, ◌≢◌, ℕ, zero, suc, ◌+◌, ◌≤◌, ◌==◌, Bool, true, false, not, cond, List, [], ◌∷◌, ◌++◌}
use Rattle.std.proofs.Common.{length, map, Option, Some, None, Ok, Err, refl, sym, ◌∙◌, ap, subst, inl, inr, arith}
use Rattle.std.specs.Prelude.{IsSome, nat_le, ◌&&◌, ◌||◌}
use Rattle.std.proofs.lemmas.Bool.{cases_eq, cond-true, cond-false, eq-eqb, ne_eqb}
use Rattle.std.proofs.lemmas.Bool.Decides.{nat_tests}
use Rattle.std.proofs.lemmas.List.{append-nil, append_assoc, length-append}
use Rattle.std.specs.List.{list_any, slice_get}
use Rattle.std.specs.Option.{is_some, option_map}
use Rattle.event_costs.specs.Runs.{Run}
use Rattle.event_costs.specs.declared.numbers.ThreadNo.{ThreadNo}
use Rattle.event_costs.specs.declared.outcome.End.{End}
use Rattle.guest_load.specs.declared.thread.Thread.{Thread}
use Rattle.guest_load.specs.Guest.{Guest}
use Rattle.guest_load.specs.Lawful.{IsLawful}
use Rattle.guest_futex.specs.Waits.{times_waiting}
use Rattle.guest_sys.specs.Kernel.{times_live}
use Rattle.guest_sys.specs.Laws.{times_in}
use Rattle.guest_sys.specs.declared.caller.Caller.{Caller}
use Rattle.guest_sys.proofs.BalanceLemmas.{times_live-cons}
use Rattle.guest_sys.proofs.GuestLemmas.{caller_lawful}
use Rattle.guest_sys.proofs.LiveLemmas.{caller_found, nobody}
use Rattle.guest_sched.specs.Engine.{Engine, first_engine, runner}
use Rattle.guest_sched.specs.Step.{MachineStep}
use Rattle.guest_sched.specs.Machine.{Machine, ended, new_machine, next, running, running_unless}
use Rattle.guest_sched.specs.Laws.{InOrder, IsReached, IsTried, is_step_of, is_woken, made_from, pc_after, pc_in, waits}
use Rattle.guest_sched.specs.inner.Sound.{IsLively, on_turn}
use Rattle.guest_sched.proofs.CallLemmas.{first_idle, live_once}
use Rattle.guest_sched.proofs.EngineLemmas.{number_there, place_unique}
use Rattle.guest_sched.proofs.MoveLemmas.{Moved, moved, next_end, next_is, runner_there, step_is, tried_step}
use Rattle.guest_sched.proofs.MachineLemmas.{running_is, runs_is}
use Rattle.guest_sched.proofs.PlaceLemmas.{thread_number}
use Rattle.guest_sched.proofs.RunLemmas.{EachWithin, made_push, one, pc_first, pc_made, pc_other, pc_own, waits_push}
use Rattle.guest_sched.proofs.RunLemmas.{within_more, within_push}
use Rattle.guest_sched.proofs.ThreadLemmas.{IsLeft, bare, bare_lawful, numbers_differ}
use Rattle.guest_sched.proofs.TurnLemmas.{begins_times, first_queue, on_turn_first}
use Rattle.guest_futex.proofs.WaitLaws.{times_in-cons}

-- what holds of the machine after the steps so far
pub record Stands (guest : Guest) (earlier : List MachineStep) (w : Engine) : Type 0 where
  pub lawful : IsLawful (bare w.kernel.guest)
  pub lively : IsLively w.run_queue.ready w.kernel
  pub each : EachWithin w.kernel.guest.made earlier
  pub first : guest.made ≤ w.kernel.guest.made
  pub now : made_from guest.made earlier ≡ w.kernel.guest.made
  pub pcs : (i : ℕ) (t : Thread) → slice_get w.kernel.guest.threads i ≡ Some t
      → pc_after guest t.no earlier ≡ Some t.regs.pc
  pub waiting : (t : ThreadNo) → waits t earlier ≡ nat_le 1 (times_waiting t w.kernel.waits)

-- ---- waits

some_le : (n : ℕ) → true ≡ nat_le 1 (1 + n)
some_le n = grind (arith, nat_tests)

none_le : (n : ℕ) → nat_le 1 n ≡ nat_le 1 (0 + n)
none_le n = ap (nat_le 1) (zero_plus n)
  where
    zero_plus : (m : ℕ) → m ≡ 0 + m
    zero_plus m = omega arith

any_by : (b r : Bool) (n : ℕ) → r ≡ nat_le 1 n → (b || r) ≡ nat_le 1 (cond b 1 0 + n)
any_by true r n h = some_le n
any_by false r n h = h ∙ none_le n

any_times : (t : ThreadNo) (us : List ThreadNo) → list_any (λ u. u.0 == t.0) us ≡ nat_le 1 (times_in t us)
any_times t [] = refl
any_times t (u ∷ us) = any_by (u.0 == t.0) (list_any (λ v. v.0 == t.0) us) (times_in t us) (any_times t us)
    ∙ ap (nat_le 1) (sym (times_in-cons t u us))

-- who isn't woken waits on
waits_on : (o n k : ℕ) → n + k ≡ o → o ≤ 1 → (nat_le 1 o && not (nat_le 1 k)) ≡ nat_le 1 n
waits_on o n k h l = grind (arith, nat_tests)

-- whether a thread waits after a step, by how often it waits
own_wait : (b : Bool) (o n k : ℕ) → o ≡ 0 → n + k ≡ o + cond b 1 0 → (b ≡ true → k ≡ 0) → b ≡ nat_le 1 n
own_wait true o n k none count quiet = some_of n (omega (arith, none, count, quiet refl))
  where
    some_of : (m : ℕ) → m ≡ 1 → true ≡ nat_le 1 m
    some_of m e = sym (ap (nat_le 1) e)
own_wait false o n k none count quiet = none_of n (omega (arith, none, count))
  where
    none_of : (m : ℕ) → m ≡ 0 → false ≡ nat_le 1 m
    none_of m e = sym (ap (nat_le 1) e)

times_one_in : (b : Bool) (t u : ThreadNo) → u.0 ≡ t.0 → times_in t (cond b (u ∷ []) []) ≡ cond b 1 0
times_one_in true t u same = times_in-cons t u [] ∙ one_of (u.0 == t.0) (eq-eqb u.0 t.0 same)
  where
    one_of : (c : Bool) → c ≡ true → ◌≡◌ {A = ℕ} (cond {A = ℕ} c 1 0 + 0) 1
    one_of true e = refl
    one_of false e = cc
times_one_in false t u same = refl

times_none_in : (b : Bool) (t u : ThreadNo) → u.0 ≢ t.0 → times_in t (cond b (u ∷ []) []) ≡ 0
times_none_in true t u differs = times_in-cons t u [] ∙ none_of (u.0 == t.0) (ne_eqb u.0 t.0 differs)
  where
    none_of : (c : Bool) → c ≡ false → ◌≡◌ {A = ℕ} (cond {A = ℕ} c 1 0 + 0) 0
    none_of true e = cc
    none_of false e = refl
times_none_in false t u differs = refl

same_thread : (t u : ThreadNo) → t.0 ≡ u.0 → t ≡ u
same_thread t u e = ap (λ n. let v : ThreadNo = record { 0 = n } in v) e

idle : (w : Engine) (x : MachineStep) (w' : Engine) (s : IsLawful (bare w.kernel.guest)) → IsLively w.run_queue.ready w.kernel
    → (m : Moved w x w') → times_waiting m.caller.thread.no w.kernel.waits ≡ 0
idle w x w' lawful lively m = first_idle w.run_queue.ready w.kernel m.caller.thread.no lively lawful.rising m.run.first

waits_once : (w : Engine) (t : ThreadNo) → IsLawful (bare w.kernel.guest) → IsLively w.run_queue.ready w.kernel
    → times_waiting t w.kernel.waits ≤ 1
waits_once w t lawful lively = omega (arith, lively t, live_once t w.kernel.guest.threads lawful.rising)

none_woken : (t : ThreadNo) (us : List ThreadNo) → us ≡ [] → times_in t us ≡ 0
none_woken t us e = ap (times_in t) e

waits_next : (guest : Guest) (earlier : List MachineStep) (w : Engine) (x : MachineStep) (w' : Engine) → Stands guest earlier w
    → (m : Moved w x w') → (t : ThreadNo) → waits t (earlier ++ one x) ≡ nat_le 1 (times_waiting t w'.kernel.waits)
waits_next guest earlier w x w' s m t = waits_push t earlier x ∙ elim (cases_eq x.event.thread.0 t.0) [
  | inl same ↦
      let c = m.caller.thread.no in
      let thread : c ≡ t = same_thread c t (ap (λ (u : ThreadNo). u.0) (sym m.thread) ∙ same) in
      let none : times_waiting t w.kernel.waits ≡ 0 = ap (λ (u : ThreadNo). times_waiting u w.kernel.waits) (sym thread)
      ∙ idle w x w' s.lawful s.lively m in
      let begun : times_in t (cond (is_some x.wait) (c ∷ []) []) ≡ cond (is_some x.wait) 1 0
      = times_one_in (is_some x.wait) t c (ap (λ (u : ThreadNo). u.0) thread) in
      cond-true (is_step_of t x) (is_some x.wait) (waits t earlier && not (is_woken t x)) (eq-eqb x.event.thread.0 t.0 same)
      ∙ own_wait (is_some x.wait) (times_waiting t w.kernel.waits) (times_waiting t w'.kernel.waits) (times_in t x.woken) none
      (m.balance t ∙ ap (λ n. times_waiting t w.kernel.waits + n) begun) (λ q. none_woken t x.woken (m.quiet q))
  | inr other ↦
      let c = m.caller.thread.no in
      let apart : c.0 ≢ t.0 = λ e. other (ap (λ (u : ThreadNo). u.0) m.thread ∙ e) in
      let begun : times_in t (cond (is_some x.wait) (c ∷ []) []) ≡ 0 = times_none_in (is_some x.wait) t c apart in
      cond-false (is_step_of t x) (is_some x.wait) (waits t earlier && not (is_woken t x))
      (ne_eqb x.event.thread.0 t.0 other)
      ∙ (λ i. s.waiting t i && not (any_times t x.woken i))
      ∙ waits_on (times_waiting t w.kernel.waits) (times_waiting t w'.kernel.waits) (times_in t x.woken)
      (omega (arith, m.balance t, begun)) (waits_once w t s.lawful s.lively)
]

-- ---- threads go on where their last step led

caller_numbered : (w : Engine) (x : MachineStep) (w' : Engine) → IsLawful (bare w.kernel.guest) → (m : Moved w x w')
    → (1 ≤ m.caller.thread.no.0) × (m.caller.thread.no.0 ≤ w.kernel.guest.made)
caller_numbered w x w' lawful m =
    let h = caller_lawful (bare w.kernel.guest) m.caller lawful m.run.caller in
    (h.numbered, h.given)

left_goes_on : (guest : Guest) (earlier : List MachineStep) (w : Engine) (x : MachineStep) (w' : Engine) (t : Thread)
    → Stands guest earlier w → (m : Moved w x w')
    → IsLeft m.caller w.kernel.guest w'.kernel.guest x.event.ends x.event.done.next t
    → pc_after guest t.no (earlier ++ one x) ≡ Some t.regs.pc
left_goes_on guest earlier w x w' t s m (inl own) =
    let same : x.event.thread.0 ≡ t.no.0 = ap (λ (u : ThreadNo). u.0) m.thread ∙ sym own.0 in
    pc_own guest t.no earlier x (eq-eqb x.event.thread.0 t.no.0 same) own.2 ∙ ap (λ n. Some n) (sym own.1)
left_goes_on guest earlier w x w' t s m (inr (inl new)) =
    let caller : x.event.thread.0 ≤ w.kernel.guest.made
    = omega (arith, ap (λ (u : ThreadNo). u.0) m.thread, (caller_numbered w x w' s.lawful m).1) in
    pc_made guest t.no earlier x w.kernel.guest.made s.each (omega (arith, new.0)) caller
    (omega (arith, new.0, new.1, m.threads)) s.first ∙ ap (λ n. Some n) (sym new.2)
left_goes_on guest earlier w x w' t s m (inr (inr old)) =
    let apart = numbers_differ w.kernel.guest old.0 m.caller.place t m.caller.thread s.lawful old.1 m.run.caller old.2 in
    pc_other guest t.no earlier x t.regs.pc
    (ne_eqb x.event.thread.0 t.no.0 (λ e. apart (sym e ∙ ap (λ (u : ThreadNo). u.0) m.thread)))
    (s.pcs old.0 t old.1)

-- ---- one step more

stands_next : (guest : Guest) (earlier : List MachineStep) (w : Engine) (x : MachineStep) (w' : Engine) → Stands guest earlier w
    → (m : Moved w x w') → w'.exit ≡ None → Stands guest (earlier ++ one x) w'
stands_next guest earlier w x w' s m stays =
    let after = m.after stays in
    let caller : x.event.thread.0 ≤ w.kernel.guest.made
    = omega (arith, ap (λ (u : ThreadNo). u.0) m.thread, (caller_numbered w x w' s.lawful m).1) in
    record {
      lawful = after.lawful;
      lively = m.lively;
      each =
          within_push w'.kernel.guest.made earlier x
          (within_more w.kernel.guest.made w'.kernel.guest.made earlier m.made.0 s.each) (omega (arith, caller, m.made.0))
          (omega (arith, m.threads));
      first = omega (arith, s.first, m.made.0);
      now = made_push guest.made earlier x ∙ m.threads;
      pcs = λ j t at. left_goes_on guest earlier w x w' t s m (after.threads j t at);
      waiting = waits_next guest earlier w x w' s m;
    }

wakes_by : (a b : ℕ) (n k : ℕ) → nat_le 1 k ≡ true → n + k ≡ a + b → b ≡ 0 → nat_le 1 a ≡ true
wakes_by a b n k some count none = grind (arith, nat_tests)

begun_none : (b : Bool) (t u : ThreadNo) (us : List ThreadNo) → (b ≡ true → us ≡ []) → nat_le 1 (times_in t us) ≡ true
    → times_in t (cond b (u ∷ []) []) ≡ 0
begun_none true t u us quiet some =
    absurd (differ (sym some ∙ ap (λ (vs : List ThreadNo). nat_le 1 (times_in t vs)) (quiet refl)))
  where
    differ : true ≡ false → ⊥
    differ e = cc
begun_none false t u us quiet some = refl

pub in_order : (guest : Guest) (earlier : List MachineStep) (w : Engine) (x : MachineStep) (w' : Engine) → Stands guest earlier w
    → (m : Moved w x w') → InOrder guest earlier x
in_order guest earlier w x w' s m =
    let c = m.caller.thread.no in
    let number = caller_numbered w x w' s.lawful m in
    let same = ap (λ (u : ThreadNo). u.0) m.thread in
    record {
      goes_on = ap (λ (u : ThreadNo). pc_after guest u earlier) m.thread
          ∙ s.pcs m.caller.place m.caller.thread m.run.caller ∙ ap (λ n. Some n) (sym m.pc);
      awake = s.waiting x.event.thread ∙ ap (λ (u : ThreadNo). nat_le 1 (times_waiting u w.kernel.waits)) m.thread
          ∙ ap (nat_le 1) (idle w x w' s.lawful s.lively m);
      wakes = λ t woken.
          let some : nat_le 1 (times_in t x.woken) ≡ true = sym (any_times t x.woken) ∙ woken in
          s.waiting t ∙ wakes_by (times_waiting t w.kernel.waits) (times_in t (cond (is_some x.wait) (c ∷ []) []))
          (times_waiting t w'.kernel.waits) (times_in t x.woken) some (m.balance t)
          (begun_none (is_some x.wait) t c x.woken m.quiet some);
      numbered = (omega (arith, same, number.0), omega (arith, same, number.1, s.now));
      makes = (omega (arith, s.now, m.threads, m.made.0), omega (arith, s.now, m.threads, m.made.1));
      within = m.within;
    }

-- ---- whole runs

-- what holds of a machine that is seen, unless its guest has exited
pub record Holds (guest : Guest) (earlier : List MachineStep) (m : Machine) : Type 0 where
  pub stands : m.engine.exit ≡ None → Stands guest earlier m.engine
  pub given : m.given ≡ None
  pub made : made_from guest.made earlier ≡ m.engine.kernel.guest.made
  pub steps : m.engine.kernel.guest.steps ≡ guest.steps + length earlier

pub holds_next : (guest : Guest) (earlier : List MachineStep) (m : Machine) (x : MachineStep) (n : Machine) → Holds guest earlier m
    → next m ≡ Ok (x, n) → Holds guest (earlier ++ one x) n × InOrder guest earlier x
holds_next guest earlier m x n h is =
    let stepped = next_is m x n is in
    let s = h.stands (step_is m.engine x n.engine stepped.0).0 in
    let move = moved m.engine x n.engine s.lawful s.lively stepped.0 in (
      record {
        stands = stands_next guest earlier m.engine x n.engine s move;
        given = stepped.1;
        made = made_push guest.made earlier x ∙ move.threads;
        steps = omega (arith, move.steps, h.steps, length-append earlier (one x));
      },
      in_order guest earlier m.engine x n.engine s move,
    )

pub holds_run : (guest : Guest) (earlier later : List MachineStep) (m n : Machine) → Holds guest earlier m → Run next m later n
    → Holds guest (earlier ++ later) n
holds_run guest earlier [] m n h run =
    subst (λ (xs : List MachineStep). Holds guest xs n) (sym (append-nil earlier)) (subst (Holds guest earlier) run h)
holds_run guest earlier (x ∷ xs) m n h run =
    subst (λ (ys : List MachineStep). Holds guest ys n) (append_assoc earlier (one x) xs)
    (holds_run guest (earlier ++ one x) xs run.0 n (holds_next guest earlier m x run.0 h run.1).0 run.2)

-- ---- the first machine

first_times : (t : ThreadNo) (ts : List Thread) → times_in t (map (λ (u : Thread). u.no) ts) ≡ times_live t ts
first_times t [] = refl
first_times t (u ∷ ts) = times_in-cons t u.no (map (λ (v : Thread). v.no) ts)
    ∙ ap (λ n. cond (u.no.0 == t.0) 1 0 + n) (first_times t ts) ∙ sym (times_live-cons t u ts)

live_at : (ts : List Thread) (i : ℕ) (t : Thread) → slice_get ts i ≡ Some t → 1 ≤ times_live t.no ts
live_at [] i t at = cc
live_at (u ∷ us) zero t at =
    let same : u ≡ t = the_same u t at in
    let here : ◌≡◌ {A = ℕ} (cond {A = ℕ} (u.no.0 == t.no.0) 1 0) 1
    = cond-true {A = ℕ} (u.no.0 == t.no.0) 1 0 (eq-eqb u.no.0 t.no.0 (ap thread_number same)) in
    omega (arith, times_live-cons t.no u us, here)
  where
    the_same : (x y : Thread) → Some x ≡ Some y → x ≡ y
    the_same x y e = cc
live_at (u ∷ us) (suc i) t at = omega (arith, times_live-cons t.no u us, live_at us i t at)

-- a thread at a place is found by its number
pub found_at : (g : Guest) (i : ℕ) (t : Thread) → IsLawful g → slice_get g.threads i ≡ Some t
    → pc_in t.no g.threads ≡ Some t.regs.pc
found_at g i t lawful at =
    let live : 1 ≤ times_live t.no g.threads = live_at g.threads i t at in
    let found = caller_found t.no g.threads nobody live in
    let place : found.0.place ≡ i
    = place_unique g.threads found.0.place i t.no.0 lawful.rising
    (number_there g.threads found.0.place found.0.thread found.2 ∙ ap (λ n. Some n) found.3)
    (number_there g.threads i t at) in
    let same : found.0.thread ≡ t = same_some found.0.thread t (sym found.2 ∙ ap (slice_get g.threads) place ∙ at) in
    ap (option_map (λ (c : Caller). c.thread.regs.pc)) found.1 ∙ ap (λ (u : Thread). Some u.regs.pc) same
  where
    same_some : (x y : Thread) → Some x ≡ Some y → x ≡ y
    same_some x y e = cc

pub holds_first : (guest : Guest) (quantum : ℕ) (seed : Option ℕ) → IsLawful guest
    → Holds guest [] (new_machine guest quantum seed)
unfolding first_engine waits
holds_first guest quantum seed lawful = record {
  given = refl;
  made = refl;
  steps = omega arith;
  stands = λ stays. record {
    lawful = bare_lawful guest lawful;
    lively = λ t.
        let line = first_queue guest.threads quantum seed in
        omega (arith, begins_times t None line.ready line, first_times t guest.threads);
    each = tt {0};
    first = omega arith;
    now = refl;
    pcs = λ i t at.
        let c : Caller = record { place = i; thread = t } in
        pc_first guest t.no (caller_lawful guest c lawful at).given ∙ found_at guest i t lawful at;
    waiting = λ t. refl;
  };
}

pub holds_reached : (guest : Guest) (quantum : ℕ) (seed : Option ℕ) (earlier : List MachineStep) (m : Machine)
    → IsReached guest quantum seed earlier m → Holds guest earlier m
holds_reached guest quantum seed earlier m h =
    holds_run guest [] earlier (new_machine guest quantum seed) m (holds_first guest quantum seed h.lawful) h.run

-- ---- a machine that was reached

record Going (m : Machine) : Type 0 where
  given : m.given ≡ None
  exit : m.engine.exit ≡ None
  caller : Caller
  runs : runner m.engine ≡ Some caller

some_is : (o : Option ThreadNo) → IsSome o → (t : ThreadNo) × (o ≡ Some t)
some_is None some = cc
some_is (Some t) some = (t, refl)

going : (guest : Guest) (earlier : List MachineStep) (m : Machine) → Holds guest earlier m → ended m ≡ None → Going m
going guest earlier m h is =
    let runs = runs_is m is in
    let on = some_is (on_turn m.engine.exit m.engine.run_queue.ready) runs.turn in
    let found = runner_there m.engine on.0 (h.stands runs.exit).lively
    (on_turn_first m.engine.exit m.engine.run_queue.ready on.0 on.1) in
    record { given = runs.given; exit = runs.exit; caller = found.0; runs = found.1 }

pub one_runs : (guest : Guest) (earlier : List MachineStep) (m : Machine) → Holds guest earlier m → ended m ≡ None
    → IsSome (running m)
one_runs guest earlier m h is =
    let g = going guest earlier m h is in
    subst IsSome (running_is m g.caller g.caller.thread is g.runs refl) refl

pub tried_end : (guest : Guest) (earlier : List MachineStep) (m : Machine) (end : End) → Holds guest earlier m → ended m ≡ None
    → next m ≡ Err end → IsTried end
tried_end guest earlier m end h is e =
    let g = going guest earlier m h is in
    tried_step m.engine g.caller end g.exit g.runs (next_end m end g.given e)

running_by : (o : Option End) (w : Engine) (p : ThreadNo × ℕ) → running_unless o w ≡ Some p → o ≡ None
running_by None w p is = refl
running_by (Some end) w p is = cc

running_ends : (m : Machine) (p : ThreadNo × ℕ) → running m ≡ Some p → ended m ≡ None
unfolding running
running_ends m p is = running_by (ended m) m.engine p is

same_pair : (a b : ThreadNo × ℕ) → Some a ≡ Some b → a ≡ b
same_pair a b e = cc

same_caller : (a b : Caller) → Some a ≡ Some b → a ≡ b
same_caller a b e = cc

pub goes_where : (guest : Guest) (earlier : List MachineStep) (m : Machine) (thread : ThreadNo) (pc : ℕ) (x : MachineStep) (n : Machine)
    → Holds guest earlier m → running m ≡ Some (thread, pc) → next m ≡ Ok (x, n)
    → (x.event.thread ≡ thread) × (x.event.done.pc ≡ pc)
goes_where guest earlier m thread pc x n h is e =
    let over = running_ends m (thread, pc) is in
    let g = going guest earlier m h over in
    let pair = same_pair (g.caller.thread.no, g.caller.thread.regs.pc) (thread, pc)
    (running_is m g.caller g.caller.thread over g.runs refl ∙ is) in
    let stepped = next_is m x n e in
    let s = h.stands g.exit in
    let move = moved m.engine x n.engine s.lawful s.lively stepped.0 in
    let same = same_caller move.caller g.caller (sym move.runs ∙ g.runs) in (
      move.thread ∙ ap (λ (c : Caller). c.thread.no) same ∙ ap (λ (p : ThreadNo × ℕ). p.0) pair,
      move.pc ∙ ap (λ (c : Caller). c.thread.regs.pc) same ∙ ap (λ (p : ThreadNo × ℕ). p.1) pair,
    )
