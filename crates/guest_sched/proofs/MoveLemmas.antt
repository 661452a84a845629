-- A step, whichever it is: whose it was, and what it left of threads, waits and ready threads.
use Rattle.std.proofs.Common.{◌≡◌, ℕ, zero, suc, ◌+◌, ◌^◌, ◌<◌, ◌≤◌, ◌⊎◌, Bool, true, false, cond, List, [], ◌∷◌, ◌++◌}
use Rattle.std.specs.List.{slice_get}
use Rattle.std.proofs.Common.{Option, Some, None, Result, Ok, Err, refl, sym, ◌∙◌, ap, subst, inl, inr, arith}
use Rattle.std.specs.Option.{is_some, option_and_then}
use Rattle.event_costs.specs.declared.event.Done.{Done}
use Rattle.event_costs.specs.declared.event.Event.{Event}
use Rattle.event_costs.specs.declared.numbers.ThreadNo.{ThreadNo}
use Rattle.event_costs.specs.declared.outcome.End.{End}
use Rattle.event_costs.specs.declared.outcome.End.TheVariants.{Killed, UnsupportedInstr, UnsupportedCall}
use Rattle.rv_step.specs.declared.stepped.Stepped.{Stepped}
use Rattle.rv_step.specs.declared.stepped.Stepped.TheVariants as stepped
use Rattle.rv_step.specs.Effects.{fetched_effect, step_of}
use Rattle.rv_step.specs.Forms as forms
use Rattle.rv_step.specs.Forms.{following}
use Rattle.rv_step.specs.Promises.{IfRetired, IsWithin}
use Rattle.rv_step.proofs.PromiseLemmas.{IsReady, left-lawful, left-within}
use Rattle.guest_mem.specs.Memory.{Memory, allows_at, load_at, may, prot_exec}
use Rattle.guest_load.specs.Guest.{Guest}
use Rattle.guest_load.specs.Lawful.{IsLawful}
use Rattle.guest_futex.specs.Waits.{times_waiting}
use Rattle.guest_sys.specs.Kernel.{Kernel, times_live}
use Rattle.guest_sys.specs.Common.{IsCaller}
use Rattle.guest_sys.specs.Laws.{spawned_by, times_in, waiters_by}
use Rattle.guest_sys.specs.CallRow.{call_row, caller_of}
use Rattle.guest_sys.specs.declared.caller.Caller.{Caller}
use Rattle.guest_sys.specs.declared.effect.Act.{Act}
use Rattle.guest_sys.specs.declared.effect.Act.TheVariants as act
use Rattle.guest_sys.specs.declared.effect.Effect.{Effect}
use Rattle.guest_sys.proofs.BalanceLemmas.{times_live-set}
use Rattle.guest_sys.proofs.GuestLemmas.{caller_lawful}
use Rattle.guest_sys.proofs.LiveLemmas.{caller_found, caller_is, nobody}
use Rattle.guest_sys.proofs.KeptLemmas.{HasShape, call_does}
use Rattle.guest_sched.specs.declared.turns.Fate.{Fate}
use Rattle.guest_sched.specs.declared.turns.Fate.TheVariants as fate
use Rattle.guest_sched.specs.RunQueue.{RunQueue, ends_turn, after_step}
use Rattle.guest_sched.specs.Engine.{Engine, runner, engine_after_step}
use Rattle.guest_sched.specs.Step.{MachineStep, by_answer, by_row, call_done, call_step, with_step_more, ends_thread, step_at}
use Rattle.guest_sched.specs.Step.{event_of, guest_after, fate_of, output_of, signal_of, hart_of, step, tells}
use Rattle.guest_sched.specs.Step.{unless_killed, wait_of, with_call, with_instruction, with_regs}
use Rattle.guest_sched.specs.Machine.{Machine, with_machine, next, unless_given}
use Rattle.guest_sched.specs.Laws.{IsTried}
use Rattle.guest_sched.specs.inner.Sound.{IsLively}
use Rattle.guest_sched.proofs.CallLemmas.{lively_called}
use Rattle.guest_sched.proofs.ThreadLemmas.{After, after_call, after_instruction, bare, made_by, same_threads}
use Rattle.guest_sched.proofs.TurnLemmas.{begins_times, live_first, passed_none, ran_times}

-- ---- the running thread

pub record IsRun (w : Engine) (c : Caller) : Type 0 where
  pub caller : IsCaller w.kernel.guest c
  pub found : caller_of c.thread.no w.kernel.guest.threads ≡ Some c
  pub first : slice_get w.run_queue.ready 0 ≡ Some c.thread.no
  pub live : 1 ≤ times_live c.thread.no w.kernel.guest.threads

run_by : (w : Engine) (c : Caller) (o : Option ThreadNo) → IsLively w.run_queue.ready w.kernel → slice_get w.run_queue.ready 0 ≡ o
    → option_and_then (λ t. caller_of t w.kernel.guest.threads) o ≡ Some c → IsRun w c
run_by w c None lively first is = cc
run_by w c (Some t) lively first is =
    let live : 1 ≤ times_live t w.kernel.guest.threads = live_first w.run_queue.ready w.kernel t lively first in
    let found = caller_is t w.kernel.guest.threads nobody c live is in
    let same : t ≡ c.thread.no = ap (λ n. let u : ThreadNo = record { 0 = n } in u) (sym found.1) in
    record {
      caller = found.0;
      found = subst (λ (u : ThreadNo). caller_of u w.kernel.guest.threads ≡ Some c) same is;
      first = first ∙ ap (λ (u : ThreadNo). Some u) same;
      live = subst (λ (u : ThreadNo). 1 ≤ times_live u w.kernel.guest.threads) same live;
    }

pub run_is : (w : Engine) (c : Caller) → IsLively w.run_queue.ready w.kernel → runner w ≡ Some c → IsRun w c
unfolding runner
run_is w c lively is = run_by w c (slice_get w.run_queue.ready 0) lively refl is

-- ---- after a turn

turned_same : {X : Type 0} (f : Engine → X) (b : Bool) (x y : Engine) (v : X) → f x ≡ v → f y ≡ v → f (cond b x y) ≡ v
turned_same f true x y v p q = p
turned_same f false x y v p q = q

pub turned_sys : (f : Fate) (ts : List ThreadNo) (w : Engine) → (engine_after_step f ts w).kernel ≡ w.kernel
unfolding engine_after_step
turned_sys f ts w = turned_same (λ (v : Engine). v.kernel) (ends_turn f w.run_queue) _ _ w.kernel refl refl

pub turned_exit : (f : Fate) (ts : List ThreadNo) (w : Engine) → (engine_after_step f ts w).exit ≡ w.exit
unfolding engine_after_step
turned_exit f ts w = turned_same (λ (v : Engine). v.exit) (ends_turn f w.run_queue) _ _ w.exit refl refl

turned_times : (t : ThreadNo) (f : Fate) (ts : List ThreadNo) (w : Engine)
    → times_in t (engine_after_step f ts w).run_queue.ready ≡ times_in t (after_step f ts w.run_queue).ready
unfolding engine_after_step
turned_times t f ts w =
    turned_same (λ (v : Engine). times_in t v.run_queue.ready) (ends_turn f w.run_queue) _ _
    (times_in t (after_step f ts w.run_queue).ready)
    (begins_times t w.exit (after_step f ts w.run_queue).ready (after_step f ts w.run_queue)) refl

pub turned_lively : (f : Fate) (ts : List ThreadNo) (w : Engine) → IsLively (after_step f ts w.run_queue).ready w.kernel
    → IsLively (engine_after_step f ts w).run_queue.ready (engine_after_step f ts w).kernel
turned_lively f ts w lively =
    subst (λ (s : Kernel). IsLively (engine_after_step f ts w).run_queue.ready s) (sym (turned_sys f ts w))
    (λ t. omega (arith, lively t, turned_times t f ts w))

-- ---- what a step is

pub record IsInstruction (w : Engine) (x : MachineStep) (w' : Engine) : Type 0 where
  pub caller : Caller
  pub runs : runner w ≡ Some caller
  pub done : Done
  pub retired : (step_of (hart_of w caller)).stepped ≡ stepped.Retired done
  pub gives : ◌≡◌ {A = MachineStep × Engine} (x, w') (
    record {
      event = event_of caller.thread.no done false;
      output = None;
      wait = None;
      woken = [];
      threads = w'.kernel.guest.made;
    },
    engine_after_step fate.Runs [] (with_instruction w caller (step_of (hart_of w caller)).after),
  )

pub record IsCall (w : Engine) (x : MachineStep) (w' : Engine) : Type 0 where
  pub caller : Caller
  pub runs : runner w ≡ Some caller
  pub called : (step_of (hart_of w caller)).stepped ≡ stepped.Call
  pub effect : Effect
  pub after : Kernel
  pub row : call_row w.kernel caller.thread.no ≡ Ok (effect, after)
  pub alive : signal_of effect.act ≡ None
  pub gives : ◌≡◌ {A = MachineStep × Engine} (x, w') (
    record {
      event = event_of caller.thread.no (call_done caller.thread.regs) (ends_thread effect.act);
      output = output_of effect.act;
      wait = wait_of effect.act;
      woken = effect.woken;
      threads = w'.kernel.guest.made;
    },
    engine_after_step (fate_of effect.act) (effect.woken ++ spawned_by effect.act) (with_call w effect.act after),
  )

same_step : (a b : MachineStep × Engine) → ◌≡◌ {A = Result (MachineStep × Engine) End} (Ok a) (Ok b) → a ≡ b
same_step a b e = cc

-- what a step tells of the machine that it leaves
told_now : (event : Event) (o : Option (ℕ × List ℕ)) (wait : Option ℕ) (woken : List ThreadNo) (v : Engine) (x : MachineStep)
    (w' : Engine) → tells event o wait woken v ≡ Ok (x, w')
    → ◌≡◌ {A = MachineStep × Engine} (x, w')
    (record { event = event; output = o; wait = wait; woken = woken; threads = w'.kernel.guest.made }, v)
told_now event o wait woken v x w' is =
    let pair = sym (same_step _ (x, w') is) in
    let whole : w' ≡ v = ap (λ (p : MachineStep × Engine). p.1) pair in
    pair ∙ (λ i.
    (record { event = event; output = o; wait = wait; woken = woken; threads = (sym whole i).kernel.guest.made }, v))

killed_by : (w : Engine) (c : Caller) (effect : Effect) (s : Kernel) (o : Option ℕ) (x : MachineStep) (w' : Engine)
    → signal_of effect.act ≡ o → runner w ≡ Some c → (step_of (hart_of w c)).stepped ≡ stepped.Call
    → call_row w.kernel c.thread.no ≡ Ok (effect, s) → unless_killed o w c effect s ≡ Ok (x, w') → IsCall w x w'
killed_by w c effect s (Some signal) x w' signalled runs called row is = cc
killed_by w c effect s None x w' signalled runs called row is =
    record {
      caller = c;
      runs = runs;
      called = called;
      effect = effect;
      after = s;
      row = row;
      alive = signalled;
      gives = told_now _ _ _ _ _ x w' is;
    }

row_by_is : (w : Engine) (c : Caller) (r : Result (Effect × Kernel) ℕ) (x : MachineStep) (w' : Engine)
    → call_row w.kernel c.thread.no ≡ r → runner w ≡ Some c → (step_of (hart_of w c)).stepped ≡ stepped.Call
    → by_row w c r ≡ Ok (x, w') → IsCall w x w'
row_by_is w c (Ok p) x w' row runs called is = killed_by w c p.0 p.1 (signal_of p.0.act) x w' refl runs called row is
row_by_is w c (Err number) x w' row runs called is = cc

call_is : (w : Engine) (c : Caller) (x : MachineStep) (w' : Engine) → runner w ≡ Some c
    → (step_of (hart_of w c)).stepped ≡ stepped.Call → call_step w c ≡ Ok (x, w') → IsCall w x w'
unfolding call_step
call_is w c x w' runs called is = row_by_is w c (call_row w.kernel c.thread.no) x w' refl runs called is

answer_is : (w : Engine) (c : Caller) (answer : Stepped) (x : MachineStep) (w' : Engine)
    → (step_of (hart_of w c)).stepped ≡ answer → runner w ≡ Some c
    → by_answer w c answer (step_of (hart_of w c)).after ≡ Ok (x, w') → IsInstruction w x w' ⊎ IsCall w x w'
answer_is w c (stepped.Retired done) x w' at runs is =
    inl (record { caller = c; runs = runs; done = done; retired = at; gives = told_now _ _ _ _ _ x w' is })
answer_is w c stepped.Call x w' at runs is = inr (call_is w c x w' runs at is)
answer_is w c (stepped.Trap signal) x w' at runs is = cc
answer_is w c (stepped.Unknown word) x w' at runs is = cc

runner_by : (w : Engine) (o : Option Caller) (x : MachineStep) (w' : Engine) → runner w ≡ o → step_at w None o ≡ Ok (x, w')
    → IsInstruction w x w' ⊎ IsCall w x w'
runner_by w None x w' runs is = cc
runner_by w (Some c) x w' runs is = answer_is w c (step_of (hart_of w c)).stepped x w' refl runs is

exit_by : (w : Engine) (o : Option ℕ) (x : MachineStep) (w' : Engine) → w.exit ≡ o
    → step_at w o (runner w) ≡ Ok (x, w') → (w.exit ≡ None) × (IsInstruction w x w' ⊎ IsCall w x w')
exit_by w None x w' exit is = (exit, runner_by w (runner w) x w' refl is)
exit_by w (Some code) x w' exit is = cc

pub step_is : (w : Engine) (x : MachineStep) (w' : Engine) → step w ≡ Ok (x, w')
    → (w.exit ≡ None) × (IsInstruction w x w' ⊎ IsCall w x w')
unfolding step
step_is w x w' is = exit_by w w.exit x w' refl is

-- ---- the next step of a machine that is seen

same_seen : (a b : MachineStep × Machine) → ◌≡◌ {A = Result (MachineStep × Machine) End} (Ok a) (Ok b) → a ≡ b
same_seen a b e = cc

kept_by : (r : Result (MachineStep × Engine) End) (x : MachineStep) (n : Machine) → with_machine r ≡ Ok (x, n)
    → (r ≡ Ok (x, n.engine)) × (n.given ≡ None)
kept_by (Ok p) x n is =
    let pair = same_seen _ (x, n) is in
    (λ i. Ok ((pair i).0, (pair i).1.engine), sym (ap (λ (q : MachineStep × Machine). q.1.given) pair))
kept_by (Err end) x n is = cc

next_given : (m : Machine) (o : Option End) (x : MachineStep) (n : Machine) → m.given ≡ o
    → unless_given o (with_machine (step m.engine)) ≡ Ok (x, n) → (step m.engine ≡ Ok (x, n.engine)) × (n.given ≡ None)
next_given m None x n given is = kept_by (step m.engine) x n is
next_given m (Some end) x n given is = cc

pub next_is : (m : Machine) (x : MachineStep) (n : Machine) → next m ≡ Ok (x, n)
    → (step m.engine ≡ Ok (x, n.engine)) × (n.given ≡ None)
unfolding next
next_is m x n is = next_given m m.given x n refl is

-- ---- whichever it is

pub record Moved (w : Engine) (x : MachineStep) (w' : Engine) : Type 0 where
  pub caller : Caller
  pub run : IsRun w caller
  pub runs : runner w ≡ Some caller
  pub thread : x.event.thread ≡ caller.thread.no
  pub pc : x.event.done.pc ≡ caller.thread.regs.pc
  pub within : (x.event.done.pc + 4 ≤ 2 ^ 32) × IsWithin x.event.done.touch
  pub threads : x.threads ≡ w'.kernel.guest.made
  pub made : (w.kernel.guest.made ≤ w'.kernel.guest.made) × (w'.kernel.guest.made ≤ w.kernel.guest.made + 1)
  pub steps : w'.kernel.guest.steps ≡ w.kernel.guest.steps + 1
  pub after : w'.exit ≡ None → After caller w.kernel.guest w'.kernel.guest x.event.ends x.event.done.next
  pub lively : IsLively w'.run_queue.ready w'.kernel
  pub balance : (t : ThreadNo) → times_waiting t w'.kernel.waits + times_in t x.woken
      ≡ times_waiting t w.kernel.waits + times_in t (cond (is_some x.wait) (caller.thread.no ∷ []) [])
  pub quiet : is_some x.wait ≡ true → x.woken ≡ []

-- ---- an instruction

pub moved_instruction : (w : Engine) (x : MachineStep) (w' : Engine) → IsLawful (bare w.kernel.guest) → IsLively w.run_queue.ready w.kernel
    → IsInstruction w x w' → Moved w x w'
moved_instruction w x w' lawful lively s =
    let c = s.caller in
    let g = w.kernel.guest in
    let run = run_is w c lively s.runs in
    let before = caller_lawful (bare g) c lawful run.caller in
    let ready : IsReady c.thread.regs = record { aligned = before.aligned; zero = before.zero } in
    let o = step_of (hart_of w c) in
    let all = left-lawful (hart_of w c) o refl ready in
    let goes_to : s.done.next ≡ o.after.regs.pc
    = subst (λ (a : Stepped). IfRetired a (λ (d : Done). d.next ≡ o.after.regs.pc)) s.retired all.next in
    let at : s.done.pc ≡ c.thread.regs.pc
    = subst (λ (a : Stepped). IfRetired a (λ (d : Done). d.pc ≡ c.thread.regs.pc)) s.retired all.pc in
    let word : s.done.pc + 4 ≤ 2 ^ 32
    = subst (λ (a : Stepped). IfRetired a (λ (d : Done). d.pc + 4 ≤ 2 ^ 32)) s.retired
    (left-within (hart_of w c) o refl ready) in
    let bytes : IsWithin s.done.touch
    = subst (λ (a : Stepped). IfRetired a (λ (d : Done). IsWithin d.touch)) s.retired all.data_within in
    let wi = with_instruction w c o.after in
    let v = engine_after_step fate.Runs [] wi in
    let same = turned_sys fate.Runs [] wi in
    let left : w' ≡ v = ap (λ (p : MachineStep × Engine). p.1) s.gives in
    let number : v.kernel.guest.made ≡ g.made = ap (λ (t : Kernel). t.guest.made) same in
    subst (λ (p : MachineStep × Engine). Moved w p.0 p.1) (sym s.gives)
    (record {
      caller = c;
      run = run;
      runs = s.runs;
      thread = refl;
      pc = at;
      within = (word, bytes);
      threads = ap (λ (u : Engine). u.kernel.guest.made) left;
      made = (omega (arith, number), omega (arith, number));
      steps = ap (λ (t : Kernel). t.guest.steps) same;
      after = λ stays.
          subst (λ (t : Kernel). After c g t.guest false s.done.next) (sym same)
          (subst (After c g (guest_after g c o.after) false) (sym goes_to)
          (after_instruction c g o.after lawful run.caller all.ready.aligned all.ready.zero));
      lively = turned_lively fate.Runs [] wi (λ t.
          omega (
            arith,
            lively t,
            ap (λ (l : RunQueue). times_in t l.ready) (passed_none w.run_queue),
            ran_times t w.run_queue,
            times_live-set t g.threads c.place c.thread (with_regs c.thread o.after.regs) run.caller refl,
          ));
      balance = λ t. ap (λ (u : Kernel). times_waiting t u.waits + times_in t []) same;
      quiet = λ waits. refl;
    })

-- ---- a system call

allowed-below : (m : Memory) (want a : ℕ) → allows_at m want a ≡ true → a < 2 ^ 32
unfolding allows_at
allowed-below m want a holds = grind arith

may-within : (n : ℕ) (m : Memory) (want a : ℕ) → may m want a (suc n) ≡ true → a + suc n ≤ 2 ^ 32
unfolding may
may-within zero m want a holds = grind (arith, allowed-below m want a)
may-within (suc n) m want a holds = grind (arith, may-within n m want (a + 1))

loaded-may : (m : Memory) (want a n v : ℕ) → load_at m want a n ≡ Some v → may m want a n ≡ true
unfolding load_at
loaded-may m want a n v given = grind arith

-- an ECALL was fetched
ecall_by : (s : forms.HartState) (o : Option ℕ) → load_at s.memory prot_exec s.regs.pc 4 ≡ o
    → (fetched_effect o s).stepped ≡ stepped.Call → s.regs.pc + 4 ≤ 2 ^ 32
ecall_by s None there is = cc
ecall_by s (Some word) there is =
    may-within 3 s.memory prot_exec s.regs.pc (loaded-may s.memory prot_exec s.regs.pc 4 word there)

ecall_within : (s : forms.HartState) → (step_of s).stepped ≡ stepped.Call → s.regs.pc + 4 ≤ 2 ^ 32
unfolding step_of
ecall_within s is = ecall_by s (load_at s.memory prot_exec s.regs.pc 4) refl is

waiting_is : (t caller : ThreadNo) (a : Act)
    → times_in t (waiters_by caller a) ≡ times_in t (cond (is_some (wait_of a)) (caller ∷ []) [])
waiting_is t caller act.Answer = refl
waiting_is t caller (act.Wait addr) = refl
waiting_is t caller act.Yield = refl
waiting_is t caller (act.Spawn other) = refl
waiting_is t caller (act.Output fd bytes) = refl
waiting_is t caller act.ThreadEnd = refl
waiting_is t caller (act.ProcessEnd code) = refl
waiting_is t caller (act.Killed signal) = refl

quiet_wait : (c : Caller) (g g' : Guest) (a : Act) (woken : List ThreadNo) → HasShape c g a woken g'
    → is_some (wait_of a) ≡ true → woken ≡ []
quiet_wait c g g' (act.Wait addr) woken shape is = shape.1
quiet_wait c g g' act.Answer woken shape is = cc
quiet_wait c g g' act.Yield woken shape is = cc
quiet_wait c g g' (act.Spawn other) woken shape is = cc
quiet_wait c g g' (act.Output fd bytes) woken shape is = cc
quiet_wait c g g' act.ThreadEnd woken shape is = cc
quiet_wait c g g' (act.ProcessEnd code) woken shape is = cc
quiet_wait c g g' (act.Killed signal) woken shape is = cc

after_counted : (c : Caller) (g g' : Guest) (ends : Bool) (to : ℕ) → After c g g' ends to
    → After c g (with_step_more g') ends to
after_counted c g g' ends to h = record {
  lawful = same_threads (with_step_more g') g' h.lawful refl refl;
  threads = h.threads;
}

pub moved_call : (w : Engine) (x : MachineStep) (w' : Engine) → IsLawful (bare w.kernel.guest) → IsLively w.run_queue.ready w.kernel
    → IsCall w x w' → Moved w x w'
moved_call w x w' lawful lively s =
    let c = s.caller in
    let g = w.kernel.guest in
    let a = s.effect.act in
    let run = run_is w c lively s.runs in
    let does = call_does c w.kernel s.effect s.after run.caller run.found s.row in
    let shape = does.shape in
    let balanced = does.kept.balanced in
    let wc = with_call w a s.after in
    let threads = s.effect.woken ++ spawned_by a in
    let v = engine_after_step (fate_of a) threads wc in
    let same = turned_sys (fate_of a) threads wc in
    let left : w' ≡ v = ap (λ (p : MachineStep × Engine). p.1) s.gives in
    let number : v.kernel.guest.made ≡ s.after.guest.made = ap (λ (t : Kernel). t.guest.made) same in
    let count = made_by c g s.after.guest a s.effect.woken shape s.alive in
    subst (λ (p : MachineStep × Engine). Moved w p.0 p.1) (sym s.gives)
    (record {
      caller = c;
      run = run;
      runs = s.runs;
      thread = refl;
      pc = refl;
      within = (ecall_within (hart_of w c) s.called, tt {0});
      threads = ap (λ (u : Engine). u.kernel.guest.made) left;
      made = (omega (arith, number, count.0), omega (arith, number, count.1));
      steps = ap (λ (t : Kernel). t.guest.steps) same ∙ ap (λ n. n + 1) balanced.steps;
      after = λ stays.
          subst (λ (t : Kernel). After c g t.guest (ends_thread a) (following c.thread.regs)) (sym same)
          (after_counted c g s.after.guest (ends_thread a) (following c.thread.regs)
          (after_call c g s.after.guest a s.effect.woken lawful run.caller shape
          (sym (turned_exit (fate_of a) threads wc) ∙ stays) s.alive));
      lively =
          turned_lively (fate_of a) threads wc
          (lively_called c.thread.no w.run_queue w.kernel s.effect s.after s.alive run.first lively balanced);
      balance = λ t.
          ap (λ (u : Kernel). times_waiting t u.waits + times_in t s.effect.woken) same ∙ balanced.waits t
          ∙ ap (λ n. times_waiting t w.kernel.waits + n) (waiting_is t c.thread.no a);
      quiet = quiet_wait c g s.after.guest a s.effect.woken shape;
    })

pub moved : (w : Engine) (x : MachineStep) (w' : Engine) → IsLawful (bare w.kernel.guest) → IsLively w.run_queue.ready w.kernel
    → step w ≡ Ok (x, w') → Moved w x w'
moved w x w' lawful lively is = by (step_is w x w' is).1
  where
    by : IsInstruction w x w' ⊎ IsCall w x w' → Moved w x w'
    by (inl s) = moved_instruction w x w' lawful lively s
    by (inr s) = moved_call w x w' lawful lively s

-- ---- who runs, and what ends a run

pub runner_there : (w : Engine) (t : ThreadNo) → IsLively w.run_queue.ready w.kernel → slice_get w.run_queue.ready 0 ≡ Some t
    → (c : Caller) × (runner w ≡ Some c)
unfolding runner
runner_there w t lively first =
    let live : 1 ≤ times_live t w.kernel.guest.threads = live_first w.run_queue.ready w.kernel t lively first in
    let found = caller_found t w.kernel.guest.threads nobody live in
    (found.0, ap (option_and_then (λ u. caller_of u w.kernel.guest.threads)) first ∙ found.1)

same_end : (a b : End) → ◌≡◌ {A = Result (MachineStep × Engine) End} (Err a) (Err b) → a ≡ b
same_end a b e = cc

tried_signal : (w : Engine) (c : Caller) (effect : Effect) (s : Kernel) (o : Option ℕ) (end : End)
    → unless_killed o w c effect s ≡ Err end → IsTried end
tried_signal w c effect s (Some signal) end is =
    subst IsTried (same_end (Killed signal c.thread.regs.pc) end is) (tt {0})
tried_signal w c effect s None end is = cc

tried_row : (w : Engine) (c : Caller) (r : Result (Effect × Kernel) ℕ) (end : End) → by_row w c r ≡ Err end → IsTried end
tried_row w c (Ok p) end is = tried_signal w c p.0 p.1 (signal_of p.0.act) end is
tried_row w c (Err number) end is = subst IsTried (same_end (UnsupportedCall c.thread.regs.pc number) end is) (tt {0})

tried_call : (w : Engine) (c : Caller) (end : End) → call_step w c ≡ Err end → IsTried end
unfolding call_step
tried_call w c end is = tried_row w c (call_row w.kernel c.thread.no) end is

tried_answer : (w : Engine) (c : Caller) (answer : Stepped) (after : forms.HartState) (end : End)
    → by_answer w c answer after ≡ Err end → IsTried end
tried_answer w c (stepped.Retired done) after end is = cc
tried_answer w c stepped.Call after end is = tried_call w c end is
tried_answer w c (stepped.Trap signal) after end is =
    subst IsTried (same_end (Killed signal c.thread.regs.pc) end is) (tt {0})
tried_answer w c (stepped.Unknown word) after end is =
    subst IsTried (same_end (UnsupportedInstr c.thread.regs.pc word) end is) (tt {0})

pub tried_step : (w : Engine) (c : Caller) (end : End) → w.exit ≡ None → runner w ≡ Some c → step w ≡ Err end
    → IsTried end
unfolding step
tried_step w c end exit runs is =
    tried_answer w c (step_of (hart_of w c)).stepped (step_of (hart_of w c)).after end
    (sym (ap (λ (o : Option ℕ). step_at w o (runner w)) exit ∙ ap (step_at w None) runs) ∙ is)

kept_end : (r : Result (MachineStep × Engine) End) (end : End) → with_machine r ≡ Err end → r ≡ Err end
kept_end (Ok p) end is = cc
kept_end (Err other) end is = (λ i. Err (same i))
  where
    same : other ≡ end
    same = cc

pub next_end : (m : Machine) (end : End) → m.given ≡ None → next m ≡ Err end → step m.engine ≡ Err end
unfolding next
next_end m end given is =
    kept_end (step m.engine) end (sym (ap (λ (o : Option End). unless_given o (with_machine (step m.engine))) given) ∙ is)
