-- As long as its turn lasts, a thread runs on.
use Rattle.std.proofs.Common.{◌≡◌, ℕ, ◌+◌, ◌==◌, ◌≤◌, false, List, [], ◌∷◌, ◌++◌}
use Rattle.std.specs.List.{slice_get}
use Rattle.std.proofs.Common.{Some, None, refl, sym, ◌∙◌, ap, subst, inl, inr, arith}
use Rattle.std.proofs.lemmas.Bool.Decides.{nat_tests}
use Rattle.event_costs.specs.declared.event.Done.{Done}
use Rattle.event_costs.specs.declared.numbers.ThreadNo.{ThreadNo}
use Rattle.rv_step.specs.declared.stepped.Stepped.{Stepped}
use Rattle.rv_step.specs.declared.stepped.Stepped.TheVariants as stepped
use Rattle.rv_step.specs.Effects.{step_of}
use Rattle.guest_load.specs.Lawful.{IsLawful}
use Rattle.guest_sys.specs.Kernel.{Kernel}
use Rattle.guest_sys.specs.declared.caller.Caller.{Caller}
use Rattle.guest_sched.specs.declared.turns.Fate.TheVariants as fate
use Rattle.guest_sched.specs.RunQueue.{RunQueue, with_threads, goes_on}
use Rattle.guest_sched.specs.Engine.{Engine, runner, engine_after_step}
use Rattle.guest_sched.specs.Step.{MachineStep, event_of, hart_of, with_instruction}
use Rattle.guest_sched.specs.Machine.{Machine, ended, known_end, running}
use Rattle.guest_sched.specs.inner.Sound.{IsLively}
use Rattle.guest_sched.specs.inner.Stages.{IsAdvanced}
use Rattle.guest_sched.proofs.EngineLemmas.{passed_goes_on, turned_goes_on}
use Rattle.guest_sched.proofs.MachineLemmas.{Runs, ended_over, left_by, running_is, seen_with}
use Rattle.guest_sched.proofs.MoveLemmas.{Moved, moved_instruction, run_is, runner_there, turned_exit}
use Rattle.guest_sched.proofs.MoveLemmas.{turned_sys}
use Rattle.guest_sched.proofs.ThreadLemmas.{IsLeft, bare_lawful, numbers_differ}

not_last : (left : ℕ) → 2 ≤ left → (left == 1) ≡ false
not_last left more = grind (arith, nat_tests)

first_entered : (ready : List ThreadNo) (thread : ThreadNo) → slice_get ready 0 ≡ Some thread
    → slice_get (ready ++ []) 0 ≡ Some thread
first_entered [] thread is = cc
first_entered (t ∷ ts) thread is = is

same_thread : (a b : ThreadNo) → Some a ≡ Some b → a ≡ b
same_thread a b e = cc

same_caller : (a b : Caller) → Some a ≡ Some b → a ≡ b
same_caller a b e = cc

not_more : (made now : ℕ) → now ≡ made → now ≡ made + 1 → ⊥
not_more made now same more = omega (arith, same, more)

-- an instruction of the running thread retires, and its turn goes on
module _ (w : Engine) (c : Caller) (done : Done) (w' : Engine) (lawful : IsLawful w.kernel.guest)
    (lively : IsLively w.run_queue.ready w.kernel) (runs : runner w ≡ Some c)
    (retired : (step_of (hart_of w c)).stepped ≡ stepped.Retired done)
    (left : w' ≡ engine_after_step fate.Runs [] (with_instruction w c (step_of (hart_of w c)).after))
    (more : 2 ≤ w.run_queue.steps_left) where
  abbrev after_it : Engine
  after_it = with_instruction w c (step_of (hart_of w c)).after

  line_is : w'.run_queue ≡ goes_on (with_threads [] w.run_queue)
  line_is =
      ap (λ (v : Engine). v.run_queue) (left ∙ turned_goes_on fate.Runs [] after_it (not_last w.run_queue.steps_left more))
      ∙ passed_goes_on fate.Runs [] w.run_queue (not_last w.run_queue.steps_left more)

  pub left_is : w'.run_queue.steps_left + 1 ≡ w.run_queue.steps_left
  left_is = let is = ap (λ (l : RunQueue). l.steps_left) line_is in omega (arith, is, more)

  pub first_is : slice_get w'.run_queue.ready 0 ≡ Some c.thread.no
  first_is =
      ap (λ (l : RunQueue). slice_get l.ready 0) line_is
      ∙ first_entered w.run_queue.ready c.thread.no (run_is w c lively runs).first

  abbrev told : MachineStep
  told = record {
    event = event_of c.thread.no done false;
    output = None;
    wait = None;
    woken = [];
    threads = w'.kernel.guest.made;
  }

  move : Moved w told w'
  move =
      moved_instruction w told w' (bare_lawful w.kernel.guest lawful) lively
      (record { caller = c; runs = runs; done = done; retired = retired; gives = λ i. (told, left i) })

  made_same : w'.kernel.guest.made ≡ w.kernel.guest.made
  made_same =
      ap (λ (v : Engine). v.kernel.guest.made) left
      ∙ ap (λ (s : Kernel). s.guest.made) (turned_sys fate.Runs [] after_it)

  exit_same : w'.exit ≡ w.exit
  exit_same = ap (λ (v : Engine). v.exit) left ∙ turned_exit fate.Runs [] after_it

  where_is : (d : Caller) → d.thread.no ≡ c.thread.no
      → IsLeft c w.kernel.guest w'.kernel.guest false done.next d.thread → d.thread.regs.pc ≡ done.next
  where_is d same (inl is) = is.1
  where_is d same (inr (inl new)) = absurd (not_more w.kernel.guest.made w'.kernel.guest.made made_same new.1)
  where_is d same (inr (inr old)) =
      absurd (numbers_differ w.kernel.guest old.0 c.place d.thread c.thread (bare_lawful w.kernel.guest lawful) old.1
      (run_is w c lively runs).caller old.2 (ap (λ (t : ThreadNo). t.0) same))

  pub record Goes : Type 0 where
    pub next : Caller
    pub found : runner w' ≡ Some next
    pub thread : next.thread.no ≡ c.thread.no
    pub pc : next.thread.regs.pc ≡ done.next

  pub goes : w.exit ≡ None → Goes
  goes none =
      let there = runner_there w' c.thread.no move.lively first_is in
      let run = run_is w' there.0 move.lively there.1 in
      let same : there.0.thread.no ≡ c.thread.no =
      sym (same_thread c.thread.no there.0.thread.no (sym first_is ∙ run.first)) in
      record {
        next = there.0;
        found = there.1;
        thread = same;
        pc =
            where_is there.0 same
            (subst (λ (d : Caller). IsLeft d w.kernel.guest w'.kernel.guest false done.next there.0.thread)
            (same_caller move.caller c (sym move.runs ∙ runs))
            ((move.after (exit_same ∙ none)).threads there.0.place there.0.thread run.caller));
      }

-- what the code answers then
module _ (m : Machine) (c : Caller) (answer : Stepped) (done : Done) (w' : Engine) (runs : Runs m)
    (lawful : IsLawful m.engine.kernel.guest) (lively : IsLively m.engine.run_queue.ready m.engine.kernel)
    (is : runner m.engine ≡ Some c) (advanced : IsAdvanced c m.engine answer w')
    (retired : answer ≡ stepped.Retired done) (more : 2 ≤ m.engine.run_queue.steps_left) where
  answer_is : (step_of (hart_of m.engine c)).stepped ≡ stepped.Retired done
  answer_is = sym advanced.answer_is ∙ retired

  left : w' ≡ engine_after_step fate.Runs [] (with_instruction m.engine c (step_of (hart_of m.engine c)).after)
  left = left_by m.engine c answer (stepped.Retired done) w' advanced retired

  pub one_less : w'.run_queue.steps_left + 1 ≡ m.engine.run_queue.steps_left
  one_less = left_is m.engine c done w' lawful lively is answer_is left more

  pub runs_on : (new : Machine) (thread : ThreadNo) → thread ≡ c.thread.no → new ≡ seen_with w' m.given None []
      → running new ≡ Some (thread, done.next)
  runs_on new thread same new_is =
      let n = seen_with w' m.given None [] in
      let there = goes m.engine c done w' lawful lively is answer_is left more runs.exit in
      let exit : w'.exit ≡ None =
      exit_same m.engine c done w' lawful lively is answer_is left more ∙ runs.exit in
      let first = first_is m.engine c done w' lawful lively is answer_is left more in
      let goes_on : ended n ≡ None = ended_over n runs.given ∙ (λ i. known_end (exit i) (first i)) in
      ap running new_is
      ∙ sym (running_is n there.next there.next.thread goes_on there.found refl)
      ∙ (λ i. Some ((there.thread ∙ sym same) i, there.pc i))
