-- A step that only adds to numbers, and the next one of its thread.
use Rattle.std.proofs.Common.{◌≡◌, ◌≢◌, ℕ, ◌+◌, ◌-◌, ◌<◌, ◌≤◌, inl, List, [], ◌∷◌, ◌++◌, length}
use Rattle.std.proofs.Common.{true, Option, None, Some, Result, Ok, Err, refl, ap, sym, subst, ◌∙◌, arith}
use Rattle.std.specs.Prelude.{IsErrAnd}
use Rattle.std.proofs.lemmas.Bool.{false≢true}
use Rattle.outside.specs.Outside.{Outside}
use Rattle.event_costs.specs.declared.event.Event.{Event}
use Rattle.event_costs.specs.declared.outcome.End.{End}
use Rattle.event_costs.specs.declared.outcome.Noted.{Noted}
use Rattle.sym_map.specs.SymbolMap.{SymbolMap}
use Rattle.guest_sched.specs.Machine.{Machine, next, running, machine_step}
use Rattle.recorder.specs.Accounts.{account, knows}
use Rattle.part_dump.specs.Steps.{live}
use Rattle.part_dump.specs.Watching.{Meaning}
use Rattle.shadow_stack.specs.Stacks.{most_frames}
use Rattle.profile_run.specs.Program.{Options}
use Rattle.profile_run.specs.Trace.{RunStep, end_before, steps_of}
use Rattle.profile_run.specs.inner.Standing.{Advances, Fails, GoesOn, Grows, IsCounted}
use Rattle.profile_run.specs.inner.Standing.{IsJob, IsMade, IsStarted, IsUncut}
use Rattle.profile_run.specs.inner.Standing.{IsWritten, Job, MayFollow, OnlyAdds, Prepares, Standing}
use Rattle.profile_run.specs.declared.counting.Counting.{Counting}
use Rattle.profile_run.specs.declared.parts.Parts.{Parts}
use Rattle.profile_run.specs.declared.run_fault.RunFault.{RunFault}
use Rattle.profile_run.specs.declared.run_fault.RunFault.TheVariants.{OutOfMemory}
use Rattle.profile_run.specs.declared.running.Order.{Order}
use Rattle.profile_run.specs.declared.running.Stretch.{Stretch}
use Rattle.profile_run.specs.declared.running.Stretch.TheVariants.{Ends, Lasts}
use Rattle.profile_run.proofs.AdvanceLemmas as adv
use Rattle.part_dump.proofs.RuleLemmas.{cut_by_number}
use Rattle.profile_run.proofs.Others.{length-push}
use Rattle.profile_run.proofs.CountLemmas as counts
use Rattle.profile_run.proofs.CutStepLemmas as cut_step
use Rattle.profile_run.proofs.EndLemmas as looked
use Rattle.profile_run.proofs.EndingLemmas.{not_over, steps_are}
use Rattle.profile_run.proofs.OutputLemmas.{sends_nothing}
use Rattle.byte_text.specs.Memory.{memory}

pub some_is : (n : ℕ) → n ≢ 0 → 1 ≤ n
some_is n other = omega (arith, other)

pub two_left : (left more : ℕ) → more ≤ left - 1 → 1 ≤ more → 2 ≤ left
two_left left more within some = omega (arith, within, some)

-- a refusal is handed on
pub refuses_on : {W : Type 0} (m : Meaning W) (job : Job W) (opts : Options) (more steps : ℕ) (counting : Counting)
    (parts : Parts) (w : W) (now : Outside) (r : Result Stretch RunFault) (f : RunFault) → IsErrAnd r (λ e. e ≡ f)
    → Fails m job f now × Grows job.old now
    → GoesOn m job opts more steps r counting parts w now
refuses_on m job opts more steps counting parts w now (Ok x) f is fails = absurd is
refuses_on m job opts more steps counting parts w now (Err e) f is fails =
    (subst (λ g. Fails m job g now) (sym is) fails.0, fails.1)

-- the stretch goes on, or ends
pub goes : {W : Type 0} (m : Meaning W) (job : Job W) (opts : Options) (more steps : ℕ) (counting : Counting)
    (parts : Parts) (w : W) (now : Outside) (x : Stretch) → x ≡ Lasts
    → GoesOn m job opts more steps (Ok x) counting parts w now
    → GoesOn m job opts more steps (Ok Lasts) counting parts w now
goes m job opts more steps counting parts w now x is on =
    subst (λ y. GoesOn m job opts more steps (Ok y) counting parts w now) is on

pub ends : {W : Type 0} (m : Meaning W) (job : Job W) (opts : Options) (more steps : ℕ) (counting : Counting)
    (parts : Parts) (w : W) (now : Outside) (x : Stretch) (over : Option End) → x ≡ Ends over
    → GoesOn m job opts more steps (Ok x) counting parts w now
    → Advances m job steps (Ok over) counting parts w now
ends m job opts more steps counting parts w now x over is on =
    subst (λ y. GoesOn m job opts more steps (Ok y) counting parts w now) is on

less_is : (a b : ℕ) → a < b → a ≢ b
less_is a b less same = omega (arith, less, same)

pub same_outside : (now : Outside) → Grows now now
same_outside now = record {
  loads = refl;
  puts = adv.same_count now.put_faults;
  out = adv.same_count now.out.faults;
  err = adv.same_count now.err.faults;
}

module _ {W : Type 0} (m : Meaning W) {fresh : W → SymbolMap → Type 0} {job : Job W} {order : Order}
    (is : IsJob fresh job order) {old : Counting} {parts : Parts} {w : W} {now : Outside}
    (s : IsStarted m job old parts w now) where
  -- a step may be made within the budget
  pub spare_now : old.machine.engine.kernel.guest.steps < order.options.now.budget
  spare_now =
      let are = steps_are job.guest s.past old.machine s.begun.after.reached in
      let spare = s.begun.spare in
      let same = ap (λ (o : Options). o.budget) is.options in
      omega (arith, are, spare, same)

  -- it was made and counted
  module _ {event : Event} {after : Machine} (makes : next old.machine ≡ Ok (machine_step event None after, after))
      (c : Counting) (v : W) (noted : Noted)
      (counted : IsCounted m job.guest job.first s.past (adv.last m is s makes) order.rule.after noted c.machine c.costs
      c.recorder v) where
    abbrev pub written : IsWritten m job order.rule.after noted c parts v now
    written =
        adv.is_written m is s makes c v noted counted now refl
        (sends_nothing now.out now.err) (same_outside now)

  -- it only added to numbers, and more may follow
  module _ {event : Event} {after : Machine} (makes : next old.machine ≡ Ok (machine_step event None after, after))
      (c : Counting) (v : W) (noted : Noted)
      (counted : IsCounted m job.guest job.first s.past (adv.last m is s makes) order.rule.after noted c.machine c.costs
      c.recorder v)
      (same : c.machine ≡ after)
      (adds : OnlyAdds event.thread noted old.recorder c.recorder) (more : ℕ)
      (may : MayFollow order.options.now old.machine more) (some : 1 ≤ more) where
    abbrev past : List RunStep
    past = s.past ++ adv.last m is s makes ∷ []

    uncut : IsUncut m job.guest job.first s.past (adv.last m is s makes) order.rule.after noted c.machine c.costs c.recorder
        parts.head v
    uncut = record { counted = counted; head = s.head; number = s.number; quiet = s.quiet }

    counts_on : c.machine.engine.kernel.guest.steps ≡ old.machine.engine.kernel.guest.steps + 1
    counts_on = adv.counts_on m is s makes c v noted counted

    -- no cut stands after it
    abbrev stands : Standing m job c parts v now
    stands =
        let steps = c.machine.engine.kernel.guest.steps in
        let one = counts_on in
        let none =
        cut_step.cut_is m uncut is.symbols is.options steps refl
        ∙ cut_by_number order.syms.now order.options.now.dump_points order.rule steps (adv.last m is s makes).step.on_stack noted is.rule
        (cut_step.noted_is m uncut is.symbols) adds.none_pushed adds.none_left
        ∙ may.uncut steps (omega (arith, one)) (omega (arith, one, some)) in
        let on = cut_step.goes_on m uncut s.put (inl none) in
        adv.stands_on m is (written makes c v noted counted) now refl refl (same_outside now) c
        parts v on.0 on.1

    made : IsMade m job.guest job.first s.past event after old.costs old.recorder w
    made = adv.is_made m is s makes

    pub starves : Fails m job (OutOfMemory memory) now × Grows job.old now
    starves = adv.starves m is stands

    module _ (runs : running after ≡ Some (event.thread, event.done.next)) where
      runs_now : running c.machine ≡ Some (event.thread, event.done.next)
      runs_now = ap running same ∙ runs

      room : live job.guest.syms (steps_of past) < most_frames
      room =
          let here = counted.after.live in
          let kept = adds.live in
          let before = s.begun.room in
          omega (arith, here, kept, before)

      spare : length past < job.guest.options.budget
      spare =
          let are = steps_are job.guest s.past old.machine s.begun.after.reached in
          let within = may.budget in
          let budget = ap (λ (o : Options). o.budget) is.options in
          let longer = length-push s.past (adv.last m is s makes) in
          omega (arith, are, within, budget, longer, some)

      -- no end stands before the next one
      unended : end_before job.guest c.machine.engine past ≡ None
      unended =
          sym (looked.where_open c.machine counted.after.given None
          (sym (not_over c.machine (event.thread, event.done.next) runs_now)) job.guest.options.budget (length past)
          (live job.guest.syms (steps_of past)) refl (less_is (length past) job.guest.options.budget spare) room)

      known : knows c.recorder event.thread ≡ true
      known =
          adds.known
          ∙ counts.known_own m job.guest job.first s.past event after old.costs old.recorder w made

      prepares : Prepares order.syms.now event.thread event.done.next c.recorder c.recorder
      prepares = record {
        ready =
            adds.ready (counts.ready_own m job.guest job.first s.past event after old.costs old.recorder w made);
        known = λ other there. inl there;
        still_known = λ other there. there;
        own_known = known;
        others = λ other there. refl;
        started = λ unknown. absurd (false≢true (sym unknown ∙ known));
        live = refl;
      }

      shallow : length (account c.recorder event.thread).frames ≤ most_frames
      shallow =
          let kept = ap length adds.frames in
          let before =
          counts.shallow_own m job.guest job.first s.past event after old.costs old.recorder w made in
          omega (arith, kept, before)

      -- its thread begins the next one
      started : (u : W) → u ≡ m.after_ready v event.thread event.done.next order.syms.now → IsStarted m job c parts u now
      started u readied =
          adv.started m is stands unended c u
          (record {
            thread = event.thread;
            pc = event.done.next;
            runs = runs_now;
            prepares = prepares;
            watch = readied;
          }) shallow refl refl

      pub lasts : (left : after.engine.run_queue.steps_left + 1 ≡ old.machine.engine.run_queue.steps_left) (u : W)
          → u ≡ m.after_ready v event.thread event.done.next order.syms.now
          → GoesOn m job order.options.now more (old.machine.engine.kernel.guest.steps + 1) (Ok Lasts) c parts u now
      lasts left u readied = (
        started u readied,
        some,
        record {
          turn =
              (let turn = may.turn in
              let here = ap (λ (x : Machine). x.engine.run_queue.steps_left) same in
              omega (arith, turn, here, left, some));
          budget = (let within = may.budget in let steps = counts_on in omega (arith, within, steps, some));
          uncut = λ n above within.
              let one = counts_on in
              may.uncut n (omega (arith, above, one)) (omega (arith, within, one, some));
        },
        adv.no_fewer _ _ counts_on,
      )
