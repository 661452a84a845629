-- Every run of a guest is one of its machine.
use Rattle.std.proofs.Common.{◌≡◌, ◌≤◌, List, [], ◌∷◌, ◌++◌, length}
use Rattle.std.specs.Option.{option_or}
use Rattle.std.proofs.Common.{Option, None, Some, Result, Ok, Err, refl, ap, sym, subst, ◌∙◌, arith}
use Rattle.event_costs.specs.Runs.{Run}
use Rattle.event_costs.specs.declared.outcome.End.{End}
use Rattle.guest_sched.specs.Engine.{Engine}
use Rattle.guest_sched.specs.Machine.{Machine, next, unless_given, with_machine}
use Rattle.guest_sched.specs.Step.{MachineStep, step}
use Rattle.part_dump.specs.Steps.{live}
use Rattle.profile_run.specs.Program.{Program}
use Rattle.profile_run.specs.Steps.{first_machine}
use Rattle.profile_run.specs.Steps.{AreOfMachine, AreTold}
use Rattle.profile_run.specs.Trace.{Makes, Position, RunStep, end_before, next_step}
use Rattle.profile_run.specs.Trace.{steps_of, run_step}
use Rattle.profile_run.proofs.Others.{length-push}
use Rattle.profile_run.proofs.BeginLemmas.{or_none, some_room, spare}
use Rattle.profile_run.proofs.TraceLemmas.{going-end, going-over, going-step}
use Rattle.profile_run.proofs.TraceLemmas.{budget_end, exit_end, frames_end, waiting_end}

same_Ok : {A E : Type 0} (a b : A) → ◌≡◌ {A = Result A E} (Ok a) (Ok b) → a ≡ b
same_Ok a b e = cc

not_both : {A E : Type 0} (a : A) (e : E) → ◌≡◌ {A = Result A E} (Err e) (Ok a) → ⊥
not_both a e is = cc

-- a machine that has given no end makes the step
abbrev machine_after : MachineStep → Engine → Machine
machine_after told after = record { engine = after; given = None; wait = told.wait; woken = told.woken }

makes_next : (m : Machine) (told : MachineStep) (after : Engine) → m.given ≡ None → step m.engine ≡ Ok (told, after)
    → next m ≡ Ok (told, machine_after told after)
unfolding next
makes_next m told after given is =
    ap (λ o. unless_given o (with_machine (step m.engine))) given ∙ ap with_machine is

module _ (guest : Program) where
  -- what a step of a run says
  pub record Goes (p : Position) (x : RunStep) (q : Position) : Type 0 where
    pub told : MachineStep
    pub machine : Engine
    pub none : end_before guest p.0 p.1 ≡ None
    pub makes : step p.0 ≡ Ok (told, machine)
    pub is : x ≡ run_step guest p.1 told
    pub after : q ≡ (machine, p.1 ++ x ∷ [])

  pub goes_is : (p : Position) (x : RunStep) (q : Position) → next_step guest p ≡ Ok (x, q) → Goes p x q
  goes_is p x q g = by (end_before guest p.0 p.1) refl (step p.0) refl
    where
      by : (o : Option End) → end_before guest p.0 p.1 ≡ o → (r : Result (MachineStep × Engine) End) → step p.0 ≡ r → Goes p x q
      by (Some end) over r made = absurd (not_both (x, q) _ (sym (going-over guest p end over) ∙ g))
      by None none (Err end) made = absurd (not_both (x, q) _ (sym (going-end guest p end none made) ∙ g))
      by None none (Ok made) makes =
          let same = same_Ok _ _ (sym (going-step guest p made.0 made.1 none makes) ∙ g) in
          let same_step : run_step guest p.1 made.0 ≡ x = ap (λ (r : RunStep × Position). r.0) same in
          record {
            told = made.0;
            machine = made.1;
            none = none;
            makes = makes;
            is = sym same_step;
            after =
                sym (ap (λ (r : RunStep × Position). r.1) same)
                ∙ ap (λ (y : RunStep). (made.1, p.1 ++ y ∷ [])) same_step;
          }

  -- from a position on
  pub record From (before : List RunStep) (m : Machine) (xs : List RunStep) : Type 0 where
    pub tolds : List MachineStep
    pub last : Machine
    pub run : Run next m tolds last
    pub are : AreTold guest before tolds xs

  pub from : (before : List RunStep) (m : Machine) (xs : List RunStep) (q : Position) → m.given ≡ None
      → length before ≤ guest.options.budget → Run (next_step guest) (m.engine, before) xs q → From before m xs
  from before m [] q given few run = record { tolds = []; last = m; run = refl; are = tt }
  from before m (x ∷ xs) q given few run =
      let g = goes_is (m.engine, before) x run.0 run.1 in
      let onward = machine_after g.told g.machine in
      let two =
      or_none (exit_end m.engine.exit)
      (option_or (budget_end guest.options.budget (length before))
      (option_or (frames_end (live guest.syms (steps_of before))) (waiting_end m.engine.run_queue.ready))) g.none in
      let three =
      or_none (budget_end guest.options.budget (length before))
      (option_or (frames_end (live guest.syms (steps_of before))) (waiting_end m.engine.run_queue.ready)) two.1 in
      let four =
      or_none (frames_end (live guest.syms (steps_of before))) (waiting_end m.engine.run_queue.ready) three.1 in
      let less = spare guest.options.budget (length before) three.0 few in
      let more = length-push before x in
      let rest =
      from (before ++ x ∷ []) onward xs q refl (omega (arith, less, more))
      (subst (λ p. Run (next_step guest) p xs q) g.after run.2) in
      record {
        tolds = g.told ∷ rest.tolds;
        last = rest.last;
        run = (onward, makes_next m g.told g.machine given g.makes, rest.run);
        are = (
          record { is = g.is; spare = less; room = some_room (live guest.syms (steps_of before)) four.0 },
          rest.are,
        );
      }

  pub of_machine : (past : List RunStep) → Makes guest past → AreOfMachine guest past
  of_machine past makes =
      let all = from [] (first_machine guest) past makes.last refl (omega arith) makes.run in
      record { tolds = all.tolds; last = all.last; run = all.run; are = all.are }
