-- The steps of a run are a list of events as the laws want it.
use Rattle.std.proofs.Common.{◌≡◌, ◌≤◌, List, [], ◌∷◌, ◌++◌, refl, sym, ap, subst}
use Rattle.std.proofs.Common.{arith, All, get_or}
use Rattle.std.specs.List.{AllByRecursion}
use Rattle.std.proofs.lemmas.List.{length-map, map-append}
use Rattle.std.proofs.lemmas.List.Elements.{All-from_recursion}
use Rattle.event_costs.specs.Runs.{Run}
use Rattle.shadow_stack.specs.Traces.{events_on_stacks}
use Rattle.once_each.proofs.Others.{event_cost-ones}
use Rattle.guest_load.specs.First.{guest_at_start}
use Rattle.guest_load.specs.Guest.{Guest}
use Rattle.guest_sched.specs.Laws.{IsReached}
use Rattle.guest_sched.specs.Machine.{Machine, next}
use Rattle.guest_sched.specs.Step.{MachineStep}
use Rattle.run_laws.proofs.Others.{next_is, step_is}
use Rattle.run_laws.proofs.Others.{Holds, holds_first, holds_next, of_machine}
use Rattle.part_dump.specs.Steps.{Step, thread_of}
use Rattle.profile_run.specs.Program.{Program, CanRun}
use Rattle.profile_run.specs.Steps.{AreOfMachine, AreTold, IsTold, first_machine}
use Rattle.profile_run.specs.Trace.{Makes, RunStep, events_of, steps_of}
use Rattle.once_each.specs.Graphs.{AreOfMap}
use Rattle.once_each.specs.Orderly.{FitTops, FitsTop, GoOn, IsRunSized}
use Rattle.once_each.specs.Runs.{AreOrderly, AreTakenAfter, HaveStacks, IsTaken}
use Rattle.once_each.proofs.OrderLemmas.{fit_tops}
use Rattle.once_each.proofs.RunLemmas.{order_from, run_sized, stacks}
use Rattle.once_each.proofs.TakenLemmas.{cost_whole, machine_orderly}
use Rattle.run_laws.specs.Runs.{events_with_costs, events_with_stacks}
use Rattle.run_laws.proofs.LoadedLemmas.{loaded_lawful}

module _ (guest : Program) (can : CanRun guest) where
  abbrev pub first : Guest
  first = guest_at_start guest.image guest.args guest.input

  -- a step that the machine told is taken as the laws want it
  is_taken : (before : List RunStep) (told : MachineStep) (x : RunStep) → IsTold guest before told x
      → IsTaken guest.syms (steps_of before) told x.step
  is_taken before told x is =
      subst (λ (y : RunStep). IsTaken guest.syms (steps_of before) told y.step) (sym is.is)
      (record {
        step_is = record { event = refl; wait = refl; woken = refl };
        whole = cost_whole guest.options.branch guest.options.shapes (events_of before) told.event;
        ones = event_cost-ones guest.options.branch guest.options.shapes (events_of before) told.event;
        stack = refl;
        room = omega (arith, length-map before (λ (y : RunStep). y.step), is.spare, can.budget);
        frames = is.room;
      })

  are_taken : (before : List RunStep) (tolds : List MachineStep) (past : List RunStep) → AreTold guest before tolds past
      → AreTakenAfter guest.syms (steps_of before) tolds (steps_of past)
  are_taken before [] [] are = tt
  are_taken before [] (x ∷ past) are = absurd are
  are_taken before (told ∷ tolds) [] are = absurd are
  are_taken before (told ∷ tolds) (x ∷ past) are = (
    is_taken before told x are.0,
    subst (λ (earlier : List Step). AreTakenAfter guest.syms earlier tolds (steps_of past))
        (map-append (λ (y : RunStep). y.step) before (x ∷ [])) (are_taken (before ++ x ∷ []) tolds past are.1),
  )

  module _ (past : List RunStep) (makes : Makes guest past) where
    pub machine : AreOfMachine guest past
    machine = of_machine guest past makes

    pub reached : IsReached first guest.options.quantum guest.options.seed machine.tolds machine.last
    reached = record {
      lawful = loaded_lawful guest.image guest.args guest.input can.accepted can.image;
      run = machine.run;
    }

    pub orderly : AreOrderly guest.syms (steps_of past)
    orderly =
        machine_orderly guest.syms first guest.options.quantum guest.options.seed machine.tolds machine.last
        (steps_of past) reached (are_taken [] machine.tolds past machine.are)

    pub have_stacks : HaveStacks guest.syms (steps_of past)
    have_stacks = stacks guest.syms (steps_of past) orderly

    pub go_on : GoOn (events_with_costs past)
    go_on = order_from guest.syms [] (steps_of past) orderly

    pub tops : FitTops guest.syms (events_with_costs past)
    tops =
        All-from_recursion (FitsTop guest.syms) (events_on_stacks guest.syms (events_with_costs past))
        (fit_tops guest.syms [] (events_with_costs past) go_on)

    pub sized_seen : IsRunSized (events_on_stacks guest.syms (events_with_costs past))
    sized_seen = run_sized guest.syms (steps_of past) orderly

    pub sized : IsRunSized (events_with_stacks past)
    sized = subst IsRunSized (sym have_stacks) sized_seen

  abbrev pub IsSmallNo : Step → Type 0
  IsSmallNo x = thread_of x ≤ 65535

  -- a thread that steps was made, and a guest makes few
  small_from : (earlier tolds : List MachineStep) (m n : Machine) (before past : List RunStep) → Holds first earlier m
      → Run next m tolds n → AreTold guest before tolds past → AllByRecursion IsSmallNo (steps_of past)
  small_from earlier [] m n before [] holds run are = tt
  small_from earlier [] m n before (x ∷ past) holds run are = absurd are
  small_from earlier (told ∷ tolds) m n before [] holds run are = absurd are
  small_from earlier (told ∷ tolds) m n before (x ∷ past) holds run are =
      let step = holds_next first earlier m told run.0 holds run.1 in
      let goes = step_is m.engine told run.0.engine (next_is m told run.0 run.1).0 in
      let few : m.engine.kernel.guest.made ≤ 65535 = (holds.stands goes.0).lawful.made_few in
      let mine : thread_of x.step ≡ told.event.thread.0
      = ap (λ (y : RunStep). thread_of y.step) are.0.is in (
        omega (arith, mine, step.1.numbered.1, holds.made, few),
        small_from (earlier ++ told ∷ []) tolds run.0 n (before ++ x ∷ []) past step.0 run.2 are.1,
      )

  pub small_numbers : (past : List RunStep) → Makes guest past → All IsSmallNo (steps_of past)
  small_numbers past makes =
      let m = of_machine guest past makes in
      All-from_recursion IsSmallNo (steps_of past)
      (small_from [] m.tolds (first_machine guest) m.last [] past
      (holds_first first guest.options.quantum guest.options.seed
      (loaded_lawful guest.image guest.args guest.input can.accepted can.image)) m.run m.are)

  pub of_map : (past : List RunStep) → AreOfMap guest.syms (events_with_costs past)
  of_map past k d within = (
    can.sound.place_functions (get_or (events_with_costs past) k d).event.done.pc,
    can.sound.place_functions (get_or (events_with_costs past) k d).event.done.next,
  )
