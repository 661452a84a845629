-- The names of a run's parts differ.
use Rattle.std.proofs.Common.{◌≡◌, ◌≢◌, ◌^◌, ◌<◌, ◌≤◌, List, [], ◌∷◌, ◌++◌, AllPairs, refl, ap, sym, subst, ◌∙◌, arith}
use Rattle.std.proofs.Common.{inl, inr}
use Rattle.std.proofs.lemmas.List.Elements.{All-from_recursion}
use Rattle.event_costs.specs.Runs.{Run}
use Rattle.guest_load.specs.First.{guest_at_start}
use Rattle.guest_load.specs.Lawful.{IsLawful}
use Rattle.guest_load.specs.Guest.{Guest}
use Rattle.guest_sched.specs.Machine.{Machine, next}
use Rattle.guest_sched.specs.Step.{MachineStep}
use Rattle.guest_sched.proofs.MoveLemmas.{next_is, step_is}
use Rattle.profile_run.proofs.Others.{Holds, holds_next, holds_reached, all_of}
use Rattle.recorder.specs.Laws.{IsIn}
use Rattle.part_dump.specs.Steps.{Step, thread_of}
use Rattle.part_dump.proofs.ApartLemmas.{files_apart}
use Rattle.profile_run.specs.Program.{Program, head_of_run}
use Rattle.profile_run.specs.Steps.{first_machine}
use Rattle.profile_run.specs.Parts.{plain_parts}
use Rattle.recorder.specs.Rows.{rows_of}
use Rattle.profile_run.specs.Steps.{AreTold}
use Rattle.profile_run.specs.Trace.{IsTraceOf, Stop, RunStep, steps_of}
use Rattle.profile_run.proofs.MachineLemmas.{of_machine}

-- a machine makes at most 65,535 threads
few_threads : (guest : Guest) (earlier : List MachineStep) (m : Machine) (tolds : List MachineStep) (last : Machine) → Holds guest earlier m
    → Run next m tolds last → (t : MachineStep) → IsIn tolds t → t.event.thread.0 ≤ 65535
few_threads guest earlier m [] last holds run t there = elim there [ ]
few_threads guest earlier m (x ∷ xs) last holds run t (inl is) =
    let order = (holds_next guest earlier m x run.0 holds run.1).1 in
    let stands = holds.stands (step_is m.engine x run.0.engine (next_is m x run.0 run.1).0).0 in
    let few = stands.lawful.made_few in
    let number = order.numbered.1 in
    let made = holds.made in
    subst (λ (u : MachineStep). u.event.thread.0 ≤ 65535) is (omega (arith, few, number, made))
few_threads guest earlier m (x ∷ xs) last holds run t (inr there) =
    few_threads guest (earlier ++ x ∷ []) run.0 xs last (holds_next guest earlier m x run.0 holds run.1).0 run.2 t there

-- a step is of the thread that the machine told
told_thread : (guest : Program) (before : List RunStep) (tolds : List MachineStep) (xs : List RunStep)
    → AreTold guest before tolds xs → (y : Step) → IsIn (steps_of xs) y
    → (t : MachineStep) × IsIn tolds t × (thread_of y ≡ t.event.thread.0)
told_thread guest before [] [] are y there = elim there [ ]
told_thread guest before [] (x ∷ xs) are y there = absurd are
told_thread guest before (t ∷ ts) [] are y there = absurd are
told_thread guest before (t ∷ ts) (x ∷ xs) are y (inl is) =
    (t, inl refl, ap thread_of (sym is) ∙ ap (λ (z : RunStep). thread_of z.step) are.0.is)
told_thread guest before (t ∷ ts) (x ∷ xs) are y (inr there) =
    let rest = told_thread guest (before ++ x ∷ []) ts xs are.1 y there in (rest.0, inr rest.1, rest.2)

pub names_differ : (guest : Program) (trace : List RunStep) (stop : Stop)
    → IsLawful (guest_at_start guest.image guest.args guest.input) → IsTraceOf guest trace stop
    → AllPairs (λ f g. f.0 ≢ g.0) ((plain_parts guest).whole (steps_of trace) stop.tried)
names_differ guest trace stop lawful is =
    let run = of_machine guest trace (record { last = is.last; run = is.run }) in
    let first = guest_at_start guest.image guest.args guest.input in
    let holds =
    holds_reached first guest.options.quantum guest.options.seed [] (first_machine guest)
    (record { lawful = lawful; run = refl }) in
    files_apart (rows_of guest.syms) (head_of_run guest) guest.syms guest.options.base guest.options.dump_points
    (steps_of trace)
    (All-from_recursion (λ x. thread_of x < 2 ^ 32) (steps_of trace)
    (all_of (λ x. thread_of x < 2 ^ 32) (steps_of trace)
    (λ x there. (let told = told_thread guest [] run.tolds trace run.are x there in
    let few = few_threads first [] (first_machine guest) run.tolds run.last holds run.run told.0 told.1 in
    let same = told.2 in
    omega (arith, few, same)))))
