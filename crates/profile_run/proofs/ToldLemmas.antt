-- What the machine tells of its steps, in the words of watched runs.
use Rattle.std.proofs.Common.{◌≡◌, ℕ, ◌&&◌, Bool, true, false, not, List, [], ◌∷◌, map}
use Rattle.std.proofs.Common.{refl, ap}
use Rattle.std.proofs.Common.{Option, None, Some, sym, subst, ◌∙◌}
use Rattle.std.specs.Prelude.{if◌then◌else◌, is_some}
use Rattle.std.proofs.lemmas.Option.{same_Some}
use Rattle.event_costs.specs.declared.event.Event.{Event}
use Rattle.event_costs.specs.declared.numbers.ThreadNo.{ThreadNo}
use Rattle.guest_load.specs.Guest.{Guest}
use Rattle.guest_sched.specs.Laws.{after_last, is_step_of, last_step, later, pc_after, start_pc, waits, waits_from}
use Rattle.guest_sched.specs.Step.{MachineStep}
use Rattle.part_dump.specs.Steps.{Step, steps_of_thread}
use Rattle.part_dump.specs.Watched.{Follows, last_of}
use Rattle.part_dump.specs.Watched as watched
use Rattle.profile_run.specs.Trace.{RunStep, steps_of}
use Rattle.profile_run.specs.inner.Standing.{machine_step_of}

-- who waits
waits_same : (thread : ThreadNo) (now : Bool) (past : List RunStep)
    → waits_from thread now (map machine_step_of past) ≡ watched.waits_after thread.0 now (steps_of past)
waits_same thread now [] = refl
waits_same thread now (x ∷ xs) =
    waits_same thread (if is_step_of thread (machine_step_of x) then is_some x.step.wait else
    (now && not (watched.is_woken thread.0 x.step))) xs

pub waits_is : (thread : ThreadNo) (past : List RunStep)
    → waits thread (map machine_step_of past) ≡ watched.waits thread.0 (steps_of past)
unfolding waits
waits_is thread past = waits_same thread false past

-- the last step of a thread
abbrev of_told : Option MachineStep → Option Event
of_told None = None
of_told (Some t) = Some t.event

abbrev of_step : Option Step → Option Event
of_step None = None
of_step (Some x) = Some x.on_stack.event

-- the last of a list is the first one, if no other follows
abbrev or_first : Step → Option Step → Option Step
or_first x None = Some x
or_first x (Some y) = Some y

last-some : (x y : Step) (ys : List Step) → or_first x (last_of (y ∷ ys)) ≡ last_of (y ∷ ys)
last-some x y [] = refl
last-some x y (z ∷ zs) = last-some x z zs

last-cons : (x : Step) (xs : List Step) → last_of (x ∷ xs) ≡ or_first x (last_of xs)
last-cons x [] = refl
last-cons x (y ∷ ys) = sym (last-some x y ys)

later_first : (o : Option MachineStep) (x : RunStep) (l : Option Step) → of_told o ≡ of_step l
    → of_told (later o (Some (machine_step_of x))) ≡ of_step (or_first x.step l)
later_first None x None e = refl
later_first None x (Some y) e = absurd (cc)
later_first (Some t) x None e = absurd (cc)
later_first (Some t) x (Some y) e = e

later_none : (o : Option MachineStep) → later o None ≡ o
later_none None = refl
later_none (Some t) = refl

later_told : (b : Bool) (o : Option MachineStep) (x : RunStep) (xs : List Step) → of_told o ≡ of_step (last_of xs)
    → of_told (later o (if b then Some (machine_step_of x) else None)) ≡ of_step (last_of (if b then x.step ∷ xs else xs))
later_told true o x xs e = later_first o x (last_of xs) e ∙ ap of_step (sym (last-cons x.step xs))
later_told false o x xs e = ap of_told (later_none o) ∙ e

pub last_is : (thread : ThreadNo) (past : List RunStep)
    → of_told (last_step thread (map machine_step_of past)) ≡ of_step (last_of (steps_of_thread thread.0 (steps_of past)))
last_is thread [] = refl
last_is thread (x ∷ xs) =
    later_told (is_step_of thread (machine_step_of x)) (last_step thread (map machine_step_of xs)) x (steps_of_thread thread.0 (steps_of xs))
    (last_is thread xs)

-- a step follows its thread's last one
ended : (b : Bool) (next pc : ℕ) → ◌≡◌ {A = Option ℕ} (if b then None else Some next) (Some pc)
    → (b ≡ false) × (next ≡ pc)
ended true next pc e = absurd (cc)
ended false next pc e = (refl, same_Some next pc e)

goes_where : (o : Option MachineStep) (start : Option ℕ) (last : Option Step) (e : Event) → of_told o ≡ of_step last
    → after_last o start ≡ Some e.done.pc → Follows last e
goes_where None start None e same goes = tt
goes_where None start (Some x) e same goes = absurd (cc)
goes_where (Some t) start None e same goes = absurd (cc)
goes_where (Some t) start (Some x) e same goes =
    let P : Event → Type 0 = λ d. (d.ends ≡ false) × (d.done.next ≡ e.done.pc) in
    subst P (same_Some t.event x.on_stack.event same) (ended t.event.ends t.event.done.next e.done.pc goes)

pub follows : (guest : Guest) (past : List RunStep) (e : Event)
    → pc_after guest e.thread (map machine_step_of past) ≡ Some e.done.pc
    → Follows (last_of (steps_of_thread e.thread.0 (steps_of past))) e
unfolding pc_after
follows guest past e goes =
    goes_where (last_step e.thread (map machine_step_of past)) (start_pc guest e.thread (map machine_step_of past))
    (last_of (steps_of_thread e.thread.0 (steps_of past))) e (last_is e.thread past) goes
