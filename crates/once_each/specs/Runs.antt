-- The steps of a run as the list of events that the laws speak of.
use Rattle.std.specs.Prelude.{◌≡◌, ◌≤◌, ◌<◌, List, [], ◌∷◌, ◌++◌, All, length, map}
use Rattle.event_costs.specs.Costs.{IsWhole}
use Rattle.event_costs.specs.declared.event.Event.{Event}
use Rattle.sym_map.specs.SymbolMap.{SymbolMap}
use Rattle.shadow_stack.specs.Stacks.{most_frames}
use Rattle.shadow_stack.specs.Traces.{CountedEvent, EventOnStack, events_on_stacks}
use Rattle.guest_sched.specs.Step.{MachineStep}
use Rattle.part_dump.specs.Steps.{Step, event_of, live, stack_at, thread_of}
use Rattle.part_dump.specs.Watched.{IsOrderly, most_steps}

-- the events that the steps of a machine tell
abbrev pub machine_events : List MachineStep → List Event
machine_events told = map (λ x. x.event) told

-- the events of a list in which each has a cost
abbrev pub events_of : List CountedEvent → List Event
events_of trace = map (λ x. x.event) trace

-- steps, as events with their costs alone
abbrev pub costed_step : Step → CountedEvent
costed_step x = record { event = x.on_stack.event; cost = x.on_stack.cost }

abbrev pub trace_of : List Step → List CountedEvent
trace_of steps = map costed_step steps

abbrev pub stacked_events : List Step → List EventOnStack
stacked_events steps = map (λ x. x.on_stack) steps

-- each step has the stack of its thread before it
abbrev pub HaveStacks : SymbolMap → List Step → Type 0
HaveStacks syms steps = stacked_events steps ≡ events_on_stacks syms (trace_of steps)

-- each of the steps that follow these is as a run makes it
abbrev pub AreOrderlyAfter : SymbolMap → List Step → List Step → Type 0
AreOrderlyAfter syms earlier [] = Unit {0}
AreOrderlyAfter syms earlier (x ∷ xs) = IsOrderly syms earlier x × AreOrderlyAfter syms (earlier ++ x ∷ []) xs

abbrev pub AreOrderly : SymbolMap → List Step → Type 0
AreOrderly syms steps = AreOrderlyAfter syms [] steps

-- the step is the one that the machine told
pub record IsMachineStep (told : MachineStep) (x : Step) : Type 0 where
  pub event : event_of x ≡ told.event
  pub wait : x.wait ≡ told.wait
  pub woken : x.woken ≡ told.woken

-- A step that the machine told, as it is taken after others: it costs 0 or 1 of each kind, has the stack of its thread,
-- and there was room for it.
pub record IsTaken (syms : SymbolMap) (earlier : List Step) (told : MachineStep) (x : Step) : Type 0 where
  pub step_is : IsMachineStep told x
  pub whole : IsWhole x.on_stack.cost
  pub ones : All (λ n. n ≤ 1) x.on_stack.cost
  pub stack : x.on_stack.stack ≡ stack_at syms earlier (thread_of x) (event_of x).done.pc
  pub room : length earlier < most_steps
  pub frames : live syms earlier < most_frames

-- each of these is taken so after those before it
abbrev pub AreTakenAfter : SymbolMap → List Step → List MachineStep → List Step → Type 0
AreTakenAfter syms earlier [] [] = Unit {0}
AreTakenAfter syms earlier [] (x ∷ xs) = ⊥
AreTakenAfter syms earlier (told ∷ more) [] = ⊥
AreTakenAfter syms earlier (told ∷ more) (x ∷ xs) =
    IsTaken syms earlier told x × AreTakenAfter syms (earlier ++ x ∷ []) more xs
