-- The trace of a guest: the steps of its longest run, and what stops it.
use Rattle.std.specs.Prelude.{ℕ, ◌==◌, List, [], ◌∷◌, ◌++◌, flat_map, length, map, nat_le, slice_get, if◌then◌else◌}
use Rattle.std.specs.Prelude.{Option, None, Some, option_map, Result, Ok, Err}
use Rattle.std.specs.Option.{option_map_or, option_or}
use Rattle.event_costs.specs.Runs.{IsTrace, Run}
use Rattle.event_costs.specs.declared.event.Event.{Event}
use Rattle.event_costs.specs.declared.numbers.ThreadNo.{ThreadNo}
use Rattle.event_costs.specs.declared.outcome.End.{End}
use Rattle.event_costs.specs.declared.outcome.End.TheVariants.{Exited, Budget, Frames, AllWaiting}
use Rattle.cache_lru.specs.Costs.{event_cost}
use Rattle.guest_load.specs.First.{guest_at_start}
use Rattle.guest_sched.specs.Engine.{Engine, first_engine, runner}
use Rattle.guest_sched.specs.Step.{MachineStep, step}
use Rattle.part_dump.specs.Steps.{Step, live, stack_at}
use Rattle.shadow_stack.specs.Stacks.{most_frames}
use Rattle.profile_run.specs.Program.{Program}

-- a step that was made; the descriptor and the bytes that it output, if it did; and how many threads there were after
-- it
pub record RunStep : Type 0 where
  pub step : Step
  pub output : Option (ℕ × List ℕ)
  pub threads : ℕ

-- how a run ends, and where an instruction was tried and not made, its thread and its pc
pub record Stop : Type 0 where
  pub end : End
  pub tried : Option (ThreadNo × ℕ)

abbrev pub steps_of : List RunStep → List Step
steps_of xs = map (λ x. x.step) xs

abbrev pub events_of : List RunStep → List Event
events_of xs = map (λ x. x.step.on_stack.event) xs

-- ---- a step

-- what the machine tells of a step, with its cost after all events before it and the stack of its thread
abbrev pub run_step : Program → List RunStep → MachineStep → RunStep
run_step guest past outcome = record {
  step = record {
    on_stack = record {
      event = outcome.event;
      cost = event_cost guest.options.branch guest.options.shapes (events_of past) outcome.event;
      stack = stack_at guest.syms (steps_of past) outcome.event.thread.0 outcome.event.done.pc;
    };
    wait = outcome.wait;
    woken = outcome.woken;
  };
  output = outcome.output;
  threads = outcome.threads;
}

-- ---- the ends, in the order in which they are looked at before a step is tried

-- the end that stands before a step: the guest has exited, the budget is spent, as many frames are live as may be, or
-- no thread is ready
abbrev pub end_before : Program → Engine → List RunStep → Option End
end_before guest w past =
    option_or (option_map Exited w.exit)
    (option_or (if length past == guest.options.budget then Some (Budget guest.options.budget) else None)
    (option_or (if nat_le most_frames (live guest.syms (steps_of past)) then Some Frames else None)
    (option_map_or (λ thread. None) (slice_get w.run_queue.ready 0) (Some AllWaiting))))

-- ---- runs

-- the machine, and the steps so far
abbrev pub Position : Type 0
Position = Engine × List RunStep

abbrev pub start : Program → Position
start guest =
    (first_engine (guest_at_start guest.image guest.args guest.input) guest.options.quantum guest.options.seed, [])

-- what comes next, where this end stands before the step, and the step gives that; what is tried is an instruction of
-- the running thread
abbrev pub next_by : Program → Position → Option End → Result (MachineStep × Engine) End → Result (RunStep × Position) Stop
next_by guest p (Some end) made = Err (record { end = end; tried = None })
next_by guest p None (Err end) =
    Err (record { end = end; tried = option_map (λ c. (c.thread.no, c.thread.regs.pc)) (runner p.0) })
next_by guest p None (Ok made) = Ok (run_step guest p.1 made.0, (made.1, p.1 ++ run_step guest p.1 made.0 ∷ []))

-- the next step of a run, or what stops it
unfoldable pub next_step : Program → Position → Result (RunStep × Position) Stop
next_step guest p = next_by guest p (end_before guest p.0 p.1) (step p.0)

-- the guest makes these steps, and perhaps more
pub record Makes (guest : Program) (past : List RunStep) : Type 0 where
  pub last : Position
  pub run : Run (next_step guest) (start guest) past last

-- the guest makes these steps, and then this stops it
abbrev pub IsTraceOf : Program → List RunStep → Stop → Type 0
IsTraceOf guest trace stop = IsTrace (next_step guest) (start guest) trace stop

-- the guest has a trace
pub record HasTrace (guest : Program) : Type 0 where
  pub trace : List RunStep
  pub stop : Stop
  pub is : IsTraceOf guest trace stop

-- ---- output

abbrev pub bytes_to : ℕ → Option (ℕ × List ℕ) → List ℕ
bytes_to descriptor output = option_map_or (λ o. if o.0 == descriptor then o.1 else []) output []

-- the bytes that steps output to a descriptor
abbrev pub sent_bytes : ℕ → List RunStep → List ℕ
sent_bytes descriptor trace = flat_map (λ x. bytes_to descriptor x.output) trace

-- the piece that a step outputs to a descriptor, if it does, and those that steps do, in their order
abbrev pub piece_to : ℕ → Option (ℕ × List ℕ) → List (List ℕ)
piece_to descriptor output = option_map_or (λ o. if o.0 == descriptor then o.1 ∷ [] else []) output []

abbrev pub pieces : ℕ → List RunStep → List (List ℕ)
pieces descriptor trace = flat_map (λ x. piece_to descriptor x.output) trace
