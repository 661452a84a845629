-- What a watch is told over a whole trace, as one list of calls.
use Rattle.std.specs.Prelude.{ℕ, ◌+◌, List, [], ◌∷◌, ◌++◌, flat_map, length, Option, None, Some}
use Rattle.std.specs.List.{enumerate_from}
use Rattle.event_costs.specs.declared.numbers.ThreadNo.{ThreadNo}
use Rattle.cg_format.specs.declared.trigger.Trigger.{Trigger}
use Rattle.cg_format.specs.declared.trigger.Trigger.TheVariants.{Termination}
use Rattle.sym_map.specs.SymbolMap.{SymbolMap}
use Rattle.shadow_stack.specs.Traces.{EventOnStack}
use Rattle.arc_costs.specs.Contents.{Listed}
use Rattle.cg_format.specs.declared.head.PartHead.{PartHead}
use Rattle.part_dump.specs.Cuts.{DumpPoints, cuts}
use Rattle.part_dump.specs.Steps.{Step, event_of, events_on_stack_of, threads}

-- A thread is ready to step at a pc; a step was made; a part of these rows is to be written.
pub data Call : Type 0 where
  Readies : ThreadNo → ℕ → Call
  Sees : Step → Call
  Writes : PartHead → Listed → Call

-- the steps, each after its thread was ready at its pc
abbrev pub step_calls : Step → List Call
step_calls x = Readies (event_of x).thread (event_of x).done.pc ∷ (Sees x ∷ [])

abbrev pub steps_calls : List Step → List Call
steps_calls xs = flat_map step_calls xs

-- the head of a part, like any other head of its run
abbrev pub head_of : PartHead → ℕ → Trigger → ℕ → PartHead
head_of head part trigger thread = record head { thread = record { 0 = thread }; part = part; trigger = trigger }

-- the thread and the pc of a step that was tried and not made, where there is one
abbrev pub tried_calls : Option (ThreadNo × ℕ) → List Call
tried_calls None = []
tried_calls (Some tried) = Readies tried.0 tried.1 ∷ []

-- How the events of a thread in a segment are summed up in rows is given.
module _ (rows_of : List EventOnStack → Listed) (head : PartHead) where
  -- a thread without an event in the segment has no part
  abbrev pub thread_calls : ℕ → Trigger → ℕ → List EventOnStack → List Call
  thread_calls part trigger thread [] = []
  thread_calls part trigger thread (x ∷ xs) = Writes (head_of head part trigger thread) (rows_of (x ∷ xs)) ∷ []

  -- the parts of a segment, by rising thread
  abbrev pub part_calls : ℕ → List Step → Trigger → List Call
  part_calls part segment trigger =
      flat_map (λ thread. thread_calls part trigger thread (events_on_stack_of thread segment)) (threads segment)

  abbrev pub segment_calls : ℕ → List Step → Trigger → List Call
  segment_calls part segment trigger = steps_calls segment ++ part_calls part segment trigger

  -- the segments that cuts end, which count from 1
  abbrev pub closed_calls : List (List Step × Trigger) → List Call
  closed_calls segments = flat_map (λ s. segment_calls s.0 s.1.0 s.1.1) (enumerate_from 1 segments)

  -- the calls of a whole run: those of the segments that cuts end, the steps after the last cut, the step that was
  -- tried, and the last parts
  unfoldable pub calls : SymbolMap → DumpPoints → List Step → Option (ThreadNo × ℕ) → List Call
  calls syms asked trace tried =
      closed_calls (cuts syms asked trace).closed ++ steps_calls (cuts syms asked trace).recent ++ tried_calls tried
      ++ part_calls (length (cuts syms asked trace).closed + 1) (cuts syms asked trace).recent Termination
