-- Runs: their events, and the parts that they write.
use Rattle.std.specs.Prelude.{ℕ, List, [], ◌∷◌, flat_map, map, Option, None}
use Rattle.std.specs.List.{enumerate_from}
use Rattle.cg_format.specs.declared.trigger.Trigger.{Trigger}
use Rattle.arc_costs.specs.Contents.{Listed}
use Rattle.shadow_stack.specs.Traces.{CountedEvent, EventOnStack}
use Rattle.cg_format.specs.declared.head.PartHead.{PartHead}
use Rattle.part_dump.specs.Calls.{head_of}
use Rattle.part_dump.specs.Steps.{Step}
use Rattle.recorder.specs.Rows.{rows_of}
use Rattle.profile_run.specs.Program.{Program, head_of_run}
use Rattle.profile_run.specs.Trace.{RunStep, steps_of}
use Rattle.once_each.specs.Parts.{ThreadRows}
use Rattle.once_each.specs.Runs.{stacked_events, trace_of}
use Rattle.once_each.specs.Written.{parts_of, segment_parts, segments_of}
use Rattle.reads_back.specs.Joined.{WrittenPart, rows_of_parts}
use Rattle.reads_back.specs.Rows.{command_of}

-- the events of a run, each with what it cost and the stack of its thread before it
abbrev pub events_with_stacks : List RunStep → List EventOnStack
events_with_stacks trace = stacked_events (steps_of trace)

-- its events with what they cost alone
abbrev pub events_with_costs : List RunStep → List CountedEvent
events_with_costs trace = trace_of (steps_of trace)

-- the rows of each thread in each segment between cuts
abbrev pub thread_rows : Program → List RunStep → List (List ThreadRows)
thread_rows guest trace = parts_of (rows_of guest.syms) guest.syms guest.options.dump_points (steps_of trace)

-- all rows of a run
abbrev pub rows_of_run : Program → List RunStep → Listed
rows_of_run guest trace = rows_of_parts (thread_rows guest trace)

-- a thread's rows in the segment of this number, under the head of their part
abbrev pub part_of : PartHead → ℕ → Trigger → ThreadRows → WrittenPart
part_of head number trigger part =
    record { head = head_of head number trigger part.thread.0; rows = part.rows }

abbrev pub segment_written : Program → ℕ → List Step → Trigger → List WrittenPart
segment_written guest number segment trigger =
    map (part_of (head_of_run guest) number trigger) (segment_parts (rows_of guest.syms) segment)

-- the parts of a run, in the order in which they are put
abbrev pub parts_written : Program → List RunStep → List WrittenPart
parts_written guest trace =
    flat_map (λ s. segment_written guest s.0 s.1.0 s.1.1)
    (enumerate_from 1 (segments_of guest.syms guest.options.dump_points (steps_of trace)))

-- the command of a run's parts; a run without an event has none
abbrev pub command_of_run : Program → List RunStep → Option (List ℕ)
command_of_run guest [] = None
command_of_run guest (x ∷ xs) = command_of (head_of_run guest)
