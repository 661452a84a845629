-- What a thread has in the parts of a run.
use Rattle.std.specs.Prelude.{◌≡◌, ℕ, ◌++◌, flat_map, List, map}
use Rattle.outside.specs.Outside.{Outside}
use Rattle.part_dump.specs.Steps.{Step, events_on_stack_of}
use Rattle.profile_run.specs.Program.{Program}
use Rattle.profile_run.specs.Trace.{RunStep, steps_of}
use Rattle.recorder.specs.Standing.{last_events_on_stack}
use Rattle.run_laws.specs.ThreadWork.{first_stack, own_costed_events}
use Rattle.command_status.specs.declared.status.Status.{Status}
use Rattle.command_words.specs.Request.{Request}
use Rattle.profile_cli.specs.HasRun.{OfRuns}

-- Wherever a trace is cut, the events of a thread in a segment, whose sums are its rows there, are its own events with
-- their costs, and their stacks are folded over its own events alone. So turns, seeds and other threads enter only
-- through the costs and the cuts.
abbrev pub AreOwnRows : Program → List RunStep → Type 0
AreOwnRows guest trace =
    (earlier : List (List Step)) (segment later : List Step) (thread : ℕ)
    → steps_of trace ≡ flat_map (λ piece. piece) earlier ++ (segment ++ later)
    → events_on_stack_of thread segment
    ≡ last_events_on_stack guest.syms (first_stack guest.syms thread (steps_of trace)) (map (own_costed_events thread) earlier)
    (own_costed_events thread segment)

abbrev pub IsOwnRows : Outside → Request → Status → Outside → Type 0
IsOwnRows = OfRuns (λ job watching. AreOwnRows)
