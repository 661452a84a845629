-- What is told of a command, call by call: whatever a folder and sinks answer, where they tell their calls.
use Rattle.std.specs.Prelude.{◌≡◌, ◌⊎◌, ℕ, false, List, [], length, Result, Ok, Err}
use Rattle.event_costs.specs.Costs.{event_names, events_shown}
use Rattle.event_costs.specs.declared.outcome.End.{End}
use Rattle.event_costs.specs.declared.outcome.End.TheVariants as end
use Rattle.outside.specs.Outside.{Log, Outside, Tells, done_then, nothing_done}
use Rattle.outside.specs.Journal.{Wrote}
use Rattle.outside.specs.declared.sink.WriteError.{WriteError}
use Rattle.demo_make.specs.Program.{IsFileOf, demo}
use Rattle.profile_files.specs.Joined.{no_rows}
use Rattle.profile_run.specs.Parts.{plain_parts}
use Rattle.profile_run.specs.Runs.{RunEnd}
use Rattle.report_laws.specs.Exact.{parts_wanted}
use Rattle.command_status.specs.Ends.{end_status}
use Rattle.command_status.specs.Lines.{message_of}
use Rattle.command_status.specs.declared.status.Status.{Status}
use Rattle.command_status.specs.declared.status.Status.TheVariants.{Done, OutOfMemory, Usage}
use Rattle.command_words.specs.Request as words
use Rattle.command_words.specs.Request.{Request, Job, Positions, View, Watching, watching_at}
use Rattle.profile_cli.specs.Blame.{IsToBlame}
use Rattle.profile_cli.specs.Demo.{demo_job, figures_of}
use Rattle.command_steps.specs.Saying.{after_line}
use Rattle.command_steps.specs.Stages.{AreWritesOrWants, Gives, Quiet, ReadsAll, Reports, Then, DoesAnnotate, final_status}
use Rattle.profile_cli.specs.Stages.{LoadsAndRuns, PutsWaits, Runs}
use Rattle.profile_cli.specs.Watching.{parts_asked}
use Rattle.byte_text.specs.Memory.{memory}
use Rattle.command_steps.specs.Summary.{WritesSummary}

-- ---- the commands, each of which comes to its status

-- `run`: the guest runs, and the report on waiting is put behind its parts where it is asked for.
abbrev pub DoesRun : Job → Watching → Log → Result Status Status → Type 0
DoesRun job watching =
    Then (LoadsAndRuns (parts_asked watching) job) (λ ran.
    Then (PutsWaits watching ran.0) (λ put.
    Gives (end_status ran.1.end)))

-- `report`: the guest runs, its own parts are loaded in the order in which they were put, and they are reported.
abbrev pub DoesReport : Job → Positions → View → Log → Result Status Status → Type 0
DoesReport job positions view =
    Then (LoadsAndRuns (parts_asked (watching_at positions)) job) (λ ran.
    Then (ReadsAll (no_rows (events_shown job.branches event_names)) (parts_wanted job.base ran.1.parts)) (λ p.
    Then (Reports view p) (λ shown.
    Gives (end_status ran.1.end))))

-- the parts of a demonstration, whose program has so many bytes, are loaded and joined, and its summary is written
abbrev pub SumsUp : ℕ → ℕ → ℕ → RunEnd → Log → Result (Unit {0}) Status → Type 0
SumsUp size len code run =
    Then (ReadsAll (no_rows (events_shown false event_names)) (parts_wanted demo_job.base run.parts)) (λ p.
    WritesSummary (figures_of size len code run) p)

-- where it exited
abbrev pub SumsUpIf : ℕ → ℕ → RunEnd → End → Log → Result Status Status → Type 0
SumsUpIf size len run (end.Exited code) = Then (SumsUp size len code run) (λ summed. Gives Done)
SumsUpIf size len run stop = Gives (end_status stop)

-- the demonstration's program is made
abbrev pub MakesDemo : ℕ → Result (List ℕ) Status → Type 0
MakesDemo size (Ok file) = IsFileOf (demo size) file
MakesDemo size (Err status) = status ≡ OutOfMemory memory

-- `demo`: it is made, and runs.
abbrev pub DoesDemo : ℕ → Log → Result Status Status → Type 0
DoesDemo size =
    Then (Quiet (MakesDemo size)) (λ file.
    Then (Runs plain_parts demo_job file []) (λ ran.
    SumsUpIf size (length file) ran.1 ran.1.end))

abbrev pub DoesAsked : Request → Log → Result Status Status → Type 0
DoesAsked (words.Run job watching) = DoesRun job watching
DoesAsked (words.Report job positions view) = DoesReport job positions view
DoesAsked (words.Annotate names view) = DoesAnnotate names view
DoesAsked (words.Demo size) = DoesDemo size
DoesAsked words.Usage = Gives Usage

-- ---- the whole call

-- All that was done: the work, and then the writes of the line on how it ended. Where the words could not be read for want
-- of memory, that is the work.
pub record MakesCalls (old : Outside) (asked : Request) (status : Status) (new : Outside) : Type 0 where
  pub work : Log
  pub comes : Result Status Status
  pub does : DoesAsked asked work comes ⊎ ((work ≡ nothing_done) × (comes ≡ Err (OutOfMemory memory)))
  pub line : List Wrote
  pub answer : Result (Unit {0}) WriteError
  pub writes : AreWritesOrWants (message_of (final_status comes)) line answer
  pub status_is : status ≡ after_line (final_status comes) answer
  pub blame : IsToBlame status (done_then work (record nothing_done { err = line }))
  pub tells : Tells old (done_then work (record nothing_done { err = line })) new
