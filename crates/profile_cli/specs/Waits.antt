-- What waiting costs, where it is counted.
use Rattle.std.specs.Prelude.{◌≡◌}
use Rattle.outside.specs.Outside.{Outside}
use Rattle.profile_run.specs.Trace.{steps_of}
use Rattle.wait_report.specs.Waits.{AreOfOthers}
use Rattle.command_status.specs.declared.status.Status.{Status}
use Rattle.command_words.specs.Request.{Request, Waits}
use Rattle.profile_cli.specs.HasRun.{OfRuns}

-- The files of the run are its parts, as without this report, and then the report on the waits of its trace
-- (`files_asked`). No step that passes during a wait is one of the waiting thread.
abbrev pub IsWaits : Outside → Request → Status → Outside → Type 0
IsWaits = OfRuns (λ job watching guest trace. watching ≡ Waits → AreOfOthers (steps_of trace))
