-- What holds of everything that is asked for.
use Rattle.std.specs.Prelude.{ℕ, ◌^◌, ◌≤◌, ◌<◌, Contains, IfSome, length}
use Rattle.event_costs.specs.Costs.{event_names, events_shown}
use Rattle.command_words.specs.Request.{Addresses, Contexts, Nothing, Waits, Watching}
use Rattle.command_words.specs.Request.{Request, Job, View, Run, Report, Annotate, Demo, Usage}

pub record IsBetween (least most n : ℕ) : Type 0 where
  pub least_of : least ≤ n
  pub most_of : n ≤ most

-- so many callers can be told apart
abbrev pub AreFew : Watching → Type 0
AreFew Nothing = Unit {0}
AreFew Waits = Unit {0}
AreFew (Contexts callers) = IsBetween 1 16 callers
AreFew Addresses = Unit {0}

pub record IsJob (job : Job) : Type 0 where
  pub base : IsBetween 1 200 (length job.base)
  pub input : IfSome job.input (λ name. 1 ≤ length name)
  pub budget : IsBetween 1 (10 ^ 12) job.budget
  pub quantum : IsBetween 1 1000000 job.quantum
  pub every : IfSome job.every (λ steps. IsBetween 1 (10 ^ 12) steps)
  pub program : 0 < length job.args

abbrev pub IsView : View → Type 0
IsView view = view.threshold ≤ 100

-- a report is sorted by one of the events that its run shows
abbrev pub IsSortShown : Job → View → Type 0
IsSortShown job view = IfSome view.sort (λ event. Contains (events_shown job.branches event_names) event)

abbrev pub IsWithin : Request → Type 0
IsWithin (Run job watching) = IsJob job × AreFew watching
IsWithin (Report job positions view) = IsJob job × IsView view × IsSortShown job view
IsWithin (Annotate files view) = (0 < length files) × IsView view
IsWithin (Demo size) = IsBetween 1 100000 size
IsWithin Usage = Unit {0}
