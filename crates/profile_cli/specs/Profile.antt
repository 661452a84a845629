-- All that is said of a reply.
use Rattle.std.specs.Prelude.{◌≡◌, ◌≤◌, false, length, Some}
use Rattle.outside.specs.Files.{Files}
use Rattle.outside.specs.Outside.{Outside}
use Rattle.command_status.specs.Numbers.{is_short}
use Rattle.command_status.specs.declared.status.Status.{Status}
use Rattle.command_words.specs.Request.{AddressAndLine, Job, Line, Report, Request, View}
use Rattle.profile_run.specs.Program.{CanRun}
use Rattle.run_laws.specs.OwnParts.{files_of_run}
use Rattle.profile_cli.specs.Addresses.{IsAddresses}
use Rattle.profile_cli.specs.ByCalls.{IsHeadlineByCalls}
use Rattle.profile_cli.specs.Calls.{MakesCalls}
use Rattle.profile_cli.specs.Complete.{IsComplete}
use Rattle.profile_cli.specs.Contexts.{IsContexts}
use Rattle.profile_cli.specs.Counts.{IsCounted}
use Rattle.profile_cli.specs.HasRun.{OfRuns}
use Rattle.profile_cli.specs.Headline.{IsHeadline, Reports}
use Rattle.profile_cli.specs.OwnParts.{IsReadable}
use Rattle.profile_cli.specs.OwnRows.{IsOwnRows}
use Rattle.profile_cli.specs.Reply.{Replies}
use Rattle.profile_cli.specs.Waits.{IsWaits}
use Rattle.profile_cli.specs.Watching.{files_at}

pub record IsReply (old : Outside) (asked : Request) (status : Status) (new : Outside) : Type 0 where
  -- what the status means, and what is left: gate after gate
  pub replies : Replies old asked status new
  -- what was called for: call by call
  pub told : MakesCalls old asked status new
  -- the report is exact, over a folder that tells its contents, by lines alone and by addresses too, and over one that
  -- tells its calls
  pub headline : IsHeadline old asked status new
  pub headline_by_address : Reports AddressAndLine (files_at AddressAndLine) old asked status new
  pub headline_by_calls : IsHeadlineByCalls old asked status new
  -- which status has to come
  pub complete : IsComplete old asked status new
  -- the parts that were put can be read
  pub own_parts : IsReadable old asked status new
  -- the rows of a thread are of its own events; and what else is counted
  pub own_rows : IsOwnRows old asked status new
  pub waits : IsWaits old asked status new
  pub contexts : IsContexts old asked status new
  pub addresses : IsAddresses old asked status new
  -- a run has no more steps than were asked for
  pub budget : OfRuns (λ job watching guest trace. length trace ≤ job.budget) old asked status new
  -- the program of a run, and that of an exact report, can be run: its file is accepted, and its map sound; and every
  -- number of the report counts
  pub can_run : OfRuns (λ job watching guest trace. CanRun guest) old asked status new
  pub counts : (files : Files) (job : Job) (view : View) (is : asked ≡ Report job Line view)
      (known : old.files ≡ Some files) (long : is_short status ≡ false)
      → IsCounted old job files_of_run view status new (headline files job view is known long)
  pub counts_by_address : (files : Files) (job : Job) (view : View) (is : asked ≡ Report job AddressAndLine view)
      (known : old.files ≡ Some files) (long : is_short status ≡ false)
      → IsCounted old job (files_at AddressAndLine) view status new (headline_by_address files job view is known long)
