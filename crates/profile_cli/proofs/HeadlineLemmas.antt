-- Every reply to `report` that didn't stop short is exact: the gates are walked through, and behind them stand the laws
-- of runs and of reports.
use Rattle.std.proofs.Common.{◌≡◌, ◌⊎◌, false, Some, refl, subst, inl, inr}
use Rattle.outside.specs.Files.{Files}
use Rattle.outside.specs.Outside.{Outside}
use Rattle.outside.specs.Write.{taken_more}
use Rattle.command_status.specs.Lines.{message_of}
use Rattle.command_status.specs.Numbers.{is_short}
use Rattle.command_status.specs.declared.status.Status.{Status}
use Rattle.command_words.specs.Request.{Request, Job, Positions, Report, View}
use Rattle.command_words.specs.Within.{IsJob, IsWithin}
use Rattle.profile_cli.specs.Counts.{IsCounted}
use Rattle.profile_cli.specs.Headline.{Reports}
use Rattle.profile_cli.specs.OwnReport.{reporting_own}
use Rattle.profile_cli.specs.Reply.{Replies}
use Rattle.profile_cli.specs.Watching.{files_at}
use Rattle.profile_cli.proofs.PastRunLemmas.{IsWorked, exact_of, run_on}
use Rattle.profile_cli.proofs.ReadBackLemmas.{counts_on}
use Rattle.profile_cli.proofs.WalkLemmas.{line_written, loading_on, loading_short, work_short}
use Rattle.profile_cli.proofs.ShortLemmas.{IsShort, fault_short}

-- the work was not stopped short, and then the line was written
pub record IsReported (old new : Outside) (job : Job) (positions : Positions) (view : View) (status : Status)
    (replies : Replies old (Report job positions view) status new) : Type 0 where
  pub worked : IsWorked old job positions view replies.found (record new { err = replies.err })
  pub status_is : status ≡ replies.found
  pub written : new.err.taken ≡ taken_more replies.err.taken (message_of replies.found)

pub reported_or_short : (old new : Outside) (job : Job) (positions : Positions) (view : View) (status : Status)
    → IsJob job → (replies : Replies old (Report job positions view) status new) → (contents : Files)
    → old.files ≡ Some contents → is_short status ≡ false → IsReported old new job positions view status replies
reported_or_short old new job positions view status within replies contents told long =
    by (loading_on IsShort old job replies.found (record new { err = replies.err })
    (IsWorked old job positions view replies.found (record new { err = replies.err }))
    replies.works.course (loading_short job replies.works.course)
    (reporting_own replies.works.course.profile replies.works.course.report)
    (λ program_none elf_none input_none at.
    run_on old job positions view contents told within replies.found
    (record new { err = replies.err }) IsShort refl
    (λ name rose. refl) (λ rose. refl) replies.works.course
    program_none elf_none input_none (λ syms refused output runs. fault_short job.base refused) replies.works.met.0
    replies.works.met.1 at)
    (record { status_is = replies.works.status_is; leaves = replies.works.leaves }))
  where
    by : IsShort replies.found ⊎ IsWorked old job positions view replies.found (record new { err = replies.err })
        → IsReported old new job positions view status replies
    by (inl short) = absurd (work_short replies.found status replies.err new.err replies.says short long)
    by (inr w) =
        let said =
        line_written replies.found status replies.err new.err replies.says w.run.run.stop.end w.run.status_is long in
        record { worked = w; status_is = said.0; written = said.1 }

pub Reports-replies : (positions : Positions) (old new : Outside) (asked : Request) (status : Status) → IsWithin asked
    → Replies old asked status new → Reports positions (files_at positions) old asked status new
Reports-replies positions old new asked status within replies = λ files job view is told long.
    let reply = subst (λ a. Replies old a status new) is replies in
    let all = reported_or_short old new job positions view status (subst IsWithin is within).0 reply files told long in
    exact_of old new job positions view reply.found status reply.err all.worked all.status_is all.written

-- and what was run for it can be run, and its numbers count
pub counts-replies : (positions : Positions) (old new : Outside) (asked : Request) (status : Status)
    (within : IsWithin asked) (replies : Replies old asked status new) (files : Files) (job : Job) (view : View)
    (is : asked ≡ Report job positions view) (told : old.files ≡ Some files) (long : is_short status ≡ false)
    → IsCounted old job (files_at positions) view status new
    (Reports-replies positions old new asked status within replies files job view is told long)
unfolding Reports-replies
counts-replies positions old new asked status within replies files job view is told long =
    let reply = subst (λ a. Replies old a status new) is replies in
    let worked =
    (reported_or_short old new job positions view status (subst IsWithin is within).0 reply files told long).worked in
    let run = worked.run.run in
    record {
      can = worked.can;
      counts = counts_on run.guest worked.can run.trace (record { last = run.is.last; run = run.is.run }) view
          worked.report_on;
    }
