use Rattle.std.proofs.Common.{Ok, Err, refl, subst, sym}
use Rattle.wait_report.specs.Keeping.{WaitState, nothing}
use Rattle.run_watches.specs.Watching.{IsFresh}
use Rattle.command_words.specs.Request as asked
use Rattle.profile_cli.specs.inner.RunStages.{IsAny}
use Rattle.profile_cli.proofs.RunWatchLemmas.{RunsJob-wait_parts, RunsJob-waits, still_waits, waits_or}
use Rattle.profile_cli.proofs.StageLemmas.{then_stops}
use Rattle.profile_cli.proofs.TellLemmas.{ended_exit, told_waits}
use Rattle.profile_cli.proofs.WaitLemmas.{Works-ended_run, Works-exit, Works-waits, can_report}
use Rattle.profile_cli.proofs.WorkLemmas.{Works-stopped_run}
use Rattle.profile_cli.proofs.waiting.run_and_put.Goals as goal

abbrev first : WaitState
first = record { books = nothing; room = 0 }

pub load_and_run-requires-clause-fresh : goal.load_and_run-requires-clause-fresh
load_and_run-requires-clause-fresh g c = λ syms. subst (λ w. IsFresh w syms) (sym c.requires.fresh) refl

pub returns-in_err-run-clause-works : goal.returns-in_err-run-clause-works
returns-in_err-run-clause-works g c =
    Works-exit _ _ _ c.in_err-run.field-0.0 c.from_residual.result c.from_residual.ensures.1
    (Works-stopped_run _ _ _ asked.Waits _
    (RunsJob-wait_parts first _ c.load_and_run.new.watch c.requires.fresh _ _ _ IsAny (Err c.in_err-run.field-0.0)
    c.in_err-run.ensures.ran).0)

pub unreachable-requires : goal.unreachable-requires
unreachable-requires g c =
    c.in_default.not-Waits (waits_or first c.load_and_run.new.watch)
    (still_waits first _ c.load_and_run.new.watch c.requires.fresh _ _ _ _ c.in_ok-run.run' c.in_ok-run.ensures.ran)

pub put_waits-requires : goal.put_waits-requires
put_waits-requires g c =
    can_report _ _ _ c.in_ok-run.run' first c.in-Waits.waits c.requires.within refl
    (RunsJob-waits first _ c.load_and_run.new.watch c.requires.fresh _ _ _ c.in-Waits.waits c.in-Waits.is
    (Ok c.in_ok-run.run') c.in_ok-run.ensures.ran)

pub returns-in_err-put_waits-clause-works : goal.returns-in_err-put_waits-clause-works
returns-in_err-put_waits-clause-works g c =
    Works-exit _ _ _ c.in_err-put_waits.field-0.0 c.from_residual-in_err-put_waits.result
    c.from_residual-in_err-put_waits.ensures.1
    (Works-waits _ _ _ _ c.in_ok-run.run' first c.in-Waits.waits refl (Err c.in_err-put_waits.field-0.0)
    c.load_and_run.ensures.put_faults_never_fall c.put_waits.ensures.same_load_faults refl refl c.requires.within
    (RunsJob-waits first _ c.load_and_run.new.watch c.requires.fresh _ _ _ c.in-Waits.waits c.in-Waits.is
    (Ok c.in_ok-run.run') c.in_ok-run.ensures.ran)
    c.in_err-put_waits.ensures.answer)

pub returns-clause-works : goal.returns-clause-works
returns-clause-works g c =
    Works-ended_run _ _ _ c.in_ok-run.run' _ (sym c.run.view_is)
    (Works-waits _ _ _ _ c.in_ok-run.run' first c.in-Waits.waits refl (Ok c.in_ok-put_waits.field-0)
    c.load_and_run.ensures.put_faults_never_fall c.put_waits.ensures.same_load_faults refl refl c.requires.within
    (RunsJob-waits first _ c.load_and_run.new.watch c.requires.fresh _ _ _ c.in-Waits.waits c.in-Waits.is
    (Ok c.in_ok-run.run') c.in_ok-run.ensures.ran)
    c.in_ok-put_waits.ensures.answer)

pub returns-in_err-run-clause-told : goal.returns-in_err-run-clause-told
returns-in_err-run-clause-told g c =
    ended_exit _ _ _ c.from_residual.result c.from_residual.ensures.1
    (then_stops _ _ _
    (RunsJob-wait_parts first _ c.load_and_run.new.watch c.requires.fresh _ _ _ IsAny (Err c.in_err-run.field-0.0)
    c.in_err-run.ensures.ran).1)

pub returns-in_err-put_waits-clause-told : goal.returns-in_err-put_waits-clause-told
returns-in_err-put_waits-clause-told g c =
    ended_exit _ _ _ c.from_residual-in_err-put_waits.result c.from_residual-in_err-put_waits.ensures.1
    (told_waits _ _ _ _ c.in_ok-run.run' _ first c.in-Waits.waits (Err c.in_err-put_waits.field-0.0)
    c.requires.within refl refl
    (RunsJob-waits first _ c.load_and_run.new.watch c.requires.fresh _ _ _ c.in-Waits.waits c.in-Waits.is
    (Ok c.in_ok-run.run') c.in_ok-run.ensures.ran)
    (c.in_err-put_waits.ensures.told _ _))

pub returns-clause-told : goal.returns-clause-told
returns-clause-told g c =
    told_waits _ _ _ _ c.in_ok-run.run' _ first c.in-Waits.waits (Ok c.in_ok-put_waits.field-0)
    c.requires.within refl (sym c.run.view_is)
    (RunsJob-waits first _ c.load_and_run.new.watch c.requires.fresh _ _ _ c.in-Waits.waits c.in-Waits.is
    (Ok c.in_ok-run.run') c.in_ok-run.ensures.ran)
    (c.in_ok-put_waits.ensures.told _ _)
