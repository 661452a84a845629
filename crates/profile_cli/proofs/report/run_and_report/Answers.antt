use Rattle.std.proofs.Common.{Ok, Err, refl, sym, ap, ◌∙◌}
use Rattle.profile_run.specs.Runs.{RunEnd}
use Rattle.profile_cli.proofs.OwnReportLemmas.{Works-ended, Works-report_exit, Works-reported, Works-unread_parts}
use Rattle.profile_cli.proofs.OwnReportLemmas.{few_at, of_parts, ran_at}
use Rattle.profile_cli.proofs.StageLemmas.{did_quietly, then_goes, then_stops}
use Rattle.profile_cli.proofs.TellLemmas.{ended_exit, read_of, told_reported}
use Rattle.profile_cli.proofs.WorkLemmas.{Works-stopped_report}
use Rattle.profile_cli.proofs.report.run_and_report.Goals as goal

pub returns-in_err-run-clause-works : goal.returns-in_err-run-clause-works
returns-in_err-run-clause-works g c =
    Works-report_exit _ _ _ _ _ _ c.from_residual.result c.from_residual.ensures.1
    (Works-stopped_report _ _ _ _ _ _ (ran_at _ _ c.watching.ensures _ _ _ (Err c.in_err-run.field-0.0)
    c.in_err-run.ensures.ran).0)

pub returns-in_err-profile-clause-works : goal.returns-in_err-profile-clause-works
returns-in_err-profile-clause-works g c =
    Works-report_exit _ _ _ _ _ c.in_err-profile.field-0.0 c.from_residual-in_err-profile.result
    c.from_residual-in_err-profile.ensures.1
    (Works-unread_parts _ _ _ _ _ c.in_ok-run.run'
    (ran_at _ _ c.watching.ensures _ _ _ (Ok c.in_ok-run.run') c.in_ok-run.ensures.ran) _ c.in_err-profile.field-0.0
    (of_parts _ _ _ _ _ c.in_ok-run.run'.parts c.deref.result.now (Err c.in_err-profile.field-0.0)
    (c.deref.ensures.value ∙ ap (λ (r : RunEnd). r.parts) c.run.view_is) c.in_err-profile.ensures.answer)
    c.read_parts.ensures.same_contents refl refl c.run_parts.ensures.load_faults_never_fall
    c.read_parts.ensures.never_falls)

pub returns-in_err-show_report-clause-works : goal.returns-in_err-show_report-clause-works
returns-in_err-show_report-clause-works g c =
    Works-report_exit _ _ _ _ _ c.in_err-show_report.field-0.0 c.from_residual-in_err-show_report.result
    c.from_residual-in_err-show_report.ensures.1
    (Works-reported _ _ _ _ _ c.in_ok-run.run'
    (ran_at _ _ c.watching.ensures _ _ _ (Ok c.in_ok-run.run') c.in_ok-run.ensures.ran) _ _ c.in_ok-profile.profile
    (Err c.in_err-show_report.field-0.0)
    (of_parts _ _ _ _ _ c.in_ok-run.run'.parts c.deref.result.now (Ok c.in_ok-profile.profile)
    (c.deref.ensures.value ∙ ap (λ (r : RunEnd). r.parts) c.run.view_is) c.in_ok-profile.ensures.answer)
    c.in_ok-profile.ensures.profile c.in_ok-profile.ensures.events c.requires.sort c.read_parts.ensures.same_contents refl refl
    c.run_parts.ensures.load_faults_never_fall c.read_parts.ensures.never_falls c.show_report.ensures.never_falls
    c.run_parts.ensures.out_faults_never_fall (c.in_err-show_report.ensures.report _))

pub returns-clause-works : goal.returns-clause-works
returns-clause-works g c =
    Works-ended _ _ _ _ _ c.in_ok-run.run' _ (sym c.run.view_is)
    (Works-reported _ _ _ _ _ c.in_ok-run.run'
    (ran_at _ _ c.watching.ensures _ _ _ (Ok c.in_ok-run.run') c.in_ok-run.ensures.ran) _ _ c.in_ok-profile.profile
    (Ok c.in_ok-show_report.field-0)
    (of_parts _ _ _ _ _ c.in_ok-run.run'.parts c.deref.result.now (Ok c.in_ok-profile.profile)
    (c.deref.ensures.value ∙ ap (λ (r : RunEnd). r.parts) c.run.view_is) c.in_ok-profile.ensures.answer)
    c.in_ok-profile.ensures.profile c.in_ok-profile.ensures.events c.requires.sort c.read_parts.ensures.same_contents refl refl
    c.run_parts.ensures.load_faults_never_fall c.read_parts.ensures.never_falls c.show_report.ensures.never_falls
    c.run_parts.ensures.out_faults_never_fall (c.in_ok-show_report.ensures.report _))

pub returns-in_err-run-clause-told : goal.returns-in_err-run-clause-told
returns-in_err-run-clause-told g c =
    ended_exit _ _ _ c.from_residual.result c.from_residual.ensures.1 (then_stops _ _ _
    (ran_at _ _ c.watching.ensures _ _ _ (Err c.in_err-run.field-0.0) c.in_err-run.ensures.ran).1)

pub returns-in_err-profile-clause-told : goal.returns-in_err-profile-clause-told
returns-in_err-profile-clause-told g c =
    ended_exit _ _ _ c.from_residual-in_err-profile.result c.from_residual-in_err-profile.ensures.1
    (then_goes _ _ _ _ _
    (ran_at _ _ c.watching.ensures _ _ _ (Ok c.in_ok-run.run') c.in_ok-run.ensures.ran).did
    (then_stops _ _ _ (read_of _ _ c.in_ok-run.run'.parts c.deref.result.now _
    (c.deref.ensures.value ∙ ap (λ (r : RunEnd). r.parts) c.run.view_is) (c.in_err-profile.ensures.told _ _))))

pub returns-in_err-show_report-clause-told : goal.returns-in_err-show_report-clause-told
returns-in_err-show_report-clause-told g c =
    ended_exit _ _ _ c.from_residual-in_err-show_report.result c.from_residual-in_err-show_report.ensures.1
    (then_goes _ _ _ _ _
    (ran_at _ _ c.watching.ensures _ _ _ (Ok c.in_ok-run.run') c.in_ok-run.ensures.ran).did
    (then_goes _ _ _ c.in_ok-profile.profile _ (read_of _ _ c.in_ok-run.run'.parts c.deref.result.now _
    (c.deref.ensures.value ∙ ap (λ (r : RunEnd). r.parts) c.run.view_is) (c.in_ok-profile.ensures.told _ _))
    (then_stops _ _ _ (c.in_err-show_report.ensures.told _))))

pub returns-clause-told : goal.returns-clause-told
returns-clause-told g c =
    told_reported _ _ _ _ _ _ _ c.in_ok-run.run' _ (sym c.run.view_is)
    (ran_at _ _ c.watching.ensures _ _ _ (Ok c.in_ok-run.run') c.in_ok-run.ensures.ran).did
    (then_goes _ _ _ c.in_ok-profile.profile _ (read_of _ _ c.in_ok-run.run'.parts c.deref.result.now _
    (c.deref.ensures.value ∙ ap (λ (r : RunEnd). r.parts) c.run.view_is) (c.in_ok-profile.ensures.told _ _))
    (then_goes _ _ _ c.in_ok-show_report.field-0 _ (c.in_ok-show_report.ensures.told _) (did_quietly _ _ refl)))

pub run_parts-requires-clause-callers : goal.run_parts-requires-clause-callers
run_parts-requires-clause-callers g c = few_at _ _ c.watching.ensures
