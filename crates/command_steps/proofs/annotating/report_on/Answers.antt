use Rattle.std.proofs.Common.{refl}
use Rattle.command_steps.proofs.OutsideLemmas.{Leaves-nothing}
use Rattle.command_steps.proofs.ReportLemmas.{Annotates-shown, Annotates-stopped, Annotates-unread}
use Rattle.command_steps.proofs.StageLemmas.{reported_exit, reported_then, then_goes, then_stops}
use Rattle.command_steps.proofs.annotating.report_on.Goals as goal

pub returns-in_err-profile-clause-works : goal.returns-in_err-profile-clause-works
returns-in_err-profile-clause-works g c = λ err.
    Annotates-stopped _ _ _ _ _ c.from_residual.result c.from_residual.ensures.1
    (Annotates-unread _ _ _ _ _ c.in_err-profile.ensures.answer
    (Leaves-nothing _ _ c.in_err-profile.ensures.same_contents refl refl))

pub returns-clause-works : goal.returns-clause-works
returns-clause-works g c = λ err.
    Annotates-shown _ _ _ _ _ c.in_ok-profile.profile c.show_report.result c.in_ok-profile.ensures.answer
    c.in_ok-profile.ensures.same_contents c.in_ok-profile.ensures.never_falls
    c.show_report.ensures.never_falls refl refl
    (c.show_report.ensures.report err)

pub returns-in_err-profile-clause-told : goal.returns-in_err-profile-clause-told
returns-in_err-profile-clause-told g c = λ err.
    reported_exit _ _ _ c.from_residual.result c.from_residual.ensures.1
    (then_stops _ _ _ (c.in_err-profile.ensures.told _ _))

pub returns-clause-told : goal.returns-clause-told
returns-clause-told g c = λ err.
    then_goes _ _ _ c.in_ok-profile.profile _ (c.in_ok-profile.ensures.told _ _)
    (reported_then _ _ c.show_report.result (c.show_report.ensures.told err))
