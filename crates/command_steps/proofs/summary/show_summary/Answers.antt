use Rattle.std.proofs.Common.{ap, refl, ◌∙◌}
use Rattle.command_steps.specs.Summary.{summary}
use Rattle.command_steps.proofs.SummaryLemmas.{ShowsSummary-made, ShowsSummary-stopped, ShowsSummary-unmade}
use Rattle.command_steps.proofs.SummaryLemmas.{ShowsSummary-wanting}
use Rattle.command_steps.proofs.OutsideLemmas.{Leaves-nothing}
use Rattle.command_steps.proofs.StageLemmas.{did_exit, did_quietly, then_goes, then_stops}
use Rattle.command_steps.proofs.TellLemmas.{did_not_write, did_write_as}
use Rattle.command_steps.proofs.summary.show_summary.Goals as goal

pub returns-in_err-totals-clause-shows : goal.returns-in_err-totals-clause-shows
returns-in_err-totals-clause-shows g c = λ beside.
    ShowsSummary-stopped _ _ _ _ _ c.from_residual.result c.from_residual.ensures.1
    (ShowsSummary-unmade _ _ _ _ _ c.in_err-totals.ensures refl (Leaves-nothing _ _ refl refl refl))

pub returns-in_err-text-clause-shows : goal.returns-in_err-text-clause-shows
returns-in_err-text-clause-shows g c = λ beside.
    ShowsSummary-stopped _ _ _ _ _ c.from_residual-in_err-text.result c.from_residual-in_err-text.ensures.1
    (ShowsSummary-wanting _ _ _ _ refl (Leaves-nothing _ _ refl refl refl))

pub returns-clause-shows : goal.returns-clause-shows
returns-clause-shows g c = λ beside.
    ShowsSummary-made _ _ _ _ c.in_ok-totals.totals c.in_ok-text.text c.write_report.result c.in_ok-totals.ensures
    (c.in_ok-text.ensures ∙ ap (summary c.args.figures.now) (c.deref.ensures.value ∙ c.totals.view_is)) refl refl
    c.write_report.ensures.written

pub returns-in_err-totals-clause-told : goal.returns-in_err-totals-clause-told
returns-in_err-totals-clause-told g c = λ beside.
    did_exit _ _ _ c.from_residual.result c.from_residual.ensures.1
    (then_stops _ _ _ (did_quietly _ _ c.in_err-totals.ensures))

pub returns-in_err-text-clause-told : goal.returns-in_err-text-clause-told
returns-in_err-text-clause-told g c = λ beside.
    then_goes _ _ _ c.in_ok-totals.totals _ (did_quietly _ _ c.in_ok-totals.ensures)
    (did_not_write _ _ c.from_residual-in_err-text.result c.from_residual-in_err-text.ensures.1)

pub returns-clause-told : goal.returns-clause-told
returns-clause-told g c = λ beside.
    then_goes _ _ _ c.in_ok-totals.totals _ (did_quietly _ _ c.in_ok-totals.ensures)
    (did_write_as c.in_ok-text.text _
    (c.in_ok-text.ensures ∙ ap (summary c.args.figures.now) (c.deref.ensures.value ∙ c.totals.view_is))
    (c.write_report.ensures.told beside))
