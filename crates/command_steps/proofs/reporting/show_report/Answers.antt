use Rattle.std.proofs.Common.{refl}
use Rattle.command_steps.proofs.OutsideLemmas.{Leaves-nothing}
use Rattle.command_steps.proofs.ReportLemmas.{ShowsReport-made, ShowsReport-stopped, ShowsReport-unmade}
use Rattle.command_steps.proofs.ReportLemmas.{ShowsReport-unsettled, ShowsReport-wanting}
use Rattle.outside.specs.Outside.{outside_with, stream_of}
use Rattle.command_steps.proofs.StageLemmas.{did_exit, did_quietly, then_goes, then_stops}
use Rattle.command_steps.proofs.reporting.show_report.Goals as goal

pub returns-in_err-options-clause-report : goal.returns-in_err-options-clause-report
returns-in_err-options-clause-report g c = λ err.
    ShowsReport-stopped _ _ _ _ _ c.from_residual.result c.from_residual.ensures.1
    (ShowsReport-unsettled _ _ _ _ _ c.in_err-options.ensures.answer refl (Leaves-nothing _ _ refl refl refl))

pub returns-in_err-texts-clause-report : goal.returns-in_err-texts-clause-report
returns-in_err-texts-clause-report g c = λ err.
    ShowsReport-stopped _ _ _ _ _ c.from_residual-in_err-texts.result c.from_residual-in_err-texts.ensures.1
    (ShowsReport-wanting _ _ _ _ c.in_ok-options.options c.in_ok-options.ensures.answer
    c.in_err-texts.ensures.same_contents (Leaves-nothing _ _ c.in_err-texts.ensures.same_contents refl refl))

pub returns-in_err-text-clause-report : goal.returns-in_err-text-clause-report
returns-in_err-text-clause-report g c = λ err.
    ShowsReport-stopped _ _ _ _ _ c.from_residual-in_err-text.result c.from_residual-in_err-text.ensures.1
    (ShowsReport-unmade _ _ _ _ c.in_ok-options.options c.in_ok-texts.texts _
    (record {
      settled = c.in_ok-options.ensures.answer;
      sources = c.in_ok-texts.ensures.texts;
      same_files = c.in_ok-texts.ensures.same_contents;
    })
    c.in_err-text.ensures (Leaves-nothing _ _ c.in_ok-texts.ensures.same_contents refl refl))

pub returns-clause-report : goal.returns-clause-report
returns-clause-report g c = λ err.
    ShowsReport-made _ _ _ _ c.in_ok-options.options c.in_ok-texts.texts c.in_ok-text.text c.write_report.result
    (record {
      settled = c.in_ok-options.ensures.answer;
      sources = c.in_ok-texts.ensures.texts;
      same_files = c.in_ok-texts.ensures.same_contents;
    })
    c.in_ok-text.ensures refl c.write_report.ensures.written

pub returns-in_err-options-clause-told : goal.returns-in_err-options-clause-told
returns-in_err-options-clause-told g c = λ err.
    did_exit _ _ _ c.from_residual.result c.from_residual.ensures.1
    (then_stops _ _ _ (did_quietly _ _ c.in_err-options.ensures.answer))

pub returns-in_err-texts-clause-told : goal.returns-in_err-texts-clause-told
returns-in_err-texts-clause-told g c = λ err.
    did_exit _ _ _ c.from_residual-in_err-texts.result c.from_residual-in_err-texts.ensures.1
    (then_goes _ _ _ c.in_ok-options.options _ (did_quietly _ _ c.in_ok-options.ensures.answer)
    (then_stops _ _ _ (c.in_err-texts.ensures.told _ _)))

pub returns-in_err-text-clause-told : goal.returns-in_err-text-clause-told
returns-in_err-text-clause-told g c = λ err.
    did_exit _ _ _ c.from_residual-in_err-text.result c.from_residual-in_err-text.ensures.1
    (then_goes _ _ _ c.in_ok-options.options _ (did_quietly _ _ c.in_ok-options.ensures.answer)
    (then_goes _ _ _ c.in_ok-texts.texts _ (c.in_ok-texts.ensures.told _ _)
    (then_stops _ _ _ (did_quietly _ _ c.in_err-text.ensures))))

pub returns-clause-told : goal.returns-clause-told
returns-clause-told g c = λ err.
    then_goes _ _ _ c.in_ok-options.options _ (did_quietly _ _ c.in_ok-options.ensures.answer)
    (then_goes _ _ _ c.in_ok-texts.texts _ (c.in_ok-texts.ensures.told _ _)
    (then_goes _ _ _ c.in_ok-text.text _ (did_quietly _ _ c.in_ok-text.ensures)
    (c.write_report.ensures.told (outside_with g.F.Folder c.load_texts.new.folder (stream_of g.O.Sink c.args.out.now) err))))
