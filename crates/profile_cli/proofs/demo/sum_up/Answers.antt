use Rattle.std.proofs.Common.{Ok, Err, refl, ap, ◌∙◌}
use Rattle.std.specs.Prelude.{codes}
use Rattle.outside.specs.Outside.{outside_with, stream_of}
use Rattle.profile_run.specs.Runs.{RunEnd}
use Rattle.profile_cli.proofs.DemoLemmas.{SumsUp-shown, SumsUp-stopped, SumsUp-unread, told_of}
use Rattle.profile_cli.proofs.OutsideLemmas.{Leaves-nothing}
use Rattle.profile_cli.proofs.OwnReportLemmas.{of_parts}
use Rattle.profile_cli.proofs.StageLemmas.{did_exit, then_goes, then_stops}
use Rattle.profile_cli.proofs.TellLemmas.{read_of, summary_of_figures}
use Rattle.profile_cli.proofs.demo.sum_up.Goals as goal

pub returns-in_err-profile-clause-sums : goal.returns-in_err-profile-clause-sums
returns-in_err-profile-clause-sums g c = λ err.
    SumsUp-stopped _ _ _ _ c.in_err-profile.field-0.0 c.from_residual.result c.from_residual.ensures.1
    (SumsUp-unread _ _ _ _ c.in_err-profile.field-0.0
    (of_parts _ _ _ _ (codes "demo.out") c.args.run.now.parts c.deref.result.now (Err c.in_err-profile.field-0.0)
    (c.deref.ensures.value ∙ ap (λ (r : RunEnd). r.parts) c.run.view_is) c.in_err-profile.ensures.answer)
    c.read_parts.ensures.same_contents (Leaves-nothing _ _ c.read_parts.ensures.same_contents refl refl))

pub returns-clause-sums : goal.returns-clause-sums
returns-clause-sums g c = λ err.
    SumsUp-shown _ _ _ _ _ _ c.in_ok-profile.profile c.show_summary.result
    (of_parts _ _ _ _ (codes "demo.out") c.args.run.now.parts c.deref.result.now (Ok c.in_ok-profile.profile)
    (c.deref.ensures.value ∙ ap (λ (r : RunEnd). r.parts) c.run.view_is) c.in_ok-profile.ensures.answer)
    c.in_ok-profile.ensures.profile c.read_parts.ensures.same_contents refl refl refl
    (told_of c.args.size c.args.len c.args.code c.len.result _ _ c.run.view_is (c.len.ensures
    ∙ c.run.inside.parts.ok.0)) (c.show_summary.ensures.shows
    (outside_with g.F.Folder c.read_parts.new.folder (stream_of g.O.Sink c.args.out.now) err))

pub returns-in_err-profile-clause-told : goal.returns-in_err-profile-clause-told
returns-in_err-profile-clause-told g c = λ err.
    did_exit _ _ _ c.from_residual.result c.from_residual.ensures.1
    (then_stops _ _ _ (read_of _ (codes "demo.out") c.args.run.now.parts c.deref.result.now _
    (c.deref.ensures.value ∙ ap (λ (r : RunEnd). r.parts) c.run.view_is) (c.in_err-profile.ensures.told _ _)))

pub returns-clause-told : goal.returns-clause-told
returns-clause-told g c = λ err.
    then_goes _ _ _ c.in_ok-profile.profile _
    (read_of _ (codes "demo.out") c.args.run.now.parts c.deref.result.now _
    (c.deref.ensures.value ∙ ap (λ (r : RunEnd). r.parts) c.run.view_is) (c.in_ok-profile.ensures.told _ _))
    (summary_of_figures c.in_ok-profile.profile c.show_summary.result
    (told_of c.args.size c.args.len c.args.code c.len.result _ _ c.run.view_is (c.len.ensures
    ∙ c.run.inside.parts.ok.0)) (c.show_summary.ensures.told
    (outside_with g.F.Folder c.read_parts.new.folder (stream_of g.O.Sink c.args.out.now) err)))
