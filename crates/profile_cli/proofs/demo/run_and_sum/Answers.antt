use Rattle.std.proofs.Common.{Ok, Err, length, refl, sym, ap, ◌∙◌, arith}
use Rattle.profile_cli.proofs.DemoLemmas.{Works-demo_exit, Works-no_program, Works-other_as, Works-stopped_demo}
use Rattle.profile_cli.proofs.DemoLemmas.{Works-summed_as, made_of}
use Rattle.profile_cli.proofs.OutsideLemmas.{Leaves-nothing}
use Rattle.profile_cli.proofs.StageLemmas.{did_exit}
use Rattle.profile_cli.proofs.TellLemmas.{told_not_made, told_not_run, told_otherwise, told_summed}
use Rattle.profile_cli.proofs.demo.run_and_sum.Goals as goal

pub returns-in_err-job-clause-works : goal.returns-in_err-job-clause-works
returns-in_err-job-clause-works g c =
    Works-demo_exit _ _ _ _ c.from_residual.result c.from_residual.ensures.1
    (Works-no_program _ _ _ (Leaves-nothing _ _ refl refl refl))

pub returns-in_err-program-clause-works : goal.returns-in_err-program-clause-works
returns-in_err-program-clause-works g c =
    Works-demo_exit _ _ _ _ c.from_residual-in_err-program.result c.from_residual-in_err-program.ensures.1
    (Works-no_program _ _ _ (Leaves-nothing _ _ refl refl refl))

pub run_program-requires-clause-accepted : goal.run_program-requires-clause-accepted
run_program-requires-clause-accepted g c =
    (made_of c.args.size c.deref.result.now c.in_ok-program.program.items c.deref.ensures.value
    c.in_ok-program.ensures.file).accepted

pub returns-in_err-run-clause-works : goal.returns-in_err-run-clause-works
returns-in_err-run-clause-works g c =
    Works-demo_exit _ _ _ _ c.from_residual-in_err-run.result c.from_residual-in_err-run.ensures.1
    (Works-stopped_demo _ _ _ c.deref.result.now _
    (made_of c.args.size c.deref.result.now c.in_ok-program.program.items c.deref.ensures.value
    c.in_ok-program.ensures.file)
    c.in_err-run.ensures.ran)

pub returns-clause-works : goal.returns-clause-works
returns-clause-works g c =
    Works-other_as _ _ _ c.deref.result.now
    (made_of c.args.size c.deref.result.now c.in_ok-program.program.items c.deref.ensures.value
    c.in_ok-program.ensures.file) c.in_ok-run.run' c.in_ok-run.ensures.ran _ c.from.result c.from.ensures c.run.view_is
    (sym c.in-None.ensures)

pub returns-in_err-sum_up-in-Some-clause-works : goal.returns-in_err-sum_up-in-Some-clause-works
returns-in_err-sum_up-in-Some-clause-works g c =
    Works-demo_exit _ _ _ c.in_err-sum_up-in-Some.field-0.0 c.from_residual-in_err-sum_up-in-Some.result
    c.from_residual-in_err-sum_up-in-Some.ensures.1
    (Works-summed_as _ _ _ c.deref.result.now
    (made_of c.args.size c.deref.result.now c.in_ok-program.program.items c.deref.ensures.value
    c.in_ok-program.ensures.file) c.in_ok-run.run' c.in_ok-run.ensures.ran _ c.in_ok-run.run' c.in-Some.code
    c.run.view_is
    refl (sym c.in-Some.ensures) c.len.result
    (c.len.ensures ∙ c.in_ok-program.program.ok.0 ∙ ap length (sym c.deref.ensures.value)) _
    (Err c.in_err-sum_up-in-Some.field-0.0) (c.in_err-sum_up-in-Some.ensures.sums _)
    (omega (arith, c.run_program.ensures.same_load_faults))
    c.run_program.ensures.out_faults_never_fall)

pub returns-in-Some-clause-works : goal.returns-in-Some-clause-works
returns-in-Some-clause-works g c =
    Works-summed_as _ _ _ c.deref.result.now
    (made_of c.args.size c.deref.result.now c.in_ok-program.program.items c.deref.ensures.value
    c.in_ok-program.ensures.file) c.in_ok-run.run' c.in_ok-run.ensures.ran _ c.in_ok-run.run' c.in-Some.code
    c.run.view_is
    refl (sym c.in-Some.ensures) c.len.result
    (c.len.ensures ∙ c.in_ok-program.program.ok.0 ∙ ap length (sym c.deref.ensures.value)) _
    (Ok c.in_ok-sum_up-in-Some.field-0) (c.in_ok-sum_up-in-Some.ensures.sums _)
    (omega (arith, c.run_program.ensures.same_load_faults))
    c.run_program.ensures.out_faults_never_fall

pub returns-in_err-job-clause-told : goal.returns-in_err-job-clause-told
returns-in_err-job-clause-told g c = told_not_made _ _ c.from_residual.result c.from_residual.ensures.1

pub returns-in_err-program-clause-told : goal.returns-in_err-program-clause-told
returns-in_err-program-clause-told g c =
    told_not_made _ _ c.from_residual-in_err-program.result c.from_residual-in_err-program.ensures.1

pub returns-in_err-run-clause-told : goal.returns-in_err-run-clause-told
returns-in_err-run-clause-told g c =
    told_not_run _ _ _ c.deref.result.now
    (made_of c.args.size c.deref.result.now c.in_ok-program.program.items c.deref.ensures.value
    c.in_ok-program.ensures.file) _ c.from_residual-in_err-run.result c.from_residual-in_err-run.ensures.1
    c.in_err-run.ensures.told

pub returns-clause-told : goal.returns-clause-told
returns-clause-told g c =
    told_otherwise _ _ _ c.deref.result.now
    (made_of c.args.size c.deref.result.now c.in_ok-program.program.items c.deref.ensures.value
    c.in_ok-program.ensures.file) c.in_ok-run.run' c.in_ok-run.ensures.told _ c.from.result c.from.ensures c.run.view_is
    (sym c.in-None.ensures)

pub returns-in_err-sum_up-in-Some-clause-told : goal.returns-in_err-sum_up-in-Some-clause-told
returns-in_err-sum_up-in-Some-clause-told g c =
    did_exit _ _ _ c.from_residual-in_err-sum_up-in-Some.result c.from_residual-in_err-sum_up-in-Some.ensures.1
    (told_summed _ _ _ c.deref.result.now
    (made_of c.args.size c.deref.result.now c.in_ok-program.program.items c.deref.ensures.value
    c.in_ok-program.ensures.file) c.in_ok-run.run' c.in_ok-run.ensures.told _ _ c.in_ok-run.run' c.in-Some.code
    c.run.view_is refl (sym c.in-Some.ensures) c.len.result
    (c.len.ensures ∙ c.in_ok-program.program.ok.0 ∙ ap length (sym c.deref.ensures.value))
    (Err c.in_err-sum_up-in-Some.field-0.0) (c.in_err-sum_up-in-Some.ensures.told _))

pub returns-in-Some-clause-told : goal.returns-in-Some-clause-told
returns-in-Some-clause-told g c =
    told_summed _ _ _ c.deref.result.now
    (made_of c.args.size c.deref.result.now c.in_ok-program.program.items c.deref.ensures.value
    c.in_ok-program.ensures.file) c.in_ok-run.run' c.in_ok-run.ensures.told _ _ c.in_ok-run.run' c.in-Some.code
    c.run.view_is refl (sym c.in-Some.ensures) c.len.result
    (c.len.ensures ∙ c.in_ok-program.program.ok.0 ∙ ap length (sym c.deref.ensures.value))
    (Ok c.in_ok-sum_up-in-Some.field-0) (c.in_ok-sum_up-in-Some.ensures.told _)
