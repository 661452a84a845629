use Rattle.std.proofs.Common.{Ok, Err, Some, refl, subst, sym, ◌∙◌}
use Rattle.command_words.specs.Meaning.{job_of}
use Rattle.profile_cli.specs.Watching.{put_status}
use Rattle.command_steps.specs.Loading.{HasStatus}
use Rattle.profile_cli.specs.inner.WaitStages.{IsTextOf}
use Rattle.profile_cli.proofs.TellLemmas.{did_not_put, did_put}
use Rattle.profile_cli.proofs.WaitLemmas.{PutsWaits-exit, PutsWaits-put, PutsWaits-unput}
use Rattle.profile_cli.proofs.waiting.put_waits.Goals as goal

pub returns-in_err-text-clause-answer : goal.returns-in_err-text-clause-answer
returns-in_err-text-clause-answer g c =
    PutsWaits-exit _ _ _ _ _ _ c.from_residual.result c.from_residual.ensures.1 refl

pub returns-in_err-name-clause-answer : goal.returns-in_err-name-clause-answer
returns-in_err-name-clause-answer g c =
    PutsWaits-exit _ _ _ _ _ _ c.from_residual-in_err-name.result c.from_residual-in_err-name.ensures.1 refl

pub returns-in-Ok-clause-answer : goal.returns-in-Ok-clause-answer
returns-in-Ok-clause-answer g c =
    PutsWaits-put c.args.watch.now.books (job_of c.args.job.now) c.as_str.result.now c.as_bytes.result.now _ _ _ _
    (c.as_str.ensures.value ∙ c.in_ok-name.ensures)
    (subst (λ t. IsTextOf c.args.watch.now.books (job_of c.args.job.now) t)
    (sym c.as_bytes.ensures) c.in_ok-text.ensures)
    c.in-Ok.ensures.answer

pub returns-clause-answer : goal.returns-clause-answer
returns-clause-answer g c =
    PutsWaits-unput c.args.watch.now.books (job_of c.args.job.now) c.as_str.result.now c.as_bytes.result.now _ _ _ _
    c.in-Err.error c.put_status.result (c.as_str.ensures.value ∙ c.in_ok-name.ensures)
    (subst (λ t. IsTextOf c.args.watch.now.books (job_of c.args.job.now) t)
    (sym c.as_bytes.ensures) c.in_ok-text.ensures)
    c.in-Err.ensures.answer
    (subst (λ n. HasStatus (Some (put_status n c.in-Err.error)) c.put_status.result)
    (c.as_str-in-Err.ensures.value ∙ sym c.as_str.ensures.value) c.put_status.ensures)

pub returns-in_err-text-clause-told : goal.returns-in_err-text-clause-told
returns-in_err-text-clause-told g c = λ out err.
    did_not_put _ _ _ c.from_residual.result c.from_residual.ensures.1

pub returns-in_err-name-clause-told : goal.returns-in_err-name-clause-told
returns-in_err-name-clause-told g c = λ out err.
    did_not_put _ _ _ c.from_residual-in_err-name.result c.from_residual-in_err-name.ensures.1

pub returns-in-Ok-clause-told : goal.returns-in-Ok-clause-told
returns-in-Ok-clause-told g c = λ out err.
    did_put _ _ c.args.watch.now.books (job_of c.args.job.now) c.as_str.result.now c.as_bytes.result.now (Ok tt) _
    (c.as_str.ensures.value ∙ c.in_ok-name.ensures)
    (subst (λ t. IsTextOf c.args.watch.now.books (job_of c.args.job.now) t)
    (sym c.as_bytes.ensures) c.in_ok-text.ensures)
    c.in-Ok.ensures.told refl refl refl

pub returns-clause-told : goal.returns-clause-told
returns-clause-told g c = λ out err.
    did_put _ _ c.args.watch.now.books (job_of c.args.job.now) c.as_str.result.now c.as_bytes.result.now
    (Err c.in-Err.error) _ (c.as_str.ensures.value ∙ c.in_ok-name.ensures)
    (subst (λ t. IsTextOf c.args.watch.now.books (job_of c.args.job.now) t)
    (sym c.as_bytes.ensures) c.in_ok-text.ensures)
    c.in-Err.ensures.told refl refl
    (subst (λ n. HasStatus (Some (put_status n c.in-Err.error)) c.put_status.result)
    (c.as_str-in-Err.ensures.value ∙ sym c.as_str.ensures.value) c.put_status.ensures)
