use Rattle.std.proofs.Common.{◌∙◌, Ok, Err, ap, refl, rules}
use Rattle.command_steps.proofs.NamedLemmas.{events_have_names, some_wanted}
use Rattle.command_steps.proofs.ReportLemmas.{ReadsFiles-wanting}
use Rattle.command_steps.proofs.TellLemmas.{did_not_read, did_read_of}
use Rattle.command_steps.proofs.annotating.read_files.Goals as goal

pub returns-in_err-files-clause-answer : goal.returns-in_err-files-clause-answer
returns-in_err-files-clause-answer g c = ReadsFiles-wanting _ _ _ _ _ _ c.from_residual.ensures.1

pub returns-in-Ok-clause-events : goal.returns-in-Ok-clause-events
returns-in-Ok-clause-events g c =
    events_have_names _ _ _ _ c.in-Ok.profile
    (some_wanted c.args.names.now _ c.requires (c.deref.ensures.value ∙ c.in_ok-files.ensures)) c.in-Ok.ensures.reading

pub returns-in_err-files-clause-told : goal.returns-in_err-files-clause-told
returns-in_err-files-clause-told g c = λ out err.
    did_not_read _ _ _ c.from_residual.result c.from_residual.ensures.1

pub returns-in-Ok-clause-told : goal.returns-in-Ok-clause-told
returns-in-Ok-clause-told g c = λ out err.
    did_read_of _ _ _ _ _ c.deref.result.now (Ok c.in-Ok.profile) _ refl
    (c.deref.ensures.value ∙ c.in_ok-files.ensures) c.in-Ok.ensures.told (search rules) refl refl refl

pub returns-clause-told : goal.returns-clause-told
returns-clause-told g c = λ out err.
    did_read_of _ _ _ _ _ c.deref.result.now (Err c.in-Err.fault) _ refl
    (c.deref.ensures.value ∙ c.in_ok-files.ensures) c.in-Err.ensures.told tt refl refl (ap Err c.read_status.ensures)
