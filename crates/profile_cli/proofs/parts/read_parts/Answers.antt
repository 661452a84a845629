use Rattle.std.proofs.Common.{Ok, Err, ap, refl, ◌∙◌, rules}
use Rattle.profile_files.specs.Joined.{no_rows}
use Rattle.profile_cli.proofs.Others.{ReadsFiles-wanting}
use Rattle.command_steps.proofs.TellLemmas.{did_not_read}
use Rattle.profile_cli.proofs.parts.read_parts.Goals as goal

pub returns-in_err-parts-clause-answer : goal.returns-in_err-parts-clause-answer
returns-in_err-parts-clause-answer g c = ReadsFiles-wanting _ _ _ _ _ _ c.from_residual.ensures.1

pub returns-in_err-files-clause-answer : goal.returns-in_err-files-clause-answer
returns-in_err-files-clause-answer g c = ReadsFiles-wanting _ _ _ _ _ _ c.from_residual-in_err-files.ensures.1

pub returns-in_err-parts-clause-told : goal.returns-in_err-parts-clause-told
returns-in_err-parts-clause-told g c = λ out err.
    did_not_read _ _ _ c.from_residual.result c.from_residual.ensures.1

pub returns-in_err-files-clause-told : goal.returns-in_err-files-clause-told
returns-in_err-files-clause-told g c = λ out err.
    did_not_read _ _ _ c.from_residual-in_err-files.result c.from_residual-in_err-files.ensures.1

pub returns-clause-answer : goal.returns-clause-answer
returns-clause-answer g c = rw (c.deref-2.ensures.value ∙ c.in_ok-files.ensures ∙ c.deref.ensures.value ∙ c.in_ok-parts.ensures) at c.read_run_files.ensures.answer

pub returns-clause-told : goal.returns-clause-told
returns-clause-told g c = λ out err.
    rw (c.deref-2.ensures.value ∙ c.in_ok-files.ensures ∙ c.deref.ensures.value ∙ c.in_ok-parts.ensures)
    at c.read_run_files.ensures.told out err
