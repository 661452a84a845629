use Rattle.std.proofs.Common.{Err, refl}
use Rattle.command_steps.proofs.StageLemmas.{did_no_load}
use Rattle.command_steps.proofs.loading.load_file.Goals as goal

pub returns-in-Err-clause-told : goal.returns-in-Err-clause-told
returns-in-Err-clause-told g c = λ out err.
    did_no_load _ _ _ _ (Err c.in-Err.error) _ c.load_status.ensures c.in-Err.ensures.told refl refl
