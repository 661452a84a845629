use Rattle.profile_cli.proofs.TellLemmas.{told_run, told_run_stopped}
use Rattle.profile_cli.proofs.WatchLemmas.{quiet_gates, quiet_puts}
use Rattle.profile_cli.proofs.WorkLemmas.{Works-run_as, Works-stopped_run}
use Rattle.profile_cli.proofs.run.run_command.Goals as goal

pub returns-in-Ok-run_parts-clause-works : goal.returns-in-Ok-run_parts-clause-works
returns-in-Ok-run_parts-clause-works g c =
    Works-run_as _ _ _ _ c.in-Ok-run_parts.run' _ c.from-in-Ok-run_parts.result
    (quiet_gates _ c.in_default.not-Waits _) c.from-in-Ok-run_parts.ensures c.run.view_is c.in-Ok-run_parts.ensures.ran

pub returns-in-Err-run_parts-clause-works : goal.returns-in-Err-run_parts-clause-works
returns-in-Err-run_parts-clause-works g c = Works-stopped_run _ _ _ _ _ c.in-Err-run_parts.ensures.ran.0

pub returns-in-Ok-run_parts-clause-told : goal.returns-in-Ok-run_parts-clause-told
returns-in-Ok-run_parts-clause-told g c =
    told_run _ _ _ _ _ c.in-Ok-run_parts.run' _ c.from-in-Ok-run_parts.result
    (quiet_puts _ c.in_default.not-Waits _) c.from-in-Ok-run_parts.ensures c.run.view_is
    c.in-Ok-run_parts.ensures.ran.did

pub returns-in-Err-run_parts-clause-told : goal.returns-in-Err-run_parts-clause-told
returns-in-Err-run_parts-clause-told g c = told_run_stopped _ _ _ _ _ c.in-Err-run_parts.ensures.ran.1
