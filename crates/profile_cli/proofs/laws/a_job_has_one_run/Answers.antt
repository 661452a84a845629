use Rattle.profile_cli.proofs.OneRunLemmas.{output_same, reports_same, stops_same, traces_same}
use Rattle.profile_cli.proofs.laws.a_job_has_one_run.Goals as goal

pub returns-clause-trace : goal.returns-clause-trace
returns-clause-trace c = traces_same

pub returns-clause-stop : goal.returns-clause-stop
returns-clause-stop c = stops_same

pub returns-clause-output : goal.returns-clause-output
returns-clause-output c = output_same

pub returns-clause-report : goal.returns-clause-report
returns-clause-report c = reports_same
