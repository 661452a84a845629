use Rattle.wait_report.specs.inner.Law.{run_stands}
use Rattle.wait_report.proofs.laws.what_is_kept_stands_for_the_run.Goals as goal

pub returns : goal.returns
returns c = run_stands
