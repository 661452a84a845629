use Rattle.wait_report.specs.inner.Quiet.{others_pass}
use Rattle.wait_report.proofs.laws.who_waits_makes_no_step.Goals as goal

pub returns : goal.returns
returns c = others_pass
