use Rattle.report_laws.proofs.StandLemmas.{stands_for}
use Rattle.report_laws.proofs.sums.reports_follow_from_sums.Goals as goal

pub returns : goal.returns
returns c = λ head command rows others m q equal profile of. stands_for head command rows others m q equal profile of
