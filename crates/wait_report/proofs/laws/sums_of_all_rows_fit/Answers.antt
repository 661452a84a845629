use Rattle.wait_report.proofs.SumLemmas.{sums_fit}
use Rattle.wait_report.proofs.laws.sums_of_all_rows_fit.Goals as goal

pub returns : goal.returns
returns c = sums_fit
