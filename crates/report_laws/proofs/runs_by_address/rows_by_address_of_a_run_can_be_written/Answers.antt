use Rattle.report_laws.proofs.RunRowLemmas.{rows_equal_sums, rows_writable}
use Rattle.report_laws.proofs.runs_by_address.rows_by_address_of_a_run_can_be_written.Goals as goal

pub returns : goal.returns
returns c = record {
  writable = λ guest past thread segment can makes piece. rows_writable guest past thread segment can makes piece;
  sums = λ guest past thread segment can makes piece. rows_equal_sums guest past thread segment can makes piece;
}
