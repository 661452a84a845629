use Rattle.rv_decode.proofs.RowLemmas.{as_listed, each_listed}
use Rattle.rv_decode.proofs.row.rows_are_listed.Goals as goal

pub returns-clause-table : goal.returns-clause-table
returns-clause-table c = as_listed

pub returns-clause-each : goal.returns-clause-each
returns-clause-each c = each_listed
