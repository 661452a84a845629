use Rattle.reads_back.proofs.WritableLemmas.{writable_rows}
use Rattle.reads_back.proofs.traces.rows_of_a_run_can_be_written.Goals as goal

pub returns : goal.returns
returns c = λ m trace xs rows sound. writable_rows m sound trace xs rows
