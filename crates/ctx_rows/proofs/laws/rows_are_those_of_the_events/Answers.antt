use Rattle.ctx_rows.proofs.LastLemmas.{run_rows}
use Rattle.ctx_rows.proofs.laws.rows_are_those_of_the_events.Goals as goal

pub returns : goal.returns
returns c = λ syms first told thread fresh watched known. run_rows syms first told thread fresh watched known
