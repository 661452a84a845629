use Rattle.addr_rows.proofs.LastLemmas.{run_rows}
use Rattle.addr_rows.proofs.laws.rows_are_those_of_the_events.Goals as goal

pub returns : goal.returns
returns c = λ m first told thread fresh watched. run_rows m first told thread fresh watched
