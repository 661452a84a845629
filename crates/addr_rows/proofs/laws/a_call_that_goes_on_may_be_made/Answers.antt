use Rattle.addr_rows.proofs.LastLemmas.{lasts}
use Rattle.addr_rows.proofs.laws.a_call_that_goes_on_may_be_made.Goals as goal

pub returns : goal.returns
returns c = λ m first told call fresh watched. lasts m first told call fresh watched
