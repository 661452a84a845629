use Rattle.ctx_rows.proofs.LastLemmas.{lasts}
use Rattle.ctx_rows.proofs.laws.a_call_that_goes_on_may_be_made.Goals as goal

pub returns : goal.returns
returns c = λ syms first told call fresh watched. lasts syms first told call fresh watched
