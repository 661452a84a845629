use Rattle.ctx_rows.proofs.LastLemmas.{all_stand}
use Rattle.ctx_rows.proofs.laws.events_stand_on_their_stacks.Goals as goal

pub returns : goal.returns
returns c = λ syms told watched. all_stand syms told watched
