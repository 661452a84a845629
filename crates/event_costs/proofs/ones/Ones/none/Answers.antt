use Rattle.event_costs.proofs.KindLemmas.{none_is}
use Rattle.event_costs.proofs.ones.Ones.none.Goals as goal

pub returns : goal.returns
returns c = none_is
