use Rattle.event_costs.proofs.OneLemmas.{AreKinds}
use Rattle.event_costs.proofs.ones.ones_of.Given as goal

abbrev pub invariant-kinds : goal.invariant-kinds
invariant-kinds l = AreKinds l.cost l.kinds l.kind
