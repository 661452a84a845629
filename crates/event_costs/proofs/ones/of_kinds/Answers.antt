use Rattle.std.proofs.Common.{arith}
use Rattle.event_costs.proofs.OneLemmas.{ones_from_kinds}
use Rattle.event_costs.proofs.ones.of_kinds.Goals as goal

pub returns : goal.returns
returns c = ones_from_kinds c.bits_of.result c.args.kinds (omega arith) c.bits_of.ensures
