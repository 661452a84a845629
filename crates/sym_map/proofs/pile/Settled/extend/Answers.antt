use Rattle.std.proofs.Common.{arith}
use Rattle.sym_map.proofs.Piles.{settled_more}
use Rattle.sym_map.proofs.pile.Settled.extend.Goals as goal

pub returns-clause-settled : goal.returns-clause-settled
returns-clause-settled c = λ spans so is.
    rw c.in_ok-push.ensures.items
    (settled_more spans c.args.self.now.ranges.items (record { start = c.args.self.now.end; cover = c.args.here })
    c.args.end so (omega arith) is)
