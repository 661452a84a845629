use Rattle.std.proofs.Common.{◌<◌, ◌%◌, get_or, arith}
use Rattle.event_costs.proofs.OneLemmas.{branches_added}
use Rattle.event_costs.proofs.ones.add_seldom.Goals as goal

pub returns-else-bits-clause-added : goal.returns-else-bits-clause-added
returns-else-bits-clause-added c = λ kind from within.
    let few : c.args.bits % 512 < 8 = omega (arith, c.if-bits.false) in
    branches_added c.args.bits kind (get_or c.args.sums.now kind 0) (get_or c.add_bits.new.sums kind 0) few from
    (c.add_bits.ensures.below kind) (λ high. c.add_bits.ensures.added kind high within)
