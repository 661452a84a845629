use Rattle.std.proofs.Common.{arith}
use Rattle.event_costs.proofs.ones.add_bits.Goals as goal

pub overflow_add-sums : goal.overflow_add-sums
overflow_add-sums c =
    let fits = c.requires.fits c.kinds.kind (omega arith) (omega arith) in
    omega (arith, fits, c.kinds.invariant.rest c.kinds.kind)
