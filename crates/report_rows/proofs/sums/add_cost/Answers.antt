use Rattle.std.proofs.Common.{arith}
use Rattle.report_rows.proofs.sums.add_cost.Goals as goal

pub overflow_add-sums : goal.overflow_add-sums
overflow_add-sums c =
    omega (arith, c.requires.fits c.events.event (omega arith), c.events.invariant.rest c.events.event)
