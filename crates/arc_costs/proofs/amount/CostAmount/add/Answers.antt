use Rattle.std.proofs.Common.{subst}
use Rattle.arc_costs.specs.Totals.{Fits}
use Rattle.arc_costs.proofs.amount.CostAmount.add.Goals as goal

pub add-requires : goal.add-requires
add-requires c = c.requires (subst Fits c.numbers.ensures.numbers c.numbers_fit.ensures)
