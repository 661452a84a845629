use Rattle.std.proofs.Common.{◌≡◌, map}
use Rattle.report_rows.specs.Orders.{numbers}
use Rattle.report_rows.specs.Ranks.{numbered_function}
use Rattle.report_rows.proofs.order.with_numbers.Given as goal

abbrev pub invariant-functions : goal.invariant-functions
invariant-functions l = l.all.items ≡ map (numbered_function l.ranks) (numbers l.number)
