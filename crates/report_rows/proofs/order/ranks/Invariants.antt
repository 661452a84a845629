use Rattle.std.proofs.Common.{◌≡◌, map}
use Rattle.report_rows.specs.Orders.{numbers}
use Rattle.report_rows.specs.Ranks.{rank_of}
use Rattle.report_rows.specs.Tables.{lists}
use Rattle.report_rows.proofs.order.ranks.Given as goal

abbrev pub invariant-groups : goal.invariant-groups
invariant-groups l = l.ranks.items ≡ map (rank_of l.costs l.sort (lists l.members) l.places) (numbers l.group)
