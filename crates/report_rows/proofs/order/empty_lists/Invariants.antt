use Rattle.std.proofs.Common.{◌≡◌, [], replicate}
use Rattle.report_rows.specs.Tables.{lists}
use Rattle.report_rows.proofs.order.empty_lists.Given as goal

abbrev pub invariant-places : goal.invariant-places
invariant-places l = lists l.lists.items ≡ replicate l._place []
