use Rattle.std.proofs.Common.{length, take}
use Rattle.report_rows.specs.Orders.{members}
use Rattle.report_rows.specs.Tables.{AreLists}
use Rattle.report_rows.proofs.order.members_of.Given as goal

abbrev pub invariant-functions : goal.invariant-functions
invariant-functions l = AreLists (length l.groups.cyclic)
    (members l.groups (take l.function-index l.order)) l.members.items
