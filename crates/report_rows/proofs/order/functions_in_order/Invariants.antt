use Rattle.std.proofs.Common.{◌≡◌, map, take}
use Rattle.report_rows.proofs.order.functions_in_order.Given as goal

abbrev pub invariant-functions : goal.invariant-functions
invariant-functions l = l.order.items ≡ map (λ x. x.number) (take l.function-index l.function-items)
