use Rattle.std.proofs.Common.{◌≡◌, take}
use Rattle.event_costs.specs.FuncSet.{numbers}
use Rattle.contexts.proofs.context_ref.ContextRef.to_list.Given as goal

abbrev pub invariant-functions : goal.invariant-functions
invariant-functions l = numbers l.items.items ≡ take l.func-index l.func-items
