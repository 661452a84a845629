use Rattle.std.proofs.Common.{◌≡◌, take}
use Rattle.event_costs.specs.FuncSet.{numbers}
use Rattle.contexts.proofs.func_list.FuncList.numbers.Given as goal

abbrev pub invariant-functions : goal.invariant-functions
invariant-functions l = l.numbers.items ≡ numbers (take l.func-index l.func-items)
