use Rattle.std.proofs.Common.{◌≡◌, ◌++◌, take, flat_map, codes, decimal}
use Rattle.annotate.proofs.names.push_costs.Given as goal

abbrev pub invariant-costs : goal.invariant-costs
invariant-costs l = l.text ≡ l.initial.text ++ flat_map (λ n. codes " " ++ decimal n) (take l.cost-index l.rest)
