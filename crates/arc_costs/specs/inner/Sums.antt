-- Amounts that can be added, and that have all their numbers. A number that is held is below 2^64.
use Rattle.std.specs.Prelude.{ℕ, ◌+◌, ◌^◌, ◌<◌, List}
use Rattle.event_costs.specs.Costs.{IsWhole, sum_of_costs}
use Rattle.arc_costs.specs.Totals.{Fits}
use Rattle.arc_costs.specs.declared.total.Total.{Total}

abbrev pub CanAddCost : List ℕ → List ℕ → Type 0
CanAddCost held cost = Fits held → Fits (sum_of_costs held cost)

pub record CanAddTotal (held total : Total) : Type 0 where
  pub calls : held.calls < 2 ^ 64 → held.calls + total.calls < 2 ^ 64
  pub cost : CanAddCost held.cost total.cost

abbrev pub IsWholeTotal : Total → Type 0
IsWholeTotal total = IsWhole total.cost
