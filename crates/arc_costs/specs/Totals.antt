-- The totals of keys: calls and a cost.
use Rattle.std.specs.Prelude.{ℕ, ◌+◌, ◌^◌, ◌<◌, ◌==◌, Bool, not, ◌||◌, All, List}
use Rattle.std.specs.List.{list_any}
use Rattle.event_costs.specs.Costs.{no_cost, sum_of_costs}
use Rattle.arc_costs.specs.Amounts as amounts
use Rattle.arc_costs.specs.declared.total.Total.{Total}

abbrev pub total : ℕ → List ℕ → Total
total calls cost = record { calls = calls; cost = cost }

-- a cost alone, and one call alone
abbrev pub of_cost : List ℕ → Total
of_cost cost = total 0 cost

abbrev pub one_call : Total
one_call = total 1 no_cost

-- the total of nothing
abbrev pub nothing : Total
nothing = of_cost no_cost

abbrev pub sum_of_totals : Total → Total → Total
sum_of_totals a b = total (a.calls + b.calls) (sum_of_costs a.cost b.cost)

-- a number of the cost isn't 0
abbrev pub is_some_cost : List ℕ → Bool
is_some_cost cost = list_any (λ n. not (n == 0)) cost

-- there are calls or a cost
abbrev pub is_some_total : Total → Bool
is_some_total t = not (t.calls == 0) || is_some_cost t.cost

-- no sum passes 64 bits
abbrev pub Fits : List ℕ → Type 0
Fits cost = All (λ n. n < 2 ^ 64) cost

module _ {K : Type 0} where
  -- every row with its key and a total of 0
  abbrev pub clear_totals : List (K × Total) → List (K × Total)
  clear_totals entries = amounts.clear_amounts nothing entries

  module _ (same : K → K → Bool) where
    abbrev pub add_total : List (K × Total) → K → Total → List (K × Total)
    add_total = amounts.add_amount same sum_of_totals
