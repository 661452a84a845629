-- The sums of a part's line rows.
use Rattle.std.specs.Prelude.{ℕ, List, fold}
use Rattle.event_costs.specs.Costs.{no_cost, sum_of_costs}
use Rattle.arc_costs.specs.Rows.{LineRow}

-- the cost of all line rows together
abbrev pub sum_of_lines : List LineRow → List ℕ
sum_of_lines lines = fold (λ sum row. sum_of_costs sum row.cost) no_cost lines
