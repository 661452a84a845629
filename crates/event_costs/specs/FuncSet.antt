-- Sets of functions, as their numbers in rising order.
use Rattle.std.specs.Prelude.{ℕ, ◌==◌, Bool, List, map}
use Rattle.std.specs.List.{list_any}
use Rattle.event_costs.specs.declared.numbers.FuncId.{FuncId}

-- the numbers of the functions
abbrev pub numbers : List FuncId → List ℕ
numbers items = map (λ f. f.0) items

abbrev pub is_among : List FuncId → FuncId → Bool
is_among funcs func = list_any (λ f. func.0 == f.0) funcs
