-- The kinds of event that are counted, and costs as lists of numbers, one for each kind.
use Rattle.std.specs.Prelude.{◌≡◌, ℕ, ◌+◌, ◌-◌, Bool, if◌then◌else◌, List, length, map, replicate, take}
use Rattle.std.specs.Simd.Lanes.{zip2}
use Rattle.event_costs.specs.Kinds.{kinds, kinds_without_branches, name}

-- how many kinds of event there are
abbrev pub event_kinds : ℕ
event_kinds = 13

-- their names, in the order of their numbers
unfoldable pub event_names : List (List ℕ)
event_names = map name kinds

-- The events shown, of a list with an element for each kind of event, as their names or a cost: all of them where
-- branches are asked for, else those that aren't of branches, which come first.
abbrev pub events_shown : {A : Type 0} → Bool → List A → List A
events_shown branches all = if branches then all else take kinds_without_branches all

-- a number for each kind of event
abbrev pub IsWhole : List ℕ → Type 0
IsWhole cost = length cost ≡ event_kinds

-- number by number
abbrev pub sum_of_costs : List ℕ → List ℕ → List ℕ
sum_of_costs xs ys = zip2 (λ x y. x + y) xs ys

abbrev pub difference_of_costs : List ℕ → List ℕ → List ℕ
difference_of_costs xs ys = zip2 (λ x y. x - y) xs ys

-- the cost of nothing: a 0 for each kind of event
abbrev pub no_cost : List ℕ
no_cost = replicate event_kinds 0
