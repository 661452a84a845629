-- What a report says of all functions together, and of each group of functions.
use Rattle.std.specs.Prelude.{ℕ, ◌+◌, Bool, ◌==◌, nat_lt, List, [], ◌∷◌, ◌++◌, length, take, flat_map, slice_index}
use Rattle.std.specs.Prelude.{slice_index_or, codes, decimal, count_by}
use Rattle.std.specs.List.{join_by}
use Rattle.std.specs.Option.{option_map_or}
use Rattle.call_graph.specs.Groups.{Grouping, is_member}
use Rattle.byte_text.specs.Names.{clean_name, unknown}
use Rattle.cg_read.specs.Profiles.{Contents, function_at}
use Rattle.cg_read.specs.Totals.{total}
use Rattle.cycles.specs.Costs.{self_cost}
use Rattle.annotate.specs.Names.{costs_text, name_text}
use Rattle.report_rows.specs.Lists.{each_event}
use Rattle.report_rows.specs.Orders.{members, numbers}
use Rattle.report_rows.specs.declared.options.ReportOptions.{ReportOptions}

-- The heading

abbrev pub command_line : Contents → List ℕ
command_line p = codes "command: " ++ option_map_or clean_name p.command unknown ++ codes "\n"

abbrev pub heading : Contents → ReportOptions → List ℕ
heading p options =
    command_line p ++ (codes "events: " ++ join_by (λ name. name) (codes " ") p.events ++ codes "\n")
    ++ (codes "totals: " ++ costs_text (each_event p (total p)) ++ codes "\n")
    ++ (codes "sort: " ++ slice_index_or p.events options.sort [] ++ codes " threshold: " ++ decimal options.threshold
    ++ codes "\n")

-- Groups

-- what was counted in the functions that pass, for each event
abbrev pub self_text : Contents → (ℕ → Bool) → List ℕ
self_text p member = costs_text (each_event p (self_cost member p.self_rows))

-- the printed name of a function, by its number
abbrev pub function_text : Contents → ℕ → List ℕ
function_text p f = name_text (function_at p.functions f)

-- what was counted in a function, and its name
abbrev pub self_and_name : Contents → ℕ → List ℕ
self_and_name p f = self_text p (λ g. g == f) ++ codes " | " ++ function_text p f ++ codes "\n"

-- what was counted in a cycle, its number and its functions
abbrev pub cycle_text : Contents → (ℕ → Bool) → ℕ → List ℕ → List ℕ
cycle_text p member number functions =
    self_text p member ++ codes " | <cycle " ++ decimal number ++ codes ">\n"
    ++ flat_map (λ f. codes "  - | " ++ self_and_name p f) functions

-- a group behind its cost: a function, or the cycle with this number
abbrev pub group_rest : Contents → (ℕ → Bool) → ℕ → List ℕ → List ℕ
group_rest p member number (f ∷ []) = self_and_name p f
group_rest p member number functions = cycle_text p member number functions

-- a group of two functions or more
abbrev pub is_large : Grouping → List ℕ → ℕ → Bool
is_large groups functions group = nat_lt 1 (length (members groups functions group))

-- a group, which has this number if it is a cycle
abbrev pub group_text : Contents → Grouping → List (List ℕ) → List ℕ → ℕ → ℕ → List ℕ
group_text p groups costs functions number group =
    costs_text (slice_index_or costs group []) ++ codes " | "
    ++ group_rest p (is_member groups group) number (members groups functions group)

-- the groups that are shown, in their order; cycles are numbered from 1
abbrev pub functions_text : Contents → Grouping → List (List ℕ) → List ℕ → List ℕ → List ℕ
functions_text p groups costs functions shown =
    codes "\n-- functions\n"
    ++ flat_map (λ i. group_text p groups costs functions (count_by (is_large groups functions) (take i shown) + 1)
    (slice_index shown i)) (numbers (length shown))
