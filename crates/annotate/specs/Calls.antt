-- What a report says of the calls between functions.
use Rattle.std.specs.Prelude.{ℕ, Bool, true, false, ◌==◌, if◌then◌else◌, List, [], ◌++◌, flat_map, filter, codes}
use Rattle.std.specs.Prelude.{decimal}
use Rattle.std.specs.List.{list_any}
use Rattle.call_graph.specs.Groups.{Grouping}
use Rattle.cg_read.specs.Profiles.{Contents}
use Rattle.cycles.specs.Costs.{group_at}
use Rattle.cycles.specs.Limits.{is_pair, pair_calls, pair_cost}
use Rattle.annotate.specs.Names.{costs_text}
use Rattle.report_rows.specs.Lists.{each_event}
use Rattle.report_rows.specs.Orders.{members}
use Rattle.annotate.specs.Functions.{function_text}
use Rattle.report_rows.specs.declared.options.Tree.{Tree}
use Rattle.report_rows.specs.declared.options.Tree.TheVariants.{Off, Caller, Calling, Both}

-- one function calls another, or itself
abbrev pub is_call : Contents → ℕ → ℕ → Bool
is_call p caller callee = list_any (is_pair caller callee) p.call_rows

-- what was counted under all calls of the one by the other: none is told within a group
abbrev pub pair_text : Contents → Grouping → ℕ → ℕ → List ℕ
pair_text p groups caller callee =
    if group_at groups caller == group_at groups callee then codes "-"
    else costs_text (each_event p (pair_cost caller callee p.call_rows))

-- how often the one was called by the other, that cost, and a function's name
abbrev pub call_line : Contents → Grouping → List ℕ → ℕ → ℕ → ℕ → List ℕ
call_line p groups mark caller callee named =
    mark ++ decimal (pair_calls caller callee p.call_rows) ++ codes " | " ++ pair_text p groups caller callee
    ++ codes " | " ++ function_text p named ++ codes "\n"

-- all functions that call this one, in the order of functions
abbrev pub callers_text : Contents → Grouping → List ℕ → ℕ → List ℕ
callers_text p groups functions f =
    flat_map (λ g. call_line p groups (codes "  < ") g f g) (filter (λ g. is_call p g f) functions)

-- all functions that this one calls
abbrev pub callees_text : Contents → Grouping → List ℕ → ℕ → List ℕ
callees_text p groups functions f =
    flat_map (λ g. call_line p groups (codes "  > ") f g g) (filter (λ g. is_call p f g) functions)

-- a function with its callers, its callees, or both
abbrev pub calls_of : Contents → Grouping → List ℕ → Tree → ℕ → List ℕ
calls_of p groups functions Off f = []
calls_of p groups functions Caller f = function_text p f ++ codes "\n" ++ callers_text p groups functions f
calls_of p groups functions Calling f = function_text p f ++ codes "\n" ++ callees_text p groups functions f
calls_of p groups functions Both f =
    function_text p f ++ codes "\n" ++ callers_text p groups functions f ++ callees_text p groups functions f

abbrev pub is_off : Tree → Bool
is_off Off = true
is_off _ = false

-- the functions of the groups that are shown, in the order of their lines
abbrev pub calls_text : Contents → Grouping → List ℕ → List ℕ → Tree → List ℕ
calls_text p groups functions shown tree =
    if is_off tree then []
    else codes "\n-- calls\n" ++ flat_map (calls_of p groups functions tree) (flat_map (members groups functions) shown)
