-- The orders of functions and of groups.
use Rattle.std.specs.Prelude.{ℕ, ◌*◌, Bool, ◌==◌, nat_le, List, [], length, filter, slice_index, slice_index_or}
use Rattle.std.specs.Prelude.{IsPermutation}
use Rattle.std.specs.List.{position_or_len, range_with_len}
use Rattle.std.specs.List.Sorted.{IsSorted}
use Rattle.std.specs.Ordering.{nat_cmp, ordering_then}
use Rattle.std.specs.declared.cmp.Ordering.{Ordering}
use Rattle.call_graph.specs.Groups.{Grouping}
use Rattle.cg_read.specs.Profiles.{Contents, function_at}
use Rattle.cg_read.specs.Totals.{total}
use Rattle.cg_read.specs.declared.rows.FuncKey.{FuncKey}
use Rattle.cycles.specs.Costs.{group_at}
use Rattle.report_rows.specs.declared.options.ReportOptions.{ReportOptions}
-- texts by their bytes
pub use Rattle.cg_read.specs.Ranks.{text_order}

-- the same elements, in this order
pub record IsArranged {X : Type 0} (order : X → X → Ordering) (xs ys : List X) : Type 0 where
  pub same : IsPermutation xs ys
  pub sorted : IsSorted order ys

-- the numbers from 0, so many of them
abbrev pub numbers : ℕ → List ℕ
numbers count = range_with_len 0 count

-- functions by file, then by name, then by object
abbrev pub key_order : FuncKey → FuncKey → Ordering
key_order f g =
    ordering_then (text_order f.file g.file)
    (ordering_then (text_order f.name g.name) (text_order f.object g.object))

abbrev pub function_order : Contents → ℕ → ℕ → Ordering
function_order p f g = key_order (function_at p.functions f) (function_at p.functions g)

-- all functions of a profile in their order
abbrev pub AreInOrder : Contents → List ℕ → Type 0
AreInOrder p functions = IsArranged (function_order p) (numbers (length p.functions)) functions

-- Groups. A group's cost stands at its number, and functions are those of the profile in their order.

abbrev pub in_group : Grouping → ℕ → ℕ → Bool
in_group groups group func = group_at groups func == group

-- a group's functions in their order
abbrev pub members : Grouping → List ℕ → ℕ → List ℕ
members groups functions group = filter (in_group groups group) functions

-- the place of its least function
abbrev pub least : Grouping → List ℕ → ℕ → ℕ
least groups functions group = position_or_len (in_group groups group) functions

-- what a group costs of an event
abbrev pub cost_at : List (List ℕ) → ℕ → ℕ → ℕ
cost_at costs event group = slice_index (slice_index_or costs group []) event

-- groups by falling cost of an event, then by their least functions
abbrev pub group_order : Grouping → List ℕ → List (List ℕ) → ℕ → ℕ → ℕ → Ordering
group_order groups functions costs event c d =
    ordering_then (nat_cmp (cost_at costs event d) (cost_at costs event c))
    (nat_cmp (least groups functions c) (least groups functions d))

-- The group costs at least the threshold's share of the total, which is in percent.
abbrev pub is_shown : Contents → List (List ℕ) → ReportOptions → ℕ → Bool
is_shown p costs options group =
    nat_le (options.threshold * total p options.sort) (cost_at costs options.sort group * 100)
