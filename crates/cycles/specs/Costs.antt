-- The groups of a profile's functions, and what they cost with all that they call.
use Rattle.std.specs.Prelude.{◌≡◌, ℕ, ◌+◌, ◌<◌, Bool, not, ◌&&◌, if◌then◌else◌, List, [], length, map, slice_index}
use Rattle.std.specs.Prelude.{slice_index_or, sum_by}
use Rattle.call_graph.specs.Groups.{Grouping, IsGrouping, is_member}
use Rattle.call_graph.specs.declared.arc.CallArc.{CallArc}
use Rattle.cg_read.specs.Profiles.{Contents}
use Rattle.cg_read.specs.declared.rows.CallRow.{CallRow}
use Rattle.cg_read.specs.declared.rows.SelfRow.{SelfRow}

-- a call row leads from its caller to its callee
abbrev pub arc_of : CallRow → CallArc
arc_of row = record { caller = row.caller; callee = row.callee }

abbrev pub call_arcs : Contents → List CallArc
call_arcs p = map arc_of p.call_rows

-- the groups of the profile's functions over its call rows
abbrev pub IsGroupsOf : Contents → Grouping → Type 0
IsGroupsOf p groups = IsGrouping (length p.functions) (call_arcs p) groups

-- the number of a function's group
abbrev pub group_at : Grouping → ℕ → ℕ
group_at groups func = slice_index groups.number func

-- what was counted for an event in the functions that pass a test
abbrev pub self_cost : (ℕ → Bool) → List SelfRow → ℕ → ℕ
self_cost member rows event = sum_by (λ row. if member row.func then slice_index row.cost event else 0) rows

-- the call leads from a function that passes to one that doesn't
abbrev pub is_leaving : (ℕ → Bool) → CallRow → Bool
is_leaving member row = member row.caller && not (member row.callee)

abbrev pub leaving_cost : (ℕ → Bool) → List CallRow → ℕ → ℕ
leaving_cost member rows event = sum_by (λ row. if is_leaving member row then slice_index row.cost event else 0) rows

-- The inclusive cost of the functions that pass: what was counted in them, and under their calls of others.
abbrev pub inclusive_cost : (ℕ → Bool) → Contents → ℕ → ℕ
inclusive_cost member p event = self_cost member p.self_rows event + leaving_cost member p.call_rows event

-- for each group its inclusive cost of each event
pub record IsInclusive (p : Contents) (groups : Grouping) (costs : List (List ℕ)) : Type 0 where
  pub count : length costs ≡ length groups.cyclic
  pub width : (group : ℕ) → group < length costs → length (slice_index_or costs group []) ≡ length p.events
  pub exact : (group event : ℕ) → group < length costs → event < length p.events
      → slice_index (slice_index_or costs group []) event ≡ inclusive_cost (is_member groups group) p event
