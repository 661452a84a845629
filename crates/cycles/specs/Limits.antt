-- The sums of a profile, and which of them passes 2^64 - 1.
use Rattle.std.specs.Prelude.{ℕ, ◌^◌, ◌<◌, ◌≤◌, ◌==◌, Bool, ◌&&◌, if◌then◌else◌, List, length, slice_index, sum_by}
use Rattle.call_graph.specs.Reach.{IsGroup, Steps}
use Rattle.cg_read.specs.Profiles.{Contents}
use Rattle.cg_read.specs.Totals as totals
use Rattle.cg_read.specs.declared.rows.CallRow.{CallRow}
use Rattle.cycles.specs.Costs.{call_arcs, inclusive_cost}

-- the call is of this function by this one
abbrev pub is_pair : ℕ → ℕ → CallRow → Bool
is_pair caller callee row = row.caller == caller && row.callee == callee

-- what was counted for an event under all calls of one function by another, and how often it was called
abbrev pub pair_cost : ℕ → ℕ → List CallRow → ℕ → ℕ
pair_cost caller callee rows event =
    sum_by (λ row. if is_pair caller callee row then slice_index row.cost event else 0) rows

abbrev pub pair_calls : ℕ → ℕ → List CallRow → ℕ
pair_calls caller callee rows = sum_by (λ row. if is_pair caller callee row then row.calls else 0) rows

-- A sum of the profile at a position. An event's sums stand at its place: the total, those of the pairs of functions,
-- and the inclusive costs of the groups. How often functions are called stands after all events.
pub data IsSum (p : Contents) : ℕ → ℕ → Type 0 where
  of_total : (event : ℕ) → event < length p.events → IsSum p event (totals.total p event)
  of_pair : (event caller callee : ℕ) → event < length p.events
      → IsSum p event (pair_cost caller callee p.call_rows event)
  of_group : (event : ℕ) (member : ℕ → Bool) → event < length p.events → IsGroup (Steps (call_arcs p)) member
      → IsSum p event (inclusive_cost member p event)
  of_calls : (caller callee : ℕ) → IsSum p (length p.events) (pair_calls caller callee p.call_rows)

-- no sum before this position passes 2^64 - 1
abbrev pub AreWithinBefore : Contents → ℕ → Type 0
AreWithinBefore p position = (place sum : ℕ) → place < position → IsSum p place sum → sum < 2 ^ 64

-- a sum passes it here
pub record IsOver (p : Contents) (position : ℕ) : Type 0 where
  pub sum : ℕ
  pub of_profile : IsSum p position sum
  pub too_large : 2 ^ 64 ≤ sum

-- the first position where one does
pub record IsFirstOver (p : Contents) (position : ℕ) : Type 0 where
  pub too_large : IsOver p position
  pub first : AreWithinBefore p position

-- no sum passes it
abbrev pub AreAllWithin : Contents → Type 0
AreAllWithin p = (position sum : ℕ) → IsSum p position sum → sum < 2 ^ 64
