-- Arc rows: the calls and costs of arcs, each arc once, in order of first addition (Callgrind format, calls lines).
use Rattle.std.specs.Prelude.{◌≡◌, ℕ, ◌+◌, Bool, List, map, slice_index}
use Rattle.event_costs.specs.Costs.{sum_of_costs, no_cost}
use Rattle.event_costs.specs.Keys.{ArcKey}
use Rattle.event_costs.specs.Order.{same_arc}
use Rattle.arc_costs.specs.Rows as rows
use Rattle.arc_costs.specs.Totals.{is_some_total}
use Rattle.arc_costs.specs.Rows.{ArcRow}

abbrev pub arc_of : ArcRow → ArcKey
arc_of row = row.arc

-- what a closed frame adds to its arc, and what a pushed one does
abbrev pub cost_of_arc : ArcKey → List ℕ → ArcRow
cost_of_arc arc cost = record { arc = arc; calls = 0; cost = cost }

abbrev pub call_of_arc : ArcKey → ArcRow
call_of_arc arc = record { arc = arc; calls = 1; cost = no_cost }

abbrev pub plus_arc : ArcRow → ArcRow → ArcRow
plus_arc row new = record { arc = row.arc; calls = row.calls + new.calls; cost = sum_of_costs row.cost new.cost }

abbrev pub has_arc : ArcKey → List ArcRow → Bool
has_arc = rows.has_row arc_of same_arc

-- the rows after a cost or calls are added at an arc
abbrev pub add_arc : List ArcRow → ArcRow → List ArcRow
add_arc = rows.add_row arc_of same_arc plus_arc

abbrev pub add_arcs : List ArcRow → List ArcRow → List ArcRow
add_arcs = rows.add_rows arc_of same_arc plus_arc

-- every row with its arc, no calls and a cost of 0
abbrev pub cleared_arcs : List ArcRow → List ArcRow
cleared_arcs arcs = map (λ row. cost_of_arc row.arc no_cost) arcs

-- the row isn't all 0: it has calls or a cost
abbrev pub is_some_arc : ArcRow → Bool
is_some_arc row = is_some_total (record { calls = row.calls; cost = row.cost })

-- the sums over the rows of an arc: for a kind of event, and of the calls
abbrev pub arc_sum : ℕ → ArcKey → List ArcRow → ℕ
arc_sum event = rows.sum_at arc_of same_arc (λ row. slice_index row.cost event)

abbrev pub call_sum : ArcKey → List ArcRow → ℕ
call_sum = rows.sum_at arc_of same_arc (λ row. row.calls)

-- For each arc, the rows have the calls, and for each kind of event the sum, of what was added.
pub record ArcsStandFor (arcs additions : List ArcRow) : Type 0 where
  pub calls : (arc : ArcKey) → call_sum arc arcs ≡ call_sum arc additions
  pub costs : (event : ℕ) (arc : ArcKey) → arc_sum event arc arcs ≡ arc_sum event arc additions
