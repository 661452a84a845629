-- Line rows: the costs of places, each place once, in order of first addition (Callgrind format, cost lines).
use Rattle.std.specs.Prelude.{◌≡◌, ℕ, Bool, List, map, Option, position, slice_index}
use Rattle.event_costs.specs.Costs.{sum_of_costs, no_cost}
use Rattle.event_costs.specs.Keys.{Place}
use Rattle.event_costs.specs.Order.{same_place}
use Rattle.arc_costs.specs.Rows as rows
use Rattle.arc_costs.specs.Totals.{is_some_cost}
use Rattle.arc_costs.specs.Rows.{LineRow}

abbrev pub place_of : LineRow → Place
place_of row = row.place

abbrev pub line : Place → List ℕ → LineRow
line place cost = record { place = place; cost = cost }

abbrev pub plus_line : LineRow → LineRow → LineRow
plus_line row new = line row.place (sum_of_costs row.cost new.cost)

abbrev pub has_line : Place → List LineRow → Bool
has_line = rows.has_row place_of same_place

-- where the row of a place stands
abbrev pub line_index : Place → List LineRow → Option ℕ
line_index place lines = position (λ (row : LineRow). same_place place row.place) lines

-- the rows after a cost is added at a place
abbrev pub add_line : List LineRow → LineRow → List LineRow
add_line = rows.add_row place_of same_place plus_line

abbrev pub add_lines : List LineRow → List LineRow → List LineRow
add_lines = rows.add_rows place_of same_place plus_line

-- every row with its place and a cost of 0
abbrev pub cleared_lines : List LineRow → List LineRow
cleared_lines lines = map (λ row. line row.place no_cost) lines

-- the row isn't all 0
abbrev pub is_some_line : LineRow → Bool
is_some_line row = is_some_cost row.cost

-- the sum over the rows of a place, for a kind of event
abbrev pub line_sum : ℕ → Place → List LineRow → ℕ
line_sum event = rows.sum_at place_of same_place (λ row. slice_index row.cost event)

-- For each place and each kind of event, the rows have the sum of what was added.
abbrev pub LinesStandFor : List LineRow → List LineRow → Type 0
LinesStandFor lines additions = (event : ℕ) (place : Place)
    → line_sum event place lines ≡ line_sum event place additions
