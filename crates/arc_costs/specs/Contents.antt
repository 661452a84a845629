-- What tables hold.
use Rattle.std.specs.Prelude.{ℕ, List}
use Rattle.event_costs.specs.Keys.{ArcKey, Place}
use Rattle.arc_costs.specs.Rows.{ArcRow, LineRow}
use Rattle.arc_costs.specs.declared.total.Total.{Total}

-- the rows of both tables in order of first addition, and how many new keys each takes without memory
pub record Contents : Type 0 where
  pub lines : List LineRow
  pub arcs : List ArcRow
  pub line_room : ℕ
  pub arc_room : ℕ

-- rows that are listed
pub record Listed : Type 0 where
  pub lines : List LineRow
  pub arcs : List ArcRow

-- rows with keys, and how many more fit without memory
pub record Keyed (K A : Type 0) : Type 0 where
  pub entries : List (K × A)
  pub spare : ℕ

-- one table: keys with their amounts in order of first addition, how many new keys it takes without memory, and for how
-- many more its map has places once the newest key has moved in
pub record Entries (K A : Type 0) : Type 0 where
  pub rows : List (K × A)
  pub room : ℕ
  pub ahead : ℕ

-- the row of a line, of its cost or its total, and the row of an arc
abbrev pub cost_row : Place × List ℕ → LineRow
cost_row e = record { place = e.0; cost = e.1 }

abbrev pub line_row : Place × Total → LineRow
line_row e = cost_row (e.0, e.1.cost)

abbrev pub arc_row : ArcKey × Total → ArcRow
arc_row e = record { arc = e.0; calls = e.1.calls; cost = e.1.cost }
