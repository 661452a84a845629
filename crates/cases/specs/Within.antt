-- Sums that are within a limit.
use Rattle.std.specs.Prelude.{ℕ, ◌≤◌, List}
use Rattle.event_costs.specs.Keys.{ArcKey, Place}
use Rattle.arc_costs.specs.Arcs.{arc_sum, call_sum}
use Rattle.arc_costs.specs.Lines.{line_sum}
use Rattle.arc_costs.specs.Rows.{ArcRow, LineRow}

pub record IsWithin (limit : ℕ) (lines : List LineRow) (arcs : List ArcRow) : Type 0 where
  pub line_costs : (event : ℕ) (place : Place) → line_sum event place lines ≤ limit
  pub arc_costs : (event : ℕ) (arc : ArcKey) → arc_sum event arc arcs ≤ limit
  pub calls : (arc : ArcKey) → call_sum arc arcs ≤ limit
