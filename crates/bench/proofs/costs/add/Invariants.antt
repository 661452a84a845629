use Rattle.std.proofs.Common.{◌≤◌, ℕ}
use Rattle.event_costs.specs.Keys.{Place}
use Rattle.arc_costs.specs.Lines.{line_sum}
use Rattle.bench.proofs.costs.add.Given as goal

abbrev pub invariant-additions : goal.invariant-additions
invariant-additions l = (event : ℕ) (place : Place) → line_sum event place l.tables.lines ≤ l.turn
