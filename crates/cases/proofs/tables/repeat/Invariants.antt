use Rattle.std.proofs.Common.{◌≡◌, ◌+◌, ◌*◌, ◌≤◌, ◌^◌, ℕ, false}
use Rattle.arc_costs.specs.Arcs.{has_arc}
use Rattle.arc_costs.specs.Lines.{has_line}
use Rattle.cases.specs.Within.{IsWithin}
use Rattle.cases.proofs.tables.repeat.Given as goal

abbrev pub invariant-additions : goal.invariant-additions
invariant-additions l = record {
  line : has_line l.place l.tables.lines ≡ false → 1 ≤ l.tables.line_room;
  arc : has_arc l.arc l.tables.arcs ≡ false → 1 ≤ l.tables.arc_room;
  within : (limit : ℕ) → IsWithin limit l.fn.tables.lines l.fn.tables.arcs
      → IsWithin (limit + l.turn * 2 ^ 32) l.tables.lines l.tables.arcs;
}
