use Rattle.std.proofs.Common.{◌+◌, ◌*◌, ◌≤◌, ◌^◌, ℕ}
use Rattle.cases.specs.Within.{IsWithin}
use Rattle.cases.proofs.refused.fill.Given as goal

abbrev pub invariant-turns : goal.invariant-turns
invariant-turns l = record {
  within : (limit : ℕ) → IsWithin limit l.fn.tables.lines l.fn.tables.arcs
      → IsWithin (limit + l.turn * 2 ^ 32) l.tables.lines l.tables.arcs;
  line_room : 1 ≤ l.tables.line_room;
  arc_room : 1 ≤ l.tables.arc_room;
}
