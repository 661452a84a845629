use Rattle.std.proofs.Common.{◌*◌, ◌≤◌, ◌^◌}
use Rattle.cases.specs.Within.{IsWithin}
use Rattle.cases.proofs.tables.after.Given as goal

abbrev pub invariant-steps : goal.invariant-steps
invariant-steps l = record {
  within : IsWithin l.bounded.limit l.bounded.tables.lines l.bounded.tables.arcs;
  limit : l.bounded.limit ≤ l.step-index * 2 ^ 32;
}
