use Rattle.std.proofs.Common.{◌≤◌, ◌^◌, length, drop}
use Rattle.sym_map.specs.inner.Piles.{IsPileOf}
use Rattle.sym_map.proofs.pile.pile_up.Given as goal

abbrev pub invariant-spans : goal.invariant-spans
invariant-spans l = record {
  within : l.i ≤ length l.spans;
  start : l.pile.settled.end ≤ 2 ^ 32;
  is : IsPileOf (drop l.i l.spans) l.pile.settled.ranges.items l.pile.settled.end l.pile.stack.items;
}
