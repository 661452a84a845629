use Rattle.std.proofs.Common.{◌≤◌, List, length}
use Rattle.sym_map.specs.declared.range.Span.{Span}
use Rattle.sym_map.specs.inner.Piles.{IsPileOf}
use Rattle.sym_map.proofs.pile.Pile.settle.Given as goal

abbrev pub invariant-stack : goal.invariant-stack
invariant-stack l = record {
  start : l.self.settled.end ≤ l.end;
  pile : (spans : List Span)
      → IsPileOf spans l.initial.self.settled.ranges.items l.initial.self.settled.end l.initial.self.stack.items
      → IsPileOf spans l.self.settled.ranges.items l.self.settled.end l.self.stack.items;
}

abbrev pub decreases-stack : goal.decreases-stack
decreases-stack l = length l.self.stack.items
