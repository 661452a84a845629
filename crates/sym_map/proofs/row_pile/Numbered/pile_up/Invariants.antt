use Rattle.std.proofs.Common.{◌≤◌, ◌^◌}
use Rattle.std.specs.Prelude.{slice_range}
use Rattle.sym_map.specs.inner.Piles.{IsPileOf}
use Rattle.sym_map.specs.inner.Rows.{line_spans, piles}
use Rattle.sym_map.proofs.row_pile.Numbered.pile_up.Given as goal

abbrev pub invariant-sequences : goal.invariant-sequences
invariant-sequences l = record {
  from : l.first ≤ l.number;
  within : l.number ≤ l.last;
  end : l.pile.settled.end ≤ 2 ^ 32;
  pile : IsPileOf (line_spans l.self.ids.now (piles l.self.rows.now.rows (slice_range l.self.rows.now.sequences l.number l.last)))
      l.pile.settled.ranges.items l.pile.settled.end l.pile.stack.items;
}
