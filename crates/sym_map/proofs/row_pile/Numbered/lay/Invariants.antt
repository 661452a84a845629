use Rattle.std.proofs.Common.{ℕ, ◌<◌, ◌≤◌, ◌^◌, ◌++◌, List, map}
use Rattle.std.specs.Prelude.{reverse, slice_index_or, slice_range}
use Rattle.dwarf_line.specs.declared.row.Row.{Row}
use Rattle.sym_map.specs.declared.range.Span.{Span}
use Rattle.sym_map.specs.inner.Piles.{IsPileOf}
use Rattle.sym_map.specs.inner.Rows.{line_spans, span_of}
use Rattle.sym_map.proofs.row_pile.Numbered.lay.Given as goal

abbrev pub invariant-rows : goal.invariant-rows
invariant-rows l = record {
  pile : (spans : List Span)
      → IsPileOf spans l.initial.laid.settled.ranges.items l.initial.laid.settled.end l.initial.laid.stack.items
      → IsPileOf (line_spans l.self.ids.now (reverse (map (span_of l.sequence.end)
      (slice_range l.self.rows.now.rows l.sequence.first l.i))) ++ spans)
      l.laid.settled.ranges.items l.laid.settled.end l.laid.stack.items;
  end : l.initial.laid.settled.end ≤ 2 ^ 32 → l.laid.settled.end ≤ 2 ^ 32;
  start : (k : ℕ) (d : Row) → l.i ≤ k → k < l.sequence.last
      → (slice_index_or l.self.rows.now.rows k d).addr < l.sequence.end
      → l.laid.settled.end ≤ (slice_index_or l.self.rows.now.rows k d).addr;
}
