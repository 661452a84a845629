use Rattle.std.proofs.Common.{◌≡◌, ℕ, ◌<◌, ◌≤◌, ◌++◌, List, get_or, map, subst, arith}
use Rattle.std.specs.Prelude.{reverse, slice_range}
use Rattle.std.proofs.lemmas.Option.{get_or_from_slice_get}
use Rattle.dwarf_line.specs.declared.row.Row.{Row}
use Rattle.dwarf_line.specs.declared.row.Sequence.{Sequence}
use Rattle.sym_map.specs.inner.Piles.{IsPileOf}
use Rattle.sym_map.specs.inner.Rows.{line_spans, pile, span_of}
use Rattle.sym_map.proofs.RowPiles.{pile_up, range_none, rows_rise}
use Rattle.sym_map.proofs.row_pile.Numbered.lay.Goals as goal

pub rows-init : goal.rows-init
rows-init c =
    let rows : List Row = c.args.self.now.rows.now.rows in
    let sequence : Sequence = c.args.sequence in
    record {
      pile = λ spans so. rw (range_none rows sequence.first) so;
      end = λ small. small;
      start = λ k d from lt covered.
          let up = rows_rise rows sequence sequence.first k d c.requires.placed c.requires.rises (omega arith) from lt in
          let low = c.requires.start d (omega arith) in
          omega arith;
    }

pub lay-requires : goal.lay-requires
lay-requires c = λ covered.
    let rows : List Row = c.args.self.now.rows.now.rows in
    let row : Row = c.row-row.result in
    let there : get_or rows c.rows.i row ≡ row = get_or_from_slice_get rows c.rows.i row row c.row-row.ensures.value in
    let P : Row → Type 0 = λ r. r.addr < c.args.sequence.end → c.rows.laid.settled.end ≤ r.addr in
    subst P there (c.rows.invariant.start c.rows.i row (omega arith) (omega arith)) (omega (arith, covered, c.from.ensures))

pub rows-preserved : goal.rows-preserved
rows-preserved c =
    let rows : List Row = c.args.self.now.rows.now.rows in
    let sequence : Sequence = c.args.sequence in
    let i : ℕ = c.rows.i in
    let so = c.rows.invariant in
    let row : Row = c.row-row.result in
    record {
      pile = λ spans is. rw (pile_up rows sequence.end sequence.first i row (omega arith) c.row-row.ensures.value)
          (rw (c.from.ensures, c.line.ensures) at (c.in_ok-lay.ensures.pile _ (so.pile spans is)));
      end = λ small. let before = so.end small in omega (arith, before, c.in_ok-lay.ensures.end);
      start = λ k d from lt covered.
          let there : get_or rows i d ≡ row = get_or_from_slice_get rows i row d c.row-row.ensures.value in
          let up : row.addr ≤ (get_or rows k d).addr =
          subst (λ (r : Row). r.addr ≤ (get_or rows k d).addr) there
          (rows_rise rows sequence i k d c.requires.placed c.requires.rises (omega arith) (omega arith) lt) in
          let before = so.start k d (omega arith) lt covered in
          omega (arith, up, before, c.in_ok-lay.ensures.end);
    }

pub returns-clause-pile : goal.returns-clause-pile
unfolding pile
returns-clause-pile c = λ spans so.
    let end : c.rows.i ≡ c.args.sequence.last = omega (arith, c.requires.placed.0) in
    subst (λ n. IsPileOf (line_spans c.args.self.now.ids.now (reverse (map (span_of c.args.sequence.end)
    (slice_range c.args.self.now.rows.now.rows c.args.sequence.first n))) ++ spans)
    c.rows.laid.settled.ranges.items c.rows.laid.settled.end c.rows.laid.stack.items) end
    (c.rows.invariant.pile spans so)

pub returns-clause-end : goal.returns-clause-end
returns-clause-end c = c.rows.invariant.end
