use Rattle.std.proofs.Common.{◌≡◌, ◌<◌, ◌≤◌, ◌∙◌, List, get_or, sym, subst, arith}
use Rattle.std.proofs.lemmas.Option.{get_or_from_slice_get}
use Rattle.dwarf_line.specs.declared.row.Row.{Row}
use Rattle.dwarf_line.specs.declared.row.Sequence.{Sequence}
use Rattle.std.specs.Prelude.{slice_range}
use Rattle.sym_map.specs.inner.Piles.{IsPileOf}
use Rattle.sym_map.specs.inner.Rows.{line_spans, piles}
use Rattle.sym_map.proofs.Piles.{taken}
use Rattle.sym_map.proofs.RowPiles.{lined_down, range_none}
use Rattle.sym_map.proofs.row_pile.Numbered.pile_up.Goals as goal

pub sequences-init : goal.sequences-init
sequences-init c = record {
  from = omega arith;
  within = omega arith;
  end = omega (arith, c.new-pile.ensures.start);
  pile = rw (range_none c.args.self.now.rows.now.sequences c.args.last) c.new-pile.ensures.pile;
}

pub lay-requires-clause-start : goal.lay-requires-clause-start
lay-requires-clause-start c = λ d covered.
    let rows : List Row = c.args.self.now.rows.now.rows in
    let sequence : Sequence = c.sequence-sequence.result in
    let row : Row = c.row-start.result in
    let there : get_or rows sequence.first d ≡ row =
    get_or_from_slice_get rows sequence.first row d c.row-start.ensures.value in
    let P : Row → Type 0 = λ r. r.addr < sequence.end → c.sequences.pile.settled.end ≤ r.addr in
    subst P (sym there)
    (λ lt. taken c.sequences.pile.settled.end row.addr c.from.result (sym c.takes.ensures ∙ c.if-not-takes.false) (omega (arith, lt, c.from.ensures))) covered

pub sequences-preserved : goal.sequences-preserved
sequences-preserved c =
    let sequences : List Sequence = c.args.self.now.rows.now.sequences in
    let so = c.sequences.invariant in
    record {
      from = omega (arith, so.from);
      within = omega (arith, so.within);
      end = c.in_ok-lay.ensures.end so.end;
      pile = rw (lined_down c.args.self.now.ids.now c.args.self.now.rows.now.rows sequences c.sequences.number c.args.last
          c.sequence-sequence.result (omega arith) so.within c.sequence-sequence.ensures.value)
          (c.in_ok-lay.ensures.pile _ so.pile);
    }

pub returns : goal.returns
returns c =
    let end : c.sequences.number ≡ c.args.first = omega (arith, c.sequences.invariant.from) in
    c.in_ok-into_ranges.ensures _
    (subst (λ n. IsPileOf (line_spans c.args.self.now.ids.now (piles c.args.self.now.rows.now.rows
    (slice_range c.args.self.now.rows.now.sequences n c.args.last))) c.sequences.pile.settled.ranges.items
    c.sequences.pile.settled.end c.sequences.pile.stack.items) end c.sequences.invariant.pile)

pub into_ranges-requires : goal.into_ranges-requires
into_ranges-requires c = c.sequences.invariant.end
