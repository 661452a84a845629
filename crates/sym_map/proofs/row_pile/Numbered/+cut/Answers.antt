use Rattle.std.proofs.Common.{ℕ, ◌+◌, ◌-◌, ◌/◌, List, subst, arith}
use Rattle.std.specs.Prelude.{slice_range}
use Rattle.std.proofs.lemmas.Result.{IfOk-weaker}
use Rattle.dwarf_line.specs.declared.row.Row.{Row}
use Rattle.dwarf_line.specs.declared.row.Sequence.{Sequence}
use Rattle.sym_map.specs.declared.range.Range.{Range}
use Rattle.sym_map.specs.declared.range.Span.{Span}
use Rattle.sym_map.specs.inner.Rows.{line_spans, piles}
use Rattle.sym_map.specs.inner.Spans.{IsCutOf, IsMergeOf}
use Rattle.sym_map.proofs.RowPiles.{lined_parts}
use Rattle.sym_map.proofs.Spans.{cut_of_both}
use Rattle.sym_map.proofs.row_pile.Numbered.+cut.Goals as goal

pub returns-in_ok-below-in_default : goal.returns-in_ok-below-in_default
returns-in_ok-below-in_default t c =
    let ids : List ℕ = c.args.self.now.ids.now in
    let rows : List Row = c.args.self.now.rows.now.rows in
    let sequences : List Sequence = c.args.self.now.rows.now.sequences in
    let middle : ℕ = c.args.first + (c.args.last - c.args.first) / 2 in
    let own : ℕ → ℕ → List Span = λ i j. line_spans ids (piles rows (slice_range sequences i j)) in
    let above : List Range = c.in_ok-above-in_default.above.items in
    let below : List Range = c.in_ok-below-in_default.below.items in
    let order = c.requires.order in
    IfOk-weaker c.merge.result (λ ranges. IsMergeOf c.deref.result.now c.deref-in_default.result.now ranges.items)
    (λ ranges. IsCutOf (own c.args.first c.args.last) ranges.items)
    (λ ranges m. subst (λ (xs : List Span). IsCutOf xs ranges.items)
    (lined_parts ids rows sequences c.args.first middle c.args.last (omega arith) (omega (arith, order)))
    (cut_of_both (own c.args.first middle) (own middle c.args.last) above below ranges.items
    c.in_ok-above-in_default.ensures c.in_ok-below-in_default.ensures
    (subst (λ (xs : List Range). IsMergeOf xs below ranges.items) c.deref.ensures.value
    (subst (λ (ys : List Range). IsMergeOf c.deref.result.now ys ranges.items) c.deref-in_default.ensures.value m))))
    c.merge.ensures
