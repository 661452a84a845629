use Rattle.std.proofs.Common.{[], List, fold, map, reverse, sym, ap, ◌∙◌, subst, take, arith}
use Rattle.std.proofs.lemmas.List.{take_all}
use Rattle.std.proofs.lemmas.List.Sums.{fold_more}
use Rattle.arc_costs.specs.Contents.{Listed}
use Rattle.cg_format.specs.Heading.{heading}
use Rattle.cg_format.specs.Marks.{Mark, Plain}
use Rattle.cg_format.specs.Part.{after_row}
use Rattle.cg_format.specs.Sums.{sum_of_lines}
use Rattle.cg_format.specs.Standing.{IsKnown, WriterState}
use Rattle.cg_format.proofs.KnownLemmas.{functions_below, known_row}
use Rattle.cg_format.proofs.PartLemmas.{whole_part}
use Rattle.cg_format.proofs.part.write_named.Goals as goal

pub rows-init : goal.rows-init
rows-init g c =
    let m = g.N.Naming.map c.args.names.now in
    c.in_ok-put_heading.ensures m [] (c.new-writer.ensures m)

pub put_row-requires : goal.put_row-requires
put_row-requires g c =
    let m = g.N.Naming.map c.args.names.now in
    subst (IsKnown m) (sym c.wide.ensures)
    (known_row m c.args.rows.now c.in_ok-sorted.sorted.items c.deref-row-items.result.now c.rows.row-index
    c.row-item.result c.requires c.in_ok-sorted.ensures.permutation c.deref-row-items.ensures.value (omega arith)
    c.row-item.is)

pub rows-preserved : goal.rows-preserved
rows-preserved g c =
    let m = g.N.Naming.map c.args.names.now in
    let step = after_row c.args.head.now m in
    let start = reverse (map Plain (heading c.args.head.now c.sum_of_lines-sum.result)) in
    let xs = c.deref-row-items.result.now in
    let i = c.rows.row-index in
    let written : List Mark → Type 0 = λ lines. WriterState m lines c.put_row.new.writer in
    subst written
    (ap (step (fold step start (take i xs))) (c.wide.ensures ∙ c.row-item.is)
    ∙ sym (fold_more step start xs i c.row-item.result (omega arith)))
    (c.in_ok-put_row.ensures _ c.rows.invariant)

pub returns : goal.returns
returns g c =
    let m = g.N.Naming.map c.args.names.now in
    let rows = c.args.rows.now in
    let written = c.in_ok-put_totals.ensures m _ c.rows.invariant in
    let all = take_all c.rows.row-index c.deref-row-items.result.now (omega arith) in
    whole_part c.args.head.now rows m c.sum_of_lines-sum.result _ c.into_text.result
    (c.into_text.ensures ∙ written.text)
    (c.sum_of_lines-sum.ensures ∙ ap sum_of_lines c.deref.ensures.value
    ∙ ap (λ (r : Listed). sum_of_lines r.lines) c.rows-2.view_is)
    (all ∙ c.deref-row-items.ensures.value ∙ c.in_ok-sorted.ensures.rows _ (functions_below m rows c.requires))
