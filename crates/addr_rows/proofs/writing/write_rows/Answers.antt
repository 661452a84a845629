use Rattle.std.proofs.Common.{◌<◌, ◌∷◌, [], All, List, fold, length, map, reverse, sym, ap, ◌∙◌, subst, take, arith}
use Rattle.std.proofs.lemmas.List.{take_all}
use Rattle.std.proofs.lemmas.List.Elements.{All-get_or}
use Rattle.std.proofs.lemmas.List.Folds.{fold-map}
use Rattle.std.proofs.lemmas.List.Sums.{fold_more}
use Rattle.cg_format.specs.Heading.{totals}
use Rattle.cg_format.specs.Marks.{Mark, Plain, text_of}
use Rattle.cg_format.specs.Standing.{WriterState}
use Rattle.addr_rows.specs.Texts.{IsKnown, after_row, all_rows, heading}
use Rattle.addr_rows.specs.declared.row.AddrRow.{AddrRow}
use Rattle.addr_rows.specs.declared.row.RowRef.{RowRef}
use Rattle.addr_rows.specs.inner.Refs.{listed, no_row, row_of}
use Rattle.addr_rows.proofs.KnownLemmas.{functions_below, known_rows}
use Rattle.addr_rows.proofs.TextLemmas.{whole_part}
use Rattle.addr_rows.proofs.writing.write_rows.Goals as goal

pub refs-init : goal.refs-init
refs-init c = c.in_ok-put_heading.ensures c.args.syms.now [] (c.new-writer.ensures c.args.syms.now)

pub put_row-requires : goal.put_row-requires
put_row-requires c =
    let m = c.args.syms.now in
    let known = listed m c.args.rows.now in
    let inside : RowRef → Type 0 = λ place. place.index < length (all_rows known) in
    subst (IsKnown m) (sym c.row-row.ensures)
    (All-get_or (IsKnown m) (all_rows known) _ no_row
    (All-get_or inside c.deref-place-items.result.now c.refs.place-index _ (omega arith)
    (subst (All inside) (sym c.deref-place-items.ensures.value) c.in_ok-sorted.ensures.within))
    (known_rows m known c.requires))

pub refs-preserved : goal.refs-preserved
refs-preserved c =
    let m = c.args.syms.now in
    let rows = all_rows (listed m c.args.rows.now) in
    let step : List Mark → RowRef → List Mark = λ lines place. after_row c.args.head.now m lines (row_of rows place) in
    let start = reverse (map Plain (heading c.args.head.now c.in_ok-sum.sum)) in
    let xs = c.deref-place-items.result.now in
    let i = c.refs.place-index in
    let before = fold step start (take i xs) in
    let written : List Mark → Type 0 = λ lines. WriterState m lines c.put_row.new.writer in
    subst written
    (ap (λ (row : AddrRow). after_row c.args.head.now m before row) c.row-row.ensures
    ∙ sym (fold_more step start xs i _ (omega arith)))
    (c.in_ok-put_row.ensures before c.refs.invariant)

pub returns : goal.returns
returns c =
    let m = c.args.syms.now in
    let head = c.args.head.now in
    let rows = listed m c.args.rows.now in
    let sum = c.in_ok-sum.sum in
    let start = reverse (map Plain (heading head sum)) in
    let row : RowRef → AddrRow = row_of (all_rows rows) in
    let done = take c.refs.place-index c.deref-place-items.result.now in
    let written = c.in_ok-put_totals.ensures m _ c.refs.invariant in
    whole_part head rows m sum (map row done) c.into_text.result
    (c.into_text.ensures ∙ written.text
    ∙ ap (λ lines. text_of m (Plain (totals head sum) ∷ Plain [] ∷ lines)) (sym (fold-map (after_row head m) row start done)))
    (c.in_ok-sum.ensures m)
    (ap (map row) (take_all c.refs.place-index c.deref-place-items.result.now (omega arith)
    ∙ c.deref-place-items.ensures.value)
    ∙ c.in_ok-sorted.ensures.rows _ (functions_below m rows c.requires))
