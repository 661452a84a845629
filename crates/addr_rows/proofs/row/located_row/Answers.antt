use Rattle.std.proofs.Common.{◌≡◌, ◌-◌, ◌<◌, get_or, length, ap, subst, sym, ◌∙◌, arith}
use Rattle.arc_costs.specs.Contents.{Listed}
use Rattle.addr_rows.specs.EventRows.{located_arc, located_line, located_rows}
use Rattle.addr_rows.specs.Texts.{all_rows}
use Rattle.addr_rows.specs.declared.row.AddrRow.TheVariants.{Arc, Line}
use Rattle.addr_rows.specs.inner.Refs.{row_at}
use Rattle.addr_rows.proofs.RefLemmas.{arc_at, line_at}
use Rattle.addr_rows.proofs.row.located_row.Goals as goal

pub returns-then-index-lines : goal.returns-then-index-lines
returns-then-index-lines c =
    let m = c.args.syms.now in
    let i = c.args.index in
    ap Line c.located_line.ensures
    ∙ subst (λ (r : Listed). Line (located_line m c.index.result.now) ≡ row_at (all_rows (located_rows m r)) i)
    c.rows.view_is
    (line_at m (record { lines = c.rows.inside.lines.items; arcs = c.rows.inside.arcs.items }) i c.index.result.now
    (omega (arith, c.if-index-lines.true, c.len-lines.ensures)) c.index.ensures)

pub returns-else-index-lines : goal.returns-else-index-lines
returns-else-index-lines c =
    let m = c.args.syms.now in
    let i = c.args.index in
    let row = c.index-else-index-lines.result.now in
    let long : c.len-lines.result ≡ length c.rows.inside.lines.items = omega (arith, c.len-lines.ensures) in
    ap Arc c.located_arc.ensures
    ∙ subst (λ (r : Listed). Arc (located_arc m row) ≡ row_at (all_rows (located_rows m r)) i) c.rows.view_is
    (arc_at m (record { lines = c.rows.inside.lines.items; arcs = c.rows.inside.arcs.items }) i row
    (subst (λ (r : Listed). i < length (all_rows (located_rows m r))) (sym c.rows.view_is) c.requires)
    (omega (arith, c.if-index-lines.false, long))
    (subst (λ k. row ≡ get_or c.rows.inside.arcs.items (i - k) row) long c.index-else-index-lines.ensures))
