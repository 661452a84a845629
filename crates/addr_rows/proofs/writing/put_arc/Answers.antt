use Rattle.std.proofs.Common.{OnOk, subst}
use Rattle.cg_format.specs.Standing.{WriterState}
use Rattle.addr_rows.specs.Texts.{row_lines}
use Rattle.addr_rows.specs.declared.row.AddrRow.TheVariants.{Arc}
use Rattle.addr_rows.specs.declared.rows.AddrArc.{AddrArc}
use Rattle.addr_rows.proofs.writing.put_arc.Goals as goal

pub returns : goal.returns
returns c before wrote =
    let at = c.in_ok-enter_file.ensures before wrote in
    let named = c.in_ok-put_callee.ensures _ at in
    let counted = c.in_ok-put_line.ensures _ _ named in
    let m = c.args.syms.now in
    subst (λ (row : AddrArc). OnOk c.put_line-2.result (WriterState m (row_lines c.args.head.now m before (Arc row))
    c.put_line-2.new.self)) c.row.view_is
    (simp (
      c.home.ensures.number,
      c.wide.ensures,
      c.as_bytes.ensures,
      c.as_bytes-2.ensures,
      c.in_ok-calls.ensures,
      c.in_ok-costs.ensures,
    ) at (c.put_line-2.ensures _ _ counted))
