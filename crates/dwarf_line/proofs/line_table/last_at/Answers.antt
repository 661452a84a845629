use Rattle.std.proofs.Common.{◌∙◌}
use Rattle.dwarf_line.proofs.LookUp.{row_taken, row_passed}
use Rattle.dwarf_line.proofs.line_table.last_at.Goals as goal
use Rattle.dwarf_line.proofs.line_table.last_at.Goals.{then-row-addr, else-row-addr}

pub loop-row-preserved : goal.loop-row-preserved
loop-row-preserved c =
    elim c.if-row-addr.branch [
      | then-row-addr w ↦ w.last-is ∙ row_taken c.args.addr c.args.rows.now c.loop-row.row-index _ c.loop-row-test.true
          w.if-row-addr.true
      | else-row-addr w ↦ w.last-is ∙ c.loop-row.invariant
          ∙ row_passed c.args.addr c.args.rows.now c.loop-row.row-index _ c.loop-row-test.true w.if-row-addr.false
    ]
