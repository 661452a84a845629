use Rattle.std.proofs.Common.{sym, ◌∙◌}
use Rattle.dwarf_line.proofs.LookUp.{passed, found}
use Rattle.dwarf_line.proofs.line_table.Rows.row_at.Goals as goal

pub returns-then-covers : goal.returns-then-covers
returns-then-covers c =
    rw c.last_at.ensures (found c.args.self.now.files c.rows-rows.result.now c.sequences-sequence-items.result.now
    c.args.addr c.sequences.sequence-index _ _ c.sequences-test.true
    (sym c.covers.ensures ∙ c.if-covers.true) c.sequences.invariant)

pub sequences-preserved : goal.sequences-preserved
sequences-preserved c =
    sym (passed c.args.self.now.files c.rows-rows.result.now c.sequences-sequence-items.result.now c.args.addr
    c.sequences.sequence-index _ c.sequences-test.true (sym c.covers.ensures ∙ c.if-covers.false))
    ∙ c.sequences.invariant
