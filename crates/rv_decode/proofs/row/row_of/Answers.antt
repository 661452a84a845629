use Rattle.std.proofs.Common.{Contains, subst, sym, ap, ◌∙◌}
use Rattle.rv_decode.specs.declared.row.Row.{Row}
use Rattle.rv_decode.specs.Table.{listed_rows}
use Rattle.rv_decode.proofs.RowLemmas.{only_row, op_of, row_at, row_of-contained}
use Rattle.rv_decode.proofs.row.row_of.Goals as goal

pub returns-clause-row : goal.returns-clause-row
returns-clause-row c = row_at c.args.op _

pub returns-clause-of_the_table : goal.returns-clause-of_the_table
returns-clause-of_the_table c =
    let P : Row → Type 0 = λ r. Contains listed_rows r in
    subst P (sym (row_at c.args.op _)) (row_of-contained c.args.op)

pub returns-clause-of_the_op : goal.returns-clause-of_the_op
returns-clause-of_the_op c = ap (λ (r : Row). r.op) (row_at c.args.op _) ∙ op_of c.args.op

pub returns-clause-only : goal.returns-clause-only
returns-clause-only c = λ k d within named. only_row c.args.op k d within named ∙ sym (row_at c.args.op _)
