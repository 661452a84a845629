use Rattle.std.proofs.Common.{sym, subst}
use Rattle.dwarf_line.specs.inner.Tables.{IsTable}
use Rattle.dwarf_line.specs.inner.Building.{Building}
use Rattle.dwarf_line.proofs.Naming.{named_table}
use Rattle.dwarf_line.proofs.line_table.Rows.from_builder.Goals as goal

pub invariant_of-result : goal.invariant_of-result
invariant_of-result c =
    let table = subst (λ (b : Building). IsTable b.matrix.rows b.matrix.sequences b.files) (sym c.builder.view_is)
    c.requires in
    named_table c.builder.inside.files c.name_rows-files.result.items c.builder.inside.matrix
    c.name_rows-files.new.matrix table c.name_rows-files.ensures
