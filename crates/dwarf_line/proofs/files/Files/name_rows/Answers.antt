use Rattle.std.proofs.Common.{ℕ, ◌<◌, List, length, sym, subst}
use Rattle.std.specs.List.{AllByRecursion}
use Rattle.dwarf_line.specs.declared.row.Row.{Row}
use Rattle.dwarf_line.specs.inner.Files.{IsNamed}
use Rattle.dwarf_line.proofs.Naming.{is_named}
use Rattle.dwarf_line.proofs.files.Files.name_rows.Goals as goal

pub returns : goal.returns
returns c =
    let numbers = c.self.inside.numbers.items in
    let texts = c.self.inside.texts.items in
    let known = subst (λ (files : List (List ℕ)). AllByRecursion (λ (row : Row). row.file < length files)
    c.args.matrix.now.rows) (sym c.self.view_is) c.requires in
    let renamed = rw c.deref.ensures.value at c.rename.ensures in
    subst (λ (files : List (List ℕ)). IsNamed files c.args.matrix.now c.rename.new.self texts) c.self.view_is
    (is_named numbers texts c.args.matrix.now c.rename.new.self c.self.invariant known renamed)
