use Rattle.std.proofs.Common.{◌≡◌, ◌++◌, map, take}
use Rattle.dwarf_line.specs.FileText.{file_text}
use Rattle.dwarf_line.specs.inner.Paths.{entry_in}
use Rattle.dwarf_line.proofs.file_text.push_texts.Given as goal

abbrev pub invariant-files : goal.invariant-files
invariant-files l = l.texts ≡ l.fn.texts ++ map (file_text (map (entry_in l.strings) l.directories))
    (map (entry_in l.strings) (take l.i l.files))
