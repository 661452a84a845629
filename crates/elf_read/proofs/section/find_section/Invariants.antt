use Rattle.std.proofs.Common.{◌≡◌, None}
use Rattle.std.specs.List.{find}
use Rattle.elf_read.specs.Checks.{table}
use Rattle.elf_read.specs.Sections.{section_at, is_named}
use Rattle.elf_read.proofs.section.find_section.Given as goal

abbrev pub invariant-sections : goal.invariant-sections
invariant-sections l = find (is_named l.bytes l.name) (table (section_at l.bytes) l.k) ≡ None
