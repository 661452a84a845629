use Rattle.std.proofs.Common.{◌≡◌, None}
use Rattle.elf_read.specs.Checks.{table, first_fault}
use Rattle.elf_read.specs.Sections.{section_fault}
use Rattle.elf_read.proofs.section.check_sections.Given as goal

abbrev pub invariant-sections : goal.invariant-sections
invariant-sections l = first_fault (table (section_fault l.bytes) l.k) ≡ None
