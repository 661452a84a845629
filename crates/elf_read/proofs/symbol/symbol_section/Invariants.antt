use Rattle.std.proofs.Common.{◌≡◌, None}
use Rattle.std.specs.List.{find}
use Rattle.elf_read.specs.Checks.{table}
use Rattle.elf_read.specs.Sections.{section_header}
use Rattle.elf_read.specs.Symbols.{is_symbol_table}
use Rattle.elf_read.proofs.symbol.symbol_section.Given as goal

abbrev pub invariant-sections : goal.invariant-sections
invariant-sections l = find is_symbol_table (table (section_header l.bytes) l.k) ≡ None
