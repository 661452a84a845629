use Rattle.std.proofs.Common.{◌≡◌, ◌<◌, true, false, sym, ap, ◌∙◌, eq-eqb, arith}
use Rattle.elf_read.specs.Sections.{section_header, section_count}
use Rattle.elf_read.specs.Symbols.{is_symbol_table, symbol_section}
use Rattle.elf_read.proofs.TableLemmas.{find_goes_on, find_ends}
use Rattle.elf_read.proofs.symbol.symbol_section.Goals as goal

pub returns-then-section-eq-SHT_SYMTAB : goal.returns-then-section-eq-SHT_SYMTAB
unfolding symbol_section
returns-then-section-eq-SHT_SYMTAB c =
    let b = c.args.bytes.now in
    let k = c.sections.k in
    let below : k < section_count b = omega arith in
    let passes : is_symbol_table (section_header b k) ≡ true = ap is_symbol_table (sym c.section_header-section.ensures)
    ∙ eq-eqb _ _ c.if-section-eq-SHT_SYMTAB.true in
    rw c.section_header-section.ensures
    (sym (find_ends is_symbol_table (section_header b) (section_count b) k below c.sections.invariant passes))

pub sections-preserved : goal.sections-preserved
sections-preserved c =
    let b = c.args.bytes.now in
    let k = c.sections.k in
    let fails : is_symbol_table (section_header b k) ≡ false = ap is_symbol_table (sym c.section_header-section.ensures)
    ∙ (grind arith) in
    find_goes_on is_symbol_table (section_header b) k c.sections.invariant fails
