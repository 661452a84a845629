use Rattle.std.proofs.Common.{◌<◌, Some, sym, ap, ◌∙◌, arith}
use Rattle.elf_read.specs.Sections.{section_at, section_count, section_of, is_named}
use Rattle.elf_read.specs.inner.Tables.{StringTable}
use Rattle.elf_read.proofs.TableLemmas.{find_goes_on, find_ends}
use Rattle.elf_read.proofs.SectionLemmas.{section_at-is}
use Rattle.elf_read.proofs.section.find_section.Goals as goal

pub returns-then-is_named-clause-first : goal.returns-then-is_named-clause-first
returns-then-is_named-clause-first c =
    let b = c.args.bytes.now in
    let k = c.sections.k in
    let at = section_at-is b k c.section_header-section.result c.section_header-section.ensures in
    let below : k < section_count b = omega arith in
    let passes = ap (is_named b c.args.name.now) at ∙ sym c.is_named.ensures ∙ c.if-is_named.true in
    ap Some (c.section.ensures.section
    ∙ ap (λ (t : StringTable). section_of t.bytes c.section_header-section.result) c.requires.names ∙ sym at)
    ∙ sym (find_ends (is_named b c.args.name.now) (section_at b)
    (section_count b) k below c.sections.invariant passes)

pub sections-preserved : goal.sections-preserved
sections-preserved c =
    let b = c.args.bytes.now in
    let k = c.sections.k in
    let at = section_at-is b k c.section_header-section.result c.section_header-section.ensures in
    let fails = ap (is_named b c.args.name.now) at ∙ sym c.is_named.ensures ∙ c.if-is_named.false in
    find_goes_on (is_named b c.args.name.now) (section_at b) k c.sections.invariant fails
