use Rattle.std.proofs.Common.{◌<◌, ◌∙◌, arith}
use Rattle.std.proofs.lemmas.Result.{err_from_is_err_and}
use Rattle.elf_read.specs.Sections.{section_count, section_fault}
use Rattle.elf_read.proofs.CheckLemmas.{table_goes_on, table_ends}
use Rattle.elf_read.proofs.SectionLemmas.{section_fault-at}
use Rattle.elf_read.proofs.section.check_sections.Goals as goal

pub returns-in_err-check : goal.returns-in_err-check
returns-in_err-check c =
    let b = c.args.bytes.now in
    let k = c.sections.k in
    let e = c.in_err-check.field-0.0 in
    let p = err_from_is_err_and c.from_residual.result c.from_residual.ensures.1 in
    let below : k < section_count b = omega arith in
    let here = section_fault-at b k c.section_header.result c.section_header.ensures in
    rw (p.1, p.2)
    (table_ends (section_fault b) (section_count b) k e below c.sections.invariant (here ∙ c.in_err-check.ensures))

pub sections-preserved : goal.sections-preserved
sections-preserved c =
    let b = c.args.bytes.now in
    let k = c.sections.k in
    let here = section_fault-at b k c.section_header.result c.section_header.ensures in
    table_goes_on (section_fault b) k c.sections.invariant (here ∙ c.in_ok-check.ensures)
