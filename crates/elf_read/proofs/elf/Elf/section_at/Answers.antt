use Rattle.std.proofs.Common.{◌<◌, length, Some, sym, ap, subst, ◌∙◌, arith}
use Rattle.std.specs.List.{slice_get}
use Rattle.elf_read.specs.Image.{Image}
use Rattle.elf_read.specs.Sections.{section_at, section_count, IsHeld}
use Rattle.elf_read.proofs.TableLemmas.{length-table, slice_get-table}
use Rattle.elf_read.proofs.elf.Elf.section_at.Goals as goal

pub read_section-requires-clause-index : goal.read_section-requires-clause-index
read_section-requires-clause-index c =
    let b = c.self.inside.bytes.now in
    omega (arith, length-table (section_at b) (section_count b), ap (λ (v : Image). length v.sections) c.self.view_is)

pub returns-clause-section : goal.returns-clause-section
returns-clause-section c =
    let b = c.self.inside.bytes.now in
    let below : c.args.i < section_count b
    = omega
    (arith, length-table (section_at b) (section_count b), ap (λ (v : Image). length v.sections) c.self.view_is) in
    ap (λ (v : Image). slice_get v.sections c.args.i) (sym c.self.view_is)
    ∙ slice_get-table (section_at b) (section_count b) c.args.i below
    ∙ ap Some (sym c.read_section.ensures.section)

pub returns-clause-in_file : goal.returns-clause-in_file
returns-clause-in_file c =
    let b = c.self.inside.bytes.now in
    let below : c.args.i < section_count b
    = omega
    (arith, length-table (section_at b) (section_count b), ap (λ (v : Image). length v.sections) c.self.view_is) in
    let held : IsHeld b c.read_section.result
    = subst (IsHeld b) (sym c.read_section.ensures.section) (c.self.invariant.sections_held c.args.i below) in
    subst (λ (v : Image). IsHeld v.bytes c.read_section.result) c.self.view_is held
