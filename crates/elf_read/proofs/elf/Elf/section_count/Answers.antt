use Rattle.std.proofs.Common.{length, sym, ap, ◌∙◌}
use Rattle.elf_read.specs.Image.{Image}
use Rattle.elf_read.specs.Sections.{section_at, section_count}
use Rattle.elf_read.proofs.TableLemmas.{length-table}
use Rattle.elf_read.proofs.elf.Elf.section_count.Goals as goal

pub returns : goal.returns
returns c =
    let b = c.self.inside.bytes.now in
    c.section_count.ensures.count ∙ sym (length-table (section_at b) (section_count b))
    ∙ ap (λ (v : Image). length v.sections) c.self.view_is
