use Rattle.std.proofs.Common.{ap, ◌∙◌, arith}
use Rattle.std.specs.Str.{bytes_eq}
use Rattle.elf_read.specs.Sections.{old_compressed}
use Rattle.elf_read.specs.Strings.{part_of}
use Rattle.elf_read.proofs.SectionLemmas.{is_compressed-by_name}
use Rattle.elf_read.proofs.section.SectionHeader.is_compressed.Goals as goal

pub returns : goal.returns
unfolding old_compressed
returns c =
    c.eq.ensures ∙ ap (λ xs. bytes_eq xs (part_of c.args.bytes.now c.name_front-front.result)) c.as_slice.ensures
    ∙ is_compressed-by_name c.args.bytes.now c.args.self.now c.name_front-front.result
    (omega arith) c.name_front-front.ensures.front
