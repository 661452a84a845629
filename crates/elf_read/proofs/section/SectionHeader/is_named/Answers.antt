use Rattle.std.proofs.Common.{◌∙◌}
use Rattle.elf_read.proofs.SectionLemmas.{is_named-by_front}
use Rattle.elf_read.proofs.section.SectionHeader.is_named.Goals as goal

pub returns : goal.returns
returns c =
    c.eq.ensures
    ∙ is_named-by_front c.args.bytes.now c.args.name.now c.args.self.now c.name_front-front.result
    c.name_front-front.ensures.front
