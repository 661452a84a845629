use Rattle.std.proofs.Common.{◌++◌, codes, decimal, ap, sym, ◌∙◌}
use Rattle.command_status.specs.Lines.{elf_text}
use Rattle.command_status.proofs.PushLemmas.{pushed_two, pushed_three}
use Rattle.command_status.proofs.refusal.push_elf_error.Goals as goal

pub returns-in-Short : goal.returns-in-Short
unfolding elf_text
returns-in-Short c = pushed_three _ _ _ _ _ _ _ (sym (ap elf_text c.in-Short.is)) c.push_between.ensures

pub returns-in-BadSegment : goal.returns-in-BadSegment
unfolding elf_text
returns-in-BadSegment c =
    pushed_two _ _ _ _ _ _
    (ap (λ n. codes "bad segment " ++ decimal n) c.from.ensures ∙ sym (ap elf_text c.in-BadSegment.is))
    c.push_after.ensures

pub returns-in-Compressed : goal.returns-in-Compressed
unfolding elf_text
returns-in-Compressed c =
    pushed_two _ _ _ _ _ _
    (ap (λ n. codes "compressed section " ++ decimal n) c.from-in-Compressed.ensures
    ∙ sym (ap elf_text c.in-Compressed.is))
    c.push_after-in-Compressed.ensures
