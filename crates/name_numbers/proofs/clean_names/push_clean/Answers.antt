use Rattle.std.proofs.Common.{sym, ◌∙◌}
use Rattle.name_numbers.specs.Texts.{text_at}
use Rattle.name_numbers.proofs.CleanTexts.{part_text, printed_name}
use Rattle.name_numbers.proofs.clean_names.push_clean.Goals as goal

pub returns-clause-text : goal.returns-clause-text
returns-clause-text c =
    part_text c.args.file.now c.args.part c.args.bytes.now.items c.requires.printed c.args.place c.requires.within
    c.requires.rises
    ∙ printed_name (text_at c.args.file.now c.args.place) (sym c.is_changed.ensures ∙ c.if-is_changed.false)
