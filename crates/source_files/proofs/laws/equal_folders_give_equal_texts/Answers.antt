use Rattle.source_files.proofs.HeldLemmas.{equal_texts, held_texts}
use Rattle.source_files.proofs.laws.equal_folders_give_equal_texts.Goals as goal

pub returns-clause-held : goal.returns-clause-held
returns-clause-held c = λ contents before now names texts are calm.
    held_texts contents before now names texts calm are.loaded

pub returns-clause-equal : goal.returns-clause-equal
returns-clause-equal c = λ contents before now again later names first second are those calm quiet.
    equal_texts contents before now again later names first second calm quiet are.loaded those.loaded
