use Rattle.profile_files.proofs.LoadLemmas.{LoadsFile-refused}
use Rattle.profile_files.proofs.reading.load_one.Goals as goal

pub returns-in-Err-clause-answer : goal.returns-in-Err-clause-answer
returns-in-Err-clause-answer g c =
    LoadsFile-refused _ _ _ _ _ c.args.file.now c.file.inside.name.now c.file.inside.limit c.in-Err.error _
    c.file.view_is c.in-Err.ensures.answer c.in-Err.ensures.told c.load_fault.ensures
