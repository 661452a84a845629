use Rattle.cg_read.proofs.ProfileLemmas.{apart_numbered, apart_files}
use Rattle.cg_read.proofs.draft.Draft.profile_texts.Goals as goal

pub returns-clause-functions_differ : goal.returns-clause-functions_differ
returns-clause-functions_differ c =
    apart_numbered c.args.texts.now c.args.self.now.functions c.requires.differ c.keys.ensures.distinct
    c.requires.functions

pub returns-clause-files_differ : goal.returns-clause-files_differ
returns-clause-files_differ c =
    apart_files c.args.texts.now c.args.self.now.files c.requires.differ c.keys-2.ensures.distinct c.requires.files
