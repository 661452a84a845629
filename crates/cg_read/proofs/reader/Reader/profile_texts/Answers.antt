use Rattle.std.proofs.Common.{◌<◌, length}
use Rattle.cg_read.specs.inner.Texts.{IsOfTexts}
use Rattle.cg_read.proofs.ProfileLemmas.{each_at}
use Rattle.cg_read.proofs.ReadingLemmas.{texts_say}
use Rattle.cg_read.proofs.reader.Reader.profile_texts.Goals as goal

pub profile_texts-requires-clause-functions : goal.profile_texts-requires-clause-functions
profile_texts-requires-clause-functions c =
    rw c.keys-texts.ensures.keys
    (each_at (IsOfTexts (length c.args.self.now.texts)) c.args.self.now.draft.functions
    c.requires.1.rows.rows.functions_known)

pub profile_texts-requires-clause-files : goal.profile_texts-requires-clause-files
profile_texts-requires-clause-files c =
    rw c.keys-texts.ensures.keys
    (each_at (λ file. file < length c.args.self.now.texts) c.args.self.now.draft.files
    c.requires.1.rows.rows.files_known)

pub returns-clause-says : goal.returns-clause-says
returns-clause-says c = λ before k.
    let functions = rw c.keys-texts.ensures.keys at c.in_ok-profile_texts.ensures.functions in
    let files = rw c.keys-texts.ensures.keys at c.in_ok-profile_texts.ensures.files in
    let functions_differ = rw c.keys-texts.ensures.keys at c.in_ok-profile_texts.ensures.functions_differ in
    let files_differ = rw c.keys-texts.ensures.keys at c.in_ok-profile_texts.ensures.files_differ in
    rw (c.in_ok-profile_texts.ensures.events, c.in_ok-profile_texts.ensures.command, functions, files)
    (texts_say c.args.self.now before c.in_ok-events.events.now k (c.in_ok-events.ensures.names before k)
    functions_differ files_differ)
