use Rattle.std.proofs.Common.{◌∙◌, ap, subst, sym}
use Rattle.std.specs.Str.{IsUtf8}
use Rattle.byte_text.specs.Names.{clean_name}
use Rattle.source_files.proofs.NameLemmas.{clean_name-IsUtf8, loaded_as, named_cleaned, named_whole}
use Rattle.source_files.proofs.TellsLemmas.{told_as, told_unasked}
use Rattle.source_files.proofs.sources.load_source.Goals as goal

pub returns-in-Ok-clause-source : goal.returns-in-Ok-clause-source
returns-in-Ok-clause-source g c =
    loaded_as _ _ _ c.in-Ok.name.now _ _
    (named_whole c.args.file.now _ (subst (λ bytes. IsUtf8 bytes) c.as_bytes.ensures c.in-Ok.ensures.cases.1)
    (c.in-Ok.ensures.cases.0 ∙ c.as_bytes.ensures)) c.load_text.ensures.source

pub unreachable-requires : goal.unreachable-requires
unreachable-requires g c =
    c.in-Err.ensures.cases.0
    (subst (λ bytes. IsUtf8 bytes) (sym (c.as_bytes-3.ensures ∙ c.in_ok-cleaned.ensures))
    (clean_name-IsUtf8 c.as_bytes-2.result.now))

pub returns-clause-source : goal.returns-clause-source
returns-clause-source g c =
    loaded_as _ _ _ c.in-Ok-from_utf8.name.now _ _
    (named_cleaned c.args.file.now _
    (λ is. c.in_default.ensures.cases.0 (subst (λ bytes. IsUtf8 bytes) (sym c.as_bytes.ensures) is))
    (c.in-Ok-from_utf8.ensures.cases.0 ∙ c.as_bytes-3.ensures ∙ c.in_ok-cleaned.ensures
    ∙ ap (λ bytes. clean_name bytes) c.as_bytes-2.ensures)) c.load_text-in-Ok-from_utf8.ensures.source

pub returns-in-Ok-clause-told : goal.returns-in-Ok-clause-told
returns-in-Ok-clause-told g c =
    told_as c.in-Ok.name.now _ _ _ _
    (named_whole c.args.file.now _ (subst (λ bytes. IsUtf8 bytes) c.as_bytes.ensures c.in-Ok.ensures.cases.1)
    (c.in-Ok.ensures.cases.0 ∙ c.as_bytes.ensures)) c.load_text.ensures.told

pub returns-in_err-cleaned-clause-told : goal.returns-in_err-cleaned-clause-told
returns-in_err-cleaned-clause-told g c = told_unasked _ _ _ c.from_residual.ensures.0

pub returns-clause-told : goal.returns-clause-told
returns-clause-told g c =
    told_as c.in-Ok-from_utf8.name.now _ _ _ _
    (named_cleaned c.args.file.now _
    (λ is. c.in_default.ensures.cases.0 (subst (λ bytes. IsUtf8 bytes) (sym c.as_bytes.ensures) is))
    (c.in-Ok-from_utf8.ensures.cases.0 ∙ c.as_bytes-3.ensures ∙ c.in_ok-cleaned.ensures
    ∙ ap (λ bytes. clean_name bytes) c.as_bytes-2.ensures)) c.load_text-in-Ok-from_utf8.ensures.told
