use Rattle.std.proofs.Common.{refl, subst, sym}
use Rattle.annotate.specs.Files.{AreFilesShown}
use Rattle.command_steps.proofs.LookupLemmas.{AreTextsFor-loaded}
use Rattle.command_steps.proofs.TellLemmas.{did_not_list, did_texts, no_texts}
use Rattle.command_steps.proofs.reporting.load_texts.Goals as goal

pub returns-clause-texts : goal.returns-clause-texts
returns-clause-texts g c =
    AreTextsFor-loaded c.args.asked _ _ _ c.args.profile.now c.deref.result.now c.load_sources.result
    c.if-not-asked.false
    (subst (λ names. AreFilesShown c.args.profile.now names) (sym c.deref.ensures.value) c.in_ok-names.ensures)
    c.load_sources.ensures.sources

pub returns-then-not-asked-clause-told : goal.returns-then-not-asked-clause-told
returns-then-not-asked-clause-told g c = λ out err. no_texts _ _ _ _ c.if-not-asked.true c.new.ensures.items

pub returns-in_err-names-clause-told : goal.returns-in_err-names-clause-told
returns-in_err-names-clause-told g c = λ out err.
    did_not_list _ _ _ _ c.from_residual.result c.if-not-asked.false c.from_residual.ensures.1

pub returns-clause-told : goal.returns-clause-told
returns-clause-told g c = λ out err.
    did_texts _ _ c.args.asked c.args.profile.now c.deref.result.now c.load_sources.result c.if-not-asked.false
    (subst (λ names. AreFilesShown c.args.profile.now names) (sym c.deref.ensures.value) c.in_ok-names.ensures)
    c.load_sources.ensures.told c.load_sources.ensures.sources refl refl
