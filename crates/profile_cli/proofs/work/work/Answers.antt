use Rattle.std.proofs.Common.{ap, inr, refl, sym, ◌∙◌}
use Rattle.command_words.specs.Meaning.{meaning_of}
use Rattle.profile_cli.proofs.WorkLemmas.{Works-annotated, Works-demonstrated, Works-unread, Works-usage, size_within}
use Rattle.profile_cli.proofs.WorkLemmas.{some_named}
use Rattle.profile_cli.proofs.TellLemmas.{told_usage}
use Rattle.profile_cli.proofs.work.work.Goals as goal

pub annotate_command-requires : goal.annotate_command-requires
annotate_command-requires g c =
    some_named _ c.in-Ok-Annotate.names.items _ _ c.deref.ensures.value (ap meaning_of c.in-Ok-Annotate.field-0-is)
    c.in-Ok-Annotate.ensures.within

pub returns-in-Ok-Annotate-clause-works : goal.returns-in-Ok-Annotate-clause-works
returns-in-Ok-Annotate-clause-works g c =
    Works-annotated _ _ _ c.deref.result.now c.in-Ok-Annotate.names.items _ _ _ c.deref.ensures.value
    (ap meaning_of c.in-Ok-Annotate.field-0-is) c.in-Ok-Annotate.ensures.asked (c.annotate_command.ensures.works _)

pub returns-in-Ok-Demo-clause-works : goal.returns-in-Ok-Demo-clause-works
returns-in-Ok-Demo-clause-works g c =
    Works-demonstrated _ _ _ c.in-Ok-Demo.size _ _ (ap meaning_of c.in-Ok-Demo.field-0-is)
    c.in-Ok-Demo.ensures.asked c.demo_command.ensures.works

pub demo_command-requires-clause-least : goal.demo_command-requires-clause-least
demo_command-requires-clause-least g c =
    (size_within c.in-Ok-Demo.size _ (ap meaning_of c.in-Ok-Demo.field-0-is) c.in-Ok-Demo.ensures.within).least_of

pub demo_command-requires-clause-most : goal.demo_command-requires-clause-most
demo_command-requires-clause-most g c =
    (size_within c.in-Ok-Demo.size _ (ap meaning_of c.in-Ok-Demo.field-0-is) c.in-Ok-Demo.ensures.within).most_of

pub returns-in-Ok-Usage-clause-works : goal.returns-in-Ok-Usage-clause-works
returns-in-Ok-Usage-clause-works g c =
    Works-usage _ _
    (sym c.in-Ok-Usage.ensures.asked ∙ ap meaning_of c.in-Ok-Usage.field-0-is)

pub returns-in-Err-clause-works : goal.returns-in-Err-clause-works
returns-in-Err-clause-works g c = Works-unread _ _

pub returns-in-Ok-Usage-clause-told : goal.returns-in-Ok-Usage-clause-told
returns-in-Ok-Usage-clause-told g c =
    told_usage _ _ (sym c.in-Ok-Usage.ensures.asked ∙ ap meaning_of c.in-Ok-Usage.field-0-is)

pub returns-in-Err-clause-told : goal.returns-in-Err-clause-told
returns-in-Err-clause-told g c = inr (refl, refl)
