use Rattle.std.proofs.Common.{Ok, Err, ap, refl, rules}
use Rattle.profile_files.specs.Joined.{no_rows}
use Rattle.command_steps.proofs.KeptLemmas.{events_apart, events_fit, own_events, own_named}
use Rattle.command_steps.proofs.TellLemmas.{did_read_of}
use Rattle.command_steps.proofs.reading.read_run_files.Goals as goal

pub read_profiles-requires-clause-limit : goal.read_profiles-requires-clause-limit
read_profiles-requires-clause-limit g c =
    events_fit c.args.branches c.event_names_shown.result.now c.event_names_shown.ensures

pub read_profiles-requires-clause-differ : goal.read_profiles-requires-clause-differ
read_profiles-requires-clause-differ g c =
    events_apart c.args.branches c.event_names_shown.result.now c.event_names_shown.ensures

pub returns-in-Ok-clause-answer : goal.returns-in-Ok-clause-answer
returns-in-Ok-clause-answer g c = search (rules, ap no_rows c.event_names_shown.ensures)

pub returns-in-Ok-clause-told : goal.returns-in-Ok-clause-told
returns-in-Ok-clause-told g c = λ out err.
    did_read_of _ _ _ _ _ _ (Ok c.in-Ok.profile) _ (ap no_rows c.event_names_shown.ensures) refl c.in-Ok.ensures.told
    (search rules) refl refl refl

pub returns-in-Ok-clause-some : goal.returns-in-Ok-clause-some
returns-in-Ok-clause-some g c = own_named _ _ _ c.args.branches _ _ (returns-in-Ok-clause-answer g c)

pub returns-in-Ok-clause-events : goal.returns-in-Ok-clause-events
returns-in-Ok-clause-events g c = own_events _ _ _ c.args.branches _ _ (returns-in-Ok-clause-answer g c)

pub returns-in-Err-clause-told : goal.returns-in-Err-clause-told
returns-in-Err-clause-told g c = λ out err.
    did_read_of _ _ _ _ _ _ (Err c.in-Err.fault) _ (ap no_rows c.event_names_shown.ensures) refl c.in-Err.ensures.told
    tt refl refl (ap Err c.read_status.ensures)
