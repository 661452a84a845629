use Rattle.command_words.specs.Meaning.{uses_of}
use Rattle.command_words.proofs.RowLemmas.{sort_shown}
use Rattle.command_words.proofs.checks.sort_is_shown.Goals as goal

pub returns-in-Some : goal.returns-in-Some
returns-in-Some c =
    sort_shown c.is_among.result c.says.result c.event_names_shown.result.now c.in-Some.event.now
    (uses_of c.args.given.now)
    c.in-Some.ensures c.says.ensures c.event_names_shown.ensures c.is_among.ensures
