use Rattle.profile_cli.proofs.ExitLemmas.{exits_replied, exits_unasked}
use Rattle.profile_cli.proofs.process.command.Goals as goal

pub returns-in-Ok : goal.returns-in-Ok
returns-in-Ok g c =
    exits_replied _ _ _ c.args.args c.in-Ok.words c.deref.result.now c.profile.result _ c.in-Ok.ensures
    c.deref.ensures.value c.exit_code.ensures
    c.profile.ensures

pub returns-in-Err : goal.returns-in-Err
returns-in-Err g c = exits_unasked _ c.args.args _ _ c.in-Err.ensures c.exit_code-in-Err.ensures
