use Rattle.std.proofs.Common.{refl}
use Rattle.command_words.specs.Meaning.{watching_of}
use Rattle.profile_cli.proofs.RunWatchLemmas.{RunsJob-addresses, RunsJob-asked}
use Rattle.profile_cli.proofs.run.run_parts.Goals as goal

pub returns-in-Some-clause-ran : goal.returns-in-Some-clause-ran
returns-in-Some-clause-ran g c =
    RunsJob-asked c.in-Some.watch (watching_of c.args.watching) c.in-Some.ensures.fresh c.in-Some.ensures.parts
    _ _ _ _ _ c.requires.within c.load_and_run.ensures.ran

pub returns-in-None-clause-ran : goal.returns-in-None-clause-ran
returns-in-None-clause-ran g c =
    RunsJob-addresses _ (c.in-None.ensures.none refl) _ _ _ _ c.run_by_address.ensures.ran
