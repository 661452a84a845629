use Rattle.std.proofs.Common.{ap, option_map}
use Rattle.command_steps.proofs.StageLemmas.{no_input}
use Rattle.command_steps.proofs.loading.load_input.Goals as goal

pub returns-in-None-clause-told : goal.returns-in-None-clause-told
returns-in-None-clause-told g c = λ out err.
    no_input _ _ _ (ap (λ name. option_map (λ n. n.now) name) c.in-None.is) c.new.ensures.items
