use Rattle.command_steps.proofs.SayLemmas.{Says-unmade}
use Rattle.command_steps.proofs.TellLemmas.{unsaid_line}
use Rattle.command_steps.proofs.saying.say.Goals as goal

pub returns-in-Err-clause-says : goal.returns-in-Err-clause-says
returns-in-Err-clause-says g c = Says-unmade _ _ c.in-Err.ensures.wanting

pub returns-in-Err-clause-told : goal.returns-in-Err-clause-told
returns-in-Err-clause-told g c = unsaid_line _ _
