use Rattle.std.proofs.Common.{refl}
use Rattle.command_steps.proofs.annotating.annotate_command.Goals as goal

pub returns-in-Ok-clause-told : goal.returns-in-Ok-clause-told
returns-in-Ok-clause-told g c = λ err. record { comes = _; did = c.in-Ok.ensures.told err; status_is = refl }

pub returns-in-Err-clause-told : goal.returns-in-Err-clause-told
returns-in-Err-clause-told g c = λ err. record { comes = _; did = c.in-Err.ensures.told err; status_is = refl }
