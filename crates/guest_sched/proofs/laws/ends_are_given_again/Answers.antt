use Rattle.std.proofs.Common.{refl}
use Rattle.guest_sched.specs.Machine.{with_given}
use Rattle.guest_sched.proofs.MachineLemmas.{ended_given, next_ended}
use Rattle.guest_sched.proofs.laws.ends_are_given_again.Goals as goal

pub returns-clause-known : goal.returns-clause-known
returns-clause-known c m end is = next_ended m end is

pub returns-clause-again : goal.returns-clause-again
returns-clause-again c m end = next_ended (with_given end m) end (ended_given (with_given end m) end refl)
