use Rattle.std.proofs.Common.{arith, [], refl}
use Rattle.profile_run.proofs.Others.{IsTrace-same}
use Rattle.profile_run.specs.Trace.{next_step, start}
use Rattle.profile_run.proofs.TraceLemmas.{goes_on}
use Rattle.profile_run.proofs.laws.every_guest_has_one_trace.Goals as goal

pub returns-clause-some : goal.returns-clause-some
returns-clause-some c = λ guest.
    let whole = goes_on guest [] (start guest).0 refl (omega arith) in
    record { trace = whole.rest; stop = whole.stop; is = whole.is }

pub returns-clause-one : goal.returns-clause-one
returns-clause-one c = λ guest trace other stop end a b.
    IsTrace-same (next_step guest) (start guest) trace other stop end a b
