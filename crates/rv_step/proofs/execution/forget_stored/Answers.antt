use Rattle.std.proofs.Common.{subst}
use Rattle.rv_step.specs.declared.stepped.Stepped.{Stepped}
use Rattle.rv_step.specs.inner.Stored.{IsStoredBy}
use Rattle.rv_step.proofs.StoreLemmas.{code-stored, stored-there}
use Rattle.rv_step.proofs.execution.forget_stored.Goals as goal

pub returns-in-Read-clause-stored : goal.returns-in-Read-clause-stored
returns-in-Read-clause-stored c = λ m n put code.
    code-stored c.args.code.now c.forget_near.new.self m n c.in-Read.address
    (stored-there c.in-Retired.done.touch c.in-Read.address m n c.in-Read.is
    (subst (λ (s : Stepped). IsStoredBy s m n) c.in-Retired.is put))
    c.forget_near.ensures.fewer c.forget_near.ensures.apart code
