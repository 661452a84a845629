use Rattle.std.proofs.Common.{refl, sym, ◌∙◌}
use Rattle.rv_step.proofs.CodeLemmas.{code-fewer, get-code}
use Rattle.rv_step.proofs.code.Code.forget_near.Goals as goal

pub returns-clause-fewer : goal.returns-clause-fewer
returns-clause-fewer c =
    code-fewer c.self.inside.table c.forget_near.new.self c.args.self.now _ c.self.view_is refl c.forget_near.ensures.fewer

pub returns-clause-apart : goal.returns-clause-apart
returns-clause-apart c = λ q i low aligned given.
    c.forget_near.ensures.apart q i low aligned (sym (get-code c.forget_near.new.self _ refl q) ∙ given)
