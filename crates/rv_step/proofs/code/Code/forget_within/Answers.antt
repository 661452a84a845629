use Rattle.std.proofs.Common.{refl, sym, ◌∙◌}
use Rattle.rv_step.proofs.CodeLemmas.{code-fewer, get-code}
use Rattle.rv_step.proofs.code.Code.forget_within.Goals as goal

pub returns-clause-fewer : goal.returns-clause-fewer
returns-clause-fewer c =
    code-fewer c.self.inside.table c.forget_within.new.self c.args.self.now _ c.self.view_is refl c.forget_within.ensures.fewer

pub returns-clause-apart : goal.returns-clause-apart
returns-clause-apart c = λ q i given.
    c.forget_within.ensures.apart q i (sym (get-code c.forget_within.new.self _ refl q) ∙ given)
