use Rattle.std.proofs.Common.{refl, ◌∙◌}
use Rattle.rv_step.proofs.CodeLemmas.{get-code}
use Rattle.rv_step.proofs.code.Code.new.Goals as goal

pub returns : goal.returns
returns c = λ pc. get-code c.in_ok-new.field-0 _ refl pc ∙ c.in_ok-new.ensures pc
