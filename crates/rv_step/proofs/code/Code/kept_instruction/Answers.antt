use Rattle.std.proofs.Common.{sym, ◌∙◌}
use Rattle.rv_step.proofs.CodeLemmas.{get-code}
use Rattle.rv_step.proofs.code.Code.kept_instruction.Goals as goal

pub returns-clause-kept : goal.returns-clause-kept
returns-clause-kept c =
    c.kept_instruction.ensures.kept ∙ sym (get-code c.self.inside.table c.args.self.now c.self.view_is c.args.pc)
