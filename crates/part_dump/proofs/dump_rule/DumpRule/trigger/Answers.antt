use Rattle.std.proofs.Common.{sym, ◌∙◌}
use Rattle.part_dump.proofs.RuleLemmas.{due_is_cut}
use Rattle.part_dump.proofs.dump_rule.DumpRule.trigger.Goals as goal

pub returns-clause-cut : goal.returns-clause-cut
returns-clause-cut c syms asked x is did =
    sym (due_is_cut syms asked c.args.self.now c.args.steps x c.args.noted.now is did) ∙ c.in_ok-trigger.ensures
