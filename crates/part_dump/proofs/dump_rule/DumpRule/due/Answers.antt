use Rattle.std.proofs.Common.{is_some, ap, ◌∙◌}
use Rattle.part_dump.proofs.RuleLemmas.{due_is_cut}
use Rattle.part_dump.proofs.dump_rule.DumpRule.due.Goals as goal

pub returns-clause-cut : goal.returns-clause-cut
returns-clause-cut c syms asked x is did =
    c.due_cold.ensures ∙ ap is_some (due_is_cut syms asked c.args.self.now c.args.steps x c.args.noted.now is did)
