use Rattle.std.proofs.Common.{◌<◌, IfSome, sym, subst, ap, ◌∙◌}
use Rattle.part_dump.specs.Rules.{Rule}
use Rattle.part_dump.proofs.RuleLemmas.{none_between}
use Rattle.part_dump.proofs.dump_rule.DumpRule.steps_to_cut.Goals as goal

pub returns-in-Some-clause-none : goal.returns-in-Some-clause-none
returns-in-Some-clause-none c n above within =
    none_between c.args.self.now.dump_points.every c.in-Some.every c.args.steps n
    (sym (ap (λ (r : Rule). r.dump_points.every) c.self.view_is) ∙ c.in-Some.is)
    (subst (λ o. IfSome o (λ k. 0 < k)) c.in-Some.is c.self.invariant.0) above within
