use Rattle.std.proofs.Common.{is_some, sym, ap, ◌∙◌}
use Rattle.indexmap.proofs.MapLemmas.{some_index}
use Rattle.arc_costs.proofs.amount_tree.AmountTree.index_near.Goals as goal

pub returns-then-is_at-clause-found : goal.returns-then-is_at-clause-found
returns-then-is_at-clause-found g c =
    sym (ap is_some (c.is_at.ensures c.if-is_at.true))
    ∙ some_index (g.K.PartialEq.eq c.args.key.now) c.args.self.now.entries
