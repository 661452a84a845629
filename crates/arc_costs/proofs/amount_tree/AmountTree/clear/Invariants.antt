use Rattle.std.proofs.Common.{◌≡◌, drop}
use Rattle.arc_costs.specs.Amounts.{clear_amounts}
use Rattle.arc_costs.proofs.SomeLemmas.{AreLeft}
use Rattle.arc_costs.proofs.amount_tree.AmountTree.clear.Given as goal

abbrev pub invariant-rows : goal.invariant-rows
invariant-rows g l = record {
  keys : clear_amounts g.A.Amount.nothing l.self-inside.1.0.entries
      ≡ clear_amounts g.A.Amount.nothing l.initial.self-inside.1.0.entries;
  left : AreLeft g.A.Amount.nothing l.self-inside.1.0.entries (drop l.index-index l.index-items);
  spare : l.self-inside.1.0.spare ≡ l.initial.self-inside.1.0.spare;
}
