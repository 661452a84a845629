use Rattle.std.proofs.Common.{◌≡◌, get_or, length, map, take}
use Rattle.arc_costs.proofs.amount_tree.AmountTree.list_rows.Given as goal

abbrev pub invariant-rows : goal.invariant-rows
invariant-rows g l = record {
  long : length l.listed.items ≡ l.index-index;
  rows : (d : g.row.K.Denot × g.row.A.Denot)
      → l.listed.items ≡ map (λ i. get_or l.rows i d) (take l.index-index l.index-items);
}
