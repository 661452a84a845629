use Rattle.std.proofs.Common.{◌≡◌, ◌<◌, ℕ, suc}
use Rattle.std.specs.Map.{keys_of}
use Rattle.arc_costs.specs.inner.Tree.{Differs, walk}
use Rattle.arc_costs.proofs.key_tree.search.Given as goal

abbrev pub invariant-places : goal.invariant-places
invariant-places g l = record {
  comes : l.at ≡ walk l.next (g.K.Digits.digit l.key) l.place;
  goes : (k : ℕ) → k < l.place → 0 < walk l.next (g.K.Digits.digit l.key) (suc k);
  passed : (k : ℕ) → k < l.place
      → Differs g.K.PartialEq.eq l.key (keys_of l.rows) (walk l.next (g.K.Digits.digit l.key) k);
}
