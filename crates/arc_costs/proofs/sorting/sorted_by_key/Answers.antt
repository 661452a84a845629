use Rattle.std.proofs.Common.{rules}
use Rattle.std.specs.Map.{keys_of}
use Rattle.std.proofs.lemmas.List.Sorted.{IsPermutation-map, answers_always}
use Rattle.std.proofs.lemmas.Map.Keys.{IsDistinct-IsPermutation}
use Rattle.arc_costs.proofs.SortLemmas.{rise_from_sorted}
use Rattle.arc_costs.proofs.sorting.sorted_by_key.Goals as goal

pub returns-clause-rise : goal.returns-clause-rise
returns-clause-rise g c =
    let same = g.K.PartialEq.eq in
    let before = c.args.rows.items in
    let after = c.sort_by_key.new.self.items in
    rise_from_sorted g.met.K.Ord.total same g.met.K.Ord.matches_eq after
    (c.in_ok-sort_by_key.ensures.sorted (λ e. e.0) (answers_always _ _ _ (λ f a r f' called. search rules)))
    (IsDistinct-IsPermutation same g.met.K.Eq.laws.symm (keys_of before) (keys_of after)
    (IsPermutation-map (λ e. e.0) before after c.sort_by_key.ensures.permutation) c.requires)
