use Rattle.std.proofs.Common.{sym, ◌∙◌}
use Rattle.std.proofs.lemmas.List.Filters.{dedup_is}
use Rattle.std.proofs.lemmas.List.Kept.{IsStrictlySortedBy-dedup, Contains-dedup, Contains-from_dedup}
use Rattle.std.proofs.lemmas.List.Sorted.{Contains-permutation, IsPermutation-sym}
use Rattle.name_numbers.proofs.numbering.distinct.Goals as goal

pub returns-clause-rise : goal.returns-clause-rise
returns-clause-rise g c =
    rw (dedup_is _ _ _ c.dedup.ensures.filtered)
    (IsStrictlySortedBy-dedup g.met.K.Ord.total g.met.K.Ord.matches_eq _ c.in_ok-sort.ensures.sorted)

pub returns-clause-same : goal.returns-clause-same
returns-clause-same g c =
    let is = dedup_is _ _ _ c.dedup.ensures.filtered in
    let moved = c.sort.ensures.permutation in
    λ key. (
      (λ h. Contains-permutation _ _ key (IsPermutation-sym _ _ moved) (Contains-from_dedup _ _ key (rw is at h))),
      (λ h. rw is (Contains-dedup g.met.K.Eq.laws
          (λ x y e. g.met.K.ExactOrder.exact x y (sym (g.met.K.Ord.matches_eq x y) ∙ e)) _ key
          (Contains-permutation _ _ key moved h))),
    )
