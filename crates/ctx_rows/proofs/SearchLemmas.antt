-- A search among keys in strictly rising order.
use Rattle.std.proofs.Common.{◌≡◌, ℕ, ◌+◌, ◌<◌, ◌≤◌, false, List, get_or, ap, refl, ◌∙◌, Contains, ⊎_elim, ◌⊎◌}
use Rattle.std.proofs.Common.{Ordering, arith}
use Rattle.std.specs.Cmp.{IsTotalOrder}
use Rattle.std.specs.Ordering.{is_lt, ordering_index}
use Rattle.std.specs.List.Sorted.{IsStrictlySortedBy, IsSorted, IsNonDecreasingBy, IsPartitionPoint}
use Rattle.std.specs.declared.cmp.Ordering.TheVariants.{Less, Equal, Greater}
use Rattle.std.proofs.lemmas.List.Sorted.{searchable_from_sorted}
use Rattle.std.proofs.lemmas.Cmp.{tied_itself}
use Rattle.sym_map.proofs.Rising.{adjacent}

module _ {K : Type 0} (R : K → K → Ordering) (order : IsTotalOrder R) where
  not_back : (x y : K) → R x y ≡ Less → is_lt (R y x) ≡ false
  not_back x y less = rw (order.antisymm y x, less) refl

  sorted_from_strict : (xs : List K) → IsStrictlySortedBy R xs → IsSorted R xs
  sorted_from_strict xs rise k d low lt =
      not_back (get_or xs k d) (get_or xs (k + 1) d) (adjacent R order xs rise k d lt)

  -- a key that is there is found
  pub no_gap : (xs : List K) (key : K) (i : ℕ) → IsStrictlySortedBy R xs → Contains xs key
      → (IsNonDecreasingBy (λ y. ordering_index (R y key)) xs
      → IsPartitionPoint (λ y. R y key ≡ Less) (λ y. R y key ≡ Greater) xs i) → ⊥
  no_gap xs key i rise there says =
      let point = says (searchable_from_sorted order (λ (x : K). x) xs key (sorted_from_strict xs rise)) in
      let k : ℕ = there.0 in
      let self : R (get_or xs k key) key ≡ Equal = ap (λ (x : K). R x key) there.2 ∙ tied_itself order key in
      ⊎_elim
      (λ (lt : k < i). let less : R (get_or xs k key) key ≡ Less = point.0 k key (omega arith) lt in absurd (cc))
      (λ (le : i ≤ k). let greater : R (get_or xs k key) key ≡ Greater = point.1 k key le there.1 in absurd (cc))
      (let P : (k < i) ⊎ (i ≤ k) = grind arith in P)
