-- Keys in strictly rising order.
use Rattle.std.proofs.Common.{◌≡◌, ℕ, ◌+◌, ◌<◌, ◌≤◌, List, [], ◌∷◌, length, get_or, zero, suc, sym, ap}
use Rattle.std.proofs.Common.{◌∙◌, ⊎_elim, ◌⊎◌, Ordering, Some, add-one, arith}
use Rattle.std.specs.Prelude.{slice_get, slice_index}
use Rattle.std.specs.List.{insert, remove}
use Rattle.std.proofs.lemmas.List.Edits.{length-insert, length-remove, get_or-insert_at, get_or-insert_below}
use Rattle.std.proofs.lemmas.List.Edits.{get_or-insert_above, get_or-remove_below, get_or-remove_above}
use Rattle.std.proofs.lemmas.Option.{slice_get-get_or}
use Rattle.name_numbers.specs.Keys.{NumberEach}
use Rattle.std.specs.declared.cmp.Ordering.TheVariants.{Less}
use Rattle.std.specs.Cmp.{IsTotalOrder}
use Rattle.std.specs.List.{AllByRecursion}
use Rattle.std.specs.List.Sorted.{IsStrictlySortedBy}

pub every : {K : Type 0} (P : K → Type 0) (xs : List K) → AllByRecursion P xs → (k : ℕ) (d : K) → k < length xs
    → P (get_or xs k d)
every P [] all k d lt = absurd (omega arith)
every P (x ∷ xs) all zero d lt = all.0
every P (x ∷ xs) all (suc k) d lt = every P xs all.1 k d (omega arith)

module _ {K : Type 0} (R : K → K → Ordering) (order : IsTotalOrder R) where
  neighbours : (xs : List K) → IsStrictlySortedBy R xs → (k : ℕ) (d : K) → suc k < length xs
      → R (get_or xs k d) (get_or xs (suc k) d) ≡ Less
  unfolding IsStrictlySortedBy
  neighbours [] rise k d lt = absurd (omega arith)
  neighbours (x ∷ []) rise k d lt = absurd (omega arith)
  neighbours (x ∷ y ∷ ys) rise zero d lt = rise.0.0
  neighbours (x ∷ y ∷ ys) rise (suc k) d lt = neighbours (y ∷ ys) rise.1 k d (omega arith)

  pub adjacent : (xs : List K) → IsStrictlySortedBy R xs → (k : ℕ) (d : K) → k + 1 < length xs
      → R (get_or xs k d) (get_or xs (k + 1) d) ≡ Less
  adjacent xs rise k d lt = rw add-one (neighbours xs rise k d (omega arith))

  pub far : (xs : List K) → IsStrictlySortedBy R xs → (i j : ℕ) (d : K) → i < j → j < length xs
      → R (get_or xs i d) (get_or xs j d) ≡ Less
  unfolding IsStrictlySortedBy
  far [] rise i j d lt within = absurd (omega arith)
  far (x ∷ xs) rise i zero d lt within = absurd (omega arith)
  far (x ∷ xs) rise zero (suc j) d lt within = every (λ y. R x y ≡ Less) xs rise.0 j d (omega arith)
  far (x ∷ xs) rise (suc i) (suc j) d lt within = far xs rise.1 i j d (omega arith) (omega arith)

-- ---- numbers for keys

-- numbers of keys of which one was inserted
module _ {K : Type 0} (keys all : List K) (numbers : List ℕ) (place : ℕ) (last : K) (within : place ≤ length all)
    (so : NumberEach keys numbers (insert all place last)) where
  long : length numbers ≡ length all + 1
  long = so.as_many ∙ length-insert all place last within

  pub is_number : place < length numbers
  is_number = omega (arith, long)

  number_at : (k i : ℕ) → i < length all → k < length all + 1
      → ((d : K) → get_or (insert all place last) k d ≡ get_or all i d)
      → slice_get keys (slice_index numbers k) ≡ slice_get all i
  number_at k i lt below same =
      let wide = length-insert all place last within in
      so.each k (omega (arith, wide)) ∙ slice_get-get_or (insert all place last) k last (omega (arith, wide))
      ∙ ap (λ (x : K). Some x) (same last) ∙ sym (slice_get-get_or all i last lt)

  -- the numbers of the others
  pub numbers_without : NumberEach keys (remove numbers place) all
  numbers_without =
      let short = length-remove numbers place is_number in
      record {
        as_many = (omega (arith, short, long));
        each = λ k lt.
            ⊎_elim
            (λ (before : k < place). ap (slice_get keys) (get_or-remove_below numbers place 0 k before is_number)
            ∙ number_at k k lt (omega arith) (λ d. get_or-insert_below all place last d k before within))
            (λ (behind : place ≤ k). ap (slice_get keys) (get_or-remove_above numbers place 0 k behind is_number)
            ∙ number_at (k + 1) k lt (omega arith) (λ d. get_or-insert_above all place last d k behind within))
            (let P : (k < place) ⊎ (place ≤ k) = grind arith in P);
      }

  -- the number of that one
  pub number_inserted : slice_get keys (slice_index numbers place) ≡ Some last
  number_inserted =
      let wide = length-insert all place last within in
      so.each place (omega (arith, wide)) ∙ slice_get-get_or (insert all place last) place last (omega (arith, wide))
      ∙ ap (λ (x : K). Some x) (get_or-insert_at all place last last within)
