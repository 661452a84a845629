-- A key more in a table.
use Rattle.std.proofs.Common.{◌≡◌, ◌≢◌, ◌⊎◌, inl, inr, ⊎_elim, ℕ, zero, suc, Bool, true, false, cond, List, [], ◌∷◌, ◌++◌}
use Rattle.std.proofs.Common.{length, get_or, None, Some, refl, ◌∙◌, sym, ap, subst, slice_get, true≢false, Ordering}
use Rattle.std.specs.BTreeMap.{BTreeMap, get, is_at}
use Rattle.std.specs.Bool.{Decides}
use Rattle.std.specs.Cmp.{IsEquivalence}
use Rattle.std.specs.List.{AllPairs, IsDistinct, list_any}
use Rattle.std.specs.Ordering.{is_eq}
use Rattle.std.proofs.lemmas.List.Folds.{list_any_none, list_any_at}
use Rattle.std.proofs.lemmas.Map.Made.{AllPairs-from_IsDistinct}
use Rattle.std.proofs.lemmas.Option.{slice_get-get_or, slice_get_within, get_or_from_slice_get}
use Rattle.key_tables.specs.Keys.{with_key}
use Rattle.key_tables.specs.Indexes.{AreFound}

pub slice_get_kept : {X : Type 0} (xs ys : List X) (n : ℕ) (x : X) → slice_get xs n ≡ Some x
    → slice_get (xs ++ ys) n ≡ Some x
slice_get_kept [] ys n x e = absurd (cc)
slice_get_kept (z ∷ xs) ys zero x e = e
slice_get_kept (z ∷ xs) ys (suc n) x e = slice_get_kept xs ys n x e

-- what stands in a list with one more element
pub pushed_at : {X : Type 0} (xs : List X) (x : X) (n : ℕ) (y : X) → slice_get (xs ++ x ∷ []) n ≡ Some y
    → (slice_get xs n ≡ Some y) ⊎ ((n ≡ length xs) × (x ≡ y))
pushed_at [] x zero y e = inr (refl, cc)
pushed_at [] x (suc n) y e = absurd (cc)
pushed_at (z ∷ xs) x zero y e = inl e
pushed_at (z ∷ xs) x (suc n) y e =
    ⊎_elim inl (λ (last : (n ≡ length xs) × (x ≡ y)). inr (ap suc last.0, last.1)) (pushed_at xs x n y e)

pub last_at : {X : Type 0} (xs : List X) (x : X) → slice_get (xs ++ x ∷ []) (length xs) ≡ Some x
last_at [] x = refl
last_at (z ∷ xs) x = last_at xs x

module _ {K : Type 0} {same : K → K → Bool} (exact : (x y : K) → same x y ≡ true → x ≡ y) (keys : List K)
    (key : K) where
  -- a key that stands nowhere equals none
  pub none_stands : ((n : ℕ) → slice_get keys n ≡ Some key → ⊥) → list_any (same key) keys ≡ false
  none_stands nowhere = list_any_none (same key) keys (λ k d lt.
      let x : K = get_or keys k d in
      let go : (b : Bool) → same key x ≡ b → b ≡ false
      = elim [
        | true ↦ λ e. absurd (nowhere k (slice_get-get_or keys k d lt ∙ ap Some (sym (exact key x e))))
        | false ↦ λ e. refl
      ]
      in go (same key x) refl)

module _ {K : Type 0} {same : K → K → Bool} (laws : IsEquivalence same) (keys : List K) (key : K) where
  -- a key that stands here is added already
  pub added_already : (n : ℕ) → slice_get keys n ≡ Some key → keys ≡ with_key same keys key
  added_already n at =
      rw (list_any_at (same key) keys n key (slice_get_within keys n key at)
      (rw (get_or_from_slice_get keys n key key at) (laws.refl key))) refl

  -- what stands among the keys doesn't equal an absent one
  pub stands_apart : list_any (same key) keys ≡ false → (n : ℕ) (k : K) → slice_get keys n ≡ Some k
      → same key k ≡ false
  stands_apart none n k at =
      let go : (b : Bool) → same key k ≡ b → b ≡ false
      = elim [
        | true ↦ λ e. absurd (true≢false (sym (list_any_at (same key) keys n k (slice_get_within keys n k at)
            (rw (get_or_from_slice_get keys n k k at) e)) ∙ none))
        | false ↦ λ e. refl
      ]
      in go (same key k) refl

module _ {K : Type 0} {same : K → K → Bool} (laws : IsEquivalence same)
    (exact : (x y : K) → same x y ≡ true → x ≡ y) where
  pub decides : (x y : K) → Decides (same x y) (x ≡ y)
  decides x y = (exact x y, λ e. let P : K → Type 0 = λ z. same x z ≡ true in subst P e (laws.refl x))

  pub apart : (keys : List K) → IsDistinct same keys → AllPairs (λ x y. x ≢ y) keys
  apart keys distinct = AllPairs-from_IsDistinct decides keys distinct

module _ {K : Type 0} (cmp : K → K → Ordering) {same : K → K → Bool} (laws : IsEquivalence same)
    (matches : (x y : K) → same x y ≡ is_eq (cmp x y)) (exact : (x y : K) → same x y ≡ true → x ≡ y)
    (keys : List K) (key : K) (old : BTreeMap K ℕ) (h : AreFound cmp keys old) where
  -- a key that isn't found is absent
  pub not_found : get cmp old key ≡ None → list_any (same key) keys ≡ false
  not_found none = none_stands exact keys key (λ n at. let is = h.found n key at in absurd (cc))

  -- an absent key is found once it is added
  pub found_more : (new : BTreeMap K ℕ) → list_any (same key) keys ≡ false
      → ((q : K) → get cmp new q ≡ cond (is_at (cmp key) q) (Some (length keys)) (get cmp old q))
      → AreFound cmp (keys ++ key ∷ []) new
  found_more new absent updates = record {
    found = λ n k at. ⊎_elim
        (λ (before : slice_get keys n ≡ Some k).
        updates k
        ∙ ap (λ b. cond b (Some (length keys)) (get cmp old k))
        (sym (matches key k) ∙ stands_apart laws keys key absent n k before)
        ∙ h.found n k before)
        (λ (last : (n ≡ length keys) × (key ≡ k)).
        updates k
        ∙ ap (λ b. cond b (Some (length keys)) (get cmp old k))
        (sym (matches key k) ∙ ap (same key) (sym last.1) ∙ laws.refl key)
        ∙ ap Some (sym last.0))
        (pushed_at keys key n k at);
    there = λ n k is. at n k is (is_at (cmp key) k) refl;
  }
    where
      at : (n : ℕ) (k : K) → get cmp new k ≡ Some n → (b : Bool) → is_at (cmp key) k ≡ b
          → slice_get (keys ++ key ∷ []) n ≡ Some k
      at n k is true e =
          let own : Some (length keys) ≡ Some n
          = sym (updates k ∙ ap (λ b. cond b (Some (length keys)) (get cmp old k)) e) ∙ is in
          let number : length keys ≡ n = cc in
          ap (slice_get (keys ++ key ∷ [])) (sym number) ∙ last_at keys key
          ∙ ap Some (exact key k (matches key k ∙ e))
      at n k is false e =
          slice_get_kept keys (key ∷ []) n k
          (h.there n k (sym (updates k ∙ ap (λ b. cond b (Some (length keys)) (get cmp old k)) e) ∙ is))
