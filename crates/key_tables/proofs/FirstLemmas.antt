-- Keys that are found by the first key of their latest text.
use Rattle.std.proofs.Common.{◌≡◌, ◌↔◌, ⊎_elim, ℕ, ◌+◌, ◌<◌, Bool, true, false, List, [], ◌∷◌, ◌++◌, length, Ordering}
use Rattle.std.proofs.Common.{Option, Some, slice_get, slice_index_or, sym, ap, ◌∙◌, arith, true≢false, length-append}
use Rattle.std.specs.Cmp.{IsEquivalence}
use Rattle.std.specs.List.{list_any}
use Rattle.std.specs.BTreeMap.{BTreeMap, get, is_at}
use Rattle.std.specs.Ordering.{is_eq}
use Rattle.std.proofs.lemmas.Map.Keys.{IsDistinct-from_apart, IsDistinct-push}
use Rattle.key_tables.specs.inner.Firsts.{IsFound, AreNumbered, Finds, KeepsOthers}
use Rattle.key_tables.proofs.TableLemmas.{none_stands, pushed_at, stands_apart}

-- more keys
pub more_keys : (firsts : List ℕ) (count text : ℕ) (other : Option ℕ) (n : ℕ) → IsFound firsts count text other n
    → IsFound firsts (count + 1) text other n
more_keys firsts count text other n f = record { within = f.within; there = omega (arith, f.there); by = f.by }

-- no keys
pub none_numbered : {K : Type 0} (cmp : K → K → Ordering) (latest : K → ℕ) (same : K → K → Bool)
    (others : BTreeMap K ℕ) → AreNumbered cmp latest same [] [] others
none_numbered cmp latest same others = record {
  apart = IsDistinct-from_apart same [] (λ i j d less lt. absurd (omega (arith, lt)));
  found = λ n key at. absurd (cc);
}

module _ {K : Type 0} (cmp : K → K → Ordering) {same : K → K → Bool} (laws : IsEquivalence same)
    (matches : (x y : K) → same x y ≡ is_eq (cmp x y)) (exact : (x y : K) → same x y ≡ true → x ≡ y) (latest : K → ℕ)
    (keys : List K) (key : K) where
  -- a key is absent if it isn't found by any number
  pub absent : (firsts : List ℕ) (others : BTreeMap K ℕ) → AreNumbered cmp latest same keys firsts others
      → ((n : ℕ) → slice_get keys n ≡ Some key → Finds cmp latest firsts others (length keys) key n → ⊥)
      → list_any (same key) keys ≡ false
  absent firsts others h nowhere = none_stands exact keys key (λ n at. nowhere n at (h.found n key at))

  -- it is absent if its latest text has no key
  pub none_first : (firsts : List ℕ) (others : BTreeMap K ℕ) → AreNumbered cmp latest same keys firsts others
      → (latest key < length firsts → slice_index_or firsts (latest key) 0 < length keys → ⊥)
      → list_any (same key) keys ≡ false
  none_first firsts others h none = absent firsts others h (λ n at f. none f.within f.there)

  -- or if it isn't the text's first one, and stands nowhere else
  pub none_other : (firsts : List ℕ) (others : BTreeMap K ℕ) → AreNumbered cmp latest same keys firsts others
      → (is_first : Bool) → (is_first ≡ true ↔ slice_get keys (slice_index_or firsts (latest key) 0) ≡ Some key)
      → is_first ≡ false
      → ((n : ℕ) → get cmp others key ≡ Some n → slice_get keys n ≡ Some key → ⊥)
      → list_any (same key) keys ≡ false
  none_other firsts others h is_first stands apart no_other = absent firsts others h (λ n at f.
      ⊎_elim
      (λ (e : slice_index_or firsts (latest key) 0 ≡ n).
      true≢false (sym (stands.1 (ap (slice_get keys) e ∙ at)) ∙ apart))
      (λ (e : get cmp others key ≡ Some n). no_other n e at) f.by)

  -- what stands among the keys doesn't equal an absent one
  differs : list_any (same key) keys ≡ false → (n : ℕ) (k : K) → slice_get keys n ≡ Some k → is_at (cmp key) k ≡ false
  differs none n k at = sym (matches key k) ∙ stands_apart laws keys key none n k at

  module _ (firsts new_firsts : List ℕ) (others new_others : BTreeMap K ℕ)
      (h : AreNumbered cmp latest same keys firsts others)
      (none : list_any (same key) keys ≡ false)
      (kept : KeepsOthers cmp latest key (length keys) firsts others new_firsts new_others) where
    -- the same keys are numbered once a new one may be found
    pub still_numbered : AreNumbered cmp latest same keys new_firsts new_others
    still_numbered = record {
      apart = h.apart;
      found = λ n k at. kept k n (differs none n k at) (h.found n k at);
    }

    -- and so they are with the new one
    pub more_numbered : Finds cmp latest new_firsts new_others (length keys + 1) key (length keys)
        → AreNumbered cmp latest same (keys ++ key ∷ []) new_firsts new_others
    more_numbered found = record {
      apart = IsDistinct-push laws keys key h.apart none;
      found = λ n k at.
          let longer : length (keys ++ key ∷ []) ≡ length keys + 1 = length-append keys (key ∷ []) in
          rw longer
          (⊎_elim (λ (old : slice_get keys n ≡ Some k). more_keys new_firsts (length keys)
          (latest k) _ n (kept k n (differs none n k old) (h.found n k old)))
          (λ (last : (n ≡ length keys) × (key ≡ k)). rw (last.0, ← last.1) found)
          (pushed_at keys key n k at));
    }
