-- Texts that are found by numbers that are made of their bytes.
use Rattle.std.proofs.Common.{◌≡◌, ⊎_elim, ℕ, true, false, List, [], ◌∷◌, ◌++◌, length, None, Some}
use Rattle.std.proofs.Common.{is_some, sym, ap, ◌∙◌, slice_get, arith}
use Rattle.std.specs.BTreeMap.{BTreeMap, get, is_at}
use Rattle.std.specs.Cmp.Lexicographic.{nat_list_eq_equiv, texts_ties}
use Rattle.std.specs.List.{list_any}
use Rattle.std.specs.Ordering.{nat_cmp}
use Rattle.std.specs.Str.{bytes_eq}
use Rattle.std.proofs.lemmas.Map.Keys.{IsDistinct-from_apart, IsDistinct-push}
use Rattle.key_tables.specs.Ranks.{text_order}
use Rattle.key_tables.specs.inner.Mixed.{AreTexts, IsFound, KeepsTexts, mixed}
use Rattle.key_tables.specs.Same.{same_texts}
use Rattle.key_tables.proofs.TableLemmas.{none_stands, pushed_at, stands_apart}

pub no_texts : (firsts : BTreeMap ℕ ℕ) (others : BTreeMap (List ℕ) ℕ) → AreTexts [] firsts others
no_texts firsts others = record {
  apart = IsDistinct-from_apart bytes_eq [] (λ i j d less lt. absurd (omega (arith, lt)));
  found = λ n text at. absurd (cc);
}

module _ (texts : List (List ℕ)) (text : List ℕ) (firsts : BTreeMap ℕ ℕ) (others : BTreeMap (List ℕ) ℕ)
    (h : AreTexts texts firsts others) where
  -- a text is absent whose number is none's
  pub none_first : get nat_cmp firsts (mixed text) ≡ None → list_any (bytes_eq text) texts ≡ false
  none_first none = none_stands same_texts texts text (λ n at.
      ⊎_elim (λ (first : get nat_cmp firsts (mixed text) ≡ Some n). absurd (cc (none, first)))
      (λ (other : (is_some (get nat_cmp firsts (mixed text)) ≡ true) × (get text_order others text ≡ Some n)).
      absurd (cc (ap is_some none, other.0))) (h.found n text at))

  -- or that isn't the first of its number, and stands nowhere else
  pub none_other : (first : ℕ) → get nat_cmp firsts (mixed text) ≡ Some first → (slice_get texts first ≡ Some text → ⊥)
      → ((n : ℕ) → get text_order others text ≡ Some n → slice_get texts n ≡ Some text → ⊥)
      → list_any (bytes_eq text) texts ≡ false
  none_other first is apart no_other = none_stands same_texts texts text (λ n at.
      ⊎_elim (λ (own : get nat_cmp firsts (mixed text) ≡ Some n).
      let same : first ≡ n = cc (is, own) in apart (ap (slice_get texts) same ∙ at))
      (λ (other : (is_some (get nat_cmp firsts (mixed text)) ≡ true) × (get text_order others text ≡ Some n)).
      no_other n other.1 at) (h.found n text at))

  module _ (new_firsts : BTreeMap ℕ ℕ) (new_others : BTreeMap (List ℕ) ℕ)
      (none : list_any (bytes_eq text) texts ≡ false) (kept : KeepsTexts text firsts others new_firsts new_others) where
    differs : (n : ℕ) (t : List ℕ) → slice_get texts n ≡ Some t → is_at (text_order text) t ≡ false
    differs n t at = sym (texts_ties text t) ∙ stands_apart nat_list_eq_equiv texts text none n t at

    -- the same texts are found once a new one may be
    pub still_found : AreTexts texts new_firsts new_others
    still_found = record { apart = h.apart; found = λ n t at. kept t n (differs n t at) (h.found n t at) }

    -- and so they are with the new one
    pub more_found : IsFound new_firsts new_others text (length texts)
        → AreTexts (texts ++ text ∷ []) new_firsts new_others
    more_found found = record {
      apart = IsDistinct-push nat_list_eq_equiv texts text h.apart none;
      found = λ n t at. ⊎_elim
          (λ (old : slice_get texts n ≡ Some t). kept t n (differs n t old) (h.found n t old))
          (λ (last : (n ≡ length texts) × (text ≡ t)). rw (last.0, ← last.1) found)
          (pushed_at texts text n t at);
    }
