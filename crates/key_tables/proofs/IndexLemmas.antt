-- Keys that an index learns, and keys that a list gains.
use Rattle.std.proofs.Common.{◌≡◌, ℕ, ◌+◌, ◌<◌, Bool, true, false, not, cond, List, [], ◌∷◌, ◌++◌, length, get_or, take}
use Rattle.std.proofs.Common.{Option, None, Some, ◌∙◌, sym, ap, subst, slice_get, arith, Ordering, append_assoc, append-nil, length-append}
use Rattle.std.specs.Prelude.{IfNone, IfSome}
use Rattle.std.specs.BTreeMap.{BTreeMap, get, is_at}
use Rattle.std.specs.Cmp.{IsEquivalence}
use Rattle.std.specs.List.{list_any}
use Rattle.std.specs.Ordering.{is_eq}
use Rattle.std.proofs.lemmas.List.{length-take-le, take_more, get_or-take}
use Rattle.std.proofs.lemmas.List.Elements.{filter-append}
use Rattle.std.proofs.lemmas.List.Folds.{list_any_at}
use Rattle.std.proofs.lemmas.Option.{get_or_from_slice_get, slice_get_within}
use Rattle.key_tables.specs.Keys.{AreApart, NumberEach, missing}
use Rattle.key_tables.specs.Indexes.{AreFound}
use Rattle.key_tables.proofs.MissingLemmas.{number_kept, number_push}
use Rattle.key_tables.proofs.TableLemmas.{found_more, last_at, none_stands, not_found, slice_get_kept}

module _ {K : Type 0} (cmp : K → K → Ordering) {same : K → K → Bool} (laws : IsEquivalence same)
    (matches : (x y : K) → same x y ≡ is_eq (cmp x y)) (exact : (x y : K) → same x y ≡ true → x ≡ y)
    (keys : List K) where
  -- one key more is known
  pub finds_one_more : (known : ℕ) (key : K) (old new : BTreeMap K ℕ) → known < length keys → key ≡ get_or keys known key
      → AreApart keys → AreFound cmp (take known keys) old
      → ((q : K) → get cmp new q ≡ cond (is_at (cmp key) q) (Some known) (get cmp old q))
      → AreFound cmp (take (known + 1) keys) new
  finds_one_more known key old new lt is apart found updates =
      let long : length (take known keys) ≡ known = length-take-le known keys (omega (arith, lt)) in
      let more : take (known + 1) keys ≡ take known keys ++ key ∷ [] =
      take_more keys known key lt ∙ ap (λ x. take known keys ++ x ∷ []) (sym is) in
      subst (λ ks. AreFound cmp ks new) (sym more)
      (found_more cmp laws matches exact (take known keys) key old found new
      (none_stands exact (take known keys) key nowhere)
      (λ q. updates q ∙ ap (λ n. cond (is_at (cmp key) q) (Some n) (get cmp old q)) (sym long)))
    where
      nowhere : (n : ℕ) → slice_get (take known keys) n ≡ Some key → ⊥
      nowhere n at =
          let long : length (take known keys) ≡ known = length-take-le known keys (omega (arith, lt)) in
          let within : n < known = omega (arith, long, slice_get_within (take known keys) n key at) in
          apart n known key within lt
          (sym (get_or-take known keys n key within)
          ∙ get_or_from_slice_get (take known keys) n key key at ∙ is)

  -- what is known of a key's place, once all are
  pub place_is : (places : BTreeMap K ℕ) (key : K) → AreFound cmp keys places → (o : Option ℕ) → o ≡ get cmp places key
      → IfSome o (λ known. slice_get keys known ≡ Some key) × IfNone o (list_any (same key) keys ≡ false)
  place_is places key found (Some known) is = (found.there known key (sym is), tt)
  place_is places key found None is = (tt, not_found cmp laws matches exact keys key places found (sym is))

-- One key more of the others that a list gains

module _ {K : Type 0} {same : K → K → Bool} (laws : IsEquivalence same) (own others gained : List K) (numbers : List ℕ)
    (i : ℕ) (other : K) (lt : i < length others) (is : other ≡ get_or others i other)
    (gained_is : gained ≡ missing same own (take i others)) (each : NumberEach (own ++ gained) numbers (take i others))
  where
    next : take (i + 1) others ≡ take i others ++ other ∷ []
    next = take_more others i other lt ∙ ap (λ x. take i others ++ x ∷ []) (sym is)

    missing_next : missing same own (take (i + 1) others)
        ≡ gained ++ cond (not (list_any (same other) own)) (other ∷ []) []
    missing_next =
        ap (missing same own) next ∙ filter-append (λ y. not (list_any (same y) own)) (take i others) (other ∷ [])
        ∙ ap (λ (l : List K). l ++ cond (not (list_any (same other) own)) (other ∷ []) []) (sym gained_is)

    pub gained_more : (o : Option ℕ)
        → IfSome o (λ known. slice_get own known ≡ Some other) → IfNone o (list_any (same other) own ≡ false)
        → (n : ℕ) (new : List K) → IfSome o (λ known. (n ≡ known) × (new ≡ gained))
        → IfNone o ((n ≡ length own + length gained) × (new ≡ gained ++ other ∷ []))
        → (new ≡ missing same own (take (i + 1) others)) × NumberEach (own ++ new) (numbers ++ n ∷ []) (take (i + 1) others)
    gained_more (Some known) at none n new is_new added = (
      is_new.1 ∙ sym (missing_next ∙ ap (λ b. gained ++ cond (not b) (other ∷ []) []) there ∙ append-nil gained),
      rw (is_new.0, is_new.1, next)
          (number_push (own ++ gained) numbers (take i others) known other each (slice_get_kept own gained known other at)),
    )
      where
        there : list_any (same other) own ≡ true
        there =
            list_any_at (same other) own known other (slice_get_within own known other at)
            (rw (get_or_from_slice_get own known other other at) (laws.refl other))
    gained_more None at none n new is_new added = (
      added.1 ∙ sym (missing_next ∙ ap (λ b. gained ++ cond (not b) (other ∷ []) []) none),
      rw (added.0, added.1, next, ← append_assoc own gained (other ∷ []), ← length-append own gained)
          (number_push ((own ++ gained) ++ other ∷ []) numbers (take i others) (length (own ++ gained)) other
          (number_kept (own ++ gained) (other ∷ []) numbers (take i others) each) (last_at (own ++ gained) other)),
    )
