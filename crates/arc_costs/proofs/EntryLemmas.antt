-- Entries: where a key stands, and what an addition there makes of them.
use Rattle.std.proofs.Common.{◌≡◌, ◌+◌, ℕ, zero, suc, Bool, true, false, cond, not, ◌||◌, List, [], ◌∷◌, ◌++◌}
use Rattle.std.proofs.Common.{slice_get, length, position, Some, None, refl, sym, ap, subst, ◌∙◌, arith, if◌then◌else◌}
use Rattle.std.proofs.Common.{◌<◌, nat_lt, true≢false}
use Rattle.std.proofs.lemmas.Bool.{lt-ltb}
use Rattle.std.specs.Cmp.{IsEquivalence}
use Rattle.std.specs.List.{AllByRecursion, IsDistinct, position_or_len}
use Rattle.std.specs.Map.{keys_of, values_of, lookup}
use Rattle.std.proofs.lemmas.Map.Keys.{IsDistinct-head, IsDistinct-tail}
use Rattle.std.proofs.lemmas.Option.{none-some, same_Some, cond_some}
use Rattle.indexmap.specs.IndexMap.{insert_entry, set_value_at}
use Rattle.arc_costs.specs.Amounts.{add_amount, has_key}
use Rattle.arc_costs.specs.inner.Shape.{AllWhole}

module _ {K A : Type 0} (same : K → K → Bool) (k : K) where
  -- no entry has the key
  abbrev pub IsAbsent : List (K × A) → Type 0
  IsAbsent es = AllByRecursion (λ e. same k e.0 ≡ false) es

  -- the first entry of the key is the i-th, with this total
  abbrev pub IsAt : List (K × A) → ℕ → A → Type 0
  IsAt [] i v = ⊥
  IsAt (e ∷ es) zero v = (same k e.0 ≡ true) × (e.1 ≡ v)
  IsAt (e ∷ es) (suc i) v = (same k e.0 ≡ false) × IsAt es i v

  absent_more : (b : Bool) (e : K × A) (es : List (K × A)) → same k e.0 ≡ b → (lookup (same k) es ≡ None → IsAbsent es)
      → lookup (same k) (e ∷ es) ≡ None → IsAbsent (e ∷ es)
  absent_more true e es is rest none =
      absurd (none-some e.1 (sym none ∙ ap (λ c. cond c (Some e.1) (lookup (same k) es)) is))
  absent_more false e es is rest none = (is, rest (sym (ap (λ c. cond c (Some e.1) (lookup (same k) es)) is) ∙ none))

  pub absent_lookup : (es : List (K × A)) → lookup (same k) es ≡ None → IsAbsent es
  absent_lookup [] none = tt
  absent_lookup (e ∷ es) none = absent_more (same k e.0) e es refl (absent_lookup es) none

  pub lookup_absent : (es : List (K × A)) → IsAbsent es → lookup (same k) es ≡ None
  lookup_absent [] none = refl
  lookup_absent (e ∷ es) none = ap (λ b. cond b (Some e.1) (lookup (same k) es)) none.0 ∙ lookup_absent es none.1

  first_at : List (K × A) → ℕ
  first_at es = position_or_len (same k) (keys_of es)

  at_more : (b : Bool) (e : K × A) (es : List (K × A)) (i : ℕ) (v : A) → same k e.0 ≡ b
      → ((j : ℕ) → position_or_len (same k) (keys_of es) ≡ j → slice_get (values_of es) j ≡ Some v → IsAt es j v)
      → position_or_len (same k) (keys_of (e ∷ es)) ≡ i → slice_get (values_of (e ∷ es)) i ≡ Some v → IsAt (e ∷ es) i v
  at_more true e es zero v is rest len at = (is, same_Some e.1 v at)
  at_more true e es (suc i) v is rest len at =
      let here : position_or_len (same k) (keys_of (e ∷ es)) ≡ 0
      = ap (λ c. cond (not c) (1 + position_or_len (same k) (keys_of es)) 0) is in
      absurd (omega (arith, here, len))
  at_more false e es zero v is rest len at =
      let later : position_or_len (same k) (keys_of (e ∷ es)) ≡ 1 + position_or_len (same k) (keys_of es)
      = ap (λ c. cond (not c) (1 + position_or_len (same k) (keys_of es)) 0) is in
      absurd (omega (arith, later, len))
  at_more false e es (suc i) v is rest len at =
      let later : position_or_len (same k) (keys_of (e ∷ es)) ≡ 1 + position_or_len (same k) (keys_of es)
      = ap (λ c. cond (not c) (1 + position_or_len (same k) (keys_of es)) 0) is in
      (is, rest i (omega (arith, later, len)) at)

  at_first : (es : List (K × A)) (i : ℕ) (v : A) → position_or_len (same k) (keys_of es) ≡ i
      → slice_get (values_of es) i ≡ Some v → IsAt es i v
  at_first [] i v len at = none-some v at
  at_first (e ∷ es) i v len at = at_more (same k e.0) e es i v refl (λ j. at_first es j v) len at

  pub at_position : (es : List (K × A)) (i : ℕ) (v : A) → position (same k) (keys_of es) ≡ Some i
      → slice_get (values_of es) i ≡ Some v → IsAt es i v
  at_position es i v found at = at_first es i v (cond_some _ _ _ found).1 at

  pub at_front : (es rest : List (K × A)) (i : ℕ) (v : A) → IsAt es i v → IsAt (es ++ rest) i v
  at_front [] rest i v at = absurd at
  at_front (e ∷ es) rest zero v at = at
  at_front (e ∷ es) rest (suc i) v at = (at.0, at_front es rest i v at.1)

  pub lookup_at : (es : List (K × A)) (i : ℕ) (v : A) → IsAt es i v → lookup (same k) es ≡ Some v
  lookup_at [] i v at = absurd at
  lookup_at (e ∷ es) zero v at = ap (λ b. cond b (Some e.1) (lookup (same k) es)) at.0 ∙ ap Some at.1
  lookup_at (e ∷ es) (suc i) v at = ap (λ b. cond b (Some e.1) (lookup (same k) es)) at.0 ∙ lookup_at es i v at.1

  pub lookup_past : (es rest : List (K × A)) → IsAbsent es → lookup (same k) (es ++ rest) ≡ lookup (same k) rest
  lookup_past [] rest none = refl
  lookup_past (e ∷ es) rest none =
      ap (λ c. cond c (Some e.1) (lookup (same k) (es ++ rest))) none.0 ∙ lookup_past es rest none.1

  pub has_key_at : (es : List (K × A)) (i : ℕ) (v : A) → IsAt es i v → has_key same k es ≡ true
  has_key_at [] i v at = absurd at
  has_key_at (e ∷ es) zero v at = ap (λ b. b || has_key same k es) at.0
  has_key_at (e ∷ es) (suc i) v at = ap (λ b. b || has_key same k es) at.0 ∙ has_key_at es i v at.1

  pub has_key_past : (es rest : List (K × A)) → IsAbsent es → has_key same k (es ++ rest) ≡ has_key same k rest
  has_key_past [] rest none = refl
  has_key_past (e ∷ es) rest none = ap (λ b. b || has_key same k (es ++ rest)) none.0 ∙ has_key_past es rest none.1

  -- its place in the keys
  front_at : (es : List (K × A)) (i : ℕ) (v : A) → IsAt es i v → position_or_len (same k) (keys_of es) ≡ i
  front_at [] i v at = absurd at
  front_at (e ∷ es) zero v at = ap (λ b. cond (not b) (1 + position_or_len (same k) (keys_of es)) 0) at.0
  front_at (e ∷ es) (suc i) v at =
      ap (λ b. cond (not b) (1 + position_or_len (same k) (keys_of es)) 0) at.0
      ∙ ap (λ n. 1 + n) (front_at es i v at.1) ∙ omega arith

  within_at : (es : List (K × A)) (i : ℕ) (v : A) → IsAt es i v → i < length (keys_of es)
  within_at [] i v at = absurd at
  within_at (e ∷ es) zero v at = omega arith
  within_at (e ∷ es) (suc i) v at = let rest = within_at es i v at.1 in omega (arith, rest)

  pub place_at : (es : List (K × A)) (i : ℕ) (v : A) → IsAt es i v → position (same k) (keys_of es) ≡ Some i
  place_at es i v at =
      ap (λ n. cond (nat_lt n (length (keys_of es))) (Some n) None) (front_at es i v at)
      ∙ ap (λ b. cond b (Some i) None) (lt-ltb i (length (keys_of es)) (within_at es i v at))

  pub at_written : (es : List (K × A)) (i : ℕ) (v w : A) → IsAt es i v → IsAt (set_value_at es i w) i w
  at_written [] i v w at = absurd at
  at_written (e ∷ es) zero v w at = (at.0, refl)
  at_written (e ∷ es) (suc i) v w at = (at.0, at_written es i v w at.1)

  pub at_past : (es : List (K × A)) (e : K × A) → IsAbsent es → same k e.0 ≡ true
      → IsAt (es ++ e ∷ []) (length es) e.1
  at_past [] e none own = (own, refl)
  at_past (f ∷ es) e none own = (none.0, at_past es e none.1 own)

  -- an entry whose key is equal is the key's, where no two keys are equal
  module _ (laws : IsEquivalence same) where
    later_key : (es : List (K × A)) (i : ℕ) (e : K × A) (other : K) → slice_get es i ≡ Some e
        → AllByRecursion (λ q. same other q ≡ false) (keys_of es) → same other e.0 ≡ false
    later_key [] i e other at all = absurd (none-some e at)
    later_key (f ∷ es) zero e other at all =
        ap (λ (q : K × A). same other q.0) (sym (same_Some f e at)) ∙ all.0
    later_key (f ∷ es) (suc i) e other at all = later_key es i e other at all.1

    apart_from : (b : Bool) (f e : K × A) → same k f.0 ≡ b → same k e.0 ≡ true → same f.0 e.0 ≡ false
        → same k f.0 ≡ false
    apart_from false f e is own other = is
    apart_from true f e is own other =
        absurd (true≢false (sym own ∙ laws.congr k f.0 e.0 is ∙ other))

    pub at_own_key : (es : List (K × A)) (i : ℕ) (e : K × A) → slice_get es i ≡ Some e → same k e.0 ≡ true
        → IsDistinct same (keys_of es) → IsAt es i e.1
    at_own_key [] i e at own apart = absurd (none-some e at)
    at_own_key (f ∷ es) zero e at own apart =
        let it = same_Some f e at in
        (ap (λ (q : K × A). same k q.0) it ∙ own, ap (λ (q : K × A). q.1) it)
    at_own_key (f ∷ es) (suc i) e at own apart = (
      apart_from (same k f.0) f e refl own
          (later_key es i e f.0 at (IsDistinct-head same f.0 (keys_of es) apart)),
      at_own_key es i e at own (IsDistinct-tail same f.0 (keys_of es) apart),
    )

  -- a write leaves the keys
  pub absent-set_value_at : (es : List (K × A)) (i : ℕ) (w : A) → IsAbsent es → IsAbsent (set_value_at es i w)
  absent-set_value_at [] i w none = tt
  absent-set_value_at (e ∷ es) zero w none = none
  absent-set_value_at (e ∷ es) (suc i) w none = (none.0, absent-set_value_at es i w none.1)

  -- a new key goes last into the map
  pub insert_new : (es : List (K × A)) (t : A) → IsAbsent es → insert_entry same es k t ≡ es ++ (k, t) ∷ []
  insert_new [] t none = refl
  insert_new (e ∷ es) t none =
      ap (λ c. if c then (e.0, t) ∷ es else e ∷ insert_entry same es k t) none.0
      ∙ ap (λ fs. e ∷ fs) (insert_new es t none.1)

  module _ (plus : A → A → A) where
    -- an addition at a key that is there changes its amount
    pub add_at : (es rest : List (K × A)) (i : ℕ) (v t : A) → IsAt es i v
        → add_amount same plus (es ++ rest) k t ≡ set_value_at es i (plus v t) ++ rest
    add_at [] rest i v t at = absurd at
    add_at (e ∷ es) rest zero v t at =
        ap (λ b. if b then (e.0, plus e.1 t) ∷ (es ++ rest) else e ∷ add_amount same plus (es ++ rest) k t) at.0
        ∙ ap (λ u. (e.0, plus u t) ∷ (es ++ rest)) at.1
    add_at (e ∷ es) rest (suc i) v t at =
        ap (λ b. if b then (e.0, plus e.1 t) ∷ (es ++ rest) else e ∷ add_amount same plus (es ++ rest) k t) at.0
        ∙ ap (λ fs. e ∷ fs) (add_at es rest i v t at.1)

    -- and at a key that isn't, what stands behind
    pub add_past : (es rest : List (K × A)) (t : A) → IsAbsent es
        → add_amount same plus (es ++ rest) k t ≡ es ++ add_amount same plus rest k t
    add_past [] rest t none = refl
    add_past (e ∷ es) rest t none =
        ap (λ c. if c then (e.0, plus e.1 t) ∷ (es ++ rest) else e ∷ add_amount same plus (es ++ rest) k t) none.0
        ∙ ap (λ fs. e ∷ fs) (add_past es rest t none.1)

    -- an addition of a whole amount leaves each amount whole
    module _ (is_whole : A → Type 0) (keeps : (a b : A) → is_whole a → is_whole b → is_whole (plus a b)) where
      whole_more : (b : Bool) (e : K × A) (es : List (K × A)) (t : A) → same k e.0 ≡ b → AllWhole is_whole (e ∷ es)
          → is_whole t
          → AllWhole is_whole (add_amount same plus es k t) → AllWhole is_whole (add_amount same plus (e ∷ es) k t)
      whole_more true e es t is all one rest =
          subst (AllWhole is_whole)
          (sym (ap (λ c. if c then (e.0, plus e.1 t) ∷ es else e ∷ add_amount same plus es k t) is))
          (keeps e.1 t all.0 one, all.1)
      whole_more false e es t is all one rest =
          subst (AllWhole is_whole)
          (sym (ap (λ c. if c then (e.0, plus e.1 t) ∷ es else e ∷ add_amount same plus es k t) is))
          (all.0, rest)

      pub whole-add_amount : (es : List (K × A)) (t : A) → AllWhole is_whole es → is_whole t
          → AllWhole is_whole (add_amount same plus es k t)
      whole-add_amount [] t all one = (one, tt)
      whole-add_amount (e ∷ es) t all one =
          whole_more (same k e.0) e es t refl all one (whole-add_amount es t all.1 one)
