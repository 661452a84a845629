-- Ids that stand for other texts from here on.
use Rattle.std.proofs.Common.{◌≡◌, ℕ, zero, suc, Bool, true, false, List, [], ◌∷◌}
use Rattle.std.proofs.Common.{◌++◌, length, Option, None, Some, slice_get}
use Rattle.std.proofs.Common.{cond, refl, ap, subst, ◌∙◌, slice_set}
use Rattle.std.specs.Str.{bytes_eq}
use Rattle.std.proofs.lemmas.Slice.Eq.{bytes_eq-Decides}
use Rattle.cg_read.specs.inner.Ids.{at_place, is_same, number_or, place_of}
use Rattle.cg_read.specs.declared.ids.CountedId.{CountedId}
use Rattle.cg_read.proofs.TextLemmas.{last_at}

same_id : (x : List ℕ) → bytes_eq x x ≡ true
same_id x = (bytes_eq-Decides x x).1 refl

pub not_same : (id : List ℕ) (o : Option CountedId) (other : Option ℕ) → is_same id o ≡ false
    → number_or id o other ≡ other
not_same id None other e = refl
not_same id (Some c) other e = rw e refl

slot_pushed : (q : List ℕ) (c : CountedId) → bytes_eq c.id q ≡ false → (counted : List CountedId) (p : ℕ)
    (other : Option ℕ) → number_or q (slice_get (counted ++ c ∷ []) p) other ≡ number_or q (slice_get counted p) other
slot_pushed q c apart [] zero other = rw apart refl
slot_pushed q c apart [] (suc p) other = refl
slot_pushed q c apart (z ∷ zs) zero other = refl
slot_pushed q c apart (z ∷ zs) (suc p) other = slot_pushed q c apart zs p other

slot_own : (id : List ℕ) (c : CountedId) (counted : List CountedId) (place : ℕ)
    → is_same id (slice_get counted place) ≡ true → slice_get (slice_set counted place c) place ≡ Some c
slot_own id c [] place is = absurd (cc)
slot_own id c (z ∷ zs) zero is = refl
slot_own id c (z ∷ zs) (suc place) is = slot_own id c zs place is

slot_set : (id q : List ℕ) (c : CountedId) → bytes_eq id q ≡ false → bytes_eq c.id q ≡ false
    → (counted : List CountedId) (place p : ℕ) (other : Option ℕ) → is_same id (slice_get counted place) ≡ true
    → number_or q (slice_get (slice_set counted place c) p) other ≡ number_or q (slice_get counted p) other
slot_set id q c apart new [] place p other is = absurd (cc)
slot_set id q c apart new (z ∷ zs) zero zero other is =
    let old : bytes_eq z.id q ≡ false = rw ((bytes_eq-Decides z.id id).0 is) apart in rw (new, old) refl
slot_set id q c apart new (z ∷ zs) zero (suc p) other is = refl
slot_set id q c apart new (z ∷ zs) (suc place) zero other is = refl
slot_set id q c apart new (z ∷ zs) (suc place) (suc p) other is = slot_set id q c apart new zs place p other is

abbrev counted_id : List ℕ → ℕ → CountedId
counted_id id number = record { id = id; number = number }

-- what holds of the id itself and of any other one
by_id : (P : List ℕ → Bool → Type 0) (id : List ℕ) → P id true → ((q : List ℕ) → bytes_eq id q ≡ false → P q false)
    → (q : List ℕ) → P q (bytes_eq id q)
by_id P id own others q =
    let go : (b : Bool) → bytes_eq id q ≡ b → P q b
    = elim [ true ↦ λ e. subst (λ (x : List ℕ). P x true) ((bytes_eq-Decides id q).0 e) own | false ↦ λ e. others q e ]
    in go (bytes_eq id q) refl

module _ (id : List ℕ) (number : ℕ) (counted : List CountedId) (old_other : List ℕ → Option ℕ) where
  -- an id that isn't counted
  pub sets_other : (new_other : List ℕ → Option ℕ)
      → ((q : List ℕ) → new_other q ≡ cond (bytes_eq id q) (Some number) (old_other q))
      → is_same id (at_place counted (place_of id)) ≡ false
      → (q : List ℕ) → number_or q (at_place counted (place_of q)) (new_other q)
      ≡ cond (bytes_eq id q) (Some number) (number_or q (at_place counted (place_of q)) (old_other q))
  sets_other new_other sets apart = by_id
      (λ q b. number_or q (at_place counted (place_of q)) (new_other q)
      ≡ cond b (Some number) (number_or q (at_place counted (place_of q)) (old_other q))) id
      (not_same id (at_place counted (place_of id)) (new_other id) apart ∙ sets id
      ∙ ap (λ b. cond b (Some number) (old_other id)) (same_id id))
      (λ q e. ap (number_or q (at_place counted (place_of q)))
      (sets q ∙ ap (λ b. cond b (Some number) (old_other q)) e))

  -- an id that is counted next
  pub counts_next : place_of id ≡ Some (length counted)
      → (q : List ℕ) → number_or q (at_place (counted ++ counted_id id number ∷ []) (place_of q)) (old_other q)
      ≡ cond (bytes_eq id q) (Some number) (number_or q (at_place counted (place_of q)) (old_other q))
  counts_next next = by_id
      (λ q b. number_or q (at_place (counted ++ counted_id id number ∷ []) (place_of q)) (old_other q)
      ≡ cond b (Some number) (number_or q (at_place counted (place_of q)) (old_other q))) id
      (rw (next, last_at counted (counted_id id number), same_id id) refl)
      (λ q e. apart q e (place_of q))
    where
      apart : (q : List ℕ) → bytes_eq id q ≡ false → (o : Option ℕ)
          → number_or q (at_place (counted ++ counted_id id number ∷ []) o) (old_other q)
          ≡ number_or q (at_place counted o) (old_other q)
      apart q e None = refl
      apart q e (Some p) = slot_pushed q (counted_id id number) e counted p (old_other q)

  -- an id that is counted already
  pub counts_again : (place : ℕ) → place_of id ≡ Some place → is_same id (slice_get counted place) ≡ true
      → (q : List ℕ)
      → number_or q (at_place (slice_set counted place (counted_id id number)) (place_of q)) (old_other q)
      ≡ cond (bytes_eq id q) (Some number) (number_or q (at_place counted (place_of q)) (old_other q))
  counts_again place at is = by_id
      (λ q b. number_or q (at_place (slice_set counted place (counted_id id number)) (place_of q)) (old_other q)
      ≡ cond b (Some number) (number_or q (at_place counted (place_of q)) (old_other q))) id
      (rw (at, slot_own id (counted_id id number) counted place is, same_id id) refl)
      (λ q e. apart q e (place_of q))
    where
      apart : (q : List ℕ) → bytes_eq id q ≡ false → (o : Option ℕ)
          → number_or q (at_place (slice_set counted place (counted_id id number)) o) (old_other q)
          ≡ number_or q (at_place counted o) (old_other q)
      apart q e None = refl
      apart q e (Some p) = slot_set id q (counted_id id number) e e counted place p (old_other q) is
