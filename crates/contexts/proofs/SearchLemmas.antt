-- Where a search ends, and what it finds.
use Rattle.std.proofs.Common.{◌≡◌, ℕ, zero, suc, ◌+◌, ◌<◌, ◌≤◌, nat_lt, Option, Some, None, if◌then◌else◌, Bool, true, false}
use Rattle.std.proofs.Common.{List, [], ◌∷◌, ◌++◌, get_or, length, refl, sym, ap, ◌∙◌, arith}
use Rattle.std.specs.List.{list_any, position_or_len}
use Rattle.std.specs.Prelude.{◌||◌, not, position}
use Rattle.std.specs.Map.{keys_of}
use Rattle.std.proofs.lemmas.Bool.Decides.{nat_tests}
use Rattle.contexts.proofs.NumberLemmas.{none_place, place}
use Rattle.contexts.specs.Contexts.{Context, has_context, with_context}

pub found_place : {X : Type 0} (p : X → Bool) (xs : List X) (i : ℕ) → Some i ≡ position p xs → i ≡ position_or_len p xs
found_place p xs i is = by (nat_lt (position_or_len p xs) (length xs)) refl
  where
    by : (b : Bool) → nat_lt (position_or_len p xs) (length xs) ≡ b → i ≡ position_or_len p xs
    by true less = let e = is ∙ ap (λ b. if b then Some (position_or_len p xs) else None) less in cc
    by false past =
        let e : ◌≡◌ {A = Option ℕ} (Some i) None = is
        ∙ ap (λ b. if b then Some (position_or_len p xs) else None) past in
        absurd (cc)

-- the context of a row
pub context_of : (rows : List (Context × Unit {0})) (n : ℕ) (d : Context × Unit {0}) → n < length rows
    → (get_or rows n d).0 ≡ get_or (keys_of rows) n []
context_of [] n d less = absurd (omega (arith, less))
context_of (row ∷ rows) zero d less = refl
context_of (row ∷ rows) (suc n) d less = context_of rows n d (omega (arith, less))

-- a context whose number isn't the next has come up
pub not_next : (cs : List Context) (c : Context) → (place cs c ≡ length cs → ⊥) → cs ≡ with_context cs c
not_next cs c differs = by (has_context cs c) refl
  where
    by : (b : Bool) → has_context cs c ≡ b → cs ≡ (if b then cs else cs ++ c ∷ [])
    by true is = refl
    by false is = absurd (differs (none_place cs c is))

pub none_any : {X : Type 0} (p : X → Bool) (xs : List X) → length xs ≤ position_or_len p xs → list_any p xs ≡ false
none_any p [] past = refl
none_any p (x ∷ xs) past = by (p x) refl (λ h. none_any p xs h)
  where
    by : (b : Bool) → p x ≡ b → (length xs ≤ position_or_len p xs → list_any p xs ≡ false) → list_any p (x ∷ xs) ≡ false
    by true is rest =
        let here = ap (λ b. if not b then 1 + position_or_len p xs else 0) is in absurd (omega (arith, past, here))
    by false is rest =
        let here = ap (λ b. if not b then 1 + position_or_len p xs else 0) is in
        ap (λ b. b || list_any p xs) is ∙ rest (omega (arith, past, here))

pub past_all : {X : Type 0} (p : X → Bool) (xs : List X) → position p xs ≡ None → length xs ≤ position_or_len p xs
past_all p xs none = by (nat_lt (position_or_len p xs) (length xs)) refl
  where
    by : (b : Bool) → nat_lt (position_or_len p xs) (length xs) ≡ b → length xs ≤ position_or_len p xs
    by false is = grind (arith, nat_tests)
    by true is =
        absurd (some_none (sym (ap (λ b. if b then Some (position_or_len p xs) else None) is) ∙ none))
      where
        some_none : ◌≡◌ {A = Option ℕ} (Some (position_or_len p xs)) None → ⊥
        some_none e = cc
