-- What is in a list, and in an option.
use Rattle.std.proofs.Common.{◌≡◌, ◌≢◌, ℕ, ◌==◌, Bool, true, false, List, [], ◌∷◌, ◌++◌, map, filter, flat_map, Option}
use Rattle.std.proofs.Common.{None, Some, sum_by, refl, ap, sym, subst, ◌∙◌, arith, ◌⊎◌, inl, inr, if◌then◌else◌}
use Rattle.std.specs.List.{AllByRecursion}
use Rattle.std.proofs.lemmas.Bool.{cases_Bool}
use Rattle.std.proofs.lemmas.Bool.Decides.{eqb_tells}
use Rattle.std.proofs.lemmas.List.Sums.{sum_by-cons}
use Rattle.std.specs.Prelude.{is_some}
use Rattle.recorder.specs.Laws.{IsIn}

true_false : true ≡ false → ⊥
true_false e = cc

pub in_filter : {A : Type 0} (p : A → Bool) (xs : List A) (x : A) → IsIn (filter p xs) x → IsIn xs x × (p x ≡ true)
in_filter p [] x there = elim there [ ]
in_filter p (y ∷ ys) x there = by (p y) (λ h. in_filter p ys x h) refl there
  where
    by : (b : Bool) → (IsIn (filter p ys) x → IsIn ys x × (p x ≡ true)) → p y ≡ b
        → IsIn (if b then y ∷ filter p ys else filter p ys) x → IsIn (y ∷ ys) x × (p x ≡ true)
    by true rest is (inl e) = (inl e, subst (λ z. p z ≡ true) e is)
    by true rest is (inr there_) = (let r = rest there_ in (inr r.0, r.1))
    by false rest is there_ = (let r = rest there_ in (inr r.0, r.1))

pub to_filter : {A : Type 0} (p : A → Bool) (xs : List A) (x : A) → IsIn xs x → p x ≡ true → IsIn (filter p xs) x
to_filter p [] x there is = elim there [ ]
to_filter p (y ∷ ys) x there is = by (p y) (λ h. to_filter p ys x h is) refl there
  where
    by : (b : Bool) → (IsIn ys x → IsIn (filter p ys) x) → p y ≡ b → IsIn (y ∷ ys) x
        → IsIn (if b then y ∷ filter p ys else filter p ys) x
    by true rest e (inl same) = inl same
    by true rest e (inr there_) = inr (rest there_)
    by false rest e (inl same) = absurd (true_false (sym is ∙ ap p (sym same) ∙ e))
    by false rest e (inr there_) = rest there_

pub filter-filter_same : {A : Type 0} (p : A → Bool) (xs : List A) → filter p (filter p xs) ≡ filter p xs
filter-filter_same p [] = refl
filter-filter_same p (x ∷ xs) = elim (cases_Bool (p x)) [
  | inl passes ↦ simp passes (ap (λ t. x ∷ t) (filter-filter_same p xs))
  | inr fails ↦ simp fails (filter-filter_same p xs)
]

pub from_map : {A B : Type 0} (f : A → B) (xs : List A) (y : B) → IsIn (map f xs) y → (x : A) × IsIn xs x × (f x ≡ y)
from_map f [] y there = elim there [ ]
from_map f (x ∷ xs) y (inl is) = (x, inl refl, is)
from_map f (x ∷ xs) y (inr there) = (let r = from_map f xs y there in (r.0, inr r.1, r.2))

pub in_left : {A : Type 0} (xs ys : List A) (x : A) → IsIn xs x → IsIn (xs ++ ys) x
in_left [] ys x there = elim there [ ]
in_left (z ∷ xs) ys x (inl is) = inl is
in_left (z ∷ xs) ys x (inr there) = inr (in_left xs ys x there)

pub in_right : {A : Type 0} (xs ys : List A) (x : A) → IsIn ys x → IsIn (xs ++ ys) x
in_right [] ys x there = there
in_right (z ∷ xs) ys x there = inr (in_right xs ys x there)

pub in_flat : {A B : Type 0} (f : A → List B) (xs : List A) (x : A) (y : B) → IsIn xs x → IsIn (f x) y
    → IsIn (flat_map f xs) y
in_flat {B = B} f [] x y there inside = elim there [ ]
in_flat {B = B} f (z ∷ xs) x y (inl is) inside =
    in_left (f z) (flat_map f xs) y (subst (λ u. IsIn (f u) y) (sym is) inside)
in_flat {B = B} f (z ∷ xs) x y (inr there) inside = in_right (f z) (flat_map f xs) y (in_flat f xs x y there inside)

pub from_append : {A : Type 0} (xs ys : List A) (x : A) → IsIn (xs ++ ys) x → IsIn xs x ⊎ IsIn ys x
from_append [] ys x there = inr there
from_append (z ∷ xs) ys x (inl is) = inl (inl is)
from_append (z ∷ xs) ys x (inr there) = elim (from_append xs ys x there) as (λ _. IsIn (z ∷ xs) x ⊎ IsIn ys x) [
  | inl left ↦ inl (inr left)
  | inr right ↦ inr right
]

pub from_flat : {A B : Type 0} (f : A → List B) (xs : List A) (y : B) → IsIn (flat_map f xs) y
    → (x : A) × IsIn xs x × IsIn (f x) y
from_flat {A = A} {B = B} f [] y there = elim there [ ]
from_flat {A = A} {B = B} f (x ∷ xs) y there = elim (from_append (f x) (flat_map f xs) y there) as
    (λ _. (z : A) × IsIn (x ∷ xs) z × IsIn (f z) y) [
      | inl here ↦ (x, inl refl, here)
      | inr rest ↦ (let r = from_flat f xs y rest in (r.0, inr r.1, r.2))
    ]

pub all_of : {A : Type 0} (P : A → Type 0) (xs : List A) → ((x : A) → IsIn xs x → P x) → AllByRecursion P xs
all_of P [] each = tt
all_of P (x ∷ xs) each = (each x (inl refl), all_of P xs (λ y there. each y (inr there)))

pub of_all : {A : Type 0} (P : A → Type 0) (xs : List A) → AllByRecursion P xs → (x : A) → IsIn xs x → P x
of_all P [] all x there = elim there [ ]
of_all P (y ∷ ys) all x (inl is) = subst P is all.0
of_all P (y ∷ ys) all x (inr there) = of_all P ys all.1 x there

pub none_of : {A : Type 0} (o : Option A) → is_some o ≡ false → o ≡ None
none_of None e = refl
none_of (Some a) e = absurd (cc)

pub some_of : {A : Type 0} (o : Option A) → is_some o ≡ true → (a : A) × (o ≡ Some a)
some_of None e = absurd (cc)
some_of (Some a) e = (a, refl)

-- a sum that isn't 0 has a number that isn't 0
pub some_number : {A : Type 0} (f : A → ℕ) (xs : List A) → sum_by f xs ≢ 0 → (x : A) × IsIn xs x × (f x ≢ 0)
some_number {A = A} f [] some = absurd (some refl)
some_number {A = A} f (x ∷ xs) some = by (eqb_tells (f x) 0) (λ rest. some_number f xs rest)
  where
    by : ((f x == 0 ≡ true) × (f x ≡ 0)) ⊎ ((f x == 0 ≡ false) × (f x ≢ 0))
        → (sum_by f xs ≢ 0 → (y : A) × IsIn xs y × (f y ≢ 0)) → (y : A) × IsIn (x ∷ xs) y × (f y ≢ 0)
    by (inl none) rest =
        let all = sum_by-cons f x xs in
        let here = none.1 in
        let r = rest (λ zero_. some (omega (arith, all, here, zero_))) in (r.0, inr r.1, r.2)
    by (inr there) rest = (x, inl refl, there.1)
