-- Tables, whose entries are f 0, f 1, .. f (n - 1).
use Rattle.std.proofs.Common.{◌≡◌, ℕ, zero, suc, ◌+◌, ◌<◌, Bool, true, false, cond, List, [], ◌∷◌, ◌++◌, length, Option}
use Rattle.std.proofs.Common.{Some, None, refl, sym, ap, subst, ◌∙◌, add-one, arith, inl, inr, ◌⊎◌, length-append}
use Rattle.std.specs.Option.{option_or}
use Rattle.std.specs.List.{All, find, slice_get}
use Rattle.std.proofs.lemmas.List.Elements.{All-push}
use Rattle.std.proofs.lemmas.List.Folds.{find-append}
use Rattle.elf_read.specs.Checks.{table}

pub last_or_below : (n k : ℕ) → k < suc n → (k < n) ⊎ (k ≡ n)
last_or_below n k h = grind arith

pub length-table : {A : Type 0} (f : ℕ → A) (n : ℕ) → length (table f n) ≡ n
length-table f zero = refl
length-table f (suc n) = let h = length-table f n in omega (arith, length-append (table f n) (f n ∷ []))

get-front : {A : Type 0} (xs ys : List A) (k : ℕ) → k < length xs → slice_get (xs ++ ys) k ≡ slice_get xs k
get-front [] ys k h = absurd (omega arith)
get-front (x ∷ xs) ys zero h = refl
get-front (x ∷ xs) ys (suc k) h = get-front xs ys k (omega arith)

get-last : {A : Type 0} (xs : List A) (x : A) → slice_get (xs ++ x ∷ []) (length xs) ≡ Some x
get-last [] x = refl
get-last (y ∷ xs) x = get-last xs x

-- the entry of an index
pub slice_get-table : {A : Type 0} (f : ℕ → A) (n k : ℕ) → k < n → slice_get (table f n) k ≡ Some (f k)
slice_get-table f zero k h = absurd (omega arith)
slice_get-table f (suc n) k h =
    elim (last_or_below n k h) [
      | inl less ↦ get-front (table f n) (f n ∷ []) k (let len = length-table f n in omega arith)
          ∙ slice_get-table f n k less
      | inr same ↦ rw same
          (ap (slice_get (table f n ++ f n ∷ [])) (sym (length-table f n)) ∙ get-last (table f n) (f n))
    ]

module _ {A : Type 0} (p : A → Bool) (f : ℕ → A) where
  find-suc : (k : ℕ) → find p (table f (suc k)) ≡ option_or (find p (table f k)) (find p (f k ∷ []))
  find-suc k = find-append p (table f k) (f k ∷ [])

  -- an entry that doesn't pass
  pub find_goes_on : (k : ℕ) → find p (table f k) ≡ None → p (f k) ≡ false → find p (table f (k + 1)) ≡ None
  find_goes_on k before here = rw add-one (find-suc k ∙ rw (before, here) refl)

  -- the first entry that passes, whatever follows it
  pub find_ends : (n k : ℕ) → k < n → find p (table f k) ≡ None → p (f k) ≡ true → find p (table f n) ≡ Some (f k)
  find_ends zero k lt before here = absurd (omega arith)
  find_ends (suc n) k lt before here =
      elim (last_or_below n k lt) [
        | inl less ↦ find-suc n ∙ rw (find_ends n k less before here) refl
        | inr same ↦ rw (← same) (find-suc k ∙ rw (before, here) refl)
      ]

-- what holds of each entry holds of the list
pub All-table : {A : Type 0} (P : A → Type 0) (f : ℕ → A) (n : ℕ) → ((k : ℕ) → k < n → P (f k)) → All P (table f n)
All-table P f zero each = λ k d lt. absurd (omega arith)
All-table P f (suc n) each =
    All-push P (table f n) (f n) (All-table P f n (λ k lt. each k (omega arith))) (each n (omega arith))

-- what is found passes, and what holds of each element holds of it
pub find_element : {A : Type 0} (P : A → Type 0) (p : A → Bool) (xs : List A) (y : A) → All P xs → find p xs ≡ Some y
    → P y × (p y ≡ true)
find_element P p [] y all found = absurd cc
find_element P p (x ∷ xs) y all found =
    step P p x xs y (all 0 x (omega arith)) (p x) refl
    (find_element P p xs y (λ k d lt. all (suc k) d (omega arith))) found
  where
    step : {A : Type 0} (P : A → Type 0) (p : A → Bool) (x : A) (xs : List A) (y : A) → P x → (b : Bool) → p x ≡ b
        → (find p xs ≡ Some y → P y × (p y ≡ true)) → cond b (Some x) (find p xs) ≡ Some y → P y × (p y ≡ true)
    step P p x xs y here true passes rest found =
        let same : x ≡ y = cc in
        (subst P same here, ap p (sym same) ∙ passes)
    step P p x xs y here false fails rest found = rest found

-- where none is found, none passes
pub find_none : {A : Type 0} (p : A → Bool) (xs : List A) → find p xs ≡ None → All (λ x. p x ≡ false) xs
find_none {A = A} p [] none = λ k d lt. absurd (omega arith)
find_none {A = A} p (x ∷ xs) none =
    let first = fails (p x) (find p xs) none in
    go first.0 (find_none p xs first.1)
  where
    fails : (b : Bool) (o : Option A) → cond b (Some x) o ≡ None → (b ≡ false) × (o ≡ None)
    fails true o e = absurd cc
    fails false o e = (refl, e)

    go : p x ≡ false → All (λ y. p y ≡ false) xs → All (λ y. p y ≡ false) (x ∷ xs)
    go here rest zero d lt = here
    go here rest (suc k) d lt = rest k d (omega arith)
