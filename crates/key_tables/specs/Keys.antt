-- Keys of a list, and their numbers in it.
use Rattle.std.specs.Prelude.{◌≡◌, ◌≢◌, ℕ, Bool, not, if◌then◌else◌, List, [], ◌∷◌, ◌++◌, filter, Some, slice_get}
use Rattle.std.specs.List.{AllPairs, list_any}

-- no two are the same
abbrev pub AreApart : {X : Type 0} → List X → Type 0
AreApart xs = AllPairs (λ x y. x ≢ y) xs

-- the keys with this one at the end, if it isn't among them
abbrev pub with_key : {K : Type 0} → (K → K → Bool) → List K → K → List K
with_key same keys key = if list_any (same key) keys then keys else keys ++ key ∷ []

-- those of the second list that aren't in the first
abbrev pub missing : {K : Type 0} → (K → K → Bool) → List K → List K → List K
missing same xs ys = filter (λ y. not (list_any (same y) xs)) ys

-- each number is that of its key in the table
abbrev pub NumberEach : {K : Type 0} → List K → List ℕ → List K → Type 0
NumberEach table [] [] = Unit {0}
NumberEach table (n ∷ ns) (k ∷ ks) = (slice_get table n ≡ Some k) × NumberEach table ns ks
NumberEach table _ _ = ⊥
