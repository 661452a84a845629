-- Lists of keys, and of a number for each kind of event.
use Rattle.std.specs.Prelude.{◌≡◌, ◌⊎◌, ℕ, List, [], ◌∷◌, map}
use Rattle.std.specs.BTreeSet.{insert_key}
use Rattle.std.specs.List.{range_with_len}
use Rattle.std.specs.declared.cmp.Ordering.{Ordering}
use Rattle.event_costs.specs.Costs.{event_kinds}

-- an element of a list
abbrev pub IsIn : {A : Type 0} → List A → A → Type 0
IsIn [] x = ⊥
IsIn (y ∷ ys) x = (y ≡ x) ⊎ IsIn ys x

-- each of a list once, in order
abbrev pub risen : {K : Type 0} → (K → K → Ordering) → List K → List K
risen order [] = []
risen order (k ∷ ks) = insert_key order (risen order ks) k

-- a number for each kind of event
abbrev pub by_kind : (ℕ → ℕ) → List ℕ
by_kind number = map number (range_with_len 0 event_kinds)
