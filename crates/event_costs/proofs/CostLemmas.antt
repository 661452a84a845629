-- Costs made number by number are what the definitions say.
use Rattle.std.proofs.Common.{◌≡◌, ℕ, ◌<◌, All, Bool, true, false, List, length, map, get_or, sym, subst, ◌∙◌, refl}
use Rattle.std.proofs.Common.{arith}
use Rattle.std.specs.Simd.Lanes.{zip2}
use Rattle.std.proofs.lemmas.Simd.{get_or-zip2, length-zip2}
use Rattle.std.proofs.lemmas.Grind.{same_number_lists}
use Rattle.std.proofs.lemmas.List.{take-map}
use Rattle.std.proofs.lemmas.List.Elements.{All-get_or}
use Rattle.event_costs.specs.Costs.{events_shown}

-- a list whose numbers are made of those at the same place of two others
pub zip2_from_places : (f : ℕ → ℕ → ℕ) (now xs ys : List ℕ) → length xs ≡ length ys → length now ≡ length xs
    → ((k : ℕ) → k < length ys → get_or now k 0 ≡ f (get_or xs k 0) (get_or ys k 0)) → now ≡ zip2 f xs ys
zip2_from_places f now xs ys alike long at =
    same_number_lists now (zip2 f xs ys) (long ∙ sym (length-zip2 f xs ys alike))
    (λ k lt. at k (omega arith) ∙ sym (get_or-zip2 f xs ys k 0 0 0 (omega arith) (omega arith)))

-- what holds of every number so made holds of each
pub zip2_at : (f : ℕ → ℕ → ℕ) (P : ℕ → Type 0) (xs ys : List ℕ) (k : ℕ) → length xs ≡ length ys → k < length ys
    → All P (zip2 f xs ys) → P (f (get_or xs k 0) (get_or ys k 0))
zip2_at f P xs ys k alike lt all =
    subst P (get_or-zip2 f xs ys k 0 0 0 (omega arith) lt)
    (All-get_or P (zip2 f xs ys) k 0 (let e = length-zip2 f xs ys alike in omega arith) all)

-- what is made of the events shown is what is shown of all that is so made
pub map-events_shown : {A B : Type 0} (f : A → B) (branches : Bool) (all : List A)
    → map f (events_shown branches all) ≡ events_shown branches (map f all)
map-events_shown f true all = refl
map-events_shown f false all = sym (take-map f 9 all)
