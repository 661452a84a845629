-- What a search of a list finds.
use Rattle.std.proofs.Common.{◌≡◌, suc, Bool, true, false, cond, Some, None, List, [], ◌∷◌, All, Contains, refl, sym}
use Rattle.std.proofs.Common.{ap, ◌∙◌, arith}
use Rattle.std.specs.List.{find}
use Rattle.std.proofs.lemmas.List.Elements.{All-nil, All-cons}

-- an element of the rest is one of the whole
later : {X : Type 0} (y : X) (ys : List X) (x : X) → Contains ys x → Contains (y ∷ ys) x
later y ys x at = (suc at.0, omega arith, at.2)

found_here :
    {X : Type 0} (p : X → Bool) (y : X) (ys : List X) (x : X) →
    (find p ys ≡ Some x → (p x ≡ true) × Contains ys x) →
    (b : Bool) → p y ≡ b → cond b (Some y) (find p ys) ≡ Some x → (p x ≡ true) × Contains (y ∷ ys) x
found_here p y ys x rest true passes e =
    let same : y ≡ x = cc in
    (ap p (sym same) ∙ passes, (0, omega arith, same))
found_here p y ys x rest false fails e = let r = rest e in (r.0, later y ys x r.1)

-- what is found passes, and stands in the list
pub found : {X : Type 0} (p : X → Bool) (xs : List X) (x : X) → find p xs ≡ Some x → (p x ≡ true) × Contains xs x
found p [] x e = cc
found p (y ∷ ys) x e = found_here p y ys x (found p ys x) (p y) refl e

none_here :
    {X : Type 0} (p : X → Bool) (y : X) (ys : List X) →
    (find p ys ≡ None → All (λ x. p x ≡ false) ys) →
    (b : Bool) → p y ≡ b → cond b (Some y) (find p ys) ≡ None → All (λ x. p x ≡ false) (y ∷ ys)
none_here p y ys rest true passes e = cc
none_here p y ys rest false fails e = All-cons (λ x. p x ≡ false) y ys fails (rest e)

-- where nothing is found, each fails
pub none_found : {X : Type 0} (p : X → Bool) (xs : List X) → find p xs ≡ None → All (λ x. p x ≡ false) xs
none_found p [] e = All-nil (λ x. p x ≡ false)
none_found p (y ∷ ys) e = none_here p y ys (none_found p ys) (p y) refl e
