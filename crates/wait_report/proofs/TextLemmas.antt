-- One piece more of a list.
use Rattle.std.proofs.Common.{◌≡◌, ℕ, ◌+◌, ◌<◌, List, [], ◌∷◌, ◌++◌, length, flat_map, get_or, map, take, ap, sym, ◌∙◌}
use Rattle.std.proofs.lemmas.List.{flat_map_more, map-append, take_more}

pub flat_more : {A B : Type 0} (f : A → List B) (bs : List B) (xs : List A) (i : ℕ) (d : A) → i < length xs
    → (bs ++ flat_map f (take i xs)) ++ f (get_or xs i d) ≡ bs ++ flat_map f (take (i + 1) xs)
flat_more f bs xs i d lt =
    flat_map_more f bs (take i xs) (get_or xs i d) ∙ ap (λ ys. bs ++ flat_map f ys) (sym (take_more xs i d lt))

pub map_more : {A B : Type 0} (f : A → B) (xs : List A) (i : ℕ) (d : A) → i < length xs
    → map f (take i xs) ++ f (get_or xs i d) ∷ [] ≡ map f (take (i + 1) xs)
map_more f xs i d lt = sym (ap (map f) (take_more xs i d lt) ∙ map-append f (take i xs) (get_or xs i d ∷ []))
