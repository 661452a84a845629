-- The circle of ready threads, seen as a list of threads.
use Rattle.std.proofs.Common.{◌≡◌, ℕ, zero, suc, ◌<◌, List, [], ◌∷◌, ◌++◌, length, map, take, drop, get_or, ◌∙◌, ap}
use Rattle.std.proofs.Common.{arith}
use Rattle.std.proofs.lemmas.List.{map-append, take-map, drop-map}
use Rattle.std.specs.List.{remove}
use Rattle.event_costs.specs.declared.numbers.ThreadNo.{ThreadNo}
use Rattle.guest_sched.specs.RunQueue.{to_front}

one_there : {X Y : Type 0} (f : X → Y) (xs : List X) (k : ℕ) (y : X) → k < length xs → y ≡ get_or xs k y
    → f y ∷ [] ≡ take 1 (drop k (map f xs))
one_there f [] k y h is = absurd (omega arith)
one_there f (x ∷ xs) zero y h is = ap (λ z. f z ∷ []) is
one_there f (x ∷ xs) (suc k) y h is = one_there f xs k y (omega arith) is

-- the one at a place, in front of the others
pub front_is : {X : Type 0} (f : X → ThreadNo) (xs : List X) (k : ℕ) (y : X) → k < length xs → y ≡ get_or xs k y
    → map f (y ∷ remove xs k) ≡ to_front k (map f xs)
front_is f xs k y h is =
    let rest : map f (remove xs k) ≡ remove (map f xs) k = simp (map-append, take-map, drop-map) in
    ap (λ zs. f y ∷ zs) rest ∙ ap (λ ys. ys ++ remove (map f xs) k) (one_there f xs k y h is)
