-- Lists that are filtered, mapped and joined.
use Rattle.std.proofs.Common.{◌≡◌, ℕ, zero, suc, ◌+◌, ◌<◌, Bool, true, false, cond, List, [], ◌∷◌, ◌++◌, length, get_or}
use Rattle.std.proofs.Common.{map, flat_map, sum_by, All, refl, ap, sym, ◌∙◌, arith, append_assoc, zero-add, take}
use Rattle.std.specs.List.{filter, range_with_len}
use Rattle.std.proofs.lemmas.List.{flat_map_more, take_more}
use Rattle.std.proofs.lemmas.List.Elements.{All-head, All-tail}
use Rattle.std.proofs.lemmas.List.Sums.{sum_by-cons}

-- the numbers up to one more
pub range_more : (a n : ℕ) → range_with_len a (n + 1) ≡ range_with_len a n ++ (a + n) ∷ []
range_more a zero = ap (λ k. k ∷ []) (let e : a ≡ a + 0 = omega arith in e)
range_more a (suc n) =
    let next : suc n + 1 ≡ suc (n + 1) = omega arith in
    let last : (a + 1) + n ≡ a + suc n = omega arith in
    ap (range_with_len a) next ∙ ap (λ ks. a ∷ ks) (range_more (a + 1) n)
    ∙ ap (λ k. a ∷ (range_with_len (a + 1) n ++ k ∷ [])) last

pub map_agree : {X Y : Type 0} (f g : X → Y) (xs : List X) → All (λ x. f x ≡ g x) xs → map f xs ≡ map g xs
map_agree f g [] all = refl
map_agree {X} {Y} f g (x ∷ xs) all =
    let P : X → Type 0 = λ y. f y ≡ g y in
    ap (λ y. y ∷ map f xs) (All-head P x xs all) ∙ ap (λ ys. g x ∷ ys) (map_agree f g xs (All-tail P x xs all))

pub flat_map_agree : {X Y : Type 0} (f g : X → List Y) (xs : List X) → All (λ x. f x ≡ g x) xs
    → flat_map f xs ≡ flat_map g xs
flat_map_agree f g [] all = refl
flat_map_agree {X} {Y} f g (x ∷ xs) all =
    let P : X → Type 0 = λ y. f y ≡ g y in
    ap (λ ys. ys ++ flat_map f xs) (All-head P x xs all)
    ∙ ap (λ ys. g x ++ ys) (flat_map_agree f g xs (All-tail P x xs all))

pub filter_agree_on : {X : Type 0} (p q : X → Bool) (xs : List X) → All (λ x. p x ≡ q x) xs → filter p xs ≡ filter q xs
filter_agree_on p q [] all = refl
filter_agree_on {X} p q (x ∷ xs) all =
    let P : X → Type 0 = λ y. p y ≡ q y in
    ap (λ b. cond b (x ∷ filter p xs) (filter p xs)) (All-head P x xs all)
    ∙ ap (λ ys. cond (q x) (x ∷ ys) ys) (filter_agree_on p q xs (All-tail P x xs all))

pub sum_agree_on : {X : Type 0} (f g : X → ℕ) (xs : List X) → All (λ x. f x ≡ g x) xs → sum_by f xs ≡ sum_by g xs
sum_agree_on f g [] all = refl
sum_agree_on {X} f g (x ∷ xs) all =
    let P : X → Type 0 = λ y. f y ≡ g y in
    sum_by-cons f x xs ∙ ap (λ n. n + sum_by f xs) (All-head P x xs all)
    ∙ ap (λ n. g x + n) (sum_agree_on f g xs (All-tail P x xs all)) ∙ sym (sum_by-cons g x xs)

filter_map_cases : {X Y : Type 0} (f : X → Y) (b : Bool) (x : X) (xs : List X) (ys : List Y) → ys ≡ map f xs
    → cond b (f x ∷ ys) ys ≡ map f (cond b (x ∷ xs) xs)
filter_map_cases f true x xs ys e = ap (λ zs. f x ∷ zs) e
filter_map_cases f false x xs ys e = e

-- what passes among the results are the results of what passes
pub filter_of_map : {X Y : Type 0} (f : X → Y) (p : Y → Bool) (xs : List X)
    → filter p (map f xs) ≡ map f (filter (λ x. p (f x)) xs)
filter_of_map f p [] = refl
filter_of_map f p (x ∷ xs) =
    filter_map_cases f (p (f x)) x (filter (λ y. p (f y)) xs) (filter p (map f xs)) (filter_of_map f p xs)

sum_filter_cases : {X : Type 0} (f : X → ℕ) (b : Bool) (x : X) (xs : List X) (n : ℕ) → sum_by f xs ≡ n
    → sum_by f (cond b (x ∷ xs) xs) ≡ cond b (f x) 0 + n
sum_filter_cases f true x xs n e = sum_by-cons f x xs ∙ ap (λ m. f x + m) e
sum_filter_cases f false x xs n e = e ∙ omega arith

-- a sum over what passes
pub sum_of_filter : {X : Type 0} (f : X → ℕ) (p : X → Bool) (xs : List X)
    → sum_by f (filter p xs) ≡ sum_by (λ x. cond (p x) (f x) 0) xs
sum_of_filter f p [] = refl
sum_of_filter f p (x ∷ xs) =
    sum_filter_cases f (p x) x (filter p xs) (sum_by (λ y. cond (p y) (f y) 0) xs) (sum_of_filter f p xs)
    ∙ sym (sum_by-cons (λ y. cond (p y) (f y) 0) x xs)

pub sum_of_map : {X Y : Type 0} (f : Y → ℕ) (g : X → Y) (xs : List X) → sum_by f (map g xs) ≡ sum_by (λ x. f (g x)) xs
sum_of_map f g [] = refl
sum_of_map f g (x ∷ xs) =
    sum_by-cons f (g x) (map g xs) ∙ ap (λ n. f (g x) + n) (sum_of_map f g xs) ∙ sym (sum_by-cons (λ y. f (g y)) x xs)

-- Texts that grow

pub text_more : {X : Type 0} (f : X → List ℕ) (start now new : List ℕ) (xs : List X) (i : ℕ) (d : X) → i < length xs
    → now ≡ start ++ flat_map f (take i xs) → new ≡ now ++ f (get_or xs i d)
    → new ≡ start ++ flat_map f (take (i + 1) xs)
text_more f start now new xs i d lt so_far is =
    is ∙ ap (λ t. t ++ f (get_or xs i d)) so_far ∙ flat_map_more f start (take i xs) (get_or xs i d)
    ∙ ap (λ ys. start ++ flat_map f ys) (sym (take_more xs i d lt))

pub numbers_text_more : (f : ℕ → List ℕ) (start now new : List ℕ) (i : ℕ)
    → now ≡ start ++ flat_map f (range_with_len 0 i)
    → new ≡ now ++ f i → new ≡ start ++ flat_map f (range_with_len 0 (i + 1))
numbers_text_more f start now new i so_far is =
    is ∙ ap (λ t. t ++ f i) so_far ∙ flat_map_more f start (range_with_len 0 i) i
    ∙ sym (ap (λ ks. start ++ flat_map f ks) (range_more 0 i ∙ ap (λ k. range_with_len 0 i ++ k ∷ []) (zero-add i)))

-- pieces that were appended one after another
pub two_pieces : (t0 t1 t2 a b : List ℕ) → t1 ≡ t0 ++ a → t2 ≡ t1 ++ b → t2 ≡ t0 ++ (a ++ b)
two_pieces t0 t1 t2 a b e1 e2 = e2 ∙ ap (λ t. t ++ b) e1 ∙ append_assoc t0 a b

pub three_pieces : (t0 t1 t2 t3 a b c : List ℕ) → t1 ≡ t0 ++ a → t2 ≡ t1 ++ b → t3 ≡ t2 ++ c
    → t3 ≡ t0 ++ ((a ++ b) ++ c)
three_pieces t0 t1 t2 t3 a b c e1 e2 e3 = two_pieces t0 t2 t3 (a ++ b) c (two_pieces t0 t1 t2 a b e1 e2) e3

pub four_pieces : (t0 t1 t2 t3 t4 a b c d : List ℕ) → t1 ≡ t0 ++ a → t2 ≡ t1 ++ b → t3 ≡ t2 ++ c → t4 ≡ t3 ++ d
    → t4 ≡ t0 ++ (((a ++ b) ++ c) ++ d)
four_pieces t0 t1 t2 t3 t4 a b c d e1 e2 e3 e4 =
    two_pieces t0 t3 t4 ((a ++ b) ++ c) d (three_pieces t0 t1 t2 t3 a b c e1 e2 e3) e4
