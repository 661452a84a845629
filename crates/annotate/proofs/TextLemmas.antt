-- The lines of a text.
use Rattle.std.proofs.Common.{◌≡◌, ℕ, zero, suc, ◌+◌, ◌-◌, ◌==◌, Bool, true, false, List, [], ◌∷◌, ◌++◌, length, Vec}
use Rattle.std.proofs.Common.{Bor, Option, Some, None, slice_get}
use Rattle.std.proofs.Common.{refl, ap, sym, ◌∙◌, arith}
use Rattle.std.specs.Option.{MatchOption, option_to_list}
use Rattle.std.specs.Vec.{vec_len}
use Rattle.std.specs.declared.alloc.Global.{Global}
use Rattle.std.proofs.lemmas.Bool.Decides.{nat_tests}
use Rattle.std.proofs.lemmas.List.{length-append, length-map, map-append}
use Rattle.std.proofs.lemmas.Option.{slice_get-map, slice_get_past}
use Rattle.std.specs.Option.{option_map}
use Rattle.annotate.specs.Sources.{without_last_empty}
use Rattle.annotate.specs.inner.SourceRows.{pieces}

abbrev pub empty_piece : Option (List ℕ) → Bool
empty_piece None = false
empty_piece (Some x) = length x == 0

more : (y z : List ℕ) (zs : List (List ℕ)) → without_last_empty (y ∷ z ∷ zs) ≡ y ∷ without_last_empty (z ∷ zs)
more [] z zs = refl
more (b ∷ bs) z zs = refl

more_before : (z : List ℕ) (zs : List (List ℕ)) (y : List ℕ)
    → without_last_empty (z ∷ (zs ++ y ∷ [])) ≡ z ∷ without_last_empty (zs ++ y ∷ [])
more_before z [] y = more z y []
more_before z (w ∷ ws) y = more z w (ws ++ y ∷ [])

one_kept : (y : List ℕ) → (length y == 0) ≡ false → without_last_empty (y ∷ []) ≡ y ∷ []
one_kept [] fails = absurd (cc)
one_kept (b ∷ bs) fails = refl

clash : {A : Type 0} (b : Bool) → b ≡ true → b ≡ false → A
clash b e f = absurd (cc)

one_dropped : (y : List ℕ) → (length y == 0) ≡ true → without_last_empty (y ∷ []) ≡ []
one_dropped [] passes = refl
one_dropped (b ∷ bs) passes =
    let fails : (length (b ∷ bs) == 0) ≡ false = grind (arith, nat_tests) in
    clash (length (b ∷ bs) == 0) passes fails

kept_at : (n : ℕ) (xs : List (List ℕ)) → n ≡ length xs - 1 → empty_piece (slice_get xs n) ≡ false
    → without_last_empty xs ≡ xs
kept_at n [] size fails = refl
kept_at zero (y ∷ []) size fails = one_kept y fails
kept_at (suc n) (y ∷ []) size fails = absurd (omega (arith, size))
kept_at zero (y ∷ z ∷ zs) size fails = absurd (omega (arith, size))
kept_at (suc n) (y ∷ z ∷ zs) size fails =
    more y z zs ∙ ap (λ t. y ∷ t) (kept_at n (z ∷ zs) (omega (arith, size)) fails)

dropped_at : (n : ℕ) (ys : List (List ℕ)) (y : List ℕ) → n ≡ length (ys ++ y ∷ []) - 1
    → empty_piece (slice_get (ys ++ y ∷ []) n) ≡ true → without_last_empty (ys ++ y ∷ []) ≡ ys
dropped_at zero [] y size passes = one_dropped y passes
dropped_at (suc n) [] y size passes = absurd (omega (arith, size))
dropped_at zero (z ∷ zs) y size passes = absurd (omega (arith, size, length-append zs (y ∷ [])))
dropped_at (suc n) (z ∷ zs) y size passes =
    more_before z zs y
    ∙ ap (λ t. z ∷ t) (dropped_at n zs y (omega (arith, size, length-append zs (y ∷ []))) passes)

abbrev text_of : Bor (List ℕ) → List ℕ
text_of l = l.now

-- the last piece, by the last of the references
pub last_piece : (ls : List (Bor (List ℕ))) (o : Option (Bor (List ℕ))) → o ≡ slice_get ls (length ls - 1)
    → empty_piece (slice_get (pieces ls) (length ls - 1)) ≡ empty_piece (option_map text_of o)
last_piece ls o is = ap empty_piece (slice_get-map text_of ls (length ls - 1) ∙ ap (option_map text_of) (sym is))

pub last_stays : (ls : List (Bor (List ℕ))) → empty_piece (slice_get (pieces ls) (length ls - 1)) ≡ false
    → pieces ls ≡ without_last_empty (pieces ls)
last_stays ls fails = sym (kept_at (length ls - 1) (pieces ls) (let e = length-map ls text_of in omega (arith, e)) fails)

pub last_goes : (v w : Vec (Bor (List ℕ)) Global) (r : Option (Bor (List ℕ))) → v.items ≡ w.items ++ option_to_list r
    → MatchOption r ((vec_len v ≡ 0) × (vec_len w ≡ 0)) (λ _. vec_len w + 1 ≡ vec_len v)
    → empty_piece (slice_get (pieces v.items) (length v.items - 1)) ≡ true
    → pieces w.items ≡ without_last_empty (pieces v.items)
last_goes v w None is lens passes =
    clash (empty_piece (slice_get (pieces v.items) (length v.items - 1))) passes
    (ap empty_piece (slice_get_past (pieces v.items) (length v.items - 1)
    (let e = length-map v.items text_of in let none = lens.0 in omega (arith, e, none))))
last_goes v w (Some l) is lens passes =
    let eq : pieces v.items ≡ pieces w.items ++ l.now ∷ [] = ap pieces is ∙ map-append text_of w.items (l ∷ []) in
    let size : length v.items - 1 ≡ length (pieces w.items ++ l.now ∷ []) - 1 =
    let e = length-map v.items text_of in omega (arith, ap length eq, e) in
    sym (ap without_last_empty eq
    ∙ dropped_at (length v.items - 1) (pieces w.items) l.now size
    (ap (λ xs. empty_piece (slice_get xs (length v.items - 1))) (sym eq) ∙ passes))
