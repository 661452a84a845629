-- The names of parts differ.
use Rattle.std.proofs.Common.{◌≡◌, ◌≢◌, ℕ, ◌+◌, ◌%◌, ◌^◌, ◌<◌, List, [], ◌∷◌, ◌++◌, codes, decimal, refl, ap, sym, ◌∙◌}
use Rattle.std.proofs.Common.{append_assoc, arith}
use Rattle.std.proofs.lemmas.Fmt.{decimal_by_steps, decimal_injective}
use Rattle.part_dump.specs.Files.{part_name}

-- no byte is a dash
abbrev HasNoDash : List ℕ → Type 0
HasNoDash [] = Unit {0}
HasNoDash (x ∷ xs) = (x ≢ 45) × HasNoDash xs

HasNoDash-append : (xs ys : List ℕ) → HasNoDash xs → HasNoDash ys → HasNoDash (xs ++ ys)
HasNoDash-append [] ys none others = others
HasNoDash-append (x ∷ xs) ys none others = (none.0, HasNoDash-append xs ys none.1 others)

HasNoDash-decimal : (n : ℕ) → n < 2 ^ 64 → HasNoDash (decimal n)
HasNoDash-decimal n small =
    decimal_by_steps (λ n ds. HasNoDash ds) (λ n lt. (λ is. absurd (omega arith), tt))
    (λ n ds over none. HasNoDash-append ds ((48 + n % 10) ∷ []) none (λ is. absurd (omega arith), tt)) n small

same_rest : (front xs ys : List ℕ) → front ++ xs ≡ front ++ ys → xs ≡ ys
same_rest [] xs ys same = same
same_rest (x ∷ front) xs ys same = same_rest front xs ys (cc)

-- what stands before the first dash and what stands behind it
around_dash : (xs ys us vs : List ℕ) → HasNoDash xs → HasNoDash ys → xs ++ 45 ∷ us ≡ ys ++ 45 ∷ vs
    → (xs ≡ ys) × (us ≡ vs)
around_dash [] [] us vs none others same = (refl, cc)
around_dash [] (y ∷ ys) us vs none others same = absurd (others.0 (cc))
around_dash (x ∷ xs) [] us vs none others same = absurd (none.0 (cc))
around_dash (x ∷ xs) (y ∷ ys) us vs none others same =
    let rest = around_dash xs ys us vs none.1 others.1 (cc) in
    let first : x ≡ y = cc in
    (ap (λ z. z ∷ xs) first ∙ ap (λ zs. y ∷ zs) rest.0, rest.1)

regrouped : (base : List ℕ) (part thread : ℕ)
    → part_name base part thread ≡ (base ++ codes ".") ++ (decimal part ++ 45 ∷ decimal thread)
regrouped base part thread =
    append_assoc ((base ++ codes ".") ++ decimal part) (codes "-") (decimal thread)
    ∙ append_assoc (base ++ codes ".") (decimal part) (codes "-" ++ decimal thread)

pub names_apart : (base : List ℕ) (p t q u : ℕ) → p < 2 ^ 32 → t < 2 ^ 32 → q < 2 ^ 32 → u < 2 ^ 32
    → part_name base p t ≡ part_name base q u → (p ≡ q) × (t ≡ u)
names_apart base p t q u p-fits t-fits q-fits u-fits same =
    let behind =
    same_rest (base ++ codes ".") (decimal p ++ 45 ∷ decimal t) (decimal q ++ 45 ∷ decimal u)
    (sym (regrouped base p t) ∙ same ∙ regrouped base q u)
    in
    let both =
    around_dash (decimal p) (decimal q) (decimal t) (decimal u) (HasNoDash-decimal p (omega arith))
    (HasNoDash-decimal q (omega arith)) behind
    in (
      decimal_injective p q (omega arith) (omega arith) both.0,
      decimal_injective t u (omega arith) (omega arith) both.1,
    )
