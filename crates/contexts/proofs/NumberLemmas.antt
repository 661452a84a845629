-- Numbers of contexts: each context has one, and keeps it.
use Rattle.std.proofs.Common.{◌≡◌, ℕ, zero, suc, ◌+◌, ◌<◌, Bool, true, false, ◌||◌, not, List, [], ◌∷◌, ◌++◌}
use Rattle.std.proofs.Common.{Some, length, slice_get, refl, sym, ap, ◌∙◌, arith, if◌then◌else◌, rules}
use Rattle.std.specs.List.{position_or_len}
use Rattle.std.specs.Prelude.{◌==◌, slice_index_or}
use Rattle.std.specs.Cmp.Lexicographic.{nat_list_eq_equiv}
use Rattle.std.proofs.lemmas.Bool.Decides.{nat_tests}
use Rattle.std.proofs.lemmas.Slice.Eq.{bytes_eq-Decides}
use Rattle.contexts.specs.Contexts.{Context, same_context}
use Rattle.contexts.specs.Contexts.{has_context, number, with_context}
use Rattle.contexts.specs.Contexts.{AreDistinct}
use Rattle.std.proofs.lemmas.Bool.{or_parts}

pub true_false : true ≡ false → ⊥
true_false e = cc

-- contexts are told apart as lists
pub context_alike : (a b : Context) → same_context a b ≡ true → a ≡ b
context_alike a b e = search (rules, bytes_eq-Decides)

pub context_itself : (a : Context) → same_context a a ≡ true
context_itself a = search (rules, bytes_eq-Decides)

-- one that has come up stands at its number
abbrev pub place : List Context → Context → ℕ
place cs c = position_or_len (λ other. same_context c other) cs

step_is : (b : Bool) (n : ℕ) → (if not b then 1 + n else 0) ≡ (if b then 0 else suc n)
step_is true n = refl
step_is false n = omega arith

pub place-cons : (d : Context) (cs : List Context) (c : Context)
    → place (d ∷ cs) c ≡ (if same_context c d then 0 else suc (place cs c))
place-cons d cs c = step_is (same_context c d) (place cs c)

-- it is found there
pub found : (cs : List Context) (c : Context) → has_context cs c ≡ true → slice_get cs (place cs c) ≡ Some c
found [] c there = absurd (true_false (sym there))
found (d ∷ cs) c there =
    ap (slice_get (d ∷ cs)) (place-cons d cs c) ∙ by (same_context c d) refl (λ h. found cs c h) there
  where
    by : (b : Bool) → same_context c d ≡ b → (has_context cs c ≡ true → slice_get cs (place cs c) ≡ Some c)
        → (b || has_context cs c) ≡ true
        → slice_get (d ∷ cs) (if b then 0 else suc (place cs c)) ≡ Some c
    by true is rest there_ = ap (λ x. Some x) (sym (context_alike c d is))
    by false is rest there_ = rest there_

pub none_place : (cs : List Context) (c : Context) → has_context cs c ≡ false → place cs c ≡ length cs
none_place [] c none = refl
none_place (d ∷ cs) c none = place-cons d cs c ∙ by (same_context c d) refl (λ h. none_place cs c h) none
  where
    by : (b : Bool) → same_context c d ≡ b → (has_context cs c ≡ false → place cs c ≡ length cs)
        → (b || has_context cs c) ≡ false → (if b then 0 else suc (place cs c)) ≡ suc (length cs)
    by true is rest none_ = absurd (true_false none_)
    by false is rest none_ = ap suc (rest none_)

last : (cs : List Context) (c : Context) → slice_get (cs ++ c ∷ []) (length cs) ≡ Some c
last [] c = refl
last (d ∷ cs) c = last cs c

-- a context stands at its number, once it has come up
pub number_is : (cs : List Context) (c : Context) → slice_get (with_context cs c) (number cs c).0 ≡ Some c
number_is cs c = by (has_context cs c) refl
  where
    by : (b : Bool) → has_context cs c ≡ b → slice_get (if b then cs else cs ++ c ∷ []) (place cs c) ≡ Some c
    by true there = found cs c there
    by false none = ap (slice_get (cs ++ c ∷ [])) (none_place cs c none) ∙ last cs c

pub swapped : (a b : Context) → same_context a b ≡ same_context b a
swapped a b = nat_list_eq_equiv.symm a b

-- one that hasn't come up isn't any that has
other : (c : Context) (cs : List Context) (j : ℕ) → has_context cs c ≡ false → j < length cs
    → same_context c (slice_index_or cs j []) ≡ false
other c [] j none less = absurd (omega (arith, less))
other c (d ∷ cs) zero none less = (or_parts (same_context c d) (has_context cs c) none).0
other c (d ∷ cs) (suc j) none less =
    other c cs j (or_parts (same_context c d) (has_context cs c) none).1 (omega (arith, less))

next : (i j : ℕ) → (i == j) ≡ (suc i == suc j)
next i j = grind (arith, nat_tests)

not_next : (j : ℕ) → false ≡ (0 == suc j)
not_next j = grind (arith, nat_tests)

not_first : (j : ℕ) → false ≡ (suc j == 0)
not_first j = grind (arith, nat_tests)

-- contexts that differ are told apart by their numbers
pub at_apart : (cs : List Context) (i j : ℕ) → AreDistinct cs → i < length cs → j < length cs
    → same_context (slice_index_or cs i []) (slice_index_or cs j []) ≡ (i == j)
at_apart [] i j distinct less also = absurd (omega (arith, less))
at_apart (c ∷ cs) zero zero distinct less also = context_itself c
at_apart (c ∷ cs) zero (suc j) distinct less also = other c cs j distinct.0 (omega (arith, also)) ∙ not_next j
at_apart (c ∷ cs) (suc i) zero distinct less also =
    swapped (slice_index_or cs i []) c ∙ other c cs i distinct.0 (omega (arith, less)) ∙ not_first i
at_apart (c ∷ cs) (suc i) (suc j) distinct less also =
    at_apart cs i j distinct.1 (omega (arith, less)) (omega (arith, also)) ∙ next i j
