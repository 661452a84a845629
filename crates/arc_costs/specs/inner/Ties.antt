-- What adding amounts keeps.
use Rattle.std.specs.Prelude.{◌≡◌, ◌+◌, ◌==◌, ◌||◌, ℕ, zero, suc, Bool, true, false, not, List, length, map, refl}
use Rattle.std.specs.Prelude.{replicate}
use Rattle.std.proofs.Common.{[], ◌∷◌, sym, ap, ◌∙◌, arith, true≢false}
use Rattle.std.proofs.lemmas.Bool.Decides.{Decides-eqb}
use Rattle.std.proofs.lemmas.Simd.{length-zip2, zip2_splat_left}
use Rattle.event_costs.specs.Costs.{event_kinds, IsWhole, no_cost, sum_of_costs}
use Rattle.arc_costs.specs.Totals.{is_some_cost, is_some_total, nothing, sum_of_totals, total}
use Rattle.arc_costs.specs.declared.total.Total.{Total}

same_numbers : (xs : List ℕ) → map (λ x. 0 + x) xs ≡ xs
same_numbers [] = refl
same_numbers (x ∷ xs) =
    let e : 0 + x ≡ x = omega arith in ap (λ y. y ∷ map (λ z. 0 + z) xs) e ∙ ap (λ ys. x ∷ ys) (same_numbers xs)

pub no_cost_plus : (cost : List ℕ) → IsWhole cost → sum_of_costs no_cost cost ≡ cost
no_cost_plus cost whole = zip2_splat_left (λ x y. x + y) 0 event_kinds cost whole ∙ same_numbers cost

pub whole_sum : (a b : List ℕ) → IsWhole a → IsWhole b → IsWhole (sum_of_costs a b)
whole_sum a b one other = length-zip2 (λ x y. x + y) a b (one ∙ sym other) ∙ one

pub nothing_plus : (t : Total) → IsWhole t.cost → sum_of_totals nothing t ≡ t
nothing_plus t whole =
    let calls : 0 + t.calls ≡ t.calls = omega arith in λ i. total (calls i) (no_cost_plus t.cost whole i)

-- what isn't something is nothing

none_of : (n : ℕ) (rest : Bool) → not (n == 0) || rest ≡ false → (n ≡ 0) × (rest ≡ false)
none_of n rest none = by (n == 0) refl
  where
    by : (b : Bool) → (n == 0) ≡ b → (n ≡ 0) × (rest ≡ false)
    by true is = ((Decides-eqb n 0).0 is, sym (ap (λ b. not b || rest) is) ∙ none)
    by false is = absurd (true≢false (sym (ap (λ b. not b || rest) is) ∙ none))

zeros : (n : ℕ) (xs : List ℕ) → length xs ≡ n → is_some_cost xs ≡ false → xs ≡ replicate n 0
zeros zero [] long none = refl
zeros zero (x ∷ xs) long none = absurd (omega (arith, long))
zeros (suc n) [] long none = absurd (omega (arith, long))
zeros (suc n) (x ∷ xs) long none =
    let both = none_of x (is_some_cost xs) none in
    λ i. both.0 i ∷ zeros n xs (omega (arith, long)) both.1 i

pub no_numbers : (cost : List ℕ) → IsWhole cost → is_some_cost cost ≡ false → cost ≡ no_cost
no_numbers cost whole none = zeros event_kinds cost whole none

pub no_total_numbers : (t : Total) → IsWhole t.cost → is_some_total t ≡ false → t ≡ nothing
no_total_numbers t whole none =
    let both = none_of t.calls (is_some_cost t.cost) none in
    λ i. total (both.0 i) (no_numbers t.cost whole both.1 i)

-- and what is stays so

some_more : (x y : ℕ) (some more : Bool) → (some ≡ true → more ≡ true) → not (x == 0) || some ≡ true
    → not (x + y == 0) || more ≡ true
some_more x y some more rest is = by x refl
  where
    later : (b : Bool) → more ≡ true → b || more ≡ true
    later true e = refl
    later false e = e

    by : (n : ℕ) → x ≡ n → not (x + y == 0) || more ≡ true
    by zero none = later (not (x + y == 0)) (rest (sym (ap (λ n. not (n == 0) || some) none) ∙ is))
    by (suc n) one =
        let positive : (x + y == 0) ≡ false = grind (arith, one) in ap (λ b. not b || more) positive

some_numbers : (xs ys : List ℕ) → length xs ≡ length ys → is_some_cost xs ≡ true
    → is_some_cost (sum_of_costs xs ys) ≡ true
some_numbers [] ys long some = absurd (true≢false (sym some))
some_numbers (x ∷ xs) [] long some = absurd (omega (arith, long))
some_numbers (x ∷ xs) (y ∷ ys) long some =
    some_more x y (is_some_cost xs) (is_some_cost (sum_of_costs xs ys))
    (some_numbers xs ys (omega (arith, long))) some

pub some_sum : (a b : List ℕ) → IsWhole a → IsWhole b → is_some_cost a ≡ true → is_some_cost (sum_of_costs a b) ≡ true
some_sum a b one other some = some_numbers a b (one ∙ sym other) some

pub some_total : (a b : Total) → IsWhole a.cost → IsWhole b.cost → is_some_total a ≡ true
    → is_some_total (sum_of_totals a b) ≡ true
some_total a b one other some =
    some_more a.calls b.calls (is_some_cost a.cost) (is_some_cost (sum_of_costs a.cost b.cost))
    (some_sum a.cost b.cost one other) some
