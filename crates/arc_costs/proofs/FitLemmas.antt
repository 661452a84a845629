-- Where sums over rows fit, an amount can be added.
use Rattle.std.proofs.Common.{◌≡◌, ◌+◌, ◌<◌, ◌≤◌, ◌^◌, ℕ, zero, suc, Bool, true, false, cond, List, [], ◌∷◌, get_or}
use Rattle.std.proofs.Common.{replicate, Some, unwrap_or, refl, ap, arith, if◌then◌else◌}
use Rattle.std.specs.List.{AllByRecursion}
use Rattle.std.specs.Map.{lookup}
use Rattle.std.proofs.lemmas.List.Elements.{All-from_recursion, recursion_from_All}
use Rattle.event_costs.specs.Costs.{event_kinds, no_cost, sum_of_costs}
use Rattle.arc_costs.specs.Amounts.{amount_at, key_of}
use Rattle.arc_costs.specs.Rows.{sum_at}
use Rattle.arc_costs.specs.Totals.{Fits, of_cost, one_call}
use Rattle.arc_costs.specs.inner.Sums.{CanAddCost, CanAddTotal}
use Rattle.arc_costs.specs.declared.total.Total.{Total}
use Rattle.arc_costs.proofs.RowLemmas.{sum_at-cons}

each_fits : (xs ys : List ℕ) → ((event : ℕ) → get_or xs event 0 + get_or ys event 0 < 2 ^ 64)
    → AllByRecursion (λ n. n < 2 ^ 64) (sum_of_costs xs ys)
each_fits [] ys fits = tt
each_fits (x ∷ xs) [] fits = tt
each_fits (x ∷ xs) (y ∷ ys) fits = (fits 0, each_fits xs ys (λ event. fits (suc event)))

pub fits_from_numbers : (xs ys : List ℕ) → ((event : ℕ) → get_or xs event 0 + get_or ys event 0 < 2 ^ 64)
    → Fits (sum_of_costs xs ys)
fits_from_numbers xs ys fits = All-from_recursion (λ n. n < 2 ^ 64) (sum_of_costs xs ys) (each_fits xs ys fits)

no_more : (xs : List ℕ) (n : ℕ) → AllByRecursion (λ x. x < 2 ^ 64) xs
    → AllByRecursion (λ x. x < 2 ^ 64) (sum_of_costs xs (replicate n 0))
no_more [] n fits = tt
no_more (x ∷ xs) zero fits = tt
no_more (x ∷ xs) (suc n) fits = (omega (arith, fits.0), no_more xs n fits.1)

-- no cost can always be added
pub can_add_no_cost : (held : List ℕ) → CanAddCost held no_cost
can_add_no_cost held fits =
    All-from_recursion (λ x. x < 2 ^ 64) (sum_of_costs held no_cost)
    (no_more held event_kinds (recursion_from_All (λ x. x < 2 ^ 64) held fits))

pub can_add_of_cost : (held : Total) (cost : List ℕ) → Fits (sum_of_costs held.cost cost)
    → CanAddTotal held (of_cost cost)
can_add_of_cost held cost fits = record { calls = λ few. omega (arith, few); cost = λ _. fits }

pub can_add_one_call : (held : Total) → held.calls + 1 < 2 ^ 64 → CanAddTotal held one_call
can_add_one_call held few = record { calls = λ _. few; cost = can_add_no_cost held.cost }

-- what a key has is no more than the sum over its rows
module _ {K A : Type 0} (same : K → K → Bool) (nothing : A) (number : A → ℕ) (none : number nothing ≡ 0) (k : K) where
  held_more : (b : Bool) (e : K × A) (es : List (K × A)) → same k e.0 ≡ b
      → number (amount_at same nothing es k) ≤ sum_at key_of same (λ x. number x.1) k es
      → number (amount_at same nothing (e ∷ es) k) ≤ sum_at key_of same (λ x. number x.1) k (e ∷ es)
  held_more true e es is rest =
      let held = ap (λ c. number (unwrap_or (cond c (Some e.1) (lookup (same k) es)) nothing)) is in
      let here = ap (λ c. if c then number e.1 else 0) is in
      let all = sum_at-cons key_of same (λ (x : K × A). number x.1) k e es in
      omega (arith, held, here, all)
  held_more false e es is rest =
      let held = ap (λ c. number (unwrap_or (cond c (Some e.1) (lookup (same k) es)) nothing)) is in
      let all = sum_at-cons key_of same (λ (x : K × A). number x.1) k e es in
      omega (arith, held, all, rest)

  pub held_within : (es : List (K × A))
      → number (amount_at same nothing es k) ≤ sum_at key_of same (λ e. number e.1) k es
  held_within [] = omega (arith, none)
  held_within (e ∷ es) = held_more (same k e.0) e es refl (held_within es)
