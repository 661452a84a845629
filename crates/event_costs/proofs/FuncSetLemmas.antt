-- Which functions are in a set.
use Rattle.std.proofs.Common.{◌≡◌, ◌<◌, ◌==◌, ◌↔◌, ◌⊎◌, ℕ, zero, suc, Bool, true, false, ◌||◌, inl, inr, List, [], ◌∷◌}
use Rattle.std.proofs.Common.{length, get_or, Contains, Decides, IsTrue, Result, Ok, Err, refl, sym, ap, ◌∙◌, arith}
use Rattle.std.specs.List.Sorted.{IsBinarySearchResult, IsNonDecreasingBy, IsSearchInRange, IsStrictlyIncreasing}
use Rattle.std.specs.Ordering.{nat_cmp, ordering_index}
use Rattle.std.specs.Prelude.{is_ok}
use Rattle.std.proofs.lemmas.Bool.{cases_lt, false≢true, or_cases}
use Rattle.std.proofs.lemmas.Bool.Decides.{nat_tests, same_from_decides}
use Rattle.std.proofs.lemmas.Cmp.{ranked}
use Rattle.std.proofs.lemmas.List.{get_or_default, length-map}
use Rattle.std.proofs.lemmas.List.Sorted.{IsNonDecreasingBy-from_default}
use Rattle.std.proofs.lemmas.Map.Keys.{below_from_sorted, sorted_from_strictly_increasing}
use Rattle.event_costs.specs.FuncSet.{is_among, numbers}
use Rattle.event_costs.specs.declared.numbers.FuncId.{FuncId}

same_id : (f g : FuncId) → f.0 ≡ g.0 → f ≡ g
same_id f g is = let id : ℕ → FuncId = λ n. record { 0 = n } in ap id is

among_from : (funcs : List FuncId) (func : FuncId) → is_among funcs func ≡ true → Contains funcs func
among_from [] func is = absurd (false≢true is)
among_from (f ∷ funcs) func is = by (among_from funcs func) (or_cases (func.0 == f.0) (is_among funcs func) is)
  where
    same : (func.0 == f.0) ≡ true → f.0 ≡ func.0
    same e = grind (arith, nat_tests)

    by : (is_among funcs func ≡ true → Contains funcs func) → ((func.0 == f.0) ≡ true) ⊎ (is_among funcs func ≡ true)
        → Contains (f ∷ funcs) func
    by rest (inl e) = (0, omega arith, same_id f func (same e))
    by rest (inr e) = let there = rest e in (suc there.0, omega (arith, there.1), there.2)

among_place : (funcs : List FuncId) (func : FuncId) (k : ℕ) → k < length funcs → get_or funcs k func ≡ func
    → is_among funcs func ≡ true
among_place [] func k lt at = absurd (omega arith)
among_place (f ∷ funcs) func zero lt at = ap (λ b. b || is_among funcs func) (same (ap (λ (g : FuncId). g.0) at))
  where
    same : f.0 ≡ func.0 → (func.0 == f.0) ≡ true
    same e = grind (arith, nat_tests)
among_place (f ∷ funcs) func (suc k) lt at =
    ap (λ b. (func.0 == f.0) || b) (among_place funcs func k (omega arith) at) ∙ or_true (func.0 == f.0)
  where
    or_true : (b : Bool) → (b || true) ≡ true
    or_true true = refl
    or_true false = refl

among_at : (funcs : List FuncId) (func : FuncId) → Contains funcs func → is_among funcs func ≡ true
among_at funcs func there = among_place funcs func there.0 there.1 there.2

pub among-Decides : (funcs : List FuncId) (func : FuncId) → Decides (is_among funcs func) (Contains funcs func)
among-Decides funcs func = (among_from funcs func, among_at funcs func)

-- what a test that is alike tells
pub among_tells : (r : Bool) (funcs : List FuncId) (func : FuncId) → r ≡ is_among funcs func
    → (IsTrue r ↔ Contains funcs func)
among_tells r funcs func is =
    let tells = among-Decides funcs func in (λ yes. tells.0 (sym is ∙ yes), λ there. is ∙ tells.1 there)

-- ---- a search by halves

nobody : FuncId
nobody = record { 0 = 0 }

-- the number of the function at a place
abbrev number_at : List FuncId → ℕ → ℕ
number_at funcs k = (get_or funcs k nobody).0

number_is : (funcs : List FuncId) (k : ℕ) → k < length funcs → number_at funcs k ≡ get_or (numbers funcs) k 0
number_is [] k l = absurd (omega arith)
number_is (f ∷ funcs) zero l = refl
number_is (f ∷ funcs) (suc k) l = number_is funcs k (omega arith)

module _ (funcs : List FuncId) (rise : IsStrictlyIncreasing (numbers funcs)) (func : FuncId) where
  rises : (i j : ℕ) → i < j → j < length funcs → number_at funcs i < number_at funcs j
  rises i j order within =
      let step : get_or (numbers funcs) i 0 < get_or (numbers funcs) j 0
      = below_from_sorted (numbers funcs) i j 0 (sorted_from_strictly_increasing (numbers funcs) rise) order
      (omega (arith, length-map funcs (λ (f : FuncId). f.0))) in
      omega (arith, step, number_is funcs i (omega arith), number_is funcs j within)

  comparisons_rise : IsNonDecreasingBy (λ (f : FuncId). ordering_index (nat_cmp f.0 func.0)) funcs
  comparisons_rise =
      IsNonDecreasingBy-from_default (λ (f : FuncId). ordering_index (nat_cmp f.0 func.0)) funcs nobody
      (λ i j le within.
      let less : i < j → number_at funcs i < number_at funcs j = λ l. rises i j l within in
      grind (arith, nat_tests, less, λ (same : i ≡ j). ap (number_at funcs) same))

  -- what it answers
  pub found_among : (r : Result ℕ ℕ) → IsSearchInRange r (length funcs)
      → IsBinarySearchResult (λ (f : FuncId). nat_cmp f.0 func.0) funcs r
      → is_ok r ≡ is_among funcs func
  found_among (Ok k) within equal =
      sym (among_place funcs func k within (same_id _ func (ranked _ func.0 _ (sym (equal func)))))
  found_among (Err k) within parted =
      same_from_decides false (is_among funcs func) (λ e. absurd (false≢true e), λ there. absurd (nowhere there))
      (among-Decides funcs func)
    where
      at : (j : ℕ) (l : j < length funcs) → get_or funcs j func ≡ func → number_at funcs j ≡ func.0
      at j l e = ap (λ (f : FuncId). f.0) (get_or_default funcs j nobody func l ∙ e)

      nowhere : Contains funcs func → ⊥
      nowhere there = elim (cases_lt there.0 k) [
        | inl before ↦
            let less : number_at funcs there.0 < func.0
            = ranked _ func.0 _ (sym ((parted comparisons_rise).0 there.0 nobody (omega arith) before)) in
            omega (arith, less, at there.0 there.1 there.2)
        | inr behind ↦
            let more : func.0 < number_at funcs there.0
            = ranked _ func.0 _ (sym ((parted comparisons_rise).1 there.0 nobody behind there.1)) in
            omega (arith, more, at there.0 there.1 there.2)
      ]
