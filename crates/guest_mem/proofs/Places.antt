-- Lists of places.
use Rattle.std.proofs.Common.{◌≡◌, ℕ, zero, suc, ◌+◌, ◌-◌, ◌<◌, ◌≤◌, true, false, cond, List, [], ◌∷◌, ◌++◌, refl, ◌∙◌}
use Rattle.std.proofs.Common.{sym, ap, arith, inl, inr}
use Rattle.std.proofs.lemmas.Bool.{cases_Bool, cases_eq, cases_lt, cond-true, cond-false, eq-eqb, ne_eqb}
use Rattle.std.proofs.lemmas.Bool.Decides.{nat_tests}
use Rattle.std.specs.Prelude.{Option, Some, None, is_some, slice_set}
use Rattle.std.specs.Option.{ForSome}
use Rattle.guest_mem.specs.Memory.{in_range}
use Rattle.guest_mem.specs.inner.Table.{at_place, Alters, AltersRange}

-- an empty place more changes none
pub place_pushed : {X : Type 0} (xs : List (Option X)) (q : ℕ) → at_place (xs ++ None ∷ []) q ≡ at_place xs q
place_pushed [] zero = refl
place_pushed [] (suc q) = refl
place_pushed (x ∷ xs) zero = refl
place_pushed (x ∷ xs) (suc q) = place_pushed xs q

-- what holds of each thing at a place holds still after one of them changed to such a thing
pub each-set : {X : Type 0} (P : X → Type 0) (xs : List (Option X)) (i : ℕ) (x : Option X)
    → ((q : ℕ) → ForSome (at_place xs q) P) → ForSome x P → (q : ℕ) → ForSome (at_place (slice_set xs i x) q) P
each-set P [] i x each new q = each q
each-set P (y ∷ ys) zero x each new zero = new
each-set P (y ∷ ys) zero x each new (suc q) = each (suc q)
each-set P (y ∷ ys) (suc i) x each new zero = each zero
each-set P (y ∷ ys) (suc i) x each new (suc q) = each-set P ys i x (λ k. each (suc k)) new q

-- one change more at the end of a range
pub range_more : {X : Type 0} (old mid new : ℕ → X) (first k n : ℕ) (f : X → X) → n ≡ k + 1
    → AltersRange old mid first k f → Alters mid new (first + k) (f (mid (first + k))) → AltersRange old new first n f
range_more old mid new first k n f e range change q =
    elim (cases_eq q (first + k)) [
      | inl here ↦ (
          let outside : in_range first k q ≡ false = grind (arith, nat_tests) in
          let inside : in_range first n q ≡ true = grind (arith, nat_tests) in
          change q ∙ cond-true _ _ _ (eq-eqb _ _ here) ∙ ap (λ i. f (mid i)) (sym here)
          ∙ ap f (range q ∙ cond-false _ _ _ outside) ∙ sym (cond-true _ _ _ inside))
      | inr other ↦ (
          let same : in_range first k q ≡ in_range first n q = grind (arith, nat_tests) in
          change q ∙ cond-false _ _ _ (ne_eqb _ _ other) ∙ range q ∙ ap (λ b. cond b (f (old q)) (old q)) same)
    ]

-- one change more at its beginning
pub range_earlier : {X : Type 0} (old mid new : ℕ → X) (first i s k n : ℕ) (y x : X) → i ≡ first → s ≡ first + 1
    → n ≡ k + 1 → y ≡ x → AltersRange old mid s k (λ _. x) → Alters mid new i y → AltersRange old new first n (λ _. x)
range_earlier old mid new first i s k n y x at start e is range change q =
    elim (cases_eq q i) [
      | inl here ↦ (
          let inside : in_range first n q ≡ true = grind (arith, nat_tests) in
          change q ∙ cond-true _ _ _ (eq-eqb _ _ here) ∙ is ∙ sym (cond-true _ _ _ inside))
      | inr other ↦ (
          let same : in_range s k q ≡ in_range first n q = grind (arith, nat_tests) in
          change q ∙ cond-false _ _ _ (ne_eqb _ _ other) ∙ range q ∙ ap (λ b. cond b x (old q)) same)
    ]

-- no change
pub range_none : {X : Type 0} (old : ℕ → X) (first n : ℕ) (f : X → X) → n ≡ 0 → AltersRange old old first n f
range_none old first n f e q =
    sym (let outside : in_range first n q ≡ false = grind (arith, nat_tests) in cond-false _ _ _ outside)

-- ---- ranges of which nothing is left

some_none : {X : Type 0} (o : Option X) → is_some o ≡ false → o ≡ None
some_none None e = refl
some_none (Some x) e = absurd (cc)

-- nothing stood there
pub range_absent : {X : Type 0} (old : ℕ → Option X) (first next : ℕ)
    → ((p : ℕ) → first ≤ p → p < next → is_some (old p) ≡ false) → AltersRange old old first (next - first) (λ _. None)
range_absent old first next none q =
    elim (cases_Bool (in_range first (next - first) q)) [
      | inl inside ↦ some_none (old q) (none q (grind (arith, nat_tests)) (grind (arith, nat_tests)))
          ∙ sym (cond-true _ _ _ inside)
      | inr outside ↦ sym (cond-false _ _ _ outside)
    ]

-- one thing more is taken away, and nothing stands after it
pub range_taken : {X : Type 0} (old mid new : ℕ → Option X) (first at next : ℕ) → first ≤ at → at < next
    → AltersRange old mid first (at - first) (λ _. None) → Alters mid new at None
    → ((p : ℕ) → at + 1 ≤ p → p < next → is_some (new p) ≡ false) → AltersRange old new first (next - first) (λ _. None)
range_taken old mid new first at next low high range change none q =
    elim (cases_lt at q) [
      | inl after ↦ elim (cases_Bool (in_range first (next - first) q)) [
        | inl inside ↦ some_none (new q) (none q (omega arith) (grind (arith, nat_tests)))
            ∙ sym (cond-true _ _ _ inside)
        | inr outside ↦
            let before : in_range first (at - first) q ≡ false = grind (arith, nat_tests) in
            change q ∙ cond-false _ _ _ (ne_eqb q at (λ e. omega arith)) ∙ range q ∙ cond-false _ _ _ before
            ∙ sym (cond-false _ _ _ outside)
      ]
      | inr not_after ↦ elim (cases_eq q at) [
        | inl here ↦
            let inside : in_range first (next - first) q ≡ true = grind (arith, nat_tests) in
            change q ∙ cond-true _ _ _ (eq-eqb q at here) ∙ sym (cond-true _ _ _ inside)
        | inr other ↦
            let same : in_range first (at - first) q ≡ in_range first (next - first) q = grind (arith, nat_tests) in
            change q ∙ cond-false _ _ _ (ne_eqb q at other) ∙ range q ∙ ap (λ b. cond b None (old q)) same
      ]
    ]
