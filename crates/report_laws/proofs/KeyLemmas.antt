-- Elements with keys in two lists that have equal sums for each key.
use Rattle.std.proofs.Common.{◌≡◌, ℕ, ◌<◌, Bool, true, false, ◌||◌, List, [], ◌∷◌, refl, sym, ap, arith}
use Rattle.std.proofs.Common.{if◌then◌else◌}
use Rattle.std.specs.List.{AllByRecursion, list_any}
use Rattle.std.proofs.lemmas.List.Sums.{sum_by-cons}
use Rattle.arc_costs.specs.Rows.{sum_at}
use Rattle.report_laws.proofs.Others.{exchange, sum_where}

module _ {K : Type 0} (same : K → K → Bool) (one : (k l : K) → same k l ≡ true → k ≡ l)
    (itself : (k : K) → same k k ≡ true) {X I : Type 0} (key : X → K) (number : I → X → ℕ) where
  -- a number of the element isn't 0
  abbrev pub IsSome : X → Type 0
  IsSome x = (i : I) × (0 < number i x)

  abbrev pub AreEqual : List X → List X → Type 0
  AreEqual xs ys = (i : I) (k : K) → sum_at key same (number i) k xs ≡ sum_at key same (number i) k ys

  abbrev any : (K → Bool) → List X → Bool
  any test xs = list_any (λ x. test (key x)) xs

  -- where the key of an element passes, a sum over the keys that pass isn't 0
  found : (test : K → Bool) (xs : List X) → AllByRecursion IsSome xs → any test xs ≡ true
      → (i : I) × (0 < sum_where key (number i) test xs)
  found test [] all is = absurd (cc)
  found test (x ∷ xs) all is = by (test (key x)) refl is (found test xs all.1)
    where
      by : (b : Bool) → test (key x) ≡ b → (b || any test xs) ≡ true
          → (any test xs ≡ true → (i : I) × (0 < sum_where key (number i) test xs))
          → (i : I) × (0 < sum_where key (number i) test (x ∷ xs))
      by true at is later =
          let number_i = number all.0.0 in
          let here = sum_by-cons (λ y. if test (key y) then number_i y else 0) x xs in
          let on = ap (λ c. if c then number_i x else 0) at in
          (all.0.0, omega (arith, here, on, all.0.1))
      by false at is later =
          let rest = later is in
          let here = sum_by-cons (λ y. if test (key y) then number rest.0 y else 0) x xs in
          (rest.0, omega (arith, here, rest.1))

  none : (i : I) (test : K → Bool) (xs : List X) → any test xs ≡ false → sum_where key (number i) test xs ≡ 0
  none i test [] is = refl
  none i test (x ∷ xs) is = by (test (key x)) refl is (none i test xs)
    where
      by : (b : Bool) → test (key x) ≡ b → (b || any test xs) ≡ false
          → (any test xs ≡ false → sum_where key (number i) test xs ≡ 0)
          → sum_where key (number i) test (x ∷ xs) ≡ 0
      by true at is later = absurd (cc)
      by false at is later =
          let rest = later is in
          let here = sum_by-cons (λ y. if test (key y) then number i y else 0) x xs in
          let off = ap (λ c. if c then number i x else 0) at in
          omega (arith, here, off, rest)

  pub where_same : (i : I) (test : K → Bool) (xs ys : List X) → AreEqual xs ys
      → sum_where key (number i) test xs ≡ sum_where key (number i) test ys
  where_same i test xs ys equal = exchange same one itself key (number i) key (number i) test xs ys (equal i)

  goes_over : (test : K → Bool) (xs ys : List X) → AllByRecursion IsSome xs
      → ((i : I) → sum_where key (number i) test xs ≡ sum_where key (number i) test ys) → any test xs ≡ true
      → any test ys ≡ true
  goes_over test xs ys some equal is = by (any test ys) refl
    where
      by : (b : Bool) → any test ys ≡ b → b ≡ true
      by true so = refl
      by false so =
          let at = found test xs some is in
          let nothing = none at.0 test ys so in
          absurd (omega (arith, at.1, equal at.0, nothing))

  -- a key that passes stands in both lists or in none
  pub any_same : (test : K → Bool) (xs ys : List X) → AllByRecursion IsSome xs → AllByRecursion IsSome ys
      → AreEqual xs ys → any test xs ≡ any test ys
  any_same test xs ys some others equal = by (any test xs) (any test ys) refl refl
    where
      by : (b c : Bool) → any test xs ≡ b → any test ys ≡ c → b ≡ c
      by true true here there = refl
      by false false here there = refl
      by true false here there =
          let is : any test ys ≡ true
          = goes_over test xs ys some (λ i. where_same i test xs ys equal) here in absurd (cc)
      by false true here there =
          let is : any test xs ≡ true
          = goes_over test ys xs others (λ i. where_same i test ys xs (λ j k. sym (equal j k))) there in absurd (cc)
