-- Two lists with equal sums for each key have equal sums over any keys.
use Rattle.std.proofs.Common.{◌≡◌, ℕ, zero, suc, ◌+◌, ◌≤◌, Bool, true, false, not, cond, List, [], ◌∷◌, length, refl}
use Rattle.std.proofs.Common.{sym, ap, ◌∙◌, arith, if◌then◌else◌, sum_by, filter}
use Rattle.std.proofs.lemmas.List.Sums.{sum_by-cons}
use Rattle.arc_costs.specs.Rows.{sum_at}
use Rattle.once_each.proofs.SumLemmas.{length-filter-le}

-- the sum of a number over the elements whose key passes
abbrev pub sum_where : {X K : Type 0} → (X → K) → (X → ℕ) → (K → Bool) → List X → ℕ
sum_where key number test xs = sum_by (λ x. if test (key x) then number x else 0) xs

module _ {K : Type 0} (same : K → K → Bool) (one : (k l : K) → same k l ≡ true → k ≡ l)
    (itself : (k : K) → same k k ≡ true) where
  -- the elements of other keys
  abbrev others : {X : Type 0} → (X → K) → K → List X → List X
  others key k xs = filter (λ x. not (same k (key x))) xs

  module _ {X : Type 0} (key : X → K) (number : X → ℕ) where
    split : (test : K → Bool) (k : K) (xs : List X)
        → sum_where key number test xs ≡ (if test k then sum_at key same number k xs else 0) + sum_where key number test
        (others key k xs)
    split test k [] = by (test k)
      where
        by : (b : Bool) → 0 ≡ (if b then 0 else 0) + 0
        by true = refl
        by false = refl
    split test k (x ∷ xs) =
        by (same k (key x)) (test (key x)) (test k) (λ is. ap test (one k (key x) is)) (split test k xs)
        (sum_by-cons (λ x. if test (key x) then number x else 0) x xs)
        (sum_by-cons (λ x. if test (key x) then number x else 0) x (others key k xs))
        (sum_by-cons (λ x. if same k (key x) then number x else 0) x xs)
      where
        by : (b c d : Bool) → (b ≡ true → d ≡ c)
            → sum_where key number test xs ≡ (if d then sum_at key same number k xs else 0) + sum_where key number test
            (others key k xs)
            → sum_where key number test (x ∷ xs) ≡ (if c then number x else 0) + sum_where key number test xs
            → sum_where key number test (x ∷ others key k xs)
            ≡ (if c then number x else 0) + sum_where key number test (others key k xs)
            → sum_at key same number k (x ∷ xs) ≡ (if b then number x else 0) + sum_at key same number k xs
            → sum_where key number test (x ∷ xs) ≡ (if d then sum_at key same number k (x ∷ xs) else 0)
            + sum_where key number test (cond (not b) (x ∷ others key k xs) (others key k xs))
        by true true true there rest here other at = omega (arith, rest, here, at)
        by true false false there rest here other at = omega (arith, rest, here)
        by true true false there rest here other at = let no : false ≡ true = there refl in absurd (cc)
        by true false true there rest here other at = let no : true ≡ false = there refl in absurd (cc)
        by false c true there rest here other at = omega (arith, rest, here, other, at)
        by false c false there rest here other at = omega (arith, rest, here, other)

    gone : (k l : K) → same l k ≡ true → (xs : List X) → sum_at key same number l (others key k xs) ≡ 0
    gone k l is [] = refl
    gone k l is (x ∷ xs) =
        by (same k (key x)) (same l (key x)) (ap (λ m. same m (key x)) (sym (one l k is))) (gone k l is xs)
        (sum_by-cons (λ x. if same l (key x) then number x else 0) x (others key k xs))
      where
        by : (b c : Bool) → b ≡ c → sum_at key same number l (others key k xs) ≡ 0
            → sum_at key same number l (x ∷ others key k xs)
            ≡ (if c then number x else 0) + sum_at key same number l (others key k xs)
            → sum_at key same number l (cond (not b) (x ∷ others key k xs) (others key k xs)) ≡ 0
        by true c is rest here = rest
        by false false is rest here = omega (arith, rest, here)
        by false true is rest here = absurd (cc)

    kept : (k l : K) → same l k ≡ false → (xs : List X)
        → sum_at key same number l (others key k xs) ≡ sum_at key same number l xs
    kept k l not_k [] = refl
    kept k l not_k (x ∷ xs) =
        by (same k (key x)) (same l (key x)) (λ is. ap (same l) (sym (one k (key x) is)) ∙ not_k) (kept k l not_k xs)
        (sum_by-cons (λ x. if same l (key x) then number x else 0) x (others key k xs))
        (sum_by-cons (λ x. if same l (key x) then number x else 0) x xs)
      where
        by : (b c : Bool) → (b ≡ true → c ≡ false)
            → sum_at key same number l (others key k xs) ≡ sum_at key same number l xs
            → sum_at key same number l (x ∷ others key k xs)
            ≡ (if c then number x else 0) + sum_at key same number l (others key k xs)
            → sum_at key same number l (x ∷ xs) ≡ (if c then number x else 0) + sum_at key same number l xs
            → sum_at key same number l (cond (not b) (x ∷ others key k xs) (others key k xs))
            ≡ sum_at key same number l (x ∷ xs)
        by true false there rest other here = omega (arith, rest, here)
        by true true there rest other here = let no : true ≡ false = there refl in absurd (cc)
        by false c there rest other here = omega (arith, rest, here, other)

    fewer : (x : X) (xs : List X) → length (others key (key x) (x ∷ xs)) ≤ length xs
    fewer x xs = by (same (key x) (key x)) (itself (key x)) (length-filter-le (λ y. not (same (key x) (key y))) xs)
      where
        by : (b : Bool) → b ≡ true → length (others key (key x) xs) ≤ length xs
            → length (cond (not b) (x ∷ others key (key x) xs) (others key (key x) xs)) ≤ length xs
        by true is less = less
        by false is less = absurd (cc)

  module _ {X Y : Type 0} (key : X → K) (number : X → ℕ) (key' : Y → K) (number' : Y → ℕ) where
    -- equal sums for each key, still so without one of the keys
    without : (k : K) (xs : List X) (ys : List Y)
        → ((l : K) → sum_at key same number l xs ≡ sum_at key' same number' l ys)
        → (l : K) → sum_at key same number l (others key k xs) ≡ sum_at key' same number' l (others key' k ys)
    without k xs ys equal l = by (same l k) refl
      where
        by : (b : Bool) → same l k ≡ b
            → sum_at key same number l (others key k xs) ≡ sum_at key' same number' l (others key' k ys)
        by true is = gone key number k l is xs ∙ sym (gone key' number' k l is ys)
        by false is = kept key number k l is xs ∙ equal l ∙ sym (kept key' number' k l is ys)

    step : (test : K → Bool) (k : K) (xs : List X) (ys : List Y)
        → sum_at key same number k xs ≡ sum_at key' same number' k ys
        → sum_where key number test (others key k xs) ≡ sum_where key' number' test (others key' k ys)
        → sum_where key number test xs ≡ sum_where key' number' test ys
    step test k xs ys equal rest =
        split key number test k xs
        ∙ ap (λ n. (if test k then n else 0) + sum_where key number test (others key k xs)) equal
        ∙ ap (λ n. (if test k then sum_at key' same number' k ys else 0) + n) rest ∙ sym (split key' number' test k ys)

    exchange_by : (test : K → Bool) (most : ℕ) (xs : List X) (ys : List Y) → length xs + length ys ≤ most
        → ((l : K) → sum_at key same number l xs ≡ sum_at key' same number' l ys)
        → sum_where key number test xs ≡ sum_where key' number' test ys
    exchange_by test most [] [] less equal = refl
    exchange_by test zero (x ∷ xs) ys less equal = absurd (omega (arith, less))
    exchange_by test zero [] (y ∷ ys) less equal = absurd (omega (arith, less))
    exchange_by test (suc most) (x ∷ xs) ys less equal =
        let k = key x in
        let left = fewer key number x xs in
        let right = length-filter-le (λ z. not (same k (key' z))) ys in
        step test k (x ∷ xs) ys (equal k)
        (exchange_by test most (others key k (x ∷ xs)) (others key' k ys) (omega (arith, less, left, right))
        (without k (x ∷ xs) ys equal))
    exchange_by test (suc most) [] (y ∷ ys) less equal =
        let k = key' y in
        let right = fewer key' number' y ys in
        step test k [] (y ∷ ys) (equal k)
        (exchange_by test most [] (others key' k (y ∷ ys)) (omega (arith, less, right)) (without k [] (y ∷ ys) equal))

    pub exchange : (test : K → Bool) (xs : List X) (ys : List Y)
        → ((k : K) → sum_at key same number k xs ≡ sum_at key' same number' k ys)
        → sum_where key number test xs ≡ sum_where key' number' test ys
    exchange test xs ys equal = exchange_by test (length xs + length ys) xs ys (omega arith) equal
