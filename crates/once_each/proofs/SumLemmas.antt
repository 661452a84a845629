-- Sums over lists.
use Rattle.std.proofs.Common.{◌≡◌, ℕ, suc, ◌+◌, ◌*◌, ◌≤◌, Bool, true, false, cond, List, [], ◌∷◌, length, map, refl}
use Rattle.std.proofs.Common.{sym, ap, ◌∙◌, arith, if◌then◌else◌, sum_by, filter, flat_map}
use Rattle.std.specs.List.{AllByRecursion}
use Rattle.std.proofs.lemmas.List.Sums.{sum_by-append, sum_by-cons}
use Rattle.std.proofs.Math.Nat.{mul-add}

module _ {X : Type 0} where
  pub sum_by-same : (f g : X → ℕ) → ((x : X) → f x ≡ g x) → (xs : List X) → sum_by f xs ≡ sum_by g xs
  sum_by-same f g same [] = refl
  sum_by-same f g same (x ∷ xs) =
      let rest = sum_by-same f g same xs in
      omega (arith, sum_by-cons f x xs, sum_by-cons g x xs, same x, rest)

  pub sum_by-each : (f g : X → ℕ) (xs : List X) → AllByRecursion (λ x. f x ≡ g x) xs → sum_by f xs ≡ sum_by g xs
  sum_by-each f g [] all = refl
  sum_by-each f g (x ∷ xs) all =
      let rest = sum_by-each f g xs all.1 in
      omega (arith, sum_by-cons f x xs, sum_by-cons g x xs, all.0, rest)

  pub sum_by-none : (xs : List X) → sum_by (λ (x : X). 0) xs ≡ 0
  sum_by-none [] = refl
  sum_by-none (x ∷ xs) =
      let rest = sum_by-none xs in
      omega (arith, sum_by-cons (λ (x : X). 0) x xs, rest)

  pub sum_by-plus : (f g : X → ℕ) (xs : List X) → sum_by (λ x. f x + g x) xs ≡ sum_by f xs + sum_by g xs
  sum_by-plus f g [] = refl
  sum_by-plus f g (x ∷ xs) =
      let rest = sum_by-plus f g xs in
      omega (arith, sum_by-cons f x xs, sum_by-cons g x xs, sum_by-cons (λ x. f x + g x) x xs, rest)

  pub sum_by-times : (n : ℕ) (f : X → ℕ) (xs : List X) → sum_by (λ x. n * f x) xs ≡ n * sum_by f xs
  sum_by-times n f [] = omega arith
  sum_by-times n f (x ∷ xs) =
      let rest = sum_by-times n f xs in
      let whole : n * sum_by f (x ∷ xs) ≡ n * (f x + sum_by f xs) = ap (λ m. n * m) (sum_by-cons f x xs) in
      let parts : n * (f x + sum_by f xs) ≡ n * f x + n * sum_by f xs = mul-add n (f x) (sum_by f xs) in
      omega (arith, sum_by-cons (λ x. n * f x) x xs, rest, whole, parts)

  pub sum_by-filter : (test : X → Bool) (f : X → ℕ) (xs : List X)
      → sum_by f (filter test xs) ≡ sum_by (λ x. if test x then f x else 0) xs
  sum_by-filter test f [] = refl
  sum_by-filter test f (x ∷ xs) = by (test x) (sum_by-filter test f xs)
      ∙ sym (sum_by-cons (λ x. if test x then f x else 0) x xs)
    where
      by : (b : Bool) → sum_by f (filter test xs) ≡ sum_by (λ x. if test x then f x else 0) xs
          → sum_by f (cond b (x ∷ filter test xs) (filter test xs))
          ≡ (if b then f x else 0) + sum_by (λ x. if test x then f x else 0) xs
      by true rest = omega (arith, sum_by-cons f x (filter test xs), rest)
      by false rest = omega (arith, rest)

  pub length-filter-le : (test : X → Bool) (xs : List X) → length (filter test xs) ≤ length xs
  length-filter-le test [] = omega arith
  length-filter-le test (x ∷ xs) = by (test x) (length-filter-le test xs)
    where
      by : (b : Bool) → length (filter test xs) ≤ length xs
          → length (cond b (x ∷ filter test xs) (filter test xs)) ≤ suc (length xs)
      by true rest = omega (arith, rest)
      by false rest = omega (arith, rest)

  -- whatever is counted is at most the most of one, as often as there are elements
  pub sum_by-most : (f : X → ℕ) (most : ℕ) (xs : List X) → AllByRecursion (λ x. f x ≤ most) xs
      → sum_by f xs ≤ length xs * most
  sum_by-most f most [] all = omega arith
  sum_by-most f most (x ∷ xs) all =
      let rest = sum_by-most f most xs all.1 in
      let more : suc (length xs) * most ≡ most + length xs * most = grind arith in
      omega (arith, sum_by-cons f x xs, all.0, rest, more)

module _ {X Y : Type 0} where
  pub sum_by-map : (g : Y → ℕ) (f : X → Y) (xs : List X) → sum_by g (map f xs) ≡ sum_by (λ x. g (f x)) xs
  sum_by-map g f [] = refl
  sum_by-map g f (x ∷ xs) =
      let rest = sum_by-map g f xs in
      omega (arith, sum_by-cons g (f x) (map f xs), sum_by-cons (λ x. g (f x)) x xs, rest)

  pub sum_by-flat_map : (g : Y → ℕ) (f : X → List Y) (xs : List X)
      → sum_by g (flat_map f xs) ≡ sum_by (λ x. sum_by g (f x)) xs
  sum_by-flat_map g f [] = refl
  sum_by-flat_map g f (x ∷ xs) =
      let rest = sum_by-flat_map g f xs in
      omega (arith, sum_by-append g (f x) (flat_map f xs), sum_by-cons (λ x. sum_by g (f x)) x xs, rest)

  pub sum_by-swap : (f : X → Y → ℕ) (xs : List X) (ys : List Y)
      → sum_by (λ x. sum_by (f x) ys) xs ≡ sum_by (λ y. sum_by (λ x. f x y) xs) ys
  sum_by-swap f [] ys = sym (sum_by-none ys)
  sum_by-swap f (x ∷ xs) ys =
      let rest = sum_by-swap f xs ys in
      let each : sum_by (λ y. sum_by (λ x. f x y) (x ∷ xs)) ys ≡ sum_by (λ y. f x y + sum_by (λ x. f x y) xs) ys =
      sum_by-same (λ y. sum_by (λ x. f x y) (x ∷ xs)) (λ y. f x y + sum_by (λ x. f x y) xs)
      (λ y. sum_by-cons (λ x. f x y) x xs) ys in
      let both = sum_by-plus (f x) (λ y. sum_by (λ x. f x y) xs) ys in
      omega (arith, sum_by-cons (λ x. sum_by (f x) ys) x xs, rest, each, both)
