-- Elements of lists that are made of others, and sums above 0.
use Rattle.std.proofs.Common.{◌≡◌, ℕ, zero, suc, ◌<◌, ◌≤◌, Bool, true, false, cond, List, [], ◌∷◌, refl, sym, ap, subst}
use Rattle.std.proofs.Common.{◌∙◌, arith, if◌then◌else◌, sum_by, count_by, filter, flat_map, inl, inr, ◌⊎◌, ⊎_elim}
use Rattle.std.proofs.Common.{Contains}
use Rattle.std.specs.Prelude.{All}
use Rattle.std.specs.List.{AllByRecursion, AllZip}
use Rattle.std.proofs.lemmas.List.Sums.{sum_by-cons}
use Rattle.std.proofs.lemmas.List.Elements.{All-contains_itself, All-weaker}
use Rattle.std.proofs.lemmas.List.Elements.{Contains-append_cases, Contains-append_left, Contains-append_right}
use Rattle.once_each.proofs.Others.{Contains-cons, Contains-first, first_or_rest}

-- an element with a property
pub record Some_of {X : Type 0} (P : X → Type 0) (xs : List X) : Type 0 where
  pub item : X
  pub among : Contains xs item
  pub has : P item

module _ {X : Type 0} where
  pub each_from : (P : X → Type 0) (xs : List X) → ((x : X) → Contains xs x → P x) → AllByRecursion P xs
  each_from P [] all = tt
  each_from P (x ∷ xs) all = (all x (Contains-first x xs), each_from P xs (λ y in'. all y (Contains-cons x xs y in')))

  pub each_at : (P : X → Type 0) (xs : List X) → AllByRecursion P xs → (x : X) → Contains xs x → P x
  each_at P [] all x is = absurd (omega (arith, is.1))
  each_at P (y ∷ ys) all x is =
      ⊎_elim (λ e. subst P e all.0) (λ later. each_at P ys all.1 x later) (first_or_rest y ys x is)

  pub All-members : (xs ys : List X) → ((x : X) → Contains xs x → Contains ys x) → All (Contains ys) xs
  All-members xs ys f = All-weaker (Contains xs) (Contains ys) f xs (All-contains_itself xs)

  pub Contains-filter : (test : X → Bool) (xs : List X) (x : X) → Contains xs x → test x ≡ true
      → Contains (filter test xs) x
  Contains-filter test [] x is passes = absurd (omega (arith, is.1))
  Contains-filter test (y ∷ ys) x is passes = by (test y) refl (Contains-filter test ys x) (first_or_rest y ys x is)
    where
      by : (b : Bool) → test y ≡ b → (Contains ys x → test x ≡ true → Contains (filter test ys) x)
          → (y ≡ x) ⊎ Contains ys x
          → Contains (cond b (y ∷ filter test ys) (filter test ys)) x
      by true so rest (inl e) = subst (λ z. Contains (y ∷ filter test ys) z) e (Contains-first y (filter test ys))
      by true so rest (inr later) = Contains-cons y (filter test ys) x (rest later passes)
      by false so rest (inl e) = absurd (cc (ap test e))
      by false so rest (inr later) = rest later passes

  pub from_filter : (test : X → Bool) (xs : List X) (x : X) → Contains (filter test xs) x
      → Contains xs x × (test x ≡ true)
  from_filter test [] x is = absurd (omega (arith, is.1))
  from_filter test (y ∷ ys) x is = by (test y) refl is (from_filter test ys x)
    where
      more : Contains ys x × (test x ≡ true) → Contains (y ∷ ys) x × (test x ≡ true)
      more h = (Contains-cons y ys x h.0, h.1)

      by : (b : Bool) → test y ≡ b → Contains (cond b (y ∷ filter test ys) (filter test ys)) x
          → (Contains (filter test ys) x → Contains ys x × (test x ≡ true)) → Contains (y ∷ ys) x × (test x ≡ true)
      by true so is rest =
          ⊎_elim (λ e. (subst (λ z. Contains (y ∷ ys) z) e (Contains-first y ys), ap test (sym e) ∙ so))
          (λ later. more (rest later)) (first_or_rest y (filter test ys) x is)
      by false so is rest = more (rest is)

  -- an element's share of a sum
  pub le-sum : (f : X → ℕ) (xs : List X) (x : X) → Contains xs x → f x ≤ sum_by f xs
  le-sum f [] x is = absurd (omega (arith, is.1))
  le-sum f (y ∷ ys) x is =
      let sum = sum_by-cons f y ys in
      ⊎_elim (λ e. let same : f y ≡ f x = ap f e in omega (arith, sum, same))
      (λ later. let rest = le-sum f ys x later in omega (arith, sum, rest)) (first_or_rest y ys x is)

  -- a sum above 0 has a share above 0
  pub sum-some : (f : X → ℕ) (xs : List X) → 0 < sum_by f xs → Some_of (λ x. 0 < f x) xs
  sum-some f [] more = absurd (omega (arith, more))
  sum-some f (x ∷ xs) more = by (f x) refl (sum-some f xs)
    where
      by : (n : ℕ) → f x ≡ n → (0 < sum_by f xs → Some_of (λ y. 0 < f y) xs) → Some_of (λ y. 0 < f y) (x ∷ xs)
      by (suc n) is rest = record { item = x; among = Contains-first x xs; has = omega (arith, is) }
      by zero is rest =
          let sum = sum_by-cons f x xs in
          let later = rest (omega (arith, more, sum, is)) in
          record { item = later.item; among = Contains-cons x xs later.item later.among; has = later.has }

  pub count-some : (test : X → Bool) (xs : List X) → 0 < count_by test xs → Some_of (λ x. test x ≡ true) xs
  count-some test xs more =
      let found = sum-some (λ x. if test x then 1 else 0) xs more in
      record { item = found.item; among = found.among; has = by (test found.item) found.has }
    where
      by : (b : Bool) → 0 < (if b then 1 else 0) → b ≡ true
      by true more = refl
      by false more = absurd (omega (arith, more))

module _ {X Y : Type 0} where
  pub Contains-flat_map : (f : X → List Y) (xs : List X) (x : X) (y : Y) → Contains xs x → Contains (f x) y
      → Contains (flat_map f xs) y
  Contains-flat_map f [] x y is at = absurd (omega (arith, is.1))
  Contains-flat_map f (z ∷ zs) x y is at =
      ⊎_elim (λ e. Contains-append_left (f z) (flat_map f zs) y (subst (λ w. Contains (f w) y) (sym e) at))
      (λ later. Contains-append_right (f z) (flat_map f zs) y (Contains-flat_map f zs x y later at))
      (first_or_rest z zs x is)

  pub from_flat_map : (f : X → List Y) (xs : List X) (y : Y) → Contains (flat_map f xs) y
      → Some_of (λ x. Contains (f x) y) xs
  from_flat_map f [] y is = absurd (omega (arith, is.1))
  from_flat_map f (x ∷ xs) y is =
      ⊎_elim (λ here. record { item = x; among = Contains-first x xs; has = here })
      (λ there. let later = from_flat_map f xs y there in
      record { item = later.item; among = Contains-cons x xs later.item later.among; has = later.has })
      (Contains-append_cases (f x) (flat_map f xs) y is)

  pub zip_right : (R : X → Y → Type 0) (xs : List X) (ys : List Y) → AllZip R xs ys → (y : Y) → Contains ys y
      → Some_of (λ x. R x y) xs
  zip_right R xs [] all y is = absurd (omega (arith, is.1))
  zip_right R [] (z ∷ zs) all y is = absurd all
  zip_right R (x ∷ xs) (z ∷ zs) all y is =
      ⊎_elim (λ e. record { item = x; among = Contains-first x xs; has = subst (λ w. R x w) e all.0 })
      (λ later. let there = zip_right R xs zs all.1 y later in
      record { item = there.item; among = Contains-cons x xs there.item there.among; has = there.has })
      (first_or_rest z zs y is)

  -- sums over two lists that go together
  pub zip_sums : (R : X → Y → Type 0) (f : X → ℕ) (g : Y → ℕ) → ((x : X) (y : Y) → R x y → g y ≡ f x)
      → (xs : List X) (ys : List Y)
      → AllZip R xs ys → sum_by g ys ≡ sum_by f xs
  zip_sums R f g same [] [] all = refl
  zip_sums R f g same [] (y ∷ ys) all = absurd all
  zip_sums R f g same (x ∷ xs) [] all = absurd all
  zip_sums R f g same (x ∷ xs) (y ∷ ys) all =
      let rest = zip_sums R f g same xs ys all.1 in
      omega (arith, sum_by-cons f x xs, sum_by-cons g y ys, same x y all.0, rest)
