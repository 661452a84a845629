-- Texts compare as the numbers of their first bytes do, where these differ.
use Rattle.std.proofs.Common.{◌≡◌, ◌≢◌, ℕ, zero, suc, ◌+◌, ◌*◌, ◌<◌, ◌≤◌, ◌^◌, List, [], ◌∷◌, refl, sym, ap, ◌∙◌, subst}
use Rattle.std.proofs.Common.{◌⊎◌, ⊎_elim, add-one, arith}
use Rattle.std.specs.declared.cmp.Ordering.TheVariants.{Less, Equal, Greater}
use Rattle.std.specs.Cmp.{nat_cmp_is}
use Rattle.std.specs.Cmp.Lexicographic.{slice_cmp}
use Rattle.std.specs.Ordering.{nat_cmp, ordering_then, ordering_reverse}
use Rattle.std.proofs.Math.Nat.{pow-suc, pow-le-pow_right}
use Rattle.std.proofs.lemmas.Cmp.{nat_list_cmp_total}
use Rattle.name_numbers.specs.inner.Fronts.{IsFront, front_of, byte_at}

-- the first of these places hold bytes
abbrev AreSmall : List ℕ → ℕ → Type 0
AreSmall bytes n = (k : ℕ) → k < n → byte_at bytes k < 256

-- ---- one byte more

pub front_none : (bytes : List ℕ) → IsFront bytes 0 0
unfolding front_of
front_none bytes = record { number = refl; small = λ k lt. absurd (omega arith) }

pub front_more : (bytes : List ℕ) (n front byte : ℕ) → IsFront bytes n front → byte ≡ byte_at bytes n → byte < 256
    → IsFront bytes (n + 1) (front * 256 + byte)
unfolding front_of
front_more bytes n front byte so is fits =
    rw add-one (record {
      number = λ i. so.number i * 256 + is i;
      small = λ k lt. ⊎_elim (λ (before : k < n). so.small k before)
          (λ (last : n ≡ k). subst (λ j. byte_at bytes j < 256) last (subst (λ b. b < 256) is fits))
          (let P : (k < n) ⊎ (n ≡ k) = grind arith in P);
    })

below : (bytes : List ℕ) (n : ℕ) → AreSmall bytes n → front_of bytes n < 256 ^ n
unfolding front_of
below bytes zero small = omega arith
below bytes (suc n) small =
    let fits : front_of bytes n < 256 ^ n = below bytes n (λ k lt. small k (omega arith)) in
    let byte : byte_at bytes n < 256 = small n (omega arith) in
    rw pow-suc (omega arith)

-- room for a byte more
pub front_fits : (bytes : List ℕ) (n front : ℕ) → n < 8 → IsFront bytes n front → front < 2 ^ 56
front_fits bytes n front lt so =
    let le : n ≤ 7 = omega arith in
    let most : 256 ^ n ≤ 256 ^ 7 = pow-le-pow_right {n = 256} (omega arith) le in
    let fits : front_of bytes n < 256 ^ n = below bytes n so.small in
    omega (arith, so.number)

-- ---- which decides

same_fronts : (x y : List ℕ) (n : ℕ) → AreSmall x n → AreSmall y n → front_of x n ≡ front_of y n → (k : ℕ) → k < n
    → byte_at x k ≡ byte_at y k
unfolding front_of
same_fronts x y zero first second is k lt = absurd (omega arith)
same_fronts x y (suc n) first second is k lt =
    let a : byte_at x n < 256 = first n (omega arith) in
    let b : byte_at y n < 256 = second n (omega arith) in
    let same : front_of x n * 256 + byte_at x n ≡ front_of y n * 256 + byte_at y n = is in
    let before : front_of x n ≡ front_of y n = omega arith in
    let last : byte_at x n ≡ byte_at y n = omega arith in
    ⊎_elim
    (λ (inner : k < n). same_fronts x y n (λ j l. first j (omega arith)) (λ j l. second j (omega arith)) before k inner)
    (λ (here : n ≡ k). subst (λ j. byte_at x j ≡ byte_at y j) here last)
    (let P : (k < n) ⊎ (n ≡ k) = grind arith in P)

first_apart : (x y : List ℕ) (n : ℕ) → ((k : ℕ) → k < n → byte_at x k ≡ byte_at y k) → byte_at x n < byte_at y n
    → slice_cmp nat_cmp x y ≡ Less
first_apart [] [] n same lt = absurd (omega arith)
first_apart [] (y ∷ ys) n same lt = refl
first_apart (x ∷ xs) [] n same lt = absurd (omega arith)
first_apart (x ∷ xs) (y ∷ ys) zero same lt =
    ap (λ o. ordering_then o (slice_cmp nat_cmp xs ys)) (sym (nat_cmp_is x y Less lt))
first_apart (x ∷ xs) (y ∷ ys) (suc n) same lt =
    ap (λ o. ordering_then o (slice_cmp nat_cmp xs ys)) (sym (nat_cmp_is x y Equal (same 0 (omega arith))))
    ∙ first_apart xs ys n (λ k l. same (suc k) (omega arith)) lt

fronts_less : (x y : List ℕ) (n : ℕ) → AreSmall x n → AreSmall y n → front_of x n < front_of y n
    → slice_cmp nat_cmp x y ≡ Less
unfolding front_of
fronts_less x y zero first second lt = absurd (omega arith)
fronts_less x y (suc n) first second lt =
    let a : byte_at x n < 256 = first n (omega arith) in
    let b : byte_at y n < 256 = second n (omega arith) in
    let less : front_of x n * 256 + byte_at x n < front_of y n * 256 + byte_at y n = lt in
    let le : front_of x n ≤ front_of y n = omega arith in
    let small : AreSmall x n = λ j l. first j (omega arith) in
    let other : AreSmall y n = λ j l. second j (omega arith) in
    ⊎_elim
    (λ (before : front_of x n < front_of y n). fronts_less x y n small other before)
    (λ (same : front_of x n ≡ front_of y n). first_apart x y n (same_fronts x y n small other same) (omega arith))
    (let P : (front_of x n < front_of y n) ⊎ (front_of x n ≡ front_of y n) = grind arith in P)

pub fronts_decide : (x y : List ℕ) (n f g : ℕ) → IsFront x n f → IsFront y n g → nat_cmp f g ≢ Equal
    → nat_cmp f g ≡ slice_cmp nat_cmp x y
fronts_decide x y n f g first second apart =
    ⊎_elim
    (λ (lt : f < g).
    let less : front_of x n < front_of y n = omega (arith, first.number, second.number) in
    sym (nat_cmp_is f g Less lt) ∙ sym (fronts_less x y n first.small second.small less))
    (λ (rest : (f ≡ g) ⊎ (g < f)).
    ⊎_elim
    (λ (same : f ≡ g). absurd (apart (sym (nat_cmp_is f g Equal same))))
    (λ (gt : g < f).
    let less : front_of y n < front_of x n = omega (arith, first.number, second.number) in
    sym (nat_cmp_is f g Greater gt) ∙ sym (nat_list_cmp_total.antisymm x y
    ∙ ap ordering_reverse (fronts_less y x n second.small first.small less)))
    rest)
    (let P : (f < g) ⊎ ((f ≡ g) ⊎ (g < f)) = grind arith in P)
