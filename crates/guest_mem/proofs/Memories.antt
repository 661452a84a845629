-- What the memory of given cells has at an address, and when two memories are one.
use Rattle.std.proofs.Common.{◌≡◌, ℕ, zero, suc, ◌<◌, ◌≤◌, ◌^◌, cond, refl, sym, ◌∙◌, ap, arith, inl, inr}
use Rattle.std.specs.Prelude.{Option, Some, None, nat_lt, ◌==◌}
use Rattle.std.specs.Ordering.{nat_cmp, eq_by_cmp}
use Rattle.std.specs.Cmp.{nat_cmp_total}
use Rattle.std.specs.FinMap as map
use Rattle.std.proofs.lemmas.Bool.{cases_lt, cond-true, cond-false, lt-ltb, le-ltb}
use Rattle.std.proofs.lemmas.Bool.Decides.{nat_tests}
use Rattle.guest_mem.specs.Memory.{Cell, Memory, entry, memory_below, memory_of, in_range, change_at}

-- one address more
none_more : (n q : ℕ) (f : ℕ → Option Cell) (x : Option Cell) → f n ≡ None → x ≡ cond (nat_lt q n) (f q) None
    → x ≡ cond (nat_lt q (suc n)) (f q) None
none_more n q f x e ih = grind (arith, nat_tests)

some_more : (n q : ℕ) (f : ℕ → Option Cell) (c : Cell) (x : Option Cell) → f n ≡ Some c
    → x ≡ cond (nat_lt q n) (f q) None → cond (q == n) (Some c) x ≡ cond (nat_lt q (suc n)) (f q) None
some_more n q f c x e ih = grind (arith, nat_tests)

ties : (q n : ℕ) → eq_by_cmp nat_cmp q n ≡ (q == n)
ties q n = grind (arith, nat_tests)

get-entry : (f : ℕ → Option Cell) (n q : ℕ) (o : Option Cell) (m : Memory) → f n ≡ o
    → map.get m q ≡ cond (nat_lt q n) (f q) None → map.get (entry o n m) q ≡ cond (nat_lt q (suc n)) (f q) None
get-entry f n q None m e ih = none_more n q f (map.get m q) e ih
get-entry f n q (Some c) m e ih = map.get-insert nat_cmp_total m n c q
    ∙ ap (λ b. cond b (Some c) (map.get m q)) (ties q n) ∙ some_more n q f c (map.get m q) e ih

pub get-memory_below : (f : ℕ → Option Cell) (n q : ℕ) → map.get (memory_below f n) q ≡ cond (nat_lt q n) (f q) None
unfolding memory_below
get-memory_below f zero q = map.get-empty nat_cmp q
    ∙ sym (cond-false (nat_lt q 0) (f q) None (le-ltb q 0 (omega arith)))
get-memory_below f (suc n) q = get-entry f n q (f n) (memory_below f n) refl (get-memory_below f n q)

pub get-memory_of : (f : ℕ → Option Cell) (q : ℕ) → q < 2 ^ 32 → map.get (memory_of f) q ≡ f q
unfolding memory_of
get-memory_of f q h = get-memory_below f (2 ^ 32) q ∙ cond-true (nat_lt q (2 ^ 32)) (f q) None (lt-ltb q (2 ^ 32) h)

pub get_past : (f : ℕ → Option Cell) (q : ℕ) → 2 ^ 32 ≤ q → map.get (memory_of f) q ≡ None
unfolding memory_of
get_past f q h = get-memory_below f (2 ^ 32) q ∙ cond-false (nat_lt q (2 ^ 32)) (f q) None (le-ltb q (2 ^ 32) h)

-- memories with the same cells are one
pub memory_of-same : (f g : ℕ → Option Cell) → ((q : ℕ) → q < 2 ^ 32 → f q ≡ g q) → memory_of f ≡ memory_of g
memory_of-same f g same = map.same_map nat_cmp_total map.nat_cmp-IsAntisymmetric (memory_of f) (memory_of g)
    (λ q. elim (cases_lt q (2 ^ 32)) [
      | inl h ↦ get-memory_of f q h ∙ same q h ∙ sym (get-memory_of g q h)
      | inr h ↦ get_past f q h ∙ sym (get_past g q h)
    ])

pub get-changed : (m : Memory) (a n : ℕ) (g : ℕ → Option Cell → Option Cell) (q : ℕ) → q < 2 ^ 32
    → map.get (change_at m a n g) q ≡ cond (in_range a n q) (g q (map.get m q)) (map.get m q)
unfolding change_at
get-changed m a n g q h = get-memory_of _ q h

-- the memory of cells that are those of f, changed from a on
pub memory_of-changed : (f g : ℕ → Option Cell) (a n : ℕ) (h : ℕ → Option Cell → Option Cell)
    → ((q : ℕ) → q < 2 ^ 32 → g q ≡ cond (in_range a n q) (h q (f q)) (f q)) → memory_of g ≡ change_at (memory_of f) a n h
unfolding change_at
memory_of-changed f g a n h same =
    memory_of-same g _ (λ q l. same q l ∙ ap (λ c. cond (in_range a n q) (h q c) c) (sym (get-memory_of f q l)))
