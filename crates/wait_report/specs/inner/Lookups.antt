-- What a map has at a key once another is inserted.
use Rattle.std.proofs.Common.{◌≡◌, ℕ, ◌==◌, ◌&&◌, Bool, true, false, if◌then◌else◌, List, [], ◌∷◌, refl, sym, ap, ◌∙◌}
use Rattle.std.proofs.Common.{arith, Some}
use Rattle.std.specs.Map.{lookup}
use Rattle.std.proofs.lemmas.Bool.Decides.{nat_tests}
use Rattle.indexmap.specs.IndexMap.{insert_entry}
use Rattle.event_costs.specs.declared.numbers.ThreadNo.{ThreadNo}
use Rattle.wait_report.specs.Keeping.{same_thread, same_wake}
use Rattle.wait_report.specs.Rows.{same_spot}
use Rattle.wait_report.specs.declared.books.Spot.{Spot}
use Rattle.wait_report.specs.declared.books.Wake.{Wake}

pub true_false : true ≡ false → ⊥
true_false e = cc

pub both : (a b : Bool) → (a && b) ≡ true → (a ≡ true) × (b ≡ true)
both true b e = (refl, e)
both false b e = absurd (true_false (sym e))

pub same_number : (m n : ℕ) → (m == n) ≡ true → m ≡ n
same_number m n e = grind (arith, nat_tests)

pub itself : (n : ℕ) → (n == n) ≡ true
itself n = grind (arith, nat_tests)

-- A test of keys that tells equal ones.
pub record Tells {K : Type 0} (same : K → K → Bool) : Type 0 where
  pub alike : (a b : K) → same a b ≡ true → a ≡ b
  pub itself : (a : K) → same a a ≡ true

make_thread : ℕ → ThreadNo
make_thread n = record { 0 = n }

pub thread_tells : Tells same_thread
unfolding make_thread
thread_tells = record {
  alike = λ a b e. ap make_thread (same_number a.0 b.0 e);
  itself = λ a. itself a.0;
}

make_spot : ℕ → ℕ → Spot
make_spot thread word = record { thread = record { 0 = thread }; word = word }

pub spot_tells : Tells same_spot
unfolding make_spot
spot_tells = record {
  alike = λ a b e.
      let one = both (a.thread.0 == b.thread.0) (a.word == b.word) e in
      (λ i. make_spot (same_number a.thread.0 b.thread.0 one.0 i) (same_number a.word b.word one.1 i));
  itself = λ a. (λ i. itself a.thread.0 i && itself a.word i);
}

make_wake : Spot → ℕ → Wake
make_wake spot waker = record { spot = spot; waker = record { 0 = waker } }

pub wake_tells : Tells same_wake
unfolding make_wake
wake_tells = record {
  alike = λ a b e.
      let one = both (same_spot a.spot b.spot) (a.waker.0 == b.waker.0) e in
      (λ i. make_wake (spot_tells.alike a.spot b.spot one.0 i) (same_number a.waker.0 b.waker.0 one.1 i));
  itself = λ a. (λ i. spot_tells.itself a.spot i && itself a.waker.0 i);
}

module _ {K : Type 0} (same : K → K → Bool) (tells : Tells same) where
  -- the test's two sides
  pub turned : (a b : K) → same a b ≡ same b a
  turned a b = by (same a b) refl (same b a) refl
    where
      by : (x : Bool) → same a b ≡ x → (y : Bool) → same b a ≡ y → same a b ≡ same b a
      by true e true f = e ∙ sym f
      by false e false f = e ∙ sym f
      by true e false f =
          absurd (true_false (sym (tells.itself a) ∙ ap (λ c. same c a) (tells.alike a b e) ∙ f))
      by false e true f =
          absurd (true_false (sym (tells.itself b) ∙ ap (λ c. same c b) (tells.alike b a f) ∙ e))

module _ {K X : Type 0} (same : K → K → Bool) (tells : Tells same) where
  pub after_insert : (es : List (K × X)) (k : K) (v : X) (q : K)
      → lookup (same q) (insert_entry same es k v) ≡ (if same q k then Some v else lookup (same q) es)
  after_insert [] k v q = refl
  after_insert (e ∷ es) k v q = by (same k e.0) refl (same q e.0) refl (same q k) refl (after_insert es k v q)
    where
      by : (a : Bool) → same k e.0 ≡ a → (b : Bool) → same q e.0 ≡ b → (c : Bool) → same q k ≡ c
          → lookup (same q) (insert_entry same es k v) ≡ (if same q k then Some v else lookup (same q) es)
          → lookup (same q) (if same k e.0 then (e.0, v) ∷ es else e ∷ insert_entry same es k v)
          ≡ (if same q k then Some v else (if same q e.0 then Some e.1 else lookup (same q) es))
      by true x b y c z rest =
          let is : k ≡ e.0 = tells.alike k e.0 x in
          let alike : same q e.0 ≡ same q k = ap (same q) (sym is) in
          here b y c z (sym y ∙ alike ∙ z)
        where
          here : (b : Bool) → same q e.0 ≡ b → (c : Bool) → same q k ≡ c → b ≡ c
              → lookup (same q) (if same k e.0 then (e.0, v) ∷ es else e ∷ insert_entry same es k v)
              ≡ (if same q k then Some v else (if same q e.0 then Some e.1 else lookup (same q) es))
          here true y true z same_ = simp (x, y, z) refl
          here false y false z same_ = simp (x, y, z) refl
          here true y false z same_ = absurd (true_false same_)
          here false y true z same_ = absurd (true_false (sym same_))
      by false x true y true z rest =
          absurd (true_false (sym y ∙ ap (λ c. same c e.0) (tells.alike q k z) ∙ x))
      by false x true y false z rest = simp (x, y, z) refl
      by false x false y c z rest = simp (x, y) rest
