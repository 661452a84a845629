-- What may be done after each change of the memory, and what a load gives apart from it.
use Rattle.std.proofs.Common.{◌≡◌, ℕ, ◌+◌, ◌<◌, ◌≤◌, ◌^◌, Bool, true, false, cond, refl, sym, ◌∙◌, ap, arith, List}
use Rattle.std.proofs.Common.{length, ◌⊎◌, inl, inr}
use Rattle.std.specs.Prelude.{Option, Some, None, nat_lt, ◌&&◌}
use Rattle.std.specs.Option.{option_map}
use Rattle.std.specs.FinMap as map
use Rattle.std.proofs.lemmas.Bool.{cases_lt, cases_Bool, cond-true, cond-false, lt-ltb, le-ltb, and_left}
use Rattle.std.proofs.lemmas.Bool.Decides.{nat_tests}
use Rattle.guest_mem.specs.Memory.{Cell, Memory, in_range, change_at, with_permission, granted_permission, allows, cell_allows}
use Rattle.guest_mem.specs.Memory.{cell_byte, allows_at, may, byte_at, bytes_at, number_of, load_at, write_at, zero_range}
use Rattle.guest_mem.specs.Memory.{unmap_at, protect_at, SameElsewhere}
use Rattle.guest_mem.proofs.Memories.{get-changed}
use Rattle.guest_mem.proofs.Ranges.{may-same, may_at, may-from, bytes_at-same, allowed-below}

-- ---- what may be done

cell_allows-at : (m : Memory) (want q : ℕ) (c : Option Cell) → q < 2 ^ 32 → map.get m q ≡ c
    → allows_at m want q ≡ cell_allows want c
unfolding allows_at
cell_allows-at m want q c h is = ap (λ b. b && cell_allows want (map.get m q)) (lt-ltb q (2 ^ 32) h)
    ∙ ap (cell_allows want) is

allowed-changed : (m : Memory) (a n want q : ℕ) (f : ℕ → Option Cell → Option Cell) (b : Bool) → q < 2 ^ 32
    → (in_range a n q ≡ true → cell_allows want (f q (map.get m q)) ≡ b)
    → allows_at (change_at m a n f) want q ≡ cond (in_range a n q) b (allows_at m want q)
allowed-changed m a n want q f b h inside =
    elim (cases_Bool (in_range a n q)) [
      | inl given ↦ cell_allows-at (change_at m a n f) want q _ h (get-changed m a n f q h ∙ cond-true _ _ _ given)
          ∙ inside given ∙ sym (cond-true _ _ _ given)
      | inr out ↦ cell_allows-at (change_at m a n f) want q _ h (get-changed m a n f q h ∙ cond-false _ _ _ out)
          ∙ sym (cell_allows-at m want q _ h refl) ∙ sym (cond-false _ _ _ out)
    ]

-- after zeros were mapped
pub allowed-zeroed : (m : Memory) (a n permission want q : ℕ) → q < 2 ^ 32 → allows_at (zero_range m a n permission) want q
    ≡ cond (in_range a n q) (allows want (granted_permission permission)) (allows_at m want q)
unfolding zero_range
allowed-zeroed m a n permission want q h =
    allowed-changed m a n want q _ (allows want (granted_permission permission)) h (λ _. refl)

-- after pages were taken away
pub allowed-unmapped : (m : Memory) (a n want q : ℕ) → q < 2 ^ 32
    → allows_at (unmap_at m a n) want q ≡ cond (in_range a n q) false (allows_at m want q)
unfolding unmap_at
allowed-unmapped m a n want q h = allowed-changed m a n want q _ false h (λ _. refl)

-- after mapped pages got another permission
pub allowed-protected : (m : Memory) (a n permission want q : ℕ) → q < 2 ^ 32 → allows_at m 0 q ≡ true
    → allows_at (protect_at m a n permission) want q ≡ cond (in_range a n q) (allows want (granted_permission permission))
    (allows_at m want q)
unfolding protect_at
allowed-protected m a n permission want q h there = allowed-changed m a n want q _ (allows want (granted_permission permission)) h
    (λ _. given (map.get m q) (sym (cell_allows-at m 0 q _ h refl) ∙ there))
  where
    given : (c : Option Cell) → cell_allows 0 c ≡ true
        → cell_allows want (option_map (with_permission (granted_permission permission)) c) ≡ allows want (granted_permission permission)
    given None there = cc
    given (Some c) there = refl

-- a range of zeros may be used as its permission says
pub may-zeroed : (m : Memory) (a n permission want b k : ℕ) → a + n ≤ 2 ^ 32 → a ≤ b → b + k ≤ a + n
    → allows want (granted_permission permission) ≡ true → may (zero_range m a n permission) want b k ≡ true
may-zeroed m a n permission want b k fits from to given =
    may-from _ want b k (λ i h. let inside : in_range a n (b + i) ≡ true = grind (arith, nat_tests) in
    allowed-zeroed m a n permission want (b + i) (omega arith) ∙ cond-true _ _ _ inside ∙ given)

-- ---- loads apart from a change

allowed-same : (m n : Memory) (want q : ℕ) → (q < 2 ^ 32 → map.get n q ≡ map.get m q)
    → allows_at n want q ≡ allows_at m want q
unfolding allows_at
allowed-same m n want q same =
    elim (cases_lt q (2 ^ 32)) [
      | inl h ↦ ap (λ c. nat_lt q (2 ^ 32) && cell_allows want c) (same h)
      | inr h ↦ and_left _ _ (le-ltb q (2 ^ 32) h) ∙ sym (and_left _ _ (le-ltb q (2 ^ 32) h))
    ]

byte_at-same : (m n : Memory) (q : ℕ) → map.get n q ≡ map.get m q → byte_at n q ≡ byte_at m q
unfolding byte_at
byte_at-same m n q same = ap cell_byte same

loaded-same : (m n : Memory) (want a width : ℕ)
    → ((k : ℕ) → k < width → a + k < 2 ^ 32 → map.get n (a + k) ≡ map.get m (a + k))
    → load_at n want a width ≡ load_at m want a width
unfolding load_at
loaded-same m n want a width same =
    let usable = may-same m n want a width (λ k h. allowed-same m n want (a + k) (same k h)) in
    elim (cases_Bool (may m want a width)) [
      | inl all ↦ ap (λ b. cond b (Some (number_of (bytes_at n a width))) None) usable
          ∙ ap (λ ys. cond (may m want a width) (Some (number_of ys)) None)
          (bytes_at-same m n a width
          (λ k h. byte_at-same m n (a + k)
          (same k h (allowed-below m want (a + k) (may_at m want a width all k h)))))
      | inr not_all ↦ cond-false _ _ _ (usable ∙ not_all) ∙ sym (cond-false _ _ _ not_all)
    ]

elsewhere-changed : (m : Memory) (a n : ℕ) (f : ℕ → Option Cell → Option Cell) → SameElsewhere m (change_at m a n f) a n
elsewhere-changed m a n f want other width apart =
    loaded-same m (change_at m a n f) want other width
    (λ k h below. get-changed m a n f (other + k) below ∙ cond-false _ _ _ (outside other width k h apart))
  where
    outside : (other width k : ℕ) → k < width → (other + width ≤ a) ⊎ (a + n ≤ other) → in_range a n (other + k) ≡ false
    outside other width k h (inl below) = grind (arith, nat_tests)
    outside other width k h (inr above) = grind (arith, nat_tests)

pub elsewhere-zeroed : (m : Memory) (a n permission : ℕ) → SameElsewhere m (zero_range m a n permission) a n
unfolding zero_range
elsewhere-zeroed m a n permission = elsewhere-changed m a n _

pub elsewhere-unmapped : (m : Memory) (a n : ℕ) → SameElsewhere m (unmap_at m a n) a n
unfolding unmap_at
elsewhere-unmapped m a n = elsewhere-changed m a n _

pub elsewhere-protected : (m : Memory) (a n permission : ℕ) → SameElsewhere m (protect_at m a n permission) a n
unfolding protect_at
elsewhere-protected m a n permission = elsewhere-changed m a n _

pub elsewhere-written : (m : Memory) (a : ℕ) (bs : List ℕ) → SameElsewhere m (write_at m a bs) a (length bs)
unfolding write_at
elsewhere-written m a bs = elsewhere-changed m a (length bs) _

-- the memory that is another by an equation
pub elsewhere-by : (m n o : Memory) (a width : ℕ) → n ≡ o → SameElsewhere m o a width → SameElsewhere m n a width
elsewhere-by m n o a width is same want other k apart = ap (λ p. load_at p want other k) is ∙ same want other k apart
