-- Ranges of addresses: which bytes may be used, what they are and what a write leaves.
use Rattle.std.proofs.Common.{◌≡◌, ℕ, zero, suc, ◌+◌, ◌-◌, ◌<◌, ◌^◌, Bool, true, false, cond, refl, sym, ◌∙◌, ap, arith}
use Rattle.std.proofs.Common.{List, [], ◌∷◌, length, get_or, inl, inr}
use Rattle.std.specs.Prelude.{Option, Some, None, nat_lt, ◌&&◌, slice_index}
use Rattle.std.specs.Option.{option_map}
use Rattle.std.specs.FinMap as map
use Rattle.std.proofs.lemmas.Bool.{cases_lt, cond-true, cond-false, le-ltb, ltb-true, and_parts, and_from, and_left}
use Rattle.std.proofs.lemmas.Bool.{cases_Bool}
use Rattle.std.proofs.lemmas.Bool.Decides.{nat_tests}
use Rattle.std.proofs.lemmas.List.{ext_get_or}
use Rattle.guest_mem.specs.Memory.{Cell, Memory, memory_of, in_range, with_byte, cell_allows, cell_byte, allows_at, may}
use Rattle.guest_mem.specs.Memory.{byte_at, bytes_at, write_at}
use Rattle.guest_mem.proofs.Memories.{get-changed, memory_of-changed}

-- ---- which bytes may be used

pub may-from : (m : Memory) (want a n : ℕ) → ((k : ℕ) → k < n → allows_at m want (a + k) ≡ true) → may m want a n ≡ true
unfolding may
may-from m want a zero each = refl
may-from m want a (suc n) each =
    and_from _ _ (let e : a + 0 ≡ a = omega arith in (λ i. allows_at m want (sym e i)) ∙ each 0 (omega arith))
    (may-from m want (a + 1) n
    (λ k h. (let e : a + 1 + k ≡ a + suc k = omega arith in ap (allows_at m want) e) ∙ each (suc k) (omega arith)))

pub may_at : (m : Memory) (want a n : ℕ) → may m want a n ≡ true → (k : ℕ) → k < n → allows_at m want (a + k) ≡ true
unfolding may
may_at m want a zero all k h = absurd (omega arith)
may_at m want a (suc n) all zero h = (let e : a + 0 ≡ a = omega arith in ap (allows_at m want) e) ∙ (and_parts _ _ all).0
may_at m want a (suc n) all (suc k) h =
    (let e : a + suc k ≡ a + 1 + k = omega arith in ap (allows_at m want) e)
    ∙ may_at m want (a + 1) n (and_parts _ _ all).1 k (omega arith)

-- one byte that may not be used is enough
pub may_fails : (m : Memory) (want a n k : ℕ) → k < n → allows_at m want (a + k) ≡ false → may m want a n ≡ false
may_fails m want a n k h bad = elim (cases_Bool (may m want a n)) [
  | inl all ↦ (let good = may_at m want a n all k h in cc)
  | inr not_all ↦ not_all
]

pub may-same : (m n : Memory) (want a count : ℕ)
    → ((k : ℕ) → k < count → allows_at n want (a + k) ≡ allows_at m want (a + k)) → may n want a count ≡ may m want a count
may-same m n want a count same =
    elim (cases_Bool (may m want a count)) [
      | inl all ↦ may-from n want a count (λ k h. same k h ∙ may_at m want a count all k h) ∙ sym all
      | inr not_all ↦ (elim (cases_Bool (may n want a count)) [
        | inl all ↦ all ∙ sym (may-from m want a count (λ k h. sym (same k h) ∙ may_at n want a count all k h))
        | inr none ↦ none ∙ sym not_all
      ])
    ]

-- ---- the bytes

pub length-bytes_at : (m : Memory) (a n : ℕ) → length (bytes_at m a n) ≡ n
unfolding bytes_at
length-bytes_at m a zero = refl
length-bytes_at m a (suc n) = ap suc (length-bytes_at m (a + 1) n)

pub get_or-bytes_at : (m : Memory) (a n k : ℕ) → k < n → get_or (bytes_at m a n) k 0 ≡ byte_at m (a + k)
unfolding bytes_at
get_or-bytes_at m a zero k h = absurd (omega arith)
get_or-bytes_at m a (suc n) zero h = let e : a ≡ a + 0 = omega arith in ap (byte_at m) e
get_or-bytes_at m a (suc n) (suc k) h =
    get_or-bytes_at m (a + 1) n k (omega arith) ∙ (let e : a + 1 + k ≡ a + suc k = omega arith in ap (byte_at m) e)

pub bytes_at-is : (m : Memory) (a : ℕ) (bs : List ℕ) → ((k : ℕ) → k < length bs → byte_at m (a + k) ≡ get_or bs k 0)
    → bytes_at m a (length bs) ≡ bs
bytes_at-is m a bs each =
    ext_get_or 0 _ _ (length-bytes_at m a (length bs))
    (λ k h. let l : k < length bs = omega (arith, length-bytes_at m a (length bs)) in
    get_or-bytes_at m a (length bs) k l ∙ each k l)

pub bytes_at-same : (m n : Memory) (a count : ℕ) → ((k : ℕ) → k < count → byte_at n (a + k) ≡ byte_at m (a + k))
    → bytes_at n a count ≡ bytes_at m a count
unfolding bytes_at
bytes_at-same m n a zero same = refl
bytes_at-same m n a (suc count) same =
    let first : byte_at n a ≡ byte_at m a
    = (let e : a ≡ a + 0 = omega arith in ap (byte_at n) e ∙ same 0 (omega arith) ∙ ap (byte_at m) (sym e)) in
    let rest : bytes_at n (a + 1) count ≡ bytes_at m (a + 1) count
    = bytes_at-same m n (a + 1) count (λ k h. let e : a + 1 + k ≡ a + suc k = omega arith in ap (byte_at n) e
    ∙ same (suc k) (omega arith) ∙ ap (byte_at m) (sym e)) in
    λ i. first i ∷ rest i

-- ---- what a write leaves

pub get-written : (m : Memory) (a : ℕ) (bs : List ℕ) (q : ℕ) → q < 2 ^ 32 → map.get (write_at m a bs) q
    ≡ cond (in_range a (length bs) q) (option_map (with_byte (slice_index bs (q - a))) (map.get m q)) (map.get m q)
unfolding write_at
get-written m a bs q h = get-changed m a (length bs) _ q h

same_permission : (b : Bool) (byte want : ℕ) (c x : Option Cell) → x ≡ cond b (option_map (with_byte byte) c) c
    → cell_allows want x ≡ cell_allows want c
same_permission true byte want None x e = ap (cell_allows want) e
same_permission true byte want (Some c) x e = ap (cell_allows want) e
same_permission false byte want c x e = ap (cell_allows want) e

-- a write changes no permission
pub allowed-written : (m : Memory) (a : ℕ) (bs : List ℕ) (want q : ℕ)
    → allows_at (write_at m a bs) want q ≡ allows_at m want q
unfolding allows_at
allowed-written m a bs want q =
    elim (cases_lt q (2 ^ 32)) [
      | inl h ↦ ap (λ b. nat_lt q (2 ^ 32) && b)
          (same_permission (in_range a (length bs) q) (slice_index bs (q - a)) want (map.get m q)
          (map.get (write_at m a bs) q) (get-written m a bs q h))
      | inr h ↦ and_left _ _ (le-ltb q (2 ^ 32) h) ∙ sym (and_left _ _ (le-ltb q (2 ^ 32) h))
    ]

pub may-written : (m : Memory) (a : ℕ) (bs : List ℕ) (want other n : ℕ)
    → may (write_at m a bs) want other n ≡ may m want other n
may-written m a bs want other n =
    may-same m (write_at m a bs) want other n (λ k h. allowed-written m a bs want (other + k))

pub allowed-below : (m : Memory) (want q : ℕ) → allows_at m want q ≡ true → q < 2 ^ 32
unfolding allows_at
allowed-below m want q ok = ltb-true q (2 ^ 32) (and_parts (nat_lt q (2 ^ 32)) (cell_allows want (map.get m q)) ok).0

mapped_cell : (byte want : ℕ) (c x : Option Cell) → x ≡ option_map (with_byte byte) c → cell_allows want c ≡ true
    → cell_byte x ≡ byte
mapped_cell byte want None x e ok = cc
mapped_cell byte want (Some c) x e ok = ap cell_byte e

pub byte_at-written_in : (m : Memory) (a : ℕ) (bs : List ℕ) (want k : ℕ) → k < length bs → allows_at m want (a + k) ≡ true
    → byte_at (write_at m a bs) (a + k) ≡ get_or bs k 0
unfolding byte_at allows_at
byte_at-written_in m a bs want k h ok =
    let below : a + k < 2 ^ 32 = allowed-below m want (a + k) ok in
    let inside : in_range a (length bs) (a + k) ≡ true = grind (arith, nat_tests) in
    let place : a + k - a ≡ k = omega arith in
    mapped_cell (slice_index bs (a + k - a)) want (map.get m (a + k)) (map.get (write_at m a bs) (a + k))
    (get-written m a bs (a + k) below ∙ cond-true _ _ _ inside)
    (and_parts (nat_lt (a + k) (2 ^ 32)) (cell_allows want (map.get m (a + k))) ok).1
    ∙ ap (slice_index bs) place

-- what was written stands there
pub bytes_at-written : (m : Memory) (want a : ℕ) (bs : List ℕ) → may m want a (length bs) ≡ true
    → bytes_at (write_at m a bs) a (length bs) ≡ bs
bytes_at-written m want a bs ok =
    bytes_at-is (write_at m a bs) a bs (λ k h. byte_at-written_in m a bs want k h (may_at m want a (length bs) ok k h))

-- ---- writes one after another

pub written_nothing : (f : ℕ → Option Cell) (a : ℕ) → write_at (memory_of f) a [] ≡ memory_of f
unfolding write_at
written_nothing f a =
    sym (memory_of-changed f f a 0 _
    (λ q h. sym (let outside : in_range a 0 q ≡ false = grind (arith, nat_tests) in cond-false _ _ _ outside)))
