-- A reference puts its block in front of the newest blocks of its set, and a set's lines follow.
use Rattle.std.proofs.Common.{◌≡◌, ℕ, zero, suc, ◌+◌, ◌-◌, ◌*◌, ◌<◌, ◌≤◌, Bool, true, false, not, ◌||◌, List, [], ◌∷◌}
use Rattle.std.proofs.Common.{◌++◌, length, take, replicate, refl, ap, ap₂, sym, ◌∙◌, arith, inl, inr}
use Rattle.std.specs.Prelude.{◌==◌, Some, filter, reverse, slice_get}
use Rattle.std.specs.List.{list_any, range_with_len}
use Rattle.std.proofs.lemmas.Bool.{cases_Bool, cases_eq, eqb-true, eqb-false, eq-eqb, ne_eqb}
use Rattle.std.proofs.lemmas.List.Elements.{filter-append}
use Rattle.std.proofs.lemmas.List.{reverse-append, append-nil, drop-replicate, take-replicate, take-take}
use Rattle.std.proofs.lemmas.List.{length-take-le, length-append, length-replicate}
use Rattle.std.proofs.lemmas.Nat.{row_fits}
use Rattle.cache_lru.specs.Shape.{Shape, set_of, sets_of, block_of}
use Rattle.cache_lru.specs.History.{blocks_of, all_but, distinct, newest_first, hits}
use Rattle.cache_lru.specs.Lines.{filled_lines, empty_line, lines_of, StandsFor}
use Rattle.cache_lru.specs.inner.Layout.{without, to_front}
use Rattle.cache_lru.proofs.LineLemmas.{list_any-first, to_front-first}

pub filter-filter_same : {X : Type 0} (p : X → Bool) (xs : List X) → filter p (filter p xs) ≡ filter p xs
filter-filter_same p [] = refl
filter-filter_same p (x ∷ xs) = elim (cases_Bool (p x)) [
  | inl passes ↦ simp passes (ap (λ t. x ∷ t) (filter-filter_same p xs))
  | inr fails ↦ simp fails (filter-filter_same p xs)
]

pub filter_swap : {X : Type 0} (p q : X → Bool) (xs : List X) → filter p (filter q xs) ≡ filter q (filter p xs)
filter_swap p q [] = refl
filter_swap p q (x ∷ xs) = elim (cases_Bool (p x)) [
  | inl passes ↦ elim (cases_Bool (q x)) [
    | inl passes_too ↦ simp (passes, passes_too) (ap (λ t. x ∷ t) (filter_swap p q xs))
    | inr fails ↦ simp (passes, fails) (filter_swap p q xs)
  ]
  | inr fails ↦ elim (cases_Bool (q x)) [
    | inl passes ↦ simp (fails, passes) (filter_swap p q xs)
    | inr fails_too ↦ simp (fails, fails_too) (filter_swap p q xs)
  ]
]

-- a block that passes may be dropped before or after
without-filter : (p : ℕ → Bool) (b : ℕ) → p b ≡ true → (xs : List ℕ) → without b (filter p xs) ≡ filter p (without b xs)
without-filter p b stays [] = refl
without-filter p b stays (x ∷ xs) = elim (cases_Bool (x == b)) [
  | inl same ↦
      let passes : p x ≡ true = ap p (eqb-true x b same) ∙ stays in
      simp (same, passes)
  | inr apart ↦ elim (cases_Bool (p x)) [
    | inl passes ↦ simp (apart, passes) (ap (λ t. x ∷ t) (without-filter p b stays xs))
    | inr fails ↦ simp (apart, fails) (without-filter p b stays xs)
  ]
]

-- where each block stands once, to drop the first is to leave all out
pub all_but-distinct : (b : ℕ) (xs : List ℕ) → all_but b (distinct xs) ≡ without b (distinct xs)
all_but-distinct b [] = refl
all_but-distinct b (x ∷ xs) = elim (cases_Bool (x == b)) [
  | inl same ↦
      let is = eqb-true x b same in
      simp same (
      ap (λ y. all_but b (all_but y (distinct xs))) is
      ∙ filter-filter_same (λ other. not (other == b)) (distinct xs)
      ∙ ap (λ y. all_but y (distinct xs)) (sym is)
      )
  | inr apart ↦ simp apart (ap (λ t. x ∷ t) (
      filter_swap (λ other. not (other == b)) (λ other. not (other == x)) (distinct xs)
      ∙ ap (all_but x) (all_but-distinct b xs)
      ∙ sym (without-filter (λ other. not (other == x)) b (ap not (ne_eqb b x (λ e. eqb-false x b apart (sym e))))
      (distinct xs))
      ))
]

-- only what stands in the first k + 1 places counts for the first k, once one is dropped
take-without : (k b : ℕ) (xs : List ℕ) → take k (without b (take (suc k) xs)) ≡ take k (without b xs)
take-without k b [] = refl
take-without zero b (x ∷ xs) = refl
take-without (suc k) b (x ∷ xs) = elim (cases_Bool (x == b)) [
  | inl same ↦ simp same (take-take (suc k) (suc k) xs (omega arith))
  | inr apart ↦ simp apart (ap (λ t. x ∷ t) (take-without k b xs))
]

-- a block is in no empty line
without-replicate : (n b : ℕ) → (empty_line == b) ≡ false → without b (replicate n empty_line) ≡ replicate n empty_line
without-replicate zero b some = refl
without-replicate (suc n) b some = simp some (ap (λ t. empty_line ∷ t) (without-replicate n b some))

without-append : (n b : ℕ) → (empty_line == b) ≡ false → (xs : List ℕ)
    → without b (xs ++ replicate n empty_line) ≡ without b xs ++ replicate n empty_line
without-append n b some [] = without-replicate n b some
without-append n b some (x ∷ xs) = elim (cases_Bool (x == b)) [
  | inl same ↦ simp same
  | inr apart ↦ simp apart (ap (λ t. x ∷ t) (without-append n b some xs))
]

list_any-empty : (m n b : ℕ) → (empty_line == b) ≡ false
    → list_any (λ kept. kept == b) (take n (replicate m empty_line)) ≡ false
list_any-empty m zero b some = refl
list_any-empty zero (suc n) b some = refl
list_any-empty (suc m) (suc n) b some = simp some (list_any-empty m n b some)

-- a block is among the lines where it is among the blocks that they hold
pub list_any-filled_lines : (m n b : ℕ) → (empty_line == b) ≡ false → (xs : List ℕ)
    → list_any (λ kept. kept == b) (take n (xs ++ replicate m empty_line)) ≡ list_any (λ kept. kept == b) (take n xs)
list_any-filled_lines m zero b some xs = refl
list_any-filled_lines m (suc n) b some [] = list_any-empty m (suc n) b some
list_any-filled_lines m (suc n) b some (x ∷ xs) = ap (λ t. (x == b) || t) (list_any-filled_lines m n b some xs)

length-filled_lines : (n : ℕ) (xs : List ℕ) → length (filled_lines n xs) ≡ n
length-filled_lines n xs =
    length-take-le n (xs ++ replicate n empty_line) (simp (length-append, length-replicate) (omega arith))

-- the lines of a set after a reference hold the block and then the others
pub to_front-filled_lines : (n b : ℕ) → (empty_line == b) ≡ false → 0 < n → (xs : List ℕ)
    → to_front b (filled_lines n (distinct xs)) ≡ filled_lines n (b ∷ all_but b (distinct xs))
to_front-filled_lines zero b some has xs = absurd (omega arith)
to_front-filled_lines (suc k) b some has xs =
    ap (λ n. take n (b ∷ without b (filled_lines (suc k) (distinct xs)))) (length-filled_lines (suc k) (distinct xs))
    ∙ ap (λ t. b ∷ t) (
    take-without k b (distinct xs ++ replicate (suc k) empty_line)
    ∙ ap (take k)
    (without-append (suc k) b some (distinct xs)
    ∙ ap (λ t. t ++ replicate (suc k) empty_line) (sym (all_but-distinct b xs)))
    )

-- a reference to a block of the set puts it in front
pub newest_first-push_same : (shape : Shape) (set b : ℕ) (history : List ℕ) → set_of shape b ≡ set
    → newest_first shape set (history ++ b ∷ []) ≡ b ∷ all_but b (newest_first shape set history)
newest_first-push_same shape set b history is =
    let in_set : (set_of shape b == set) ≡ true = eq-eqb (set_of shape b) set is in
    let here = λ (block : ℕ). set_of shape block == set in
    ap distinct (
    ap reverse (filter-append here history (b ∷ []) ∙ ap (λ t. filter here history ++ t) (simp in_set))
    ∙ reverse-append (filter here history) (b ∷ [])
    )

-- a reference to a block of another set leaves it as it is
pub newest_first-push_other : (shape : Shape) (set b : ℕ) (history : List ℕ) → (set_of shape b ≡ set → ⊥)
    → newest_first shape set (history ++ b ∷ []) ≡ newest_first shape set history
newest_first-push_other shape set b history apart =
    let elsewhere : (set_of shape b == set) ≡ false = ne_eqb (set_of shape b) set apart in
    let here = λ (block : ℕ). set_of shape block == set in
    ap (λ t. distinct (reverse t)) (
    filter-append here history (b ∷ [])
    ∙ ap (λ t. filter here history ++ t) (simp elsewhere)
    ∙ append-nil (filter here history)
    )

-- ---- what a cache stands for

-- an empty cache stands for the empty history
pub StandsFor-empty : (shape : Shape) (lines : List ℕ) → lines ≡ replicate (sets_of shape * shape.assoc) empty_line
    → StandsFor shape (record { shape = shape; lines = lines }) []
StandsFor-empty shape lines are = record {
  same_shape = refl;
  newest = λ set within.
      let fits : set * shape.assoc + shape.assoc ≤ sets_of shape * shape.assoc =
      row_fits set shape.assoc (sets_of shape) shape.assoc within (omega arith) in
      ap (lines_of shape.assoc set) are
      ∙ ap (take shape.assoc) (drop-replicate (set * shape.assoc) (sets_of shape * shape.assoc) empty_line)
      ∙ take-replicate shape.assoc (sets_of shape * shape.assoc - set * shape.assoc) empty_line (omega arith)
      ∙ sym (take-replicate shape.assoc shape.assoc empty_line (omega arith));
}

module _ (shape : Shape) (lines : List ℕ) (b : ℕ) (some : (empty_line == b) ≡ false) where
  -- a block stands in its set's lines exactly where it hits
  pub list_any-hits : (other : Shape) (history : List ℕ)
      → StandsFor other (record { shape = shape; lines = lines }) history
      → set_of shape b < sets_of shape
      → list_any (λ kept. kept == b) (lines_of shape.assoc (set_of shape b) lines) ≡ hits other history b
  list_any-hits other history stands within =
      ap (list_any (λ kept. kept == b)) (stands.newest (set_of shape b) within)
      ∙ list_any-filled_lines shape.assoc shape.assoc b some (newest_first shape (set_of shape b) history)
      ∙ ap (λ s. hits s history b) stands.same_shape

  -- once it was put in front there, the cache stands for the history with it
  pub StandsFor-push : (now : List ℕ) → 0 < shape.assoc → set_of shape b < sets_of shape
      → lines_of shape.assoc (set_of shape b) now ≡ to_front b (lines_of shape.assoc (set_of shape b) lines)
      → ((set : ℕ) → (set ≡ set_of shape b → ⊥) → lines_of shape.assoc set now ≡ lines_of shape.assoc set lines)
      → (other : Shape) (history : List ℕ) → StandsFor other (record { shape = shape; lines = lines }) history
      → StandsFor other (record { shape = shape; lines = now }) (history ++ b ∷ [])
  StandsFor-push now has within touched kept other history stands = record {
    same_shape = stands.same_shape;
    newest = λ set below. elim (cases_eq set (set_of shape b)) [
      | inl same ↦
          ap (λ s. lines_of shape.assoc s now) same
          ∙ touched
          ∙ ap (to_front b) (stands.newest (set_of shape b) within)
          ∙ to_front-filled_lines shape.assoc b some has
          (reverse (filter (λ block. set_of shape block == set_of shape b) history))
          ∙ ap (filled_lines shape.assoc) (sym (newest_first-push_same shape (set_of shape b) b history refl))
          ∙ ap (λ s. filled_lines shape.assoc (newest_first shape s (history ++ b ∷ []))) (sym same)
      | inr apart ↦
          kept set apart
          ∙ stands.newest set below
          ∙ ap (filled_lines shape.assoc) (sym (newest_first-push_other shape set b history (λ e. apart (sym e))))
    ];
  }

-- ---- a block that stands first in its set

module _ (shape : Shape) (lines : List ℕ) (b : ℕ) (full : b < empty_line) (has : 0 < shape.assoc)
    (within : set_of shape b < sets_of shape)
    (there : slice_get (lines_of shape.assoc (set_of shape b) lines) 0 ≡ Some b)
    (other : Shape) (history : List ℕ)
    (stands : StandsFor other (record { shape = shape; lines = lines }) history) where
  pub first-hits : hits other history b ≡ true
  first-hits =
      sym (list_any-hits shape lines b (ne_eqb empty_line b (λ e. omega arith)) other history stands within)
      ∙ list_any-first b (lines_of shape.assoc (set_of shape b) lines) there

  pub first-stands : StandsFor other (record { shape = shape; lines = lines }) (history ++ b ∷ [])
  first-stands =
      StandsFor-push shape lines b (ne_eqb empty_line b (λ e. omega arith)) lines has within
      (to_front-first b (lines_of shape.assoc (set_of shape b) lines) there) (λ set apart. refl) other history stands

-- ---- an access that touches one block, or two

module _ (kept shape : Shape) (addr len first last : ℕ) (some : 1 ≤ len) (same : kept ≡ shape)
    (begins : first ≡ block_of kept addr) (ends : last ≡ block_of kept (addr + (len - 1))) where
  blocks_of-kept : blocks_of shape (record { addr = addr; len = len }) ≡ range_with_len first (last - first + 1)
  blocks_of-kept =
      let end : addr + len - 1 ≡ addr + (len - 1) = omega arith in
      ap (λ s. blocks_of s (record { addr = addr; len = len })) (sym same)
      ∙ ap (λ a. range_with_len (block_of kept addr) (block_of kept a - block_of kept addr + 1)) end
      ∙ sym (ap₂ (λ f l. range_with_len f (l - f + 1)) begins ends)

  pub blocks_of-one : last ≡ first → blocks_of shape (record { addr = addr; len = len }) ≡ first ∷ []
  blocks_of-one alone =
      let one : last - first + 1 ≡ suc zero = omega arith in
      blocks_of-kept ∙ ap (range_with_len first) one

  pub blocks_of-two : last ≡ first + 1 → blocks_of shape (record { addr = addr; len = len }) ≡ first ∷ last ∷ []
  blocks_of-two next =
      let two : last - first + 1 ≡ suc (suc zero) = omega arith in
      blocks_of-kept ∙ ap (range_with_len first) two ∙ ap (λ n. first ∷ n ∷ []) (sym next)
