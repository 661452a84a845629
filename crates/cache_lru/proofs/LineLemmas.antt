-- The loop over the lines of a set, and the lines of the other sets.
use Rattle.std.proofs.Common.{◌≡◌, ℕ, zero, suc, ◌+◌, ◌-◌, ◌*◌, ◌<◌, ◌≤◌, true}
use Rattle.std.proofs.Common.{List, [], ◌∷◌, ◌++◌, length, get_or, set}
use Rattle.std.proofs.Common.{take, drop, ap, sym, ◌∙◌, arith, add-one, inl, inr, refl, subst, Some}
use Rattle.std.specs.Prelude.{◌==◌, slice_get}
use Rattle.std.specs.List.{list_any}
use Rattle.std.proofs.lemmas.Bool.{eq-eqb, ne_eqb}
use Rattle.std.proofs.lemmas.List.{drop_more, set_split, take_all, take_more_set, drop-set-lt, length-set, length-drop}
use Rattle.std.proofs.lemmas.List.{append_assoc, drop-take, length-take-le}
use Rattle.std.proofs.lemmas.Bool.{cases_order}
use Rattle.std.proofs.lemmas.Nat.{row_fits}
use Rattle.std.proofs.lemmas.Slice.{drop-put_mid, take-put_mid_below}
use borrow.Rule.Slice.PartMut.{put_mid}
use Rattle.cache_lru.specs.Lines.{empty_line, lines_of}
use Rattle.cache_lru.specs.Shape.{Shape, set_of}
use Rattle.cache_lru.specs.inner.Layout.{IsFirst, to_front, without}

-- what the lines from place i on are to become, where the block `carried` is to stand at i
abbrev pub to_come : ℕ → ℕ → ℕ → List ℕ → List ℕ
to_come block carried i lines = take i lines ++ take (length lines - i) (carried ∷ without block (drop i lines))

module _ (block carried i : ℕ) (lines : List ℕ) (within : i < length lines) where
  -- at the block's own place all is done
  pub to_come-found : get_or lines i 0 ≡ block → to_come block carried i lines ≡ set lines i carried
  to_come-found is =
      let same = eq-eqb (get_or lines i 0) block is in
      let rest = drop_more lines i 0 within in
      let gone : without block (drop i lines) ≡ drop (i + 1) lines = ap (without block) rest ∙ simp same in
      let all : take (length lines - i) (carried ∷ drop (i + 1) lines) ≡ carried ∷ drop (i + 1) lines =
      take_all (length lines - i) (carried ∷ drop (i + 1) lines) (omega (arith, length-drop (i + 1) lines)) in
      ap (λ t. take i lines ++ take (length lines - i) (carried ∷ t)) gone
      ∙ ap (λ t. take i lines ++ t) all
      ∙ rw add-one (sym (set_split lines i carried within))

  -- at any other place the next line takes what stood here
  pub to_come-more : (get_or lines i 0 ≡ block → ⊥)
      → to_come block carried i lines ≡ to_come block (get_or lines i 0) (i + 1) (set lines i carried)
  to_come-more differs =
      let apart = ne_eqb (get_or lines i 0) block differs in
      let here = get_or lines i 0 in
      let stays : without block (drop i lines) ≡ here ∷ without block (drop (i + 1) lines) =
      ap (without block) (drop_more lines i 0 within) ∙ simp apart in
      let left : length lines - i ≡ suc (length (set lines i carried) - (i + 1))
      = omega (arith, length-set lines i carried) in
      let same_rest : drop (i + 1) (set lines i carried) ≡ drop (i + 1) lines
      = drop-set-lt (i + 1) lines i carried (omega arith) in
      let rest = λ (xs : List ℕ). take (length (set lines i carried) - (i + 1)) (here ∷ without block xs) in
      ap (λ t. take i lines ++ take (length lines - i) (carried ∷ t)) stays
      ∙ ap (λ n. take i lines ++ take n (carried ∷ here ∷ without block (drop (i + 1) lines))) left
      ∙ sym (append_assoc (take i lines) (carried ∷ []) (rest (drop (i + 1) lines)))
      ∙ ap (λ t. t ++ rest (drop (i + 1) lines)) (sym (take_more_set lines i carried within))
      ∙ ap (λ xs. take (i + 1) (set lines i carried) ++ rest xs) (sym same_rest)

  -- whether the block stands from place i on
  pub list_any-here : get_or lines i 0 ≡ block → list_any (λ kept. kept == block) (drop i lines) ≡ true
  list_any-here is =
      let same = eq-eqb (get_or lines i 0) block is in
      ap (list_any (λ kept. kept == block)) (drop_more lines i 0 within) ∙ simp same

  pub list_any-more : (get_or lines i 0 ≡ block → ⊥)
      → list_any (λ kept. kept == block) (drop (i + 1) (set lines i carried))
      ≡ list_any (λ kept. kept == block) (drop i lines)
  list_any-more differs =
      let apart = ne_eqb (get_or lines i 0) block differs in
      ap (list_any (λ kept. kept == block)) (drop-set-lt (i + 1) lines i carried (omega arith))
      ∙ sym (ap (list_any (λ kept. kept == block)) (drop_more lines i 0 within) ∙ simp apart)

-- The lines of another set don't change with those of one set.
pub lines_of-other : (set other assoc : ℕ) (lines now : List ℕ) → set * assoc + assoc ≤ length lines
    → length now ≡ assoc
    → (other ≡ set → ⊥)
    → lines_of assoc other (put_mid (set * assoc) (set * assoc + assoc - set * assoc) lines now)
    ≡ lines_of assoc other lines
lines_of-other set other assoc lines now fits long apart = elim (cases_order other set) [
  | inl same ↦ absurd (apart same)
  | inr differ ↦ elim differ [
    | inl below ↦
        let start = other * assoc in
        let before : start + assoc ≤ set * assoc = row_fits other assoc set assoc below (omega arith) in
        let whole = put_mid (set * assoc) (set * assoc + assoc - set * assoc) lines now in
        sym (drop-take start assoc whole)
        ∙ ap (drop start)
        (take-put_mid_below (set * assoc) (set * assoc + assoc - set * assoc) lines now (start + assoc) before
        (omega arith))
        ∙ drop-take start assoc lines
    | inr above ↦
        let past : set * assoc + assoc ≤ other * assoc = row_fits set assoc other assoc above (omega arith) in
        ap (take assoc)
        (drop-put_mid (set * assoc) (set * assoc + assoc - set * assoc) lines now (other * assoc) (omega arith)
        (omega arith) (omega arith))
  ]
]

-- ---- the block that stands first

-- It is put in front: nothing changes.
pub to_front-first : (block : ℕ) (lines : List ℕ) → slice_get lines 0 ≡ Some block → lines ≡ to_front block lines
to_front-first block [] is = cc
to_front-first block (line ∷ lines) is =
    let same : line ≡ block = cc in
    let found = eq-eqb line block same in
    sym (ap (λ (ls : List ℕ). take (suc (length lines)) (block ∷ ls)) (simp found)
    ∙ take_all (suc (length lines)) (block ∷ lines) (omega arith)
    ∙ ap (λ b. b ∷ lines) (sym same))

pub list_any-first : (block : ℕ) (lines : List ℕ) → slice_get lines 0 ≡ Some block
    → list_any (λ kept. kept == block) lines ≡ true
list_any-first block [] is = cc
list_any-first block (line ∷ lines) is = let same : line ≡ block = cc in let found = eq-eqb line block same in
    simp found

-- once it was put in front, it stands first
pub first-to_front : (block : ℕ) (lines : List ℕ) → 0 < length lines → slice_get (to_front block lines) 0 ≡ Some block
first-to_front block [] some = absurd (omega arith)
first-to_front block (line ∷ lines) some = refl

-- a set has all its lines
pub length-lines_of : (assoc set : ℕ) (lines : List ℕ) → set * assoc + assoc ≤ length lines
    → length (lines_of assoc set lines) ≡ assoc
length-lines_of assoc set lines fits =
    length-take-le assoc (drop (set * assoc) lines) (omega (arith, length-drop (set * assoc) lines))

-- the newest block, which is this one, stands first
pub still_first : (shape : Shape) (newest block : ℕ) (lines : List ℕ) → IsFirst shape newest lines → block ≡ newest
    → block < empty_line → slice_get (lines_of shape.assoc (set_of shape block) lines) 0 ≡ Some block
still_first shape newest block lines first same full =
    let P : ℕ → Type 0 = λ b. slice_get (lines_of shape.assoc (set_of shape b) lines) 0 ≡ Some b in
    subst P (sym same) (first (λ none. omega arith))

slice_get-take_zero : (n : ℕ) (xs : List ℕ) → slice_get (take (suc n) xs) 0 ≡ slice_get xs 0
slice_get-take_zero n [] = refl
slice_get-take_zero n (x ∷ xs) = refl

-- what stands in the first line of a set is its first block
pub first_there : (assoc set block : ℕ) (lines : List ℕ) → 0 < assoc → set * assoc < length lines
    → block ≡ get_or lines (set * assoc) block → slice_get (lines_of assoc set lines) 0 ≡ Some block
first_there zero place block lines some within is = absurd (omega arith)
first_there (suc assoc) place block lines some within is =
    slice_get-take_zero assoc (drop (place * suc assoc) lines)
    ∙ ap (λ (ls : List ℕ). slice_get ls 0) (drop_more lines (place * suc assoc) block within)
    ∙ ap (λ (b : ℕ). Some b) (sym is)
