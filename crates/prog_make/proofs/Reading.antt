-- Numbers and tables read back from where they were written.
use Rattle.std.proofs.Common.{◌≡◌, ℕ, zero, suc, ◌+◌, ◌*◌, ◌<◌, ◌^◌, Bool, true, false, cond, List, [], ◌∷◌, ◌++◌}
use Rattle.std.proofs.Common.{length, drop, get_or, refl, sym, ap, ◌∙◌, arith, add-one, append_assoc, length-append}
use Rattle.std.specs.List.{flat_map}
use Rattle.std.proofs.lemmas.List.{drop-drop, drop_at}
use Rattle.byteorder.specs.Endian.{little_number}
use Rattle.byteorder.specs.Numbers.{little_number-reads_back}
use Rattle.elf_read.specs.Numbers.{word_at, half_at}
use Rattle.prog_make.specs.Encoding.{half_bytes, word_bytes, words_bytes}

pub cond_same : {A : Type 0} (b : Bool) (x : A) → cond b x x ≡ x
cond_same true x = refl
cond_same false x = refl

-- a number of four bytes that stands in front
pub word_here : (file : List ℕ) (place n : ℕ) (rest : List ℕ) → drop place file ≡ word_bytes n ++ rest → n < 2 ^ 32
    → word_at file place ≡ n
unfolding word_at
word_here file place n rest e lt = ap (little_number 4) e ∙ little_number-reads_back 4 n rest lt

pub half_here : (file : List ℕ) (place n : ℕ) (rest : List ℕ) → drop place file ≡ half_bytes n ++ rest → n < 2 ^ 16
    → half_at file place ≡ n
unfolding half_at
half_here file place n rest e lt = ap (little_number 2) e ∙ little_number-reads_back 2 n rest lt

-- what stands behind i words
words_behind : (ws rest : List ℕ) (i : ℕ) → i < length ws
    → (tail : List ℕ) × (drop (4 * i) (words_bytes ws ++ rest) ≡ word_bytes (get_or ws i 0) ++ tail)
words_behind [] rest i lt = absurd (omega arith)
words_behind (w ∷ ws) rest zero lt = (words_bytes ws ++ rest, refl)
words_behind (w ∷ ws) rest (suc i) lt =
    let more = words_behind ws rest i (omega arith) in
    let e : 4 * suc i ≡ suc (suc (suc (suc (4 * i)))) = omega arith in
    (more.0, rw e more.1)

-- word i of those that stand at a place
pub word_in : (file : List ℕ) (place : ℕ) (ws rest : List ℕ) (i : ℕ) → drop place file ≡ words_bytes ws ++ rest
    → i < length ws → get_or ws i 0 < 2 ^ 32 → word_at file (place + 4 * i) ≡ get_or ws i 0
word_in file place ws rest i e lt fits =
    let more = words_behind ws rest i lt in
    word_here file (place + 4 * i) (get_or ws i 0) more.0
    (sym (drop-drop (4 * i) place file) ∙ ap (drop (4 * i)) e ∙ more.1) fits

-- what stands behind k entries of a table whose entries have w bytes each
module _ {X : Type 0} (f : X → List ℕ) (w : ℕ) (wide : (x : X) → length (f x) ≡ w) where
  pub entries_behind : (xs : List X) (k : ℕ) (d : X) (rest : List ℕ) → k < length xs
      → drop (w * k) (flat_map f xs ++ rest) ≡ f (get_or xs k d) ++ (flat_map f (drop (k + 1) xs) ++ rest)
  entries_behind [] k d rest lt = absurd (omega arith)
  entries_behind (x ∷ xs) zero d rest lt =
      let e : w * 0 ≡ 0 = omega arith in
      rw (e, append_assoc (f x) (flat_map f xs) rest) refl
  entries_behind (x ∷ xs) (suc k) d rest lt =
      let e : w * suc k ≡ w + w * k = omega arith in
      rw (
        e,
        add-one,
        append_assoc (f x) (flat_map f xs) rest,
        ← drop-drop (w * k) w
            (f x ++ (flat_map f xs ++ rest)),
        drop_at (f x) (flat_map f xs ++ rest) w (wide x),
      )
      (rw add-one at (entries_behind xs k d rest (omega arith)))

  pub length-entries : (xs : List X) → length (flat_map f xs) ≡ w * length xs
  length-entries [] = let e : 0 ≡ w * 0 = omega arith in e
  length-entries (x ∷ xs) =
      let here = wide x in
      let more = length-entries xs in
      let e : w * suc (length xs) ≡ w + w * length xs = omega arith in
      omega (arith, length-append (f x) (flat_map f xs))
