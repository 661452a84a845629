-- What a word is to the rule and to `clap`.
use Rattle.std.proofs.Common.{◌≡◌, ◌==◌, Bool, true, false, List, [], ◌∷◌, refl, sym, subst, ℕ, Some, None, ◌∙◌, ap}
use Rattle.std.proofs.Common.{arith}
use Rattle.std.proofs.lemmas.Bool.{eqb-false, eqb-true, ne_eqb}
use Rattle.std.proofs.lemmas.Str.{IsCharBoundary-after_ascii, IsUtf8-drop, encodes-chars}
use Rattle.std.specs.Str.{IsUtf8, bytes_eq, chars, encode_utf8_all}
use Rattle.clap.specs.Lexer.{long_of, name_and_value, short_of}
use Rattle.sorted_words.specs.Sorting.{Text, end, fault, is_value, option_word, value, word_of}

abbrev pub dashes : Text
dashes = 45 ∷ 45 ∷ []

-- how a word is read by itself
pub data WordCase (names : List Text) (word : Text) : Type 0 where
  ends : word_of names word ≡ end → is_value word ≡ false → bytes_eq word dashes ≡ true → WordCase names word
  stands : word_of names word ≡ value → is_value word ≡ true → bytes_eq word dashes ≡ false → long_of word ≡ None
      → short_of word ≡ None → WordCase names word
  long : (text : Text) → word_of names word ≡ option_word names text → is_value word ≡ false
      → bytes_eq word dashes ≡ false
      → long_of word ≡ Some (name_and_value text) → WordCase names word
  short : (flags : Text) → word_of names word ≡ fault → is_value word ≡ false → bytes_eq word dashes ≡ false
      → long_of word ≡ None
      → short_of word ≡ Some flags → (x : ℕ) → (rest : Text) → flags ≡ x ∷ rest → word ≡ 45 ∷ flags → WordCase names word

module _ (names : List Text) where
  two_dashes : (rest : Text) → WordCase names (45 ∷ 45 ∷ rest)
  two_dashes [] = ends refl refl refl
  two_dashes (y ∷ rest) = long (y ∷ rest) refl refl refl refl

  one_dash : (x : ℕ) (rest : Text) → (x == 45) ≡ false → WordCase names (45 ∷ x ∷ rest)
  one_dash x rest e =
      let e2 : (45 == x) ≡ false = ne_eqb 45 x (λ (is : 45 ≡ x). eqb-false x 45 e (sym is)) in
      short (x ∷ rest) (rw (e, e2) refl) refl (rw e refl) (rw e refl) (rw e refl) x rest refl refl

  after_dash : (x : ℕ) (rest : Text) (b : Bool) → (x == 45) ≡ b → WordCase names (45 ∷ x ∷ rest)
  after_dash x rest true e =
      let P : ℕ → Type 0 = λ y. WordCase names (45 ∷ y ∷ rest) in
      subst P (sym (eqb-true x 45 e)) (two_dashes rest)
  after_dash x rest false e = one_dash x rest e

  dashed : (rest : Text) → WordCase names (45 ∷ rest)
  dashed [] = stands refl refl refl refl refl
  dashed (x ∷ rest) = after_dash x rest (x == 45) refl

  plain : (x : ℕ) (rest : Text) → (x == 45) ≡ false → WordCase names (x ∷ rest)
  plain x rest e =
      let e2 : (45 == x) ≡ false = ne_eqb 45 x (λ (is : 45 ≡ x). eqb-false x 45 e (sym is)) in
      stands (rw (e, e2) refl) (rw (e, e2) refl) (rw e refl) (rw e refl) (rw e refl)

  first : (x : ℕ) (rest : Text) (b : Bool) → (x == 45) ≡ b → WordCase names (x ∷ rest)
  first x rest true e =
      let P : ℕ → Type 0 = λ y. WordCase names (y ∷ rest) in
      subst P (sym (eqb-true x 45 e)) (dashed rest)
  first x rest false e = plain x rest e

  pub word_case : (word : Text) → WordCase names word
  word_case [] = stands refl refl refl refl refl
  word_case (x ∷ rest) = first x rest (x == 45) refl

-- a text with a byte behind a dash has a character there
pub flags_begin : (x : ℕ) (rest : Text) → IsUtf8 (45 ∷ x ∷ rest) → (y : ℕ) × (ys : List ℕ) × (chars (x ∷ rest) ≡ y ∷ ys)
flags_begin x rest text = go (chars (x ∷ rest)) refl
  where
    nil_is_no_cons : ◌≡◌ {A = List ℕ} [] (x ∷ rest) → ⊥
    nil_is_no_cons e = cc

    utf8 : IsUtf8 (x ∷ rest)
    utf8 =
        IsUtf8-drop (45 ∷ x ∷ rest) 1 text
        (IsCharBoundary-after_ascii (45 ∷ x ∷ rest) 0 text (omega arith) (omega arith))

    go : (cs : List ℕ) → chars (x ∷ rest) ≡ cs → (y : ℕ) × (ys : List ℕ) × (chars (x ∷ rest) ≡ y ∷ ys)
    go [] e =
        let bad : ◌≡◌ {A = List ℕ} [] (x ∷ rest) = ap encode_utf8_all (sym e) ∙ encodes-chars (x ∷ rest) utf8 in
        absurd (nil_is_no_cons bad)
    go (y ∷ ys) e = (y, ys, e)
