-- Cleaned names.
use Rattle.std.proofs.Common.{◌≡◌, ℕ, suc, ◌+◌, ◌-◌, Bool, true, false, not, ◌&&◌, ◌||◌, ◌==◌, cond}
use Rattle.std.proofs.Common.{List, []}
use Rattle.std.proofs.Common.{◌∷◌, length, get_or, map, refl, sym, ap, ◌∙◌, subst, arith}
use Rattle.std.specs.List.{enumerate_from, list_all}
use Rattle.std.proofs.lemmas.Bool.Decides.{nat_tests}
use Rattle.std.proofs.lemmas.List.{get_or-map, length-map}
use Rattle.std.proofs.lemmas.List.FromFn.{get_or-enumerate_from}
use Rattle.byte_text.specs.Names.{clean_name, clean_byte, is_printable}
use Rattle.cg_lines.specs.Lines.{is_space}
use Rattle.reads_back.proofs.TextLemmas.{IsText, is_seen}
use Rattle.std.proofs.lemmas.Bool.{and_from}

-- A text that is written as a name: it is not empty, printable, and begins and ends with a character that is seen.
pub record IsName (text : List ℕ) : Type 0 where
  pub first : ℕ
  pub rest : List ℕ
  pub is : text ≡ first ∷ rest
  pub seen : is_seen first ≡ true
  pub whole : IsText (first ∷ rest)

byte_printable : (len place byte : ℕ) → is_printable (clean_byte len place byte) ≡ true
byte_printable len place byte = go (is_printable byte) refl (not (byte == 0x20 && (place == 0 || place + 1 == len)))
  where
    go : (b : Bool) → is_printable byte ≡ b → (c : Bool) → is_printable (cond (b && c) byte 0x3f) ≡ true
    go true is true = is
    go true is false = refl
    go false is c = refl

bytes_printable : (len k : ℕ) (bytes : List ℕ)
    → list_all is_printable (map (λ (p : ℕ × ℕ). clean_byte len p.0 p.1) (enumerate_from k bytes)) ≡ true
bytes_printable len k [] = refl
bytes_printable len k (byte ∷ bytes) =
    and_from (is_printable (clean_byte len k byte))
    (list_all is_printable (map (λ (p : ℕ × ℕ). clean_byte len p.0 p.1) (enumerate_from (k + 1) bytes)))
    (byte_printable len k byte) (bytes_printable len (k + 1) bytes)

printable_seen : (byte : ℕ) → is_printable byte ≡ true → (byte == 0x20) ≡ false → is_seen byte ≡ true
printable_seen byte p q = grind (arith, nat_tests)

-- at an end no space stays
end_seen : (len place byte : ℕ) → (place == 0 || place + 1 == len) ≡ true → is_seen (clean_byte len place byte) ≡ true
end_seen len place byte at_end =
    subst (λ e. is_seen (cond (is_printable byte && not (byte == 0x20 && e)) byte 0x3f) ≡ true) (sym at_end)
    (go (is_printable byte) refl (byte == 0x20) refl)
  where
    go : (b : Bool) → is_printable byte ≡ b → (c : Bool) → (byte == 0x20) ≡ c
        → is_seen (cond (b && not (c && true)) byte 0x3f) ≡ true
    go true is true space = refl
    go true is false space = printable_seen byte is space
    go false is c space = refl

last_place : (n : ℕ) → (suc n - 1 == 0 || suc n - 1 + 1 == suc n) ≡ true
last_place n =
    let same : (suc n - 1 + 1 == suc n) ≡ true = grind (arith, nat_tests) in
    ap (λ b. suc n - 1 == 0 || b) same ∙ or-true (suc n - 1 == 0)
  where
    or-true : (b : Bool) → (b || true) ≡ true
    or-true true = refl
    or-true false = refl

length-enumerated : (k : ℕ) (bytes : List ℕ) → length (enumerate_from k bytes) ≡ length bytes
length-enumerated k [] = refl
length-enumerated k (byte ∷ bytes) = ap suc (length-enumerated (k + 1) bytes)

pub cleaned_name : (name : List ℕ) → IsName (clean_name name)
cleaned_name [] = record {
  first = 63;
  rest = 63 ∷ 63 ∷ [];
  is = refl;
  seen = refl;
  whole = record { clear = refl; some = omega arith; last = refl };
}
cleaned_name (byte ∷ bytes) =
    let len : ℕ = length (byte ∷ bytes) in
    let f : ℕ × ℕ → ℕ = λ (p : ℕ × ℕ). clean_byte len p.0 p.1 in
    let pairs : List (ℕ × ℕ) = enumerate_from 0 (byte ∷ bytes) in
    let long : length pairs ≡ suc (length bytes) = length-enumerated 0 (byte ∷ bytes) in
    let mapped : length (map f pairs) ≡ suc (length bytes) = length-map pairs f ∙ long in
    let place : ℕ = length bytes in
    let d : ℕ × ℕ = (0, 0) in
    let at : get_or (map f pairs) (length (map f pairs) - 1) 0
    ≡ clean_byte len (suc (length bytes) - 1) (get_or (byte ∷ bytes) (suc (length bytes) - 1) 0)
    = ap (λ n. get_or (map f pairs) (n - 1) 0) mapped
    ∙ get_or-map f pairs (suc (length bytes) - 1) d 0 (omega (arith, long))
    ∙ ap f (get_or-enumerate_from 0 (byte ∷ bytes) (suc (length bytes) - 1) d (omega arith))
    ∙ ap (λ n. clean_byte len n (get_or (byte ∷ bytes) (suc (length bytes) - 1) 0))
    (let e : 0 + (suc (length bytes) - 1) ≡ suc (length bytes) - 1 = omega arith in e) in
    record {
      first = clean_byte len 0 byte;
      rest = map f (enumerate_from 1 bytes);
      is = refl;
      seen = end_seen len 0 byte refl;
      whole = record {
        clear = bytes_printable len 0 (byte ∷ bytes);
        some = omega arith;
        last = ap is_seen at
            ∙ end_seen len (suc (length bytes) - 1) (get_or (byte ∷ bytes) (suc (length bytes) - 1) 0)
            (last_place (length bytes));
      };
    }

pub seen_no_space : (b : ℕ) → is_seen b ≡ true → is_space b ≡ false
seen_no_space b e = grind (arith, nat_tests)

pub name-text : (text : List ℕ) → IsName text → IsText text
name-text text n = subst IsText (sym n.is) n.whole
