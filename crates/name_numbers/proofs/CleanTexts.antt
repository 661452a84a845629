-- Cleaned names in the bytes of a part of a file.
use Rattle.std.proofs.Common.{◌≡◌, ℕ, ◌+◌, ◌-◌, ◌<◌, ◌≤◌, Bool, true, false, not, ◌&&◌, ◌||◌, List, [], ◌∷◌, ◌++◌, length, get_or}
use Rattle.std.proofs.Common.{map, take, drop, suc, refl, sym, ap, ◌∙◌, subst, nat_eq, if◌then◌else◌, arith, ⊎_elim, ◌⊎◌, min}
use Rattle.std.proofs.Common.{Some}
use Rattle.std.specs.Prelude.{All, slice_get, slice_index}
use Rattle.std.specs.List.{enumerate_from, insert, remove}
use Rattle.std.proofs.Math.Seq.{drop-length}
use Rattle.std.proofs.lemmas.Bool.Decides.{nat_tests}
use Rattle.std.proofs.lemmas.List.{take_all, take_more, drop-drop, drop-take, drop-map, take-map, length-map}
use Rattle.std.proofs.lemmas.List.{length-take, length-take-le, length-drop, map_push}
use Rattle.std.proofs.lemmas.List.Elements.{All-push, All-weaker}
use Rattle.byte_text.specs.Names.{clean_name, clean_byte, is_printable}
use Rattle.name_numbers.specs.declared.text_place.TextPlace.{TextPlace}
use Rattle.name_numbers.specs.inner.CleanNames.{printed_byte, is_changed, IsWithin, IsPrinted, Grows}
use Rattle.name_numbers.specs.Texts.{text_at, texts_at, IsInFile}
use Rattle.name_numbers.specs.Keys.{NumberEach}
use Rattle.name_numbers.proofs.NameRanks.{take_of_take}
use Rattle.name_numbers.proofs.Rising.{is_number, numbers_without, number_inserted}

-- ---- a name without a space at an end is cleaned byte by byte

-- the byte at a place, where it is no space that would have to go
byte_stays : (len place byte : ℕ) → (nat_eq byte 0x20 && (nat_eq place 0 || nat_eq (place + 1) len)) ≡ false
    → clean_byte len place byte ≡ printed_byte byte
byte_stays len place byte e =
    ap (λ c. if c then byte else 0x3f) (ap (λ d. is_printable byte && not d) e ∙ kept (is_printable byte))
  where
    kept : (c : Bool) → (c && not false) ≡ c
    kept true = refl
    kept false = refl

bytes_stay : (len place : ℕ) (bytes : List ℕ) → place + length bytes ≡ len
    → (place ≡ 0 → nat_eq (get_or bytes 0 0) 0x20 ≡ false)
    → nat_eq (get_or bytes (length bytes - 1) 0) 0x20 ≡ false
    → map (λ p. clean_byte len p.0 p.1) (enumerate_from place bytes) ≡ map printed_byte bytes
bytes_stay len place [] whole first last = refl
bytes_stay len place (b ∷ bs) whole first last =
    (λ i. byte_stays len place b (no_space (nat_eq b 0x20) refl) i
    ∷ bytes_stay len (place + 1) bs (omega arith) (λ z. absurd (omega arith)) (behind bs last) i)
  where
    behind : (xs : List ℕ) → nat_eq (get_or (b ∷ xs) (length (b ∷ xs) - 1) 0) 0x20 ≡ false
        → nat_eq (get_or xs (length xs - 1) 0) 0x20 ≡ false
    behind [] e = refl
    behind (x ∷ xs) e =
        let at : length (b ∷ x ∷ xs) - 1 ≡ suc (length (x ∷ xs) - 1) = omega arith in
        ap (λ n. nat_eq (get_or (b ∷ x ∷ xs) n 0) 0x20) (sym at) ∙ e

    at_first : nat_eq b 0x20 ≡ true → nat_eq place 0 ≡ false
    at_first e = go (nat_eq place 0) refl
      where
        go : (c : Bool) → nat_eq place 0 ≡ c → nat_eq place 0 ≡ false
        go true z = let same : place ≡ 0 = grind (arith, nat_tests) in
            let f : nat_eq b 0x20 ≡ false = first same in absurd (cc)
        go false z = z

    at_last : (xs : List ℕ) → place + length (b ∷ xs) ≡ len → nat_eq (get_or (b ∷ xs) (length (b ∷ xs) - 1) 0) 0x20 ≡ false
        → nat_eq b 0x20 ≡ true → nat_eq (place + 1) len ≡ false
    at_last [] w other_byte e = absurd (let f : nat_eq b 0x20 ≡ false = other_byte in cc)
    at_last (x ∷ xs) w other_byte e = let other : place + 1 < len = omega arith in grind (arith, nat_tests)

    no_space : (c : Bool) → nat_eq b 0x20 ≡ c → (nat_eq b 0x20 && (nat_eq place 0 || nat_eq (place + 1) len)) ≡ false
    no_space true e =
        ap (λ c. c && (nat_eq place 0 || nat_eq (place + 1) len)) e
        ∙ (λ i. at_first e i || at_last bs whole last e i)
    no_space false e = ap (λ c. c && (nat_eq place 0 || nat_eq (place + 1) len)) e

either_false : (c d : Bool) → (c || d) ≡ false → (c ≡ false) × (d ≡ false)
either_false true d e = absurd (cc)
either_false false d e = (refl, e)

pub printed_name : (name : List ℕ) → is_changed name ≡ false → map printed_byte name ≡ clean_name name
printed_name [] e = absurd (cc)
printed_name (b ∷ bs) e =
    let both = either_false (nat_eq b 0x20) (nat_eq (get_or (b ∷ bs) (length (b ∷ bs) - 1) 0) 0x20) e in
    sym (bytes_stay (length (b ∷ bs)) 0 (b ∷ bs) (omega arith) (λ z. both.0) both.1)

-- ---- texts at places of bytes that grow

-- what stands in the front of the bytes
in_front : (bytes : List ℕ) (n s e : ℕ) → e ≤ n → take (e - s) (drop s (take n bytes)) ≡ take (e - s) (drop s bytes)
in_front bytes n s e le =
    ⊎_elim
    (λ (lt : s ≤ n).
    let long : n ≡ s + (n - s) = omega arith in
    ap (λ k. take (e - s) (drop s (take k bytes))) long
    ∙ ap (take (e - s)) (drop-take s (n - s) bytes)
    ∙ take_of_take (e - s) (n - s) (drop s bytes) (omega arith))
    (λ (gt : n < s).
    let none : e - s ≡ 0 = omega arith in
    ap (λ k. take k (drop s (take n bytes))) none ∙ sym (ap (λ k. take k (drop s bytes)) none))
    (let P : (s ≤ n) ⊎ (n < s) = grind arith in P)

pub text_grown : (before bytes : List ℕ) → Grows before bytes → (p : TextPlace) → IsInFile before p
    → text_at bytes p ≡ text_at before p
text_grown before bytes grown p inside =
    sym (ap (λ (b : List ℕ). text_at b p) (sym grown) ∙ in_front bytes (length before) p.start p.end inside.1)

pub longer : (before bytes : List ℕ) → Grows before bytes → length before ≤ length bytes
longer before bytes grown =
    let taken : length (take (length before) bytes) ≡ min (length before) (length bytes) =
    length-take (length before) bytes in
    let same : length (take (length before) bytes) ≡ length before = ap length grown in
    omega (arith, taken, same)

pub in_grown : (before bytes : List ℕ) → Grows before bytes → (p : TextPlace) → IsInFile before p → IsInFile bytes p
in_grown before bytes grown p inside =
    let more = longer before bytes grown in
    let le = inside.1 in
    (inside.0, (omega (arith, more, le)))

pub grows_append : (before text : List ℕ) → Grows before (before ++ text)
grows_append [] text = refl
grows_append (x ∷ xs) text = ap (λ (ys : List ℕ). x ∷ ys) (grows_append xs text)

pub grows_itself : (bytes : List ℕ) → Grows bytes bytes
grows_itself [] = refl
grows_itself (x ∷ xs) = ap (λ (ys : List ℕ). x ∷ ys) (grows_itself xs)

pub printed_grown : (file : List ℕ) (part : TextPlace) (before bytes : List ℕ) → Grows before bytes
    → part.end - part.start ≤ length before → IsPrinted file part before → IsPrinted file part bytes
printed_grown file part before bytes grown le so =
    sym (take_of_take (part.end - part.start) (length before) bytes le) ∙ ap (take (part.end - part.start)) grown ∙ so

-- as many bytes as the part has
pub printed_long : (file : List ℕ) (part : TextPlace) (bytes : List ℕ) → IsInFile file part → IsPrinted file part bytes
    → part.end - part.start ≤ length bytes
printed_long file part bytes inside so =
    let low = inside.0 in
    let high = inside.1 in
    let n : ℕ = part.end - part.start in
    let dropped : length (drop part.start file) ≡ length file - part.start = length-drop part.start file in
    let text : length (text_at file part) ≡ n = length-take-le n (drop part.start file) (omega (arith, dropped, high)) in
    let mapped : length (map printed_byte (text_at file part)) ≡ length (text_at file part) =
    length-map (text_at file part) printed_byte in
    let taken : length (take n bytes) ≡ min n (length bytes) = length-take n bytes in
    let same : length (take n bytes) ≡ length (map printed_byte (text_at file part)) = ap length so in
    omega (arith, text, mapped, taken, same)

-- what stands at a place of the part
pub part_text : (file : List ℕ) (part : TextPlace) (bytes : List ℕ) → IsPrinted file part bytes → (p : TextPlace)
    → IsWithin part p → p.start ≤ p.end
    → text_at bytes (record { start = p.start - part.start; end = p.end - part.start })
    ≡ map printed_byte (text_at file p)
part_text file part bytes so p within rises =
    let low = within.0 in
    let high = within.1 in
    let n : ℕ = part.end - part.start in
    let s : ℕ = p.start - part.start in
    let e : ℕ = p.end - part.start in
    let m : ℕ = n - s in
    let all : n ≡ s + m = omega arith in
    let at : part.start + s ≡ p.start = omega arith in
    let len : e - s ≡ p.end - p.start = omega arith in
    sym (in_front bytes n s e (omega arith))
    ∙ ap (λ (b : List ℕ). take (e - s) (drop s b)) so
    ∙ ap (take (e - s)) (drop-map printed_byte s (text_at file part))
    ∙ take-map printed_byte (e - s) (drop s (text_at file part))
    ∙ ap (map printed_byte) (ap (λ k. take (e - s) (drop s (take k (drop part.start file)))) all
    ∙ ap (take (e - s)) (drop-take s m (drop part.start file))
    ∙ take_of_take (e - s) m (drop s (drop part.start file)) (omega arith)
    ∙ ap (take (e - s)) (drop-drop s part.start file)
    ∙ (λ i. take (len i) (drop (at i) file)))

-- ---- the names one by one

-- so many names are cleaned at their places
pub record AreCleaned (file : List ℕ) (part : TextPlace) (names : List TextPlace) (i : ℕ) (bytes : List ℕ)
    (places : List TextPlace) : Type 0 where
  pub printed_part : IsPrinted file part bytes
  pub in_file : All (IsInFile bytes) places
  pub texts : texts_at bytes places ≡ map clean_name (texts_at file (take i names))

texts_grown : (before bytes : List ℕ) → Grows before bytes → (places : List TextPlace) → All (IsInFile before) places
    → texts_at bytes places ≡ texts_at before places
texts_grown before bytes grown [] all = refl
texts_grown before bytes grown (p ∷ ps) all =
    (λ i. text_grown before bytes grown p (all 0 p (omega arith)) i
    ∷ texts_grown before bytes grown ps (λ k d lt. all (suc k) d (omega arith)) i)

pub pushed : (before bytes : List ℕ) → Grows before bytes → (places : List TextPlace) → All (IsInFile before) places
    → (p : TextPlace) → IsInFile bytes p → (text : List ℕ) → text_at bytes p ≡ text
    → All (IsInFile bytes) (places ++ p ∷ []) × (texts_at bytes (places ++ p ∷ []) ≡ texts_at before places ++ text ∷ [])
pushed before bytes grown places all p inside text is = (
  All-push (IsInFile bytes) places p
      (All-weaker (IsInFile before) (IsInFile bytes) (λ q h. in_grown before bytes grown q h) places all) inside,
  map_push (text_at bytes) places p
      ∙ (λ i. texts_grown before bytes grown places all i ++ is i ∷ []),
)

pub cleaned_more : (file : List ℕ) (names : List TextPlace) (i : ℕ) (d : TextPlace) → i < length names
    → map clean_name (texts_at file (take i names)) ++ clean_name (text_at file (get_or names i d)) ∷ []
    ≡ map clean_name (texts_at file (take (i + 1) names))
cleaned_more file names i d lt =
    let before : List TextPlace = take i names in
    sym (ap (λ (ns : List TextPlace). map clean_name (texts_at file ns)) (take_more names i d lt)
    ∙ ap (map clean_name) (map_push (text_at file) before (get_or names i d))
    ∙ map_push clean_name (texts_at file before) (text_at file (get_or names i d)))

-- the part alone
pub printed_itself : (file : List ℕ) (part : TextPlace) (bytes : List ℕ) → bytes ≡ map printed_byte (text_at file part)
    → IsPrinted file part bytes
printed_itself file part bytes is =
    let n : ℕ = part.end - part.start in
    ap (take n) is ∙ take-map printed_byte n (text_at file part)
    ∙ ap (map printed_byte) (take_of_take n n (drop part.start file) (omega arith))

-- numbers of texts without that of the last one, and that number
module _ (keys all : List (List ℕ)) (numbers : List ℕ) (last : List ℕ) (n : ℕ) (at : n ≡ length all)
    (so : NumberEach keys numbers (all ++ last ∷ [])) where
  inserted : insert all n last ≡ all ++ last ∷ []
  inserted = λ i. whole n at i ++ last ∷ none n at i
    where
      whole : (k : ℕ) → k ≡ length all → take k all ≡ all
      whole k e = take_all k all (omega arith)

      none : (k : ℕ) → k ≡ length all → drop k all ≡ []
      none k e = ap (λ m. drop m all) e ∙ drop-length all

  each : NumberEach keys numbers (insert all n last)
  each = subst (NumberEach keys numbers) (sym inserted) so

  pub last_within : n < length numbers
  last_within = is_number keys all numbers n last (omega arith) each

  pub numbers_before : NumberEach keys (remove numbers n) all
  numbers_before = numbers_without keys all numbers n last (omega arith) each

  pub number_last : slice_get keys (slice_index numbers n) ≡ Some last
  number_last = number_inserted keys all numbers n last (omega arith) each
