-- Strings read back from their table.
use Rattle.std.proofs.Common.{◌≡◌, ℕ, ◌+◌, ◌-◌, ◌<◌, ◌≤◌, List, ◌∷◌, ◌++◌, length, drop, take, refl, sym, ap, ◌∙◌}
use Rattle.std.proofs.Common.{arith, length-drop}
use Rattle.std.specs.List.{slice_range}
use Rattle.std.proofs.lemmas.Bool.{lt-ltb}
use Rattle.std.proofs.lemmas.List.{drop-drop, drop-append-le, drop_at, take-append-le, take_at}
use Rattle.elf_read.specs.Strings.{part_of, string_at, string_len}
use Rattle.prog_make.specs.Names.{HasNoZero}
use Rattle.prog_make.proofs.LineBytes.{zero_place}

-- the string at a place of a table
abbrev pub text_at : List ℕ → ℕ → List ℕ
text_at strings place = take (string_len (drop place strings)) (drop place strings)

-- where the text at a place ends
pub text_at-is : (front text rest : List ℕ) → HasNoZero text
    → text_at (front ++ (text ++ 0 ∷ rest)) (length front) ≡ text
text_at-is front text rest none =
    let there : drop (length front) (front ++ (text ++ 0 ∷ rest)) ≡ text ++ 0 ∷ rest =
    drop_at front (text ++ 0 ∷ rest) (length front) refl in
    rw (there, zero_place text rest none) (take_at text (0 ∷ rest) (length text) refl)

-- a table that stands in a file
pub string-read : (file strings rest : List ℕ) (start place : ℕ) → drop start file ≡ strings ++ rest
    → place < length strings → string_len (drop place strings) ≤ length (drop place strings)
    → part_of file (string_at file (record { start = start; end = start + length strings }) place)
    ≡ text_at strings place
unfolding string_at
string-read file strings rest start place at inside short =
    let inside' : start + place < start + length strings = omega arith in
    let there : drop (start + place) file ≡ drop place strings ++ rest = sym (drop-drop place start file)
    ∙ ap (drop place) at ∙ drop-append-le place strings rest (omega arith) in
    let len : length (drop place strings) ≡ length strings - place = length-drop place strings in
    let cut : start + length strings - (start + place) ≡ length strings - place = omega arith in
    let whole : slice_range file (start + place) (start + length strings) ≡ drop place strings =
    rw (cut, there) (take_at (drop place strings) rest (length strings - place) len) in
    let n = string_len (drop place strings) in
    let back : start + place + n - (start + place) ≡ n = omega arith in
    rw (lt-ltb (start + place) (start + length strings) inside')
    (rw whole (rw (back, there) (take-front n (drop place strings) rest short)))
  where
    take-front : (n : ℕ) (xs ys : List ℕ) → n ≤ length xs → take n (xs ++ ys) ≡ take n xs
    take-front n xs ys le = take-append-le n xs ys le
