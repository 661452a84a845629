-- The table of rows by the places of its numbers, and fixed lists of bytes.
use Rattle.std.proofs.Common.{◌≡◌, ℕ, zero, suc, ◌+◌, ◌/◌, ◌%◌, ◌<◌, ◌≤◌, ◌==◌, Bool, true, false, not, cond, List, []}
use Rattle.std.proofs.Common.{◌∷◌, ◌++◌, length, map, take, drop, get_or, Option, Some, None, refl, sym, ◌∙◌, ap, arith}
use Rattle.std.proofs.Common.{position, ◌^◌, nat_lt, inl, inr}
use Rattle.std.proofs.lemmas.Bool.{cases_lt, lt-ltb, le-ltb}
use Rattle.std.proofs.lemmas.Option.{slice_get_past}
use Rattle.std.proofs.lemmas.List.Quantifiers.{position-Some}
use Rattle.std.proofs.lemmas.List.{length-append, take-append-drop, append-nil}
use Rattle.std.proofs.lemmas.Slice.{take-put_mid, drop-put_mid}
use Rattle.std.proofs.Math.Seq.{take-append_seam, drop-length}
use borrow.Rule.Slice.PartMut.{put_mid}
use Rattle.std.specs.List.{find, slice_get, position_or_len}
use Rattle.std.specs.Option.{option_map}
use Rattle.std.specs.Int.{to_le_bytes, w64}
use Rattle.std.proofs.lemmas.Grind.{same_number_lists}
use Rattle.guest_mem.specs.Memory.{bytes_of}
use Rattle.guest_sys.specs.declared.table.CallNumber.{CallNumber}
use Rattle.guest_sys.specs.declared.table.Row.{Row}
use Rattle.guest_sys.specs.Table.{call_table, row_at}
use Rattle.guest_sys.specs.Vectors.{addresses_from}

abbrev pub zipped : List CallNumber → List Row → List (ℕ × Row)
zipped [] rows = []
zipped (n ∷ ns) [] = []
zipped (n ∷ ns) (r ∷ rows) = (n.0, r) ∷ zipped ns rows

abbrev pub is_number : ℕ → CallNumber → Bool
is_number number n = n.0 == number

-- the row of a number, where a table has it
abbrev pub row_in : List (ℕ × Row) → ℕ → Option Row
row_in table number = option_map (λ p. p.1) (find (λ p. p.0 == number) table)

first_or : (b : Bool) (n : ℕ) (r : Row) (rows : List Row) (rest : Option (ℕ × Row)) (place : ℕ)
    → option_map (λ (p : ℕ × Row). p.1) rest ≡ slice_get rows place
    → option_map (λ (p : ℕ × Row). p.1) (cond b (Some (n, r)) rest) ≡ slice_get (r ∷ rows) (cond (not b) (1 + place) 0)
first_or true n r rows rest place h = refl
first_or false n r rows rest place h = rw (one_add place) h
  where
    one_add : (n : ℕ) → 1 + n ≡ suc n
    one_add n = omega arith

by_place : (ns : List CallNumber) (rows : List Row) (number : ℕ) → length ns ≡ length rows
    → row_in (zipped ns rows) number ≡ slice_get rows (position_or_len (is_number number) ns)
by_place [] [] number h = refl
by_place [] (r ∷ rows) number h = absurd (omega arith)
by_place (n ∷ ns) [] number h = absurd (omega arith)
by_place (n ∷ ns) (r ∷ rows) number h =
    first_or (n.0 == number) n.0 r rows (find (λ p. p.0 == number) (zipped ns rows)) (position_or_len (is_number number) ns)
    (by_place ns rows number (omega arith))

-- the place that is found has the row; where none is found there is none
abbrev pub found : Option ℕ → List Row → Option Row
found None rows = None
found (Some place) rows = slice_get rows place

pub row_in-zipped : (ns : List CallNumber) (rows : List Row) (number : ℕ) (o : Option ℕ) → length ns ≡ length rows
    → o ≡ position (is_number number) ns → found o rows ≡ row_in (zipped ns rows) number
row_in-zipped ns rows number o h is = ap (λ q. found q rows) is ∙ at (position_or_len (is_number number) ns)
    ∙ sym (by_place ns rows number h)
  where
    at : (p : ℕ) → found (cond (nat_lt p (length ns)) (Some p) None) rows ≡ slice_get rows p
    at p = elim (cases_lt p (length ns)) [
      | inl within ↦ ap (λ b. found (cond b (Some p) None) rows) (lt-ltb p (length ns) within)
      | inr past ↦ ap (λ b. found (cond b (Some p) None) rows) (le-ltb p (length ns) past)
          ∙ sym (slice_get_past rows p (omega arith))
    ]

-- eight bytes, the lowest first
pub to_le_bytes-8 : (v : ℕ) → to_le_bytes w64 v ≡ bytes_of 8 v
to_le_bytes-8 v =
    let third : v / 2 ^ 16 ≡ v / 256 / 256 = omega arith in
    let fourth : v / 2 ^ 24 ≡ v / 256 / 256 / 256 = omega arith in
    let fifth : v / 2 ^ 32 ≡ v / 256 / 256 / 256 / 256 = omega arith in
    let sixth : v / 2 ^ 40 ≡ v / 256 / 256 / 256 / 256 / 256 = omega arith in
    let seventh : v / 2 ^ 48 ≡ v / 256 / 256 / 256 / 256 / 256 / 256 = omega arith in
    let eighth : v / 2 ^ 56 ≡ v / 256 / 256 / 256 / 256 / 256 / 256 / 256 = omega arith in
    λ i. v % 256 ∷ v / 256 % 256 ∷ third i % 256 ∷ fourth i % 256 ∷ fifth i % 256 ∷ sixth i % 256 ∷ seventh i % 256 ∷
    eighth i % 256 ∷ []

pub length-counting : (a n : ℕ) → length (addresses_from a n) ≡ n
unfolding addresses_from
length-counting a zero = refl
length-counting a (suc n) = ap (λ k. suc k) (length-counting (a + 1) n)

pub get_or-counting : (a n k : ℕ) → k < n → get_or (addresses_from a n) k 0 ≡ a + k
unfolding addresses_from
get_or-counting a zero k h = absurd (omega arith)
get_or-counting a (suc n) zero h = omega arith
get_or-counting a (suc n) (suc k) h = get_or-counting (a + 1) n k (omega arith) ∙ omega arith

pub counting_by_index : (xs : List ℕ) (n : ℕ) → length xs ≡ n → ((k : ℕ) → k < n → get_or xs k 0 ≡ k)
    → xs ≡ addresses_from 0 n
counting_by_index xs n len each =
    same_number_lists xs (addresses_from 0 n) (len ∙ sym (length-counting 0 n))
    (λ k h. omega (arith, each k (omega arith), get_or-counting 0 n k (omega arith)))

pub take-counting : (a n k : ℕ) → k ≤ n → take k (addresses_from a n) ≡ addresses_from a k
unfolding addresses_from
take-counting a n zero h = refl
take-counting a zero (suc k) h = absurd (omega arith)
take-counting a (suc n) (suc k) h = ap (λ xs. a ∷ xs) (take-counting (a + 1) n k (omega arith))

-- the table's columns
abbrev pub numbers : List CallNumber
numbers = map (λ (p : ℕ × Row). record { 0 = p.0 }) call_table

abbrev pub rows : List Row
rows = map (λ (p : ℕ × Row). p.1) call_table

pub some_at : {X : Type 0} (xs : List X) (i : ℕ) (d : X) → i < length xs → Some (get_or xs i d) ≡ slice_get xs i
some_at [] i d h = absurd (omega arith)
some_at (x ∷ xs) zero d h = refl
some_at (x ∷ xs) (suc i) d h = some_at xs i d (omega arith)

pub row_found : (number place : ℕ) (d : Row) → Some place ≡ position (is_number number) numbers
    → Some (get_or rows place d) ≡ row_at number
unfolding row_at
row_found number place d is =
    let within : place < 37 = (position-Some (is_number number) numbers place (record { 0 = 0 }) (sym is)).0 in
    some_at rows place d within ∙ row_in-zipped numbers rows number (Some place) refl is

-- ---- two halves of 16 bytes

pub two_halves : (x y : List ℕ) → length x ≡ 8 → length y ≡ 8
    → put_mid 8 8 (x ++ 0 ∷ 0 ∷ 0 ∷ 0 ∷ 0 ∷ 0 ∷ 0 ∷ 0 ∷ []) y ≡ x ++ y
two_halves x y a b =
    let zeros : List ℕ = 0 ∷ 0 ∷ 0 ∷ 0 ∷ 0 ∷ 0 ∷ 0 ∷ 0 ∷ [] in
    let all = put_mid 8 8 (x ++ zeros) y in
    let len : length (x ++ zeros) ≡ 16 = length-append x zeros ∙ omega (arith, a) in
    let front : take 16 all ≡ take 8 (x ++ zeros) ++ y
    = take-put_mid 8 8 (x ++ zeros) y 16 (omega (arith, b)) (omega (arith, len)) in
    let rest : drop 16 all ≡ drop 16 (x ++ zeros)
    = drop-put_mid 8 8 (x ++ zeros) y 16 (omega arith) (omega (arith, len)) b in
    let first : take 8 (x ++ zeros) ≡ x = ap (λ n. take n (x ++ zeros)) (sym a) ∙ take-append_seam x zeros in
    let none : drop 16 (x ++ zeros) ≡ [] = ap (λ n. drop n (x ++ zeros)) (sym len) ∙ drop-length (x ++ zeros) in
    sym (take-append-drop 16 all) ∙ ap (λ ys. ys ++ drop 16 all) (front ∙ ap (λ ys. ys ++ y) first)
    ∙ ap (λ ys. (x ++ y) ++ ys) (rest ∙ none) ∙ append-nil (x ++ y)
