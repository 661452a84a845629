-- Rows piled up as spans, and the row on top.
use Rattle.std.proofs.Common.{◌≡◌, ℕ, ◌+◌, ◌-◌, ◌<◌, ◌≤◌, Bool, true, false, cond, leb, ltb, List, [], ◌∷◌, ◌++◌}
use Rattle.std.proofs.Common.{length, get_or, take, drop, map, Option, Some, None, option_map, refl, sym, ap, ◌∙◌}
use Rattle.std.proofs.Common.{subst, zero, suc, arith}
use Rattle.std.specs.Prelude.{All, filter, slice_get, slice_range, reverse, flat_map, option_and_then, ◌&&◌}
use Rattle.std.specs.Option.{option_or}
use Rattle.std.specs.List.{AllByRecursion}
use Rattle.std.specs.List.Sorted.{IsPermutation, IsNonDecreasingBy}
use Rattle.std.proofs.lemmas.List.{take_all, take_more, drop_more, reverse-append, flat_map_more, map-append, take-map, drop-map, length-drop}
use Rattle.std.proofs.lemmas.List.{get_or-drop, get_or-take, length-take-le}
use Rattle.std.proofs.lemmas.List.Sorted.{IsPermutation-refl, IsPermutation-sym, IsPermutation-append}
use Rattle.std.proofs.lemmas.List.Sorted.{IsPermutation-reverse, IsPermutation-map}
use Rattle.std.proofs.lemmas.Grind.{flat_map-append}
use Rattle.std.proofs.Math.Seq.{drop-nil, take-add}
use Rattle.std.proofs.lemmas.Bool.{leb-false, lt-leb}
use Rattle.std.proofs.lemmas.List.Elements.{recursion_from_All}
use Rattle.std.proofs.lemmas.Option.{get_or_from_slice_get, slice_get_within, slice_get-get_or}
use Rattle.dwarf_line.proofs.LookUp.{found_from, passed, found}
use Rattle.dwarf_line.specs.declared.row.Row.{Row}
use Rattle.dwarf_line.specs.declared.row.Sequence.{Sequence}
use Rattle.dwarf_line.specs.Program.{SequenceOf}
use Rattle.dwarf_line.specs.LineRow.{LineRow, line_address, covers, last_at, row_at}
use Rattle.dwarf_line.specs.Rows.{Rows, IsPlaced, IsRising, with_text, row_address, sequence_in, sequences_of}
use Rattle.sym_map.specs.inner.Rows.{RowSpan, all_rows, line_span, line_spans, span_of, rows_in, pile, piles, row_spans, covers_row, row_seen}
use Rattle.sym_map.proofs.Spans.{or-none}

-- ---- one row, or one sequence, more

pub reverse-cons : {X : Type 0} (x : X) (xs : List X) → reverse (x ∷ xs) ≡ reverse xs ++ x ∷ []
reverse-cons x xs = reverse-append (x ∷ []) xs

pub range_down : {X : Type 0} (xs : List X) (i last : ℕ) (d : X) → 0 < i → i ≤ last → i ≤ length xs
    → slice_range xs (i - 1) last ≡ get_or xs (i - 1) d ∷ slice_range xs i last
range_down {X} xs i last d some le within =
    let e : i - 1 + 1 ≡ i = omega arith in
    let f : last - (i - 1) ≡ suc (last - i) = omega arith in
    let lt : i - 1 < length xs = omega arith in
    ap (λ (ys : List X). take (last - (i - 1)) ys)
    (drop_more xs (i - 1) d lt ∙ ap (λ n. get_or xs (i - 1) d ∷ drop n xs) e)
    ∙ ap (λ n. take n (get_or xs (i - 1) d ∷ drop i xs)) f

-- one element more at the end
pub range_up : {X : Type 0} (xs : List X) (first i : ℕ) (x : X) → first ≤ i → slice_get xs i ≡ Some x
    → slice_range xs first (i + 1) ≡ slice_range xs first i ++ x ∷ []
range_up {X} xs first i x le at =
    let lt : i < length xs = slice_get_within xs i x at in
    let long : length (drop first xs) ≡ length xs - first = length-drop first xs in
    let e : i + 1 - first ≡ i - first + 1 = omega arith in
    let f : first + (i - first) ≡ i = omega arith in
    ap (λ n. take n (drop first xs)) e ∙ take_more (drop first xs) (i - first) x (omega arith)
    ∙ ap (λ (y : X). take (i - first) (drop first xs) ++ y ∷ [])
    (get_or-drop first xs (i - first) x ∙ ap (λ n. get_or xs n x) f ∙ get_or_from_slice_get xs i x x at)

pub rows_more : (rows : List Row) (sequences : List Sequence) (i : ℕ) (sequence : Sequence)
    → slice_get sequences i ≡ Some sequence
    → flat_map (rows_in rows) (take (i + 1) sequences)
    ≡ flat_map (rows_in rows) (take i sequences) ++ rows_in rows sequence
rows_more rows sequences i sequence at =
    ap (flat_map (rows_in rows)) (take_more sequences i sequence (slice_get_within sequences i sequence at)
    ∙ ap (λ (s : Sequence). take i sequences ++ s ∷ []) (get_or_from_slice_get sequences i sequence sequence at))
    ∙ sym (flat_map_more (rows_in rows) [] (take i sequences) sequence)

pub pile_up : (rows : List Row) (end first i : ℕ) (row : Row) → first ≤ i → slice_get rows i ≡ Some row
    → reverse (map (span_of end) (slice_range rows first (i + 1)))
    ≡ span_of end row ∷ reverse (map (span_of end) (slice_range rows first i))
pile_up rows end first i row le at =
    ap (λ (xs : List Row). reverse (map (span_of end) xs)) (range_up rows first i row le at)
    ∙ ap reverse (map-append (span_of end) (slice_range rows first i) (row ∷ []))
    ∙ reverse-append (map (span_of end) (slice_range rows first i)) (span_of end row ∷ [])

-- the rows of a sequence rise
pub rows_rise : (rows : List Row) (sequence : Sequence) (i j : ℕ) (d : Row) → IsPlaced (length rows) sequence
    → IsRising row_address (sequence_in rows sequence) → sequence.first ≤ i → i ≤ j → j < sequence.last
    → (get_or rows i d).addr ≤ (get_or rows j d).addr
rows_rise rows sequence i j d placed rise from le lt =
    let first : ℕ = sequence.first in
    let sequence_rows : List Row = rows_in rows sequence in
    let long : length (drop first rows) ≡ length rows - first = length-drop first rows in
    let whole : length sequence_rows ≡ sequence.last - first =
    length-take-le (sequence.last - first) (drop first rows) (omega (arith, placed.1)) in
    let at : (k : ℕ) → first ≤ k → k < sequence.last → get_or sequence_rows (k - first) d ≡ get_or rows k d =
    λ k up below. get_or-take (sequence.last - first) (drop first rows) (k - first) d (omega arith)
    ∙ get_or-drop first rows (k - first) d ∙ ap (λ n. get_or rows n d) (let e : first + (k - first) ≡ k = omega arith in e) in
    rw (← at i from (omega arith), ← at j (omega arith) lt)
    (rise.rows_rise (i - first) (j - first) d (omega arith) (omega arith))

pub range_none : {X : Type 0} (xs : List X) (i : ℕ) → slice_range xs i i ≡ []
range_none xs i = ap (λ n. take n (drop i xs)) (let e : i - i ≡ 0 = omega arith in e)

pub range_all : {X : Type 0} (xs : List X) (n : ℕ) → n ≡ length xs → slice_range xs 0 n ≡ xs
range_all xs n is = take_all (n - 0) xs (omega arith)

drop_sum : {X : Type 0} (n k : ℕ) (xs : List X) → drop (n + k) xs ≡ drop k (drop n xs)
drop_sum zero k xs = ap (λ m. drop m xs) (let e : 0 + k ≡ k = omega arith in e)
drop_sum (suc n) k [] = drop-nil (suc n + k) ∙ sym (drop-nil k)
drop_sum (suc n) k (x ∷ xs) =
    ap (λ m. drop m (x ∷ xs)) (let e : suc n + k ≡ suc (n + k) = omega arith in e) ∙ drop_sum n k xs

range_parts : {X : Type 0} (xs : List X) (i j k : ℕ) → i ≤ j → j ≤ k
    → slice_range xs i j ++ slice_range xs j k ≡ slice_range xs i k
range_parts {X} xs i j k first second =
    let front : List X = take (j - i) (drop i xs) in
    let e : k - i ≡ (j - i) + (k - j) = omega arith in
    let f : j ≡ i + (j - i) = omega arith in
    ap (λ n. front ++ take (k - j) (drop n xs)) f ∙ ap (λ (ys : List X). front ++ take (k - j) ys) (drop_sum i (j - i) xs)
    ∙ sym (take-add (j - i) (k - j) (drop i xs)) ∙ ap (λ n. take n (drop i xs)) (sym e)

-- spans of the lines of sequences: of one, of one more, and of two parts
pub lined_one : (ids : List ℕ) (rows : List Row) (sequences : List Sequence) (i : ℕ) (sequence : Sequence)
    → slice_get sequences i ≡ Some sequence
    → line_spans ids (piles rows (slice_range sequences i (i + 1))) ≡ line_spans ids (pile rows sequence) ++ []
lined_one ids rows sequences i sequence at =
    ap (λ (xs : List Sequence). line_spans ids (piles rows xs)) (range_up sequences i i sequence (omega arith) at
    ∙ ap (λ (xs : List Sequence). xs ++ sequence ∷ []) (range_none sequences i))
    ∙ map-append (line_span ids) (pile rows sequence) []

pub lined_down : (ids : List ℕ) (rows : List Row) (sequences : List Sequence) (i last : ℕ) (sequence : Sequence)
    → 0 < i → i ≤ last → slice_get sequences (i - 1) ≡ Some sequence
    → line_spans ids (piles rows (slice_range sequences (i - 1) last))
    ≡ line_spans ids (pile rows sequence) ++ line_spans ids (piles rows (slice_range sequences i last))
lined_down ids rows sequences i last sequence some le at =
    let lt : i - 1 < length sequences = slice_get_within sequences (i - 1) sequence at in
    ap (λ (xs : List Sequence). line_spans ids (piles rows xs))
    (range_down sequences i last sequence some le (omega arith)
    ∙ ap (λ (s : Sequence). s ∷ slice_range sequences i last)
    (get_or_from_slice_get sequences (i - 1) sequence sequence at))
    ∙ map-append (line_span ids) (pile rows sequence) (piles rows (slice_range sequences i last))

pub lined_parts : (ids : List ℕ) (rows : List Row) (sequences : List Sequence) (i j k : ℕ) → i ≤ j → j ≤ k
    → line_spans ids (piles rows (slice_range sequences i j)) ++ line_spans ids (piles rows (slice_range sequences j k))
    ≡ line_spans ids (piles rows (slice_range sequences i k))
lined_parts ids rows sequences i j k first second =
    let front : List Sequence = slice_range sequences i j in
    let back : List Sequence = slice_range sequences j k in
    sym (map-append (line_span ids) (piles rows front) (piles rows back))
    ∙ ap (line_spans ids) (sym (flat_map-append (pile rows) front back))
    ∙ ap (λ (xs : List Sequence). line_spans ids (piles rows xs)) (range_parts sequences i j k first second)

-- ---- the row on top

pub row_seen-append : (xs ys : List RowSpan) (a : ℕ) → row_seen (xs ++ ys) a ≡ option_or (row_seen xs a) (row_seen ys a)
row_seen-append [] ys a = refl
row_seen-append (x ∷ xs) ys a =
    rw (row_seen-append xs ys a) (either (covers_row a x) x.row (row_seen xs a) (row_seen ys a))
  where
    either : (b : Bool) (row : Row) (o p : Option Row)
        → cond b (Some row) (option_or o p) ≡ option_or (cond b (Some row) o) p
    either true row o p = refl
    either false row o p = refl

-- the last row of those from one row on
last_at-cons : (a : ℕ) (x : Row) (xs : List Row)
    → last_at row_address a (x ∷ xs) ≡ option_or (last_at row_address a xs) (cond (leb x.addr a) (Some x) None)
last_at-cons a x xs = last (leb x.addr a) x (filter (λ (r : Row). leb r.addr a) xs)
  where
    last : (b : Bool) (x : Row) (ys : List Row)
        → (let more = cond b (x ∷ ys) ys in slice_get more (length more - 1))
        ≡ option_or (slice_get ys (length ys - 1)) (cond b (Some x) None)
    last false x ys = sym (or-none (slice_get ys (length ys - 1)))
    last true x [] = refl
    last true x (y ∷ ys) =
        let e : length (x ∷ y ∷ ys) - 1 ≡ suc (length ys) = omega arith in
        let f : length (y ∷ ys) - 1 ≡ length ys = omega arith in
        let at : slice_get (y ∷ ys) (length ys) ≡ Some (get_or (y ∷ ys) (length ys) y) =
        slice_get-get_or (y ∷ ys) (length ys) y (omega arith) in
        rw (e, f, at) refl

one_row : (end a : ℕ) (x : Row)
    → row_seen (span_of end x ∷ []) a ≡ cond (ltb a end) (cond (leb x.addr a) (Some x) None) None
one_row end a x = nested (leb x.addr a) (ltb a end) x
  where
    nested : (b c : Bool) (x : Row) → cond (b && c) (Some x) None ≡ cond c (cond b (Some x) None) None
    nested true true x = refl
    nested true false x = refl
    nested false true x = refl
    nested false false x = refl

seen_of_rows : (end a : ℕ) (xs : List Row)
    → row_seen (reverse (map (span_of end) xs)) a ≡ cond (ltb a end) (last_at row_address a xs) None
seen_of_rows end a [] = same (ltb a end)
  where
    same : (b : Bool) → ◌≡◌ {A = Option Row} None (cond b None None)
    same true = refl
    same false = refl
seen_of_rows end a (x ∷ xs) =
    ap (λ ys. row_seen ys a) (reverse-cons (span_of end x) (map (span_of end) xs))
    ∙ row_seen-append (reverse (map (span_of end) xs)) (span_of end x ∷ []) a
    ∙ rw (seen_of_rows end a xs, one_row end a x)
    (joined (ltb a end) (last_at row_address a xs) (cond (leb x.addr a) (Some x) None))
    ∙ ap (λ o. cond (ltb a end) o None) (sym (last_at-cons a x xs))
  where
    joined : (b : Bool) (o p : Option Row) → option_or (cond b o None) (cond b p None) ≡ cond b (option_or o p) None
    joined true o p = refl
    joined false o p = refl

-- no row begins at or below an address that is below the first one
none_below : (a : ℕ) (x : Row) (xs : List Row) → IsNonDecreasingBy row_address (x ∷ xs) → leb x.addr a ≡ false
    → last_at row_address a (x ∷ xs) ≡ None
none_below a x xs rise above =
    let below : a < x.addr = leb-false x.addr a above in
    let all : All (λ (r : Row). leb r.addr a ≡ false) (x ∷ xs) =
    λ k d lt. lt-leb _ _ (let far = rise 0 k d (omega arith) lt in omega arith) in
    ap (λ (ys : List Row). slice_get ys (length ys - 1))
    (none a (x ∷ xs) (recursion_from_All (λ (r : Row). leb r.addr a ≡ false) (x ∷ xs) all))
  where
    none : (a : ℕ) (ys : List Row) → AllByRecursion (λ (r : Row). leb r.addr a ≡ false) ys
        → filter (λ (r : Row). leb r.addr a) ys ≡ []
    none a [] all = refl
    none a (y ∷ ys) all = rw all.0 (none a ys all.1)

-- ---- the row on top is the row of the address

first_is_there : (a : ℕ) (x : Row) (xs : List Row) → leb x.addr a ≡ true
    → (y : Row) × (last_at row_address a (x ∷ xs) ≡ Some y)
first_is_there a x xs below =
    let y = some (last_at row_address a xs) x in
    (y.0, last_at-cons a x xs ∙ rw below y.1)
  where
    some : (p : Option Row) (x : Row) → (y : Row) × (option_or p (Some x) ≡ Some y)
    some None x = (x, refl)
    some (Some y) x = (y, refl)

and_left : (b c : Bool) → (b && c) ≡ true → b ≡ true
and_left true c e = refl
and_left false c e = e

abbrev sequence_rows : List Row → Sequence → SequenceOf Row
sequence_rows rows sequence = record { rows = rows_in rows sequence; end = sequence.end }

-- what one sequence gives, over the rest
pile_of_rows : (rows : List Row) (sequence : Sequence) (a : ℕ) (x : Row) (xs : List Row)
    → rows_in rows sequence ≡ x ∷ xs → IsNonDecreasingBy row_address (rows_in rows sequence)
    → row_seen (pile rows sequence) a
    ≡ cond (covers row_address a (sequence_rows rows sequence)) (last_at row_address a (rows_in rows sequence)) None
unfolding pile
pile_of_rows rows sequence a x xs is rise =
    let rise' : IsNonDecreasingBy row_address (x ∷ xs) =
    subst (λ (ys : List Row). IsNonDecreasingBy row_address ys) is rise in
    let whole : cond (ltb a sequence.end) (last_at row_address a (x ∷ xs)) None
    ≡ cond (leb x.addr a && ltb a sequence.end) (last_at row_address a (x ∷ xs)) None =
    either (leb x.addr a) (ltb a sequence.end) (last_at row_address a (x ∷ xs)) (none_below a x xs rise') in
    seen_of_rows sequence.end a (rows_in rows sequence)
    ∙ subst (λ (ys : List Row). cond (ltb a sequence.end) (last_at row_address a ys) None
    ≡ cond (covers row_address a (record { rows = ys; end = sequence.end })) (last_at row_address a ys) None)
    (sym is) whole
  where
    either : (b c : Bool) (o : Option Row) → (b ≡ false → o ≡ None) → cond c o None ≡ cond (b && c) o None
    either true c o none = refl
    either false true o none = none refl
    either false false o none = refl

placed_rows : (rows : List Row) (sequence : Sequence) → IsPlaced (length rows) sequence
    → (x : Row) × (xs : List Row) × (rows_in rows sequence ≡ x ∷ xs)
placed_rows rows sequence placed = go rows sequence.first sequence.last placed.0 placed.1
  where
    go : (rows : List Row) (i last : ℕ) → i < last → last ≤ length rows
        → (x : Row) × (xs : List Row) × (slice_range rows i last ≡ x ∷ xs)
    go [] i last lt le = absurd (omega arith)
    go (r ∷ rows) zero last lt le =
        let e : last - 0 ≡ suc (last - 1) = omega arith in
        (r, take (last - 1) rows, ap (λ n. take n (r ∷ rows)) e)
    go (r ∷ rows) (suc i) last lt le =
        let e : last - suc i ≡ last - 1 - i = omega arith in
        let inner = go rows i (last - 1) (omega arith) (omega arith) in
        (inner.0, inner.1, ap (λ n. take n (drop i rows)) e ∙ inner.2)

rest_of : List (List ℕ) → List Row → List Sequence → ℕ → ℕ → Option LineRow
rest_of files rows sequences a i =
    option_and_then (λ (s : SequenceOf LineRow). last_at line_address a s.rows) (found_from files rows sequences a i)

abbrev texts : List (List ℕ) → Option Row → Option LineRow
texts files o = option_map (with_text files) o

texts-or : (files : List (List ℕ)) (o p : Option Row)
    → texts files (option_or o p) ≡ option_or (texts files o) (texts files p)
texts-or files None p = refl
texts-or files (Some x) p = refl

abbrev row_after : Option (SequenceOf LineRow) → ℕ → Option LineRow
row_after o a = option_and_then (λ (s : SequenceOf LineRow). last_at line_address a s.rows) o

abbrev Head : List Row → Sequence → Type 0
Head rows sequence = (x : Row) × (xs : List Row) × (rows_in rows sequence ≡ x ∷ xs)

-- all sequences rise
abbrev pub AllRise : List Row → List Sequence → Type 0
AllRise rows sequences = AllByRecursion (λ sequence. IsRising row_address (sequence_in rows sequence)) sequences

one_covers : (files : List (List ℕ)) (rows : List Row) (sequence : Sequence) (sequences : List Sequence) (a : ℕ)
    (rest : Option LineRow) → Head rows sequence → covers row_address a (sequence_rows rows sequence) ≡ true
    → row_seen (pile rows sequence) a ≡ last_at row_address a (rows_in rows sequence)
    → option_or (texts files (row_seen (pile rows sequence) a)) rest
    ≡ row_after (found_from files rows (sequence ∷ sequences) a 0) a
one_covers files rows sequence sequences a rest there is cover =
    let begins : covers row_address a (record { rows = there.0 ∷ there.1; end = sequence.end }) ≡ true =
    subst (λ (xs : List Row). covers row_address a (record { rows = xs; end = sequence.end }) ≡ true) there.2 is in
    let last = first_is_there a there.0 there.1 (and_left (leb there.0.addr a) (ltb a sequence.end) begins) in
    let at : row_seen (pile rows sequence) a ≡ Some last.0 = cover
    ∙ ap (λ (xs : List Row). last_at row_address a xs) there.2 ∙ last.1 in
    let whole = found files rows (sequence ∷ sequences) a 0 sequence (found_from files rows (sequence ∷ sequences) a 0)
    (omega arith) is refl in
    ap (λ o. option_or (texts files o) rest) at ∙ sym (ap (texts files) (sym cover ∙ at)) ∙ whole

one_passed : (files : List (List ℕ)) (rows : List Row) (sequence : Sequence) (sequences : List Sequence) (a : ℕ)
    (rest : Option LineRow) → covers row_address a (sequence_rows rows sequence) ≡ false
    → row_seen (pile rows sequence) a ≡ None → row_after (found_from files rows sequences a 0) a ≡ rest
    → option_or (texts files (row_seen (pile rows sequence) a)) rest
    ≡ row_after (found_from files rows (sequence ∷ sequences) a 0) a
one_passed files rows sequence sequences a rest is cover so =
    ap (λ o. option_or (texts files o) rest) cover ∙ sym so
    ∙ sym (ap (λ (o : Option (SequenceOf LineRow)). row_after o a)
    (passed files rows (sequence ∷ sequences) a 0 sequence (omega arith) is))

-- one sequence more in front
one_more : (files : List (List ℕ)) (rows : List Row) (sequence : Sequence) (sequences : List Sequence) (a : ℕ)
    (rest : Option LineRow) (b : Bool) → Head rows sequence → covers row_address a (sequence_rows rows sequence) ≡ b
    → row_seen (pile rows sequence) a ≡ cond b (last_at row_address a (rows_in rows sequence)) None
    → row_after (found_from files rows sequences a 0) a ≡ rest
    → option_or (texts files (row_seen (pile rows sequence) a)) rest
    ≡ row_after (found_from files rows (sequence ∷ sequences) a 0) a
one_more files rows sequence sequences a rest true there is cover so =
    one_covers files rows sequence sequences a rest there is cover
one_more files rows sequence sequences a rest false there is cover so =
    one_passed files rows sequence sequences a rest is cover so

all_sequences : (files : List (List ℕ)) (rows : List Row) (sequences : List Sequence) (a : ℕ)
    → AllByRecursion (IsPlaced (length rows)) sequences → AllRise rows sequences
    → texts files (row_seen (piles rows sequences) a) ≡ row_after (found_from files rows sequences a 0) a
all_sequences files rows [] a placed rise = refl
all_sequences files rows (sequence ∷ sequences) a placed rise =
    let there = placed_rows rows sequence placed.0 in
    ap (texts files) (row_seen-append (pile rows sequence) (piles rows sequences) a)
    ∙ texts-or files (row_seen (pile rows sequence) a) (row_seen (piles rows sequences) a)
    ∙ one_more files rows sequence sequences a (texts files (row_seen (piles rows sequences) a))
    (covers row_address a (sequence_rows rows sequence)) there refl
    (pile_of_rows rows sequence a there.0 there.1 there.2 rise.0.rows_rise)
    (sym (all_sequences files rows sequences a placed.1 rise.1))

-- the row on top has the text and line of the address's row
pub row_seen_is : (table : Rows) (a : ℕ) → AllByRecursion (IsPlaced (length table.rows)) table.sequences
    → AllRise table.rows table.sequences
    → option_map (with_text table.files) (row_seen (row_spans table) a) ≡ row_at (sequences_of table) a
row_seen_is table a placed rise = all_sequences table.files table.rows table.sequences a placed rise

-- ---- which rows there are

pile_holds : (rows : List Row) (sequence : Sequence)
    → IsPermutation (map (λ (s : RowSpan). s.row) (pile rows sequence)) (rows_in rows sequence)
unfolding pile
pile_holds rows sequence =
    let spans : List RowSpan = map (span_of sequence.end) (rows_in rows sequence) in
    let back : IsPermutation (map (λ (s : RowSpan). s.row) (reverse spans)) (map (λ (s : RowSpan). s.row) spans) =
    IsPermutation-map (λ (s : RowSpan). s.row) (reverse spans) spans
    (IsPermutation-sym spans (reverse spans) (IsPermutation-reverse spans)) in
    subst (λ (xs : List Row). IsPermutation (map (λ (s : RowSpan). s.row) (reverse spans)) xs)
    (own_rows sequence.end (rows_in rows sequence)) back
  where
    own_rows : (end : ℕ) (xs : List Row) → map (λ (s : RowSpan). s.row) (map (span_of end) xs) ≡ xs
    own_rows end [] = refl
    own_rows end (x ∷ xs) = ap (λ ys. x ∷ ys) (own_rows end xs)

piles_hold : (rows : List Row) (sequences : List Sequence)
    → IsPermutation (map (λ (s : RowSpan). s.row) (piles rows sequences)) (flat_map (rows_in rows) sequences)
piles_hold rows [] = IsPermutation-refl []
piles_hold rows (sequence ∷ sequences) =
    subst (λ (xs : List Row). IsPermutation xs (rows_in rows sequence ++ flat_map (rows_in rows) sequences))
    (sym (map-append (λ (s : RowSpan). s.row) (pile rows sequence) (piles rows sequences)))
    (IsPermutation-append (map (λ (s : RowSpan). s.row) (pile rows sequence)) (rows_in rows sequence)
    (map (λ (s : RowSpan). s.row) (piles rows sequences)) (flat_map (rows_in rows) sequences)
    (pile_holds rows sequence) (piles_hold rows sequences))

lines_of : (files : List (List ℕ)) (rows : List Row) (sequences : List Sequence)
    → map (with_text files) (flat_map (rows_in rows) sequences)
    ≡ flat_map (λ (s : SequenceOf LineRow). s.rows) (map (sequence_in (map (with_text files) rows)) sequences)
lines_of files rows [] = refl
lines_of files rows (sequence ∷ sequences) =
    map-append (with_text files) (rows_in rows sequence) (flat_map (rows_in rows) sequences)
    ∙ ap (λ (xs : List LineRow). xs ++ map (with_text files) (flat_map (rows_in rows) sequences))
    (sym (cut files rows sequence.first sequence.last))
    ∙ ap (λ (xs : List LineRow). slice_range (map (with_text files) rows) sequence.first sequence.last ++ xs)
    (lines_of files rows sequences)
  where
    cut : (files : List (List ℕ)) (rows : List Row) (first last : ℕ)
        → slice_range (map (with_text files) rows) first last ≡ map (with_text files) (slice_range rows first last)
    cut files rows first last = rw
        (drop-map (with_text files) first rows, take-map (with_text files) (last - first) (drop first rows)) refl

-- the rows of all spans are those of all sequences, in another order
pub spans_hold : (table : Rows) → IsPermutation (map (λ (s : RowSpan). s.row) (row_spans table)) (all_rows table)
spans_hold table = piles_hold table.rows table.sequences

-- which are those of the line table
pub lines_are : (table : Rows) → map (with_text table.files) (all_rows table)
    ≡ flat_map (λ (s : SequenceOf LineRow). s.rows) (sequences_of table)
lines_are table = lines_of table.files table.rows table.sequences
