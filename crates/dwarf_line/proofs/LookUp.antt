-- Looking an address up sees only the addresses of rows.
use Rattle.std.proofs.Common.{◌≡◌, ℕ, ◌+◌, ◌-◌, ◌<◌, ◌≤◌, Bool, true, false, cond, leb, List, [], ◌∷◌, ◌++◌, length}
use Rattle.std.proofs.Common.{get_or, take, drop, map, Option, Some, None, option_map, refl, sym, ◌∙◌, arith}
use Rattle.std.specs.Prelude.{filter, find, slice_get, slice_range, option_and_then}
use Rattle.std.proofs.lemmas.List.{length-map, take-map, drop-map, at_drop_more, at_drop_all, take_more, length-append}
use Rattle.std.proofs.lemmas.List.{append-nil}
use Rattle.std.proofs.lemmas.Bool.{le-leb, lt-leb}
use Rattle.std.proofs.lemmas.List.Elements.{filter-append}
use Rattle.std.proofs.lemmas.Option.{slice_get-map}
use Rattle.dwarf_line.specs.declared.row.Row.{Row}
use Rattle.dwarf_line.specs.declared.row.Sequence.{Sequence}
use Rattle.dwarf_line.specs.Program.{SequenceOf}
use Rattle.dwarf_line.specs.Rows.{row_address}
use Rattle.dwarf_line.specs.LineRow.{LineRow, line_address, begins_by, covers, last_at}
use Rattle.dwarf_line.specs.Rows.{with_text, sequence_in}

-- ---- the last row, one row further

at_its_end : {R : Type 0} (xs : List R) (x : R) → slice_get (xs ++ x ∷ []) (length xs) ≡ Some x
at_its_end [] x = refl
at_its_end (y ∷ xs) x = at_its_end xs x

last_pushed : {R : Type 0} (xs : List R) (x : R) → slice_get (xs ++ x ∷ []) (length (xs ++ x ∷ []) - 1) ≡ Some x
last_pushed {R} xs x =
    let place : length (xs ++ x ∷ []) - 1 ≡ length xs = omega (arith, length-append xs (x ∷ [])) in
    rw place (at_its_end xs x)

pushed : {R : Type 0} (address : R → ℕ) (target : ℕ) (below : List R) (row : R) (test : Bool)
    → (let more = below ++ cond test (row ∷ []) [] in slice_get more (length more - 1))
    ≡ cond test (Some row) (slice_get below (length below - 1))
pushed address target below row true = last_pushed below row
pushed address target below row false = rw append-nil refl

pub last_at-push : {R : Type 0} (address : R → ℕ) (target : ℕ) (rows : List R) (row : R)
    → last_at address target (rows ++ row ∷ [])
    ≡ cond (leb (address row) target) (Some row) (last_at address target rows)
last_at-push address target rows row =
    rw (filter-append (λ r. leb (address r) target) rows (row ∷ []))
    (pushed address target (filter (λ r. leb (address r) target) rows) row (leb (address row) target))

-- a row at or below the address
pub row_taken : (target : ℕ) (rows : List Row) (i : ℕ) (d : Row) → i < length rows → (get_or rows i d).addr ≤ target
    → Some (get_or rows i d) ≡ last_at row_address target (take (i + 1) rows)
row_taken target rows i d lt below =
    let test : leb (get_or rows i d).addr target ≡ true = le-leb _ _ below in
    rw (take_more rows i d lt) (sym (last_at-push row_address target (take i rows) (get_or rows i d) ∙ rw test refl))

-- a row above the address
pub row_passed : (target : ℕ) (rows : List Row) (i : ℕ) (d : Row) → i < length rows → target < (get_or rows i d).addr
    → last_at row_address target (take i rows) ≡ last_at row_address target (take (i + 1) rows)
row_passed target rows i d lt above =
    let test : leb (get_or rows i d).addr target ≡ false = lt-leb _ _ above in
    rw (take_more rows i d lt) (sym (last_at-push row_address target (take i rows) (get_or rows i d) ∙ rw test refl))

-- ---- rows with the texts of their files

begins-map : (files : List (List ℕ)) (rows : List Row) (target : ℕ)
    → begins_by line_address (map (with_text files) rows) target ≡ begins_by row_address rows target
begins-map files [] target = refl
begins-map files (row ∷ rows) target = refl

filter-map : {R S : Type 0} (see : R → S) (p : R → Bool) (q : S → Bool) → ((r : R) → q (see r) ≡ p r) → (rows : List R)
    → filter q (map see rows) ≡ map see (filter p rows)
filter-map see p q same [] = refl
filter-map {R} {S} see p q same (r ∷ rows) = rw (same r, filter-map see p q same rows) (chosen (p r) r (filter p rows))
  where
    chosen : (b : Bool) (r : R) (rest : List R)
        → cond b (see r ∷ map see rest) (map see rest) ≡ map see (cond b (r ∷ rest) rest)
    chosen true r rest = refl
    chosen false r rest = refl

last-map : (files : List (List ℕ)) (target : ℕ) (rows : List Row)
    → last_at line_address target (map (with_text files) rows)
    ≡ option_map (with_text files) (last_at row_address target rows)
last-map files target rows =
    let below = filter (λ (row : Row). leb row.addr target) rows in
    rw (
      filter-map (with_text files) (λ (row : Row). leb row.addr target) (λ (row : LineRow). leb row.address target)
          (λ _. refl) rows,
      length-map below (with_text files),
    ) (slice_get-map (with_text files) below (length below - 1))

-- the rows of a sequence, with their texts
pub cut-map : (files : List (List ℕ)) (rows : List Row) (first last : ℕ)
    → slice_range (map (with_text files) rows) first last ≡ map (with_text files) (slice_range rows first last)
cut-map files rows first last =
    rw (drop-map (with_text files) first rows, take-map (with_text files) (last - first) (drop first rows)) refl

covers-text : (files : List (List ℕ)) (rows : List Row) (sequence : Sequence) (target : ℕ)
    → covers line_address target (sequence_in (map (with_text files) rows) sequence)
    ≡ covers row_address target (record { rows = slice_range rows sequence.first sequence.last; end = sequence.end })
covers-text files rows sequence target =
    rw (
      cut-map files rows sequence.first sequence.last,
      begins-map files
          (slice_range rows sequence.first sequence.last) target,
    ) refl

-- what is looked up among the sequences from place i on
abbrev pub found_from : List (List ℕ) → List Row → List Sequence → ℕ → ℕ → Option (SequenceOf LineRow)
found_from files rows sequences target i =
    find (covers line_address target) (map (sequence_in (map (with_text files) rows)) (drop i sequences))

one_more : (files : List (List ℕ)) (rows : List Row) (sequences : List Sequence) (target i : ℕ) (d : Sequence)
    → i < length sequences
    → found_from files rows sequences target i
    ≡ (let sequence = get_or sequences i d in cond
    (covers row_address target (record
    { rows = slice_range rows sequence.first sequence.last; end = sequence.end }))
    (Some (sequence_in (map (with_text files) rows) sequence)) (found_from files rows sequences target (i + 1)))
one_more files rows sequences target i d lt =
    let F : List Sequence → Option (SequenceOf LineRow) =
    λ qs. find (covers line_address target) (map (sequence_in (map (with_text files) rows)) qs) in
    at_drop_more F sequences i d lt ∙ rw (covers-text files rows (get_or sequences i d) target) refl

-- a sequence that doesn't cover the address
pub passed : (files : List (List ℕ)) (rows : List Row) (sequences : List Sequence) (target i : ℕ) (d : Sequence)
    → i < length sequences
    → (let sequence = get_or sequences i d in covers row_address target
    (record { rows = slice_range rows sequence.first sequence.last; end = sequence.end })) ≡ false
    → found_from files rows sequences target i ≡ found_from files rows sequences target (i + 1)
passed files rows sequences target i d lt uncovered = one_more files rows sequences target i d lt ∙ rw uncovered refl

-- the first one that does
pub found : (files : List (List ℕ)) (rows : List Row) (sequences : List Sequence) (target i : ℕ) (d : Sequence)
    (whole : Option (SequenceOf LineRow)) → i < length sequences
    → (let sequence = get_or sequences i d in covers row_address target
    (record { rows = slice_range rows sequence.first sequence.last; end = sequence.end })) ≡ true
    → found_from files rows sequences target i ≡ whole
    → (let sequence = get_or sequences i d in option_map (with_text files)
    (last_at row_address target (slice_range rows sequence.first sequence.last)))
    ≡ option_and_then (λ s. last_at line_address target s.rows) whole
found files rows sequences target i d whole lt covered so_far =
    let sequence = get_or sequences i d in
    let here : found_from files rows sequences target i ≡ Some (sequence_in (map (with_text files) rows) sequence) =
    one_more files rows sequences target i d lt ∙ rw covered refl in
    let last = last-map files target (slice_range rows sequence.first sequence.last) in
    rw (← so_far, here, cut-map files rows sequence.first sequence.last) (sym last)

-- none does
pub not_found : (files : List (List ℕ)) (rows : List Row) (sequences : List Sequence) (target i : ℕ)
    (whole : Option (SequenceOf LineRow)) → length sequences ≤ i → found_from files rows sequences target i ≡ whole
    → whole ≡ None
not_found files rows sequences target i whole le so_far =
    let F : List Sequence → Option (SequenceOf LineRow) =
    λ qs. find (covers line_address target) (map (sequence_in (map (with_text files) rows)) qs) in
    sym so_far ∙ at_drop_all F sequences i le ∙ refl
