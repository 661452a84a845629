-- Files by the numbers of their texts, and rows that name these.
use Rattle.std.proofs.Common.{◌≡◌, ℕ, zero, suc, ◌+◌, ◌-◌, ◌<◌, ◌≤◌, List, [], ◌∷◌, ◌++◌, length, take, drop, map, get_or}
use Rattle.std.proofs.Common.{Some, refl, sym, ap, subst, ◌∙◌, append_assoc, arith}
use Rattle.std.specs.Prelude.{slice_get, slice_range}
use Rattle.std.specs.List.{AllByRecursion}
use Rattle.std.proofs.Math.ListN.{set}
use Rattle.std.proofs.lemmas.List.{get_or_append_left, get_or_push, length-append, length-map, map_push}
use Rattle.std.proofs.lemmas.List.{take_more}
use Rattle.std.proofs.lemmas.Option.{slice_get-map, slice_get-get_or}
use Rattle.dwarf_line.specs.declared.row.Row.{Row}
use Rattle.dwarf_line.specs.declared.row.Sequence.{Sequence}
use Rattle.dwarf_line.specs.LineRow.{LineRow, line_address}
use Rattle.dwarf_line.specs.Rows.{IsPlaced, IsRising, row_address, sequence_in, with_text}
use Rattle.dwarf_line.specs.inner.Tables.{IsTable}
use Rattle.dwarf_line.specs.inner.Files.{AreNumbered, IsNamed, files_by, renamed_row}
use Rattle.dwarf_line.specs.inner.Matrix.{OpenMatrix}
use Rattle.dwarf_line.proofs.LookUp.{cut-map}
use Rattle.dwarf_line.proofs.Rising.{rises_by, rises_back}

-- ---- a list of which the front was changed

abbrev pub part : {X : Type 0} → (X → X) → ℕ → List X → List X
part f i xs = map f (take i xs) ++ drop i xs

part_at : {X : Type 0} (f : X → X) (i : ℕ) (xs : List X) (d : X) → i < length xs
    → get_or (part f i xs) i d ≡ get_or xs i d
part_at f i [] d lt = absurd (omega arith)
part_at f zero (x ∷ xs) d lt = refl
part_at f (suc i) (x ∷ xs) d lt = part_at f i xs d (omega arith)

part_set : {X : Type 0} (f : X → X) (i : ℕ) (xs : List X) (d : X) → i < length xs
    → set (part f i xs) i (f (get_or xs i d)) ≡ part f (suc i) xs
part_set f i [] d lt = absurd (omega arith)
part_set f zero (x ∷ xs) d lt = refl
part_set {X} f (suc i) (x ∷ xs) d lt = ap (λ (ys : List X). f x ∷ ys) (part_set f i xs d (omega arith))

part_next : {X : Type 0} (f : X → X) (i : ℕ) (xs : List X) (d : X) → i < length xs
    → set (part f i xs) i (f (get_or xs i d)) ≡ part f (i + 1) xs
part_next f i xs d lt = let e : i + 1 ≡ suc i = omega arith in rw e (part_set f i xs d lt)

pub rows_next : (numbers : List ℕ) (old rows : List Row) (i : ℕ) (d : Row) → i < length old
    → rows ≡ part (renamed_row numbers) i old
    → set rows i (renamed_row numbers (get_or rows i d)) ≡ part (renamed_row numbers) (i + 1) old
rows_next numbers old rows i d lt is =
    rw (is, part_at (renamed_row numbers) i old d lt) (part_next (renamed_row numbers) i old d lt)

all_at : {X : Type 0} (P : X → Type 0) (xs : List X) (i : ℕ) (d : X) → AllByRecursion P xs → i < length xs
    → P (get_or xs i d)
all_at P [] i d all lt = absurd (omega arith)
all_at P (x ∷ xs) zero d all lt = all.0
all_at P (x ∷ xs) (suc i) d all lt = all_at P xs i d all.1 (omega arith)

-- ---- texts that are pushed

files_by-append : (numbers : List ℕ) (texts more : List (List ℕ)) → AllByRecursion (λ n. n < length texts) numbers
    → files_by numbers (texts ++ more) ≡ files_by numbers texts
files_by-append [] texts more all = refl
files_by-append (n ∷ numbers) texts more all =
    rw (get_or_append_left texts more [] n all.0, files_by-append numbers texts more all.1) refl

pub file_pushed : (numbers : List ℕ) (texts : List (List ℕ)) (text : List ℕ) (number : ℕ)
    → AllByRecursion (λ n. n < length texts) numbers → number ≡ length texts
    → files_by (numbers ++ number ∷ []) (texts ++ text ∷ []) ≡ files_by numbers texts ++ text ∷ []
file_pushed numbers texts text number all is =
    rw (
      map_push (λ n. get_or (texts ++ text ∷ []) n []) numbers number,
      files_by-append numbers texts (text ∷ []) all,
      get_or_push texts text [] number (sym is),
    ) refl

pub all_more : (few many : ℕ) (numbers : List ℕ) → few ≤ many → AllByRecursion (λ n. n < few) numbers
    → AllByRecursion (λ n. n < many) numbers
all_more few many [] le all = tt
all_more few many (n ∷ numbers) le all = (omega (arith, all.0), all_more few many numbers le all.1)

pub all_pushed : (P : ℕ → Type 0) (numbers : List ℕ) (number : ℕ) → AllByRecursion P numbers → P number
    → AllByRecursion P (numbers ++ number ∷ [])
all_pushed P [] number all one = (one, tt)
all_pushed P (n ∷ numbers) number all one = (all.0, all_pushed P numbers number all.1 one)

-- a unit's files, one more of which was added
pub next_file : {X Y Z : Type 0} (f : Y → Z) (g : X → Y) (old texts : List Z) (files : List X) (i : ℕ) (d : X)
    → i < length files → texts ≡ old ++ map f (map g (take i files))
    → texts ++ f (g (get_or files i d)) ∷ [] ≡ old ++ map f (map g (take (i + 1) files))
next_file f g old texts files i d lt is =
    rw (
      is,
      take_more files i d lt,
      map_push g (take i files) (get_or files i d),
      map_push f (map g (take i files)) (g (get_or files i d)),
    ) (append_assoc old (map f (map g (take i files))) (f (g (get_or files i d)) ∷ []))

last_file : {X Y Z : Type 0} (f : Y → Z) (g : X → Y) (old texts : List Z) (files : List X) (i : ℕ) (d : X) (e : Z)
    → 0 < i → i < length files → texts ≡ old ++ map f (map g (take i files))
    → get_or texts (length texts - 1) e ≡ f (g (get_or files (i - 1) d))
last_file {Z = Z} f g old texts files i d e some lt is =
    let front : List Z = old ++ map f (map g (take (i - 1) files)) in
    let one : front ++ f (g (get_or files (i - 1) d)) ∷ [] ≡ old ++ map f (map g (take (i - 1 + 1) files)) =
    next_file f g old front files (i - 1) d (omega arith) refl in
    let whole : i - 1 + 1 ≡ i = omega arith in
    let texts_are : texts ≡ front ++ f (g (get_or files (i - 1) d)) ∷ [] =
    is ∙ ap (λ n. old ++ map f (map g (take n files))) (sym whole) ∙ sym one in
    let more = length-append front (f (g (get_or files (i - 1) d)) ∷ []) in
    let last : length front ≡ length (front ++ f (g (get_or files (i - 1) d)) ∷ []) - 1 = omega (arith, more) in
    rw texts_are (get_or_push front (f (g (get_or files (i - 1) d))) e
    (length (front ++ f (g (get_or files (i - 1) d)) ∷ []) - 1) last)

-- the same of a file that is as the one before
pub again_file : {X Y Z : Type 0} (f : Y → Z) (g : X → Y) (old texts : List Z) (files : List X) (i : ℕ)
    (a b d d' : X) (e : Z) → 0 < i → i < length files → texts ≡ old ++ map f (map g (take i files))
    → a ≡ get_or files i d → b ≡ get_or files (i - 1) d' → g a ≡ g b
    → texts ++ get_or texts (length texts - 1) e ∷ [] ≡ old ++ map f (map g (take (i + 1) files))
again_file {Z = Z} f g old texts files i a b d d' e some lt is here before same =
    let like : g (get_or files (i - 1) d') ≡ g (get_or files i d) =
    ap g (sym before) ∙ sym same ∙ ap g here in
    let last : get_or texts (length texts - 1) e ≡ f (g (get_or files i d)) =
    last_file f g old texts files i d' e some lt is ∙ ap f like in
    ap (λ (t : Z). texts ++ t ∷ []) last ∙ next_file f g old texts files i d lt is

-- ---- rows that name texts

row_named : (numbers : List ℕ) (texts : List (List ℕ)) (row : Row) → AllByRecursion (λ n. n < length texts) numbers
    → row.file < length (files_by numbers texts)
    → with_text texts (renamed_row numbers row) ≡ with_text (files_by numbers texts) row
row_named numbers texts row all lt =
    let within : row.file < length numbers =
    omega (arith, lt, length-map numbers (λ n. get_or texts n [])) in
    let number : slice_get numbers row.file ≡ Some (get_or numbers row.file 0) =
    slice_get-get_or numbers row.file 0 within in
    let below = all_at (λ n. n < length texts) numbers row.file 0 all within in
    rw (
      slice_get-map (λ n. get_or texts n []) numbers row.file,
      number,
      slice_get-get_or texts (get_or numbers row.file 0) [] below,
    ) refl

rows_named : (numbers : List ℕ) (texts : List (List ℕ)) (rows : List Row)
    → AllByRecursion (λ n. n < length texts) numbers
    → AllByRecursion (λ row. row.file < length (files_by numbers texts)) rows
    → map (with_text texts) (map (renamed_row numbers) rows) ≡ map (with_text (files_by numbers texts)) rows
rows_named numbers texts [] all known = refl
rows_named numbers texts (row ∷ rows) all known =
    rw (row_named numbers texts row all known.0, rows_named numbers texts rows all known.1) refl

texts_known : (numbers : List ℕ) (texts : List (List ℕ)) (rows : List Row)
    → AllByRecursion (λ n. n < length texts) numbers
    → AllByRecursion (λ row. row.file < length (files_by numbers texts)) rows
    → AllByRecursion (λ row. row.file < length texts) (map (renamed_row numbers) rows)
texts_known numbers texts [] all known = tt
texts_known numbers texts (row ∷ rows) all known = (
  all_at (λ n. n < length texts) numbers row.file 0 all
      (omega (arith, known.0, length-map numbers (λ n. get_or texts n []))),
  texts_known numbers texts rows all known.1,
)

pub is_named : (numbers : List ℕ) (texts : List (List ℕ)) (old new : OpenMatrix)
    → AreNumbered numbers texts
    → AllByRecursion (λ row. row.file < length (files_by numbers texts)) old.rows
    → new ≡ record { rows = map (renamed_row numbers) old.rows; sequences = old.sequences; first = old.first }
    → IsNamed (files_by numbers texts) old new texts
is_named numbers texts old new all known is = rw is (record {
  few = let len = length-map numbers (λ n. get_or texts n []) in omega (arith, all.few, len);
  sequences = refl;
  same = rows_named numbers texts old.rows all.in_range known;
  files_known = texts_known numbers texts old.rows all.in_range known;
})

-- ---- the table of rows that name texts

no_row : Row
no_row = record { addr = 0; file = 0; line = 0 }

one_rises : (files texts : List (List ℕ)) (rows named : List Row) (s : Sequence)
    → map (with_text texts) named ≡ map (with_text files) rows → IsRising row_address (sequence_in rows s)
    → IsRising row_address (sequence_in named s)
one_rises files texts rows named s seen rises =
    let up : IsRising line_address (record
    { rows = map (with_text files) (slice_range rows s.first s.last); end = s.end }) =
    rises_by row_address line_address (with_text files) (λ _. refl) (slice_range rows s.first s.last) s.end no_row
    rises in
    let same : map (with_text files) (slice_range rows s.first s.last)
    ≡ map (with_text texts) (slice_range named s.first s.last) =
    sym (cut-map files rows s.first s.last) ∙ ap (λ (xs : List LineRow). slice_range xs s.first s.last) (sym seen)
    ∙ cut-map texts named s.first s.last in
    rises_back row_address line_address (with_text texts) (λ _. refl) (slice_range named s.first s.last) s.end no_row
    (subst (λ (xs : List LineRow). IsRising line_address (record { rows = xs; end = s.end })) same up)

all_rise : (files texts : List (List ℕ)) (rows named : List Row) (sequences : List Sequence)
    → map (with_text texts) named ≡ map (with_text files) rows
    → AllByRecursion (λ s. IsRising row_address (sequence_in rows s)) sequences
    → AllByRecursion (λ s. IsRising row_address (sequence_in named s)) sequences
all_rise files texts rows named [] seen rise = tt
all_rise files texts rows named (s ∷ sequences) seen rise =
    (one_rises files texts rows named s seen rise.0, all_rise files texts rows named sequences seen rise.1)

pub named_table : (files texts : List (List ℕ)) (old new : OpenMatrix) → IsTable old.rows old.sequences files
    → IsNamed files old new texts → IsTable new.rows new.sequences texts
named_table files texts old new table named =
    let len : length old.rows ≡ length new.rows =
    omega (
      arith,
      ap length named.same,
      length-map new.rows (with_text texts),
      length-map old.rows (with_text files),
    ) in
    rw named.sequences (record {
      sequences_placed = subst (λ n. AllByRecursion (IsPlaced n) old.sequences) len table.sequences_placed;
      sequences_rise = all_rise files texts old.rows new.rows old.sequences named.same table.sequences_rise;
      files_known = named.files_known;
      few_files = omega (arith, named.few, table.few_files);
    })
