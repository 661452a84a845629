-- Files that are joined in another order come to the same events and functions, and to rows with the same sums.
use Rattle.std.proofs.Common.{◌≡◌, ◌⊎◌, ℕ, zero, suc, ◌+◌, ◌-◌, ◌≤◌, Bool, true, false, ◌||◌, nat_lt, List, [], ◌∷◌, ◌++◌}
use Rattle.std.proofs.Common.{length, map, drop, get_or, replicate, sum_by, Option, Some, None, Ok, refl, sym, ap}
use Rattle.std.proofs.Common.{subst, ◌∙◌, arith, inl, inr, ⊎_elim, append_assoc, append-nil, length-append}
use Rattle.std.proofs.Common.{if◌then◌else◌, Decides, IsPermutation}
use Rattle.std.specs.List.{AllByRecursion, list_any, starts_with}
use Rattle.std.specs.Prelude.{unwrap_or}
use Rattle.std.specs.Str.{bytes_eq}
use Rattle.std.proofs.Math.Bool.{or_assoc}
use Rattle.std.proofs.lemmas.Bool.{cond_both, ltb-false, ltb-true, or_cases, or_left, or_right}
use Rattle.std.proofs.lemmas.List.Elements.{All-from_recursion, recursion_from_All}
use Rattle.std.proofs.lemmas.List.Sorted.{All-permutation, IsPermutation-map, IsPermutation-sym, list_any-IsPermutation}
use Rattle.std.proofs.lemmas.List.Sorted.{sum_by-IsPermutation}
use Rattle.std.proofs.lemmas.List.Sums.{sum_by-append, sum_by-cons}
use Rattle.std.proofs.lemmas.Slice.Eq.{bytes_eq-Decides, starts_is}
use Rattle.outside.specs.Load.{Load, bytes_of}
use Rattle.cg_lines.specs.declared.line.Line.{Line}
use Rattle.cg_read.specs.AddressReading.{ReadsLines, lines_said}
use Rattle.cg_read.specs.Meaning.{call_rows, or_else, padded, self_rows}
use Rattle.cg_read.specs.Merge.{IsJoined, agree, longer, missing, padded_call, padded_self}
use Rattle.cg_read.specs.Profiles.{Contents, NamedCall, NamedSelf, files_of, functions_of, has_function, has_text}
use Rattle.cg_read.specs.Profiles.{named_call_rows, named_self_rows, same_function}
use Rattle.cg_read.specs.declared.rows.FuncKey.{FuncKey}
use Rattle.profile_files.specs.Joined.{Joins}
use Rattle.profile_files.specs.Reading.{Answers, events_fault, events_of, file_fault, format_fault, load_fault}
use Rattle.profile_files.specs.Reading.{reading_fault}
use Rattle.profile_files.specs.WantedFile.{WantedFile}
use Rattle.profile_files.specs.declared.fault.ReadFault.TheVariants.{EventsDiffer}
use Rattle.report_laws.proofs.Others.{joined_any, sum_by-map, sum_by-same, zero_replicate}
use Rattle.report_laws.proofs.StandLemmas.{functions_decide}

-- ---- lists that begin others

-- a list begins with another
abbrev Begins : List (List ℕ) → List (List ℕ) → Type 0
Begins front all = (rest : List (List ℕ)) × (all ≡ front ++ rest)

begins_itself : (xs : List (List ℕ)) → Begins xs xs
begins_itself xs = ([], sym (append-nil xs))

begins_on : (xs ys zs : List (List ℕ)) → Begins xs ys → Begins ys zs → Begins xs zs
begins_on xs ys zs (rest, is) (more, was) =
    (rest ++ more, was ∙ ap (λ (l : List (List ℕ)). l ++ more) is ∙ append_assoc xs rest more)

-- one that begins a list that is no longer is that list
begins_all : (xs ys : List (List ℕ)) → Begins xs ys → length ys ≤ length xs → xs ≡ ys
begins_all xs ys (rest, is) le = by rest is
  where
    by : (rest : List (List ℕ)) → ys ≡ xs ++ rest → xs ≡ ys
    by [] is = sym (is ∙ append-nil xs)
    by (r ∷ rest) is = absurd (omega (arith, le, ap length is, length-append xs (r ∷ rest)))

begins_both : (xs ys : List (List ℕ)) → Begins xs ys → Begins ys xs → xs ≡ ys
begins_both xs ys begins (more, was) =
    begins_all xs ys begins (omega (arith, ap length was, length-append ys more))

-- of two that begin the same list, one begins the other
either : (xs ys r s : List (List ℕ)) → xs ++ r ≡ ys ++ s → Begins xs ys ⊎ Begins ys xs
either [] ys r s same = inl (ys, refl)
either (x ∷ xs) [] r s same = inr (x ∷ xs, refl)
either (x ∷ xs) (y ∷ ys) r s same =
    let head : x ≡ y = cc in
    let tail : xs ++ r ≡ ys ++ s = cc in
    ⊎_elim (λ (b : Begins xs ys). inl (b.0, λ i. sym head i ∷ b.1 i))
    (λ (b : Begins ys xs). inr (b.0, λ i. head i ∷ b.1 i)) (either xs ys r s tail)

starts_from : (all front : List (List ℕ)) → Begins front all → starts_with bytes_eq all front ≡ true
starts_from all front (rest, is) =
    (starts_is bytes_eq-Decides all front (starts_with bytes_eq all front) refl).1 rest is

begins_from : (all front : List (List ℕ)) → starts_with bytes_eq all front ≡ true → Begins front all
begins_from all front is =
    (drop (length front) all, (starts_is bytes_eq-Decides all front true (sym is)).0 refl)

agree_from : (xs ys zs : List (List ℕ)) → Begins xs zs → Begins ys zs → agree xs ys ≡ true
agree_from xs ys zs one two =
    ⊎_elim
    (λ (b : Begins xs ys).
    or_right (starts_with bytes_eq xs ys) (starts_with bytes_eq ys xs) (starts_from ys xs b))
    (λ (b : Begins ys xs). or_left (starts_with bytes_eq xs ys) (starts_with bytes_eq ys xs) (starts_from xs ys b))
    (either xs ys one.0 two.0 (sym one.1 ∙ two.1))

-- two that agree begin the longer one
both_begin : (xs ys : List (List ℕ)) → agree xs ys ≡ true → Begins xs (longer xs ys) × Begins ys (longer xs ys)
both_begin xs ys agrees = by (or_cases (starts_with bytes_eq xs ys) (starts_with bytes_eq ys xs) agrees)
  where
    by : (starts_with bytes_eq xs ys ≡ true) ⊎ (starts_with bytes_eq ys xs ≡ true)
        → Begins xs (longer xs ys) × Begins ys (longer xs ys)
    by (inl is) =
        let begins = begins_from xs ys is in
        cond_both (nat_lt (length xs) (length ys)) ys xs (λ zs. Begins xs zs × Begins ys zs)
        (λ less.
        let l = ltb-true (length xs) (length ys) less in
        absurd (omega (arith, l, ap length begins.1, length-append ys begins.0)))
        (λ other. (begins_itself xs, begins))
    by (inr is) =
        let begins = begins_from ys xs is in
        cond_both (nat_lt (length xs) (length ys)) ys xs (λ zs. Begins xs zs × Begins ys zs)
        (λ less. (begins, begins_itself ys))
        (λ other.
        let same = begins_all xs ys begins (ltb-false (length xs) (length ys) other) in
        (begins_itself xs, subst (Begins ys) (sym same) (begins_itself ys)))

-- ---- what stops the reading

neither : {X : Type 0} (a b : Option X) → or_else a b ≡ None → (a ≡ None) × (b ≡ None)
neither None b none = (refl, none)
neither (Some x) b none = absurd (cc)

both_none : {X : Type 0} (a b : Option X) → a ≡ None → b ≡ None → or_else a b ≡ None
both_none None b one two = two
both_none (Some x) b one two = absurd (cc)

module _ (load : WantedFile → Load) where
  abbrev own : WantedFile → List (List ℕ)
  own file = events_of (bytes_of (load file))

  -- the events after all files
  abbrev last : List (List ℕ) → List WantedFile → List (List ℕ)
  last before [] = before
  last before (file ∷ files) = last (longer before (own file)) files

  -- a file is loaded and read, and its events begin these
  record IsFine (whole : List (List ℕ)) (file : WantedFile) : Type 0 where
    loaded : load_fault file.name (load file) ≡ None
    read : format_fault file.name (bytes_of (load file)) ≡ None
    begins : Begins (own file) whole

  agreed : (file : WantedFile) (before : List (List ℕ)) → events_fault file.name before (own file) ≡ None
      → agree before (own file) ≡ true
  agreed file before none = by (agree before (own file)) none
    where
      by : (b : Bool) → (if b then None else Some (EventsDiffer file.name)) ≡ None → b ≡ true
      by true is = refl
      by false is = absurd (cc)

  all_fine : (before : List (List ℕ)) (files : List WantedFile) → reading_fault before files (map load files) ≡ None
      → Begins before (last before files) × AllByRecursion (IsFine (last before files)) files
  all_fine before [] none = (begins_itself before, tt)
  all_fine before (file ∷ files) none =
      let next = longer before (own file) in
      let here = file_fault file before (load file) in
      let parts = neither here (reading_fault next files (map load files)) none in
      let behind = or_else (format_fault file.name (bytes_of (load file))) (events_fault file.name before (own file)) in
      let loads = neither (load_fault file.name (load file)) behind parts.0 in
      let reads = neither (format_fault file.name (bytes_of (load file))) (events_fault file.name before (own file))
      loads.1 in
      let both = both_begin before (own file) (agreed file before reads.1) in
      let after = all_fine next files parts.1 in (
        begins_on before next (last next files) both.0 after.0,
        (
          record {
            loaded = loads.0;
            read = reads.0;
            begins = begins_on (own file) next (last next files) both.1 after.0;
          },
          after.1,
        ),
      )

  longer_begins : (whole before : List (List ℕ)) (file : WantedFile) → Begins before whole → Begins (own file) whole
      → Begins (longer before (own file)) whole
  longer_begins whole before file begins also =
      cond_both (nat_lt (length before) (length (own file))) (own file) before (λ zs. Begins zs whole) (λ less. also)
      (λ other. begins)

  last_begins : (whole before : List (List ℕ)) (files : List WantedFile) → Begins before whole
      → AllByRecursion (IsFine whole) files → Begins (last before files) whole
  last_begins whole before [] begins all = begins
  last_begins whole before (file ∷ files) begins all =
      last_begins whole (longer before (own file)) files (longer_begins whole before file begins all.0.begins) all.1

  none_refused : (whole before : List (List ℕ)) (files : List WantedFile) → Begins before whole
      → AllByRecursion (IsFine whole) files → reading_fault before files (map load files) ≡ None
  none_refused whole before [] begins all = refl
  none_refused whole before (file ∷ files) begins all =
      let agrees = agree_from before (own file) whole begins all.0.begins in
      let same : events_fault file.name before (own file) ≡ None
      = ap (λ (b : Bool). if b then None else Some (EventsDiffer file.name)) agrees in
      both_none (file_fault file before (load file))
      (reading_fault (longer before (own file)) files (map load files))
      (both_none (load_fault file.name (load file))
      (or_else (format_fault file.name (bytes_of (load file))) (events_fault file.name before (own file)))
      all.0.loaded
      (both_none (format_fault file.name (bytes_of (load file))) (events_fault file.name before (own file))
      all.0.read same))
      (none_refused whole (longer before (own file)) files (longer_begins whole before file begins all.0.begins)
      all.1)

  all_moved : (whole : List (List ℕ)) (files others : List WantedFile) → IsPermutation files others
      → AllByRecursion (IsFine whole) files → AllByRecursion (IsFine whole) others
  all_moved whole files others moved all =
      recursion_from_All (IsFine whole) others
      (All-permutation (IsFine whole) files others moved (All-from_recursion (IsFine whole) files all))

  last_within : (before : List (List ℕ)) (files others : List WantedFile) → IsPermutation others files
      → reading_fault before others (map load others) ≡ None → Begins (last before files) (last before others)
  last_within before files others moved none =
      let fine = all_fine before others none in
      last_begins (last before others) before files fine.0
      (all_moved (last before others) others files moved fine.1)

  events_joined : (first : Contents) (files : List WantedFile) (joined : Contents)
      → Joins first (map bytes_of (map load files)) joined → joined.events ≡ last first.events files
  events_joined first [] joined joins = ap (λ (p : Contents). p.events) joins
  events_joined first (file ∷ files) joined (read, next, reads, joins, rest) =
      events_joined next files joined rest
      ∙ ap (λ (events : List (List ℕ)). last events files)
      (joins.events ∙ ap (longer first.events) (sym (ap (λ (names : Option (List (List ℕ))). unwrap_or names []) reads.says.events)))

  pub read_too : (files others : List WantedFile) → IsPermutation files others → (before : List (List ℕ))
      → reading_fault before files (map load files) ≡ None → reading_fault before others (map load others) ≡ None
  read_too files others moved before none =
      let fine = all_fine before files none in
      none_refused (last before files) before others fine.0 (all_moved (last before files) files others moved fine.1)

  pub same_events : (files others : List WantedFile) → IsPermutation files others → (first p q : Contents)
      → Answers first files (map load files) (Ok p) → Answers first others (map load others) (Ok q)
      → p.events ≡ q.events
  same_events files others moved first p q one two =
      events_joined first files p one.2
      ∙ begins_both (last first.events files) (last first.events others)
      (last_within first.events files others (IsPermutation-sym files others moved) two.0)
      (last_within first.events others files moved one.0)
      ∙ sym (events_joined first others q two.2)

-- ---- sums over rows

with_zeros : (n : ℕ) (cost : List ℕ) (event : ℕ) → get_or (cost ++ replicate n 0) event 0 ≡ get_or cost event 0
with_zeros n [] event = zero_replicate n event
with_zeros n (c ∷ cost) zero = refl
with_zeros n (c ∷ cost) (suc event) = with_zeros n cost event

-- zeros behind a cost show nothing
pub at_padded : (n : ℕ) (cost : List ℕ) (event : ℕ) → get_or (padded n cost) event 0 ≡ get_or cost event 0
at_padded n cost event = with_zeros (n - length cost) cost event

module _ {X : Type 0} (rows : Contents → List X) (said : List Line → List X) (pad : ℕ → X → X)
    (rows_read : (bytes : List ℕ) (read : Contents) → ReadsLines bytes read → rows read ≡ said (lines_said bytes))
    (rows_joined : (old other new : Contents) → IsJoined old other new
    → rows new ≡ map (pad (length new.events)) (rows old ++ rows other))
    (number : X → ℕ) (padding : (n : ℕ) (x : X) → number (pad n x) ≡ number x) where
  abbrev sum_said : List ℕ → ℕ
  sum_said bytes = sum_by number (said (lines_said bytes))

  joined_sum : (first : Contents) (files : List (List ℕ)) (joined : Contents) → Joins first files joined
      → sum_by number (rows joined) ≡ sum_by number (rows first) + sum_by sum_said files
  joined_sum first [] joined joins =
      let same : sum_by number (rows joined) ≡ sum_by number (rows first)
      = ap (λ (p : Contents). sum_by number (rows p)) joins in omega (arith, same)
  joined_sum first (bytes ∷ files) joined (read, next, reads, joins, rest) =
      let width = length next.events in
      let here : sum_by number (rows next) ≡ sum_by number (rows first) + sum_by number (rows read)
      = ap (sum_by number) (rows_joined first read next joins)
      ∙ sum_by-map number (pad width) (rows first ++ rows read)
      ∙ sum_by-same (λ x. number (pad width x)) number (padding width) (rows first ++ rows read)
      ∙ sum_by-append number (rows first) (rows read) in
      let own : sum_by number (rows read) ≡ sum_said bytes = ap (sum_by number) (rows_read bytes read reads) in
      let after = joined_sum next files joined rest in
      let count = sum_by-cons sum_said bytes files in
      omega (arith, here, own, after, count)

  same_sum : (first p q : Contents) (files others : List (List ℕ)) → IsPermutation files others
      → Joins first files p → Joins first others q → sum_by number (rows p) ≡ sum_by number (rows q)
  same_sum first p q files others moved one two =
      joined_sum first files p one
      ∙ ap (λ n. sum_by number (rows first) + n) (sym (sum_by-IsPermutation sum_said files others moved))
      ∙ sym (joined_sum first others q two)

-- ---- functions and files

or_none : (b : Bool) → b ≡ (b || false)
or_none true = refl
or_none false = refl

module _ {K : Type 0} (same : K → K → Bool) (decides : (x y : K) → Decides (same x y) (x ≡ y)) (keys : Contents → List K)
    (said : List ℕ → List K)
    (keys_read : (bytes : List ℕ) (read : Contents) → ReadsLines bytes read
    → (k : K) → list_any (same k) (keys read) ≡ list_any (same k) (said bytes))
    (keys_joined : (old other new : Contents) → IsJoined old other new
    → keys new ≡ keys old ++ missing same (keys old) (keys other)) (k : K) where
  abbrev has_said : List ℕ → Bool
  has_said bytes = list_any (same k) (said bytes)

  joined_has : (first : Contents) (files : List (List ℕ)) (joined : Contents) → Joins first files joined
      → list_any (same k) (keys joined) ≡ (list_any (same k) (keys first) || list_any has_said files)
  joined_has first [] joined joins =
      ap (λ (p : Contents). list_any (same k) (keys p)) joins ∙ or_none (list_any (same k) (keys first))
  joined_has first (bytes ∷ files) joined (read, next, reads, joins, rest) =
      joined_has next files joined rest
      ∙ ap (λ b. b || list_any has_said files)
      (ap (list_any (same k)) (keys_joined first read next joins)
      ∙ joined_any same decides (keys first) (keys read) k
      ∙ ap (λ b. list_any (same k) (keys first) || b) (keys_read bytes read reads k))
      ∙ or_assoc (list_any (same k) (keys first)) (has_said bytes) (list_any has_said files)

  same_has : (first p q : Contents) (files others : List (List ℕ)) → IsPermutation files others
      → Joins first files p → Joins first others q
      → list_any (same k) (keys p) ≡ list_any (same k) (keys q)
  same_has first p q files others moved one two =
      joined_has first files p one
      ∙ ap (λ b. list_any (same k) (keys first) || b) (list_any-IsPermutation has_said files others moved)
      ∙ sym (joined_has first others q two)

-- ---- two profiles

-- They have the same events, functions and files, and their rows have the same sums.
pub record TellAlike (p q : Contents) : Type 0 where
  pub events : p.events ≡ q.events
  pub functions : (f : FuncKey) → has_function p.functions f ≡ has_function q.functions f
  pub files : (t : List ℕ) → has_text p.files t ≡ has_text q.files t
  pub selfs : (number : NamedSelf → ℕ) → ((n : ℕ) (row : NamedSelf) → number (padded_self n row) ≡ number row)
      → sum_by number (named_self_rows p) ≡ sum_by number (named_self_rows q)
  pub calls : (number : NamedCall → ℕ) → ((n : ℕ) (row : NamedCall) → number (padded_call n row) ≡ number row)
      → sum_by number (named_call_rows p) ≡ sum_by number (named_call_rows q)

pub tell_alike : (load : WantedFile → Load) (files others : List WantedFile) → IsPermutation files others
    → (first p q : Contents) → Answers first files (map load files) (Ok p)
    → Answers first others (map load others) (Ok q) → TellAlike p q
tell_alike load files others moved first p q one two =
    let texts = map bytes_of (map load files) in
    let again = map bytes_of (map load others) in
    let texts_moved : IsPermutation texts again
    = IsPermutation-map bytes_of (map load files) (map load others) (IsPermutation-map load files others moved) in
    record {
      events = same_events load files others moved first p q one two;
      functions = λ f.
          same_has same_function functions_decide (λ (r : Contents). r.functions)
          (λ bytes. functions_of (self_rows (lines_said bytes)) (call_rows (lines_said bytes)))
          (λ bytes read reads. reads.says.functions) (λ old other new joined. joined.functions) f first p q texts again
          texts_moved one.2 two.2;
      files = λ t.
          same_has bytes_eq bytes_eq-Decides (λ (r : Contents). r.files)
          (λ bytes. files_of (self_rows (lines_said bytes)) (call_rows (lines_said bytes)))
          (λ bytes read reads. reads.says.files) (λ old other new joined. joined.files) t first p q texts again
          texts_moved one.2 two.2;
      selfs = λ number padding.
          same_sum named_self_rows self_rows padded_self (λ bytes read reads. reads.says.self_rows)
          (λ old other new joined. joined.self_rows) number padding first p q texts again texts_moved one.2 two.2;
      calls = λ number padding.
          same_sum named_call_rows call_rows padded_call (λ bytes read reads. reads.says.call_rows)
          (λ old other new joined. joined.call_rows) number padding first p q texts again texts_moved one.2 two.2;
    }
