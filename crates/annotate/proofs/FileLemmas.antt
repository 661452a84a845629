-- Files by their names, and the self rows of one.
use Rattle.std.proofs.Common.{◌≡◌, ◌≢◌, ◌⊎◌, inl, inr, ℕ, ◌+◌, ◌<◌, ◌≤◌, ◌==◌, Bool, true, false, cond, ◌&&◌, ◌||◌}
use Rattle.std.proofs.Common.{List, [], ◌∷◌, length}
use Rattle.std.proofs.Common.{get_or, set, take, map, Vec, refl, ap, sym, ◌∙◌, arith, Some, None}
use Rattle.std.specs.Prelude.{not}
use Rattle.std.specs.List.{filter, list_any}
use Rattle.std.specs.BTreeMap.{BTreeMap, get, is_at}
use Rattle.std.specs.BTreeSet.{BTreeSet, contains}
use Rattle.std.specs.Cmp.Lexicographic.{texts_ties}
use Rattle.std.specs.Str.{bytes_eq}
use Rattle.std.specs.declared.alloc.Global.{Global}
use Rattle.std.proofs.lemmas.Bool.{cases_eq, cases_lt, false_from_ne_true}
use Rattle.std.proofs.lemmas.Bool.Decides.{nat_tests}
use Rattle.std.proofs.lemmas.List.{get_or-set_other, get_or-take, get_or_default, length-take-le}
use Rattle.std.proofs.lemmas.List.Folds.{list_any_at, list_any_more}
use Rattle.std.proofs.lemmas.Slice.Eq.{bytes_eq-Decides}
use Rattle.cg_read.specs.Profiles.{Contents, IsProfile, file_at, has_text, unknown}
use Rattle.cg_read.specs.declared.rows.SelfRow.{SelfRow}
use Rattle.annotate.specs.Files.{is_in_file}
use Rattle.annotate.specs.inner.SourceRows.{AreNumbersOf}
use Rattle.report_rows.specs.Orders.{text_order}
use Rattle.report_rows.specs.Entries.{of_list, entry_values, self_entry}
use Rattle.report_rows.specs.Lists.{AreFileLists}
use Rattle.report_rows.specs.Tables.{list_at}
use Rattle.report_rows.specs.declared.entries.By.TheVariants as by
use Rattle.report_rows.specs.declared.entries.Entry.{Entry}
use Rattle.report_rows.proofs.ListLemmas.{filter_agree_on, filter_of_map}

differ_no : (xs ys : List ℕ) → xs ≢ ys → bytes_eq xs ys ≡ false
differ_no xs ys apart = false_from_ne_true (bytes_eq xs ys) (λ e. apart ((bytes_eq-Decides xs ys).0 e))

clash : (b : Bool) → b ≡ true → b ≡ false → ⊥
clash b e f = absurd (cc)

-- one file more has its number
module _ (files : List (List ℕ)) (i : ℕ) (v : List ℕ) (lt : i < length files) (is : v ≡ get_or files i v)
    (old new : BTreeMap (List ℕ) ℕ) (before : AreNumbersOf (take i files) old)
    (updates : (q : List ℕ) → get text_order new q ≡ cond (is_at (text_order v) q) (Some i) (get text_order old q)) where
  size : length (take i files) ≡ i
  size = length-take-le i files (omega (arith, lt))

  more : length (take (i + 1) files) ≡ i + 1
  more = length-take-le (i + 1) files (omega (arith, lt))

  here : file_at (take (i + 1) files) i ≡ v
  here = get_or-take (i + 1) files i unknown (omega arith) ∙ sym (is ∙ get_or_default files i v unknown lt)

  found : (name : List ℕ) (b : Bool) → is_at (text_order v) name ≡ b
      → get text_order new name ≡ cond b (Some i) (get text_order old name)
  found name b e = updates name ∙ ap (λ t. cond t (Some i) (get text_order old name)) e

  there : (n : ℕ) (name : List ℕ) → get text_order new name ≡ Some n → (b : Bool) → is_at (text_order v) name ≡ b
      → (n < length (take (i + 1) files)) × (bytes_eq name (file_at (take (i + 1) files) n) ≡ true)
  there n name at true e =
      let own : Some i ≡ Some n = sym (found name true e) ∙ at in
      let number : i ≡ n = cc in
      let same : v ≡ name = (bytes_eq-Decides v name).0 (texts_ties v name ∙ e) in (
        omega (arith, number, more),
        (bytes_eq-Decides name (file_at (take (i + 1) files) n)).1
            (sym same ∙ sym here ∙ ap (file_at (take (i + 1) files)) number),
      )
  there n name at false e =
      let first = before.there n name (sym (found name false e) ∙ at) in
      let less : n < i = omega (arith, first.0, size) in (
        omega (arith, less, more),
        ap (bytes_eq name) (get_or-take (i + 1) files n unknown (omega (arith, less))
            ∙ sym (get_or-take i files n unknown less)) ∙ first.1,
      )

  absent : (name : List ℕ) → get text_order new name ≡ None → (b : Bool) → is_at (text_order v) name ≡ b
      → list_any (bytes_eq name) (take (i + 1) files) ≡ false
  absent name none true e = let own : Some i ≡ None = sym (found name true e) ∙ none in absurd (cc)
  absent name none false e =
      list_any_more (bytes_eq name) files i v lt
      ∙ ap (λ x. list_any (bytes_eq name) (take i files) || bytes_eq name x) (sym is)
      ∙ ap (λ b. b || bytes_eq name v) (before.absent name (sym (found name false e) ∙ none))
      ∙ differ_no name v (λ same. clash (is_at (text_order v) name)
      (sym (texts_ties v name) ∙ (bytes_eq-Decides v name).1 (sym same)) e)

  pub numbers_more : AreNumbersOf (take (i + 1) files) new
  numbers_more = record {
    there = λ n name at. there n name at (is_at (text_order v) name) refl;
    absent = λ name none. absent name none (is_at (text_order v) name) refl;
  }

module _ (p : Contents) (profile : IsProfile p) (name : List ℕ) where
  files_apart : (f n : ℕ) → f ≢ n → f < length p.files → n < length p.files → file_at p.files f ≢ file_at p.files n
  files_apart f n differ small lt = cases (cases_lt f n)
    where
      cases : (f < n) ⊎ (n ≤ f) → file_at p.files f ≢ file_at p.files n
      cases (inl less) = profile.files_differ f n unknown less lt
      cases (inr le) = λ e. profile.files_differ n f unknown (omega (arith, le, differ)) small (sym e)

  -- a file has the name exactly where it has the number of the file with the name
  tells : (n f : ℕ) → n < length p.files → bytes_eq name (file_at p.files n) ≡ true → f < length p.files
      → (f == n) ≡ bytes_eq (file_at p.files f) name
  tells n f lt is small = cases (cases_eq f n)
    where
      same : name ≡ file_at p.files n
      same = (bytes_eq-Decides name (file_at p.files n)).0 is

      cases : (f ≡ n) ⊎ (f ≢ n) → (f == n) ≡ bytes_eq (file_at p.files f) name
      cases (inl e) =
          let yes : (f == n) ≡ true = grind (arith, nat_tests) in
          yes ∙ sym ((bytes_eq-Decides (file_at p.files f) name).1 (ap (file_at p.files) e ∙ sym same))
      cases (inr differ) =
          let no : (f == n) ≡ false = grind (arith, nat_tests) in
          no ∙ sym (differ_no (file_at p.files f) name (λ e. files_apart f n differ small lt (e ∙ same)))

  pub rows_there : (rows : List (Vec Entry Global)) (n : ℕ) → AreFileLists p rows
      → (n < length p.files) × (bytes_eq name (file_at p.files n) ≡ true)
      → entry_values (list_at rows n) ≡ map (self_entry by.File) (filter (is_in_file p name) p.self_rows)
  rows_there rows n stands here =
      stands.exact n here.0
      ∙ filter_of_map (self_entry by.File) (of_list n) p.self_rows
      ∙ ap (map (self_entry by.File)) (filter_agree_on (λ row. row.file == n) (is_in_file p name) p.self_rows
      (λ i d lt. tells n (get_or p.self_rows i d).file here.0 here.1 (profile.self_rows_fit i d lt).file))

  none_passes : (xs : List SelfRow) → filter (λ row. false) xs ≡ []
  none_passes [] = refl
  none_passes (x ∷ xs) = none_passes xs

  pub no_rows : list_any (bytes_eq name) p.files ≡ false
      → [] ≡ map (self_entry by.File) (filter (is_in_file p name) p.self_rows)
  no_rows none =
      sym (ap (map (self_entry by.File)) (filter_agree_on (is_in_file p name) (λ row. false) p.self_rows
      (λ i d lt. let f = (get_or p.self_rows i d).file in
      differ_no (file_at p.files f) name (λ e.
      clash (list_any (bytes_eq name) p.files)
      (list_any_at (bytes_eq name) p.files f unknown (profile.self_rows_fit i d lt).file
      ((bytes_eq-Decides name (file_at p.files f)).1 (sym e))) none))
      ∙ none_passes p.self_rows))

-- Names that are collected

-- the file of a row is one of the profile
pub file_within : (p : Contents) → IsProfile p → (rows : List SelfRow) (i : ℕ) (row : SelfRow)
    → rows ≡ p.self_rows → i < length rows → row ≡ get_or rows i row → row.file < length p.files
file_within p profile rows i row same lt at =
    let inside : i < length p.self_rows = omega (arith, lt, ap length same) in
    let there : row ≡ get_or p.self_rows i row = at ∙ ap (λ rs. get_or rs i row) same in
    omega (arith, (profile.self_rows_fit i row inside).file, ap (λ (r : SelfRow). r.file) there)

any_agree : {X : Type 0} (p q : X → Bool) (xs : List X) → ((x : X) → p x ≡ q x) → list_any p xs ≡ list_any q xs
any_agree p q [] same = refl
any_agree p q (x ∷ xs) same = ap (λ b. b || list_any p xs) (same x) ∙ ap (λ b. q x || b) (any_agree p q xs same)

-- what a set of texts holds, by its list
pub set_holds : (names : BTreeSet (List ℕ)) (name : List ℕ) → has_text names.keys name ≡ contains text_order names name
set_holds names name = any_agree (bytes_eq name) (is_at (text_order name)) names.keys (λ key. texts_ties name key)

with_known : (a b c : Bool) → (b ≡ true → c ≡ false) → cond b true (a && not c) ≡ ((a || b) && not c)
with_known true true c known = sym (ap not (known refl))
with_known false true c known = sym (ap not (known refl))
with_known true false c known = refl
with_known false false c known = refl

with_unknown : (a b c : Bool) → (b ≡ true → c ≡ true) → (a && not c) ≡ ((a || b) && not c)
with_unknown true b c known = refl
with_unknown false true c known = sym (ap not (known refl))
with_unknown false false c known = refl

with_seen : (a b c : Bool) → (b ≡ true → a ≡ true) → (a && not c) ≡ ((a || b) && not c)
with_seen true b c seen = refl
with_seen false true c seen = let no : false ≡ true = seen refl in absurd (cc)
with_seen false false c seen = refl

-- the files that are marked are those of rows
abbrev pub AreSeen : Contents → List Bool → List SelfRow → Type 0
AreSeen p seen rows = (f : ℕ) → get_or seen f false ≡ true → list_any (is_in_file p (file_at p.files f)) rows ≡ true

module _ (p : Contents) (rows : List SelfRow) (i : ℕ) (row : SelfRow) (lt : i < length rows)
    (at : row ≡ get_or rows i row) where
  in_file_more : (name : List ℕ) → list_any (is_in_file p name) (take (i + 1) rows)
      ≡ (list_any (is_in_file p name) (take i rows) || bytes_eq (file_at p.files row.file) name)
  in_file_more name =
      list_any_more (is_in_file p name) rows i row lt
      ∙ ap (λ r. list_any (is_in_file p name) (take i rows) || is_in_file p name r) (sym at)

  -- the names so far, and the file of one more row
  pub name_added : (old new : BTreeSet (List ℕ)) → bytes_eq (file_at p.files row.file) unknown ≡ false
      → ((name : List ℕ) → contains text_order new name
      ≡ cond (is_at (text_order (file_at p.files row.file)) name) true (contains text_order old name))
      → ((name : List ℕ) → contains text_order old name
      ≡ (list_any (is_in_file p name) (take i rows) && not (bytes_eq name unknown)))
      → (name : List ℕ) → contains text_order new name
      ≡ (list_any (is_in_file p name) (take (i + 1) rows) && not (bytes_eq name unknown))
  name_added old new known added so_far name =
      let file = file_at p.files row.file in
      let a = list_any (is_in_file p name) (take i rows) in
      let c = bytes_eq name unknown in
      added name ∙ ap (λ b. cond b true (contains text_order old name)) (sym (texts_ties file name))
      ∙ ap (λ b. cond (bytes_eq file name) true b) (so_far name)
      ∙ with_known a (bytes_eq file name) c
      (λ e. ap (λ t. bytes_eq t unknown) (sym ((bytes_eq-Decides file name).0 e)) ∙ known)
      ∙ sym (ap (λ b. b && not c) (in_file_more name))

  pub name_passed : (names : BTreeSet (List ℕ)) → bytes_eq (file_at p.files row.file) unknown ≡ true
      → ((name : List ℕ) → contains text_order names name
      ≡ (list_any (is_in_file p name) (take i rows) && not (bytes_eq name unknown)))
      → (name : List ℕ) → contains text_order names name
      ≡ (list_any (is_in_file p name) (take (i + 1) rows) && not (bytes_eq name unknown))
  name_passed names passed so_far name =
      let file = file_at p.files row.file in
      let a = list_any (is_in_file p name) (take i rows) in
      let c = bytes_eq name unknown in
      so_far name
      ∙ with_unknown a (bytes_eq file name) c
      (λ e. ap (λ t. bytes_eq t unknown) (sym ((bytes_eq-Decides file name).0 e)) ∙ passed)
      ∙ sym (ap (λ b. b && not c) (in_file_more name))

  -- the file of one more row has been seen
  pub name_seen : (names : BTreeSet (List ℕ))
      → list_any (is_in_file p (file_at p.files row.file)) (take i rows) ≡ true
      → ((name : List ℕ) → contains text_order names name
      ≡ (list_any (is_in_file p name) (take i rows) && not (bytes_eq name unknown)))
      → (name : List ℕ) → contains text_order names name
      ≡ (list_any (is_in_file p name) (take (i + 1) rows) && not (bytes_eq name unknown))
  name_seen names seen so_far name =
      let file = file_at p.files row.file in
      let a = list_any (is_in_file p name) (take i rows) in
      let c = bytes_eq name unknown in
      so_far name
      ∙ with_seen a (bytes_eq file name) c
      (λ e. ap (λ t. list_any (is_in_file p t) (take i rows)) (sym ((bytes_eq-Decides file name).0 e)) ∙ seen)
      ∙ sym (ap (λ b. b && not c) (in_file_more name))

  pub still_seen : (seen : List Bool) → AreSeen p seen (take i rows) → AreSeen p seen (take (i + 1) rows)
  still_seen seen so_far f is =
      let file = file_at p.files f in
      in_file_more file ∙ ap (λ a. a || bytes_eq (file_at p.files row.file) file) (so_far f is)

  pub one_more_seen : (seen : List Bool) → AreSeen p seen (take i rows)
      → AreSeen p (set seen row.file true) (take (i + 1) rows)
  one_more_seen seen so_far f is = cases (cases_eq f row.file)
    where
      file : List ℕ
      file = file_at p.files f

      any : Bool
      any = list_any (is_in_file p file) (take i rows)

      or_true : (b : Bool) → (b || true) ≡ true
      or_true true = refl
      or_true false = refl

      cases : (f ≡ row.file) ⊎ (f ≢ row.file) → list_any (is_in_file p file) (take (i + 1) rows) ≡ true
      cases (inl e) =
          let here : bytes_eq (file_at p.files row.file) file ≡ true =
          (bytes_eq-Decides (file_at p.files row.file) file).1 (ap (file_at p.files) (sym e)) in
          in_file_more file ∙ ap (λ b. any || b) here ∙ or_true any
      cases (inr differ) =
          still_seen seen so_far f (sym (get_or-set_other seen row.file f true false differ) ∙ is)
