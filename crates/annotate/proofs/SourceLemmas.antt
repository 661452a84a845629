-- The self rows of a file by their lines.
use Rattle.std.proofs.Common.{◌≡◌, ℕ, ◌+◌, ◌<◌, ◌≤◌, ◌==◌, ◌&&◌, nat_le, Bool, true, false, cond, List, [], ◌∷◌, ◌++◌}
use Rattle.std.proofs.Common.{length}
use Rattle.std.proofs.Common.{get_or, map, flat_map, sum_by, All, Vec, refl, ap, sym, subst, ◌∙◌, arith, codes, decimal}
use Rattle.std.specs.Prelude.{fold, max, not, IfSome}
use Rattle.std.specs.List.{filter, list_any}
use Rattle.std.specs.Option.{is_some}
use Rattle.std.specs.declared.alloc.Global.{Global}
use Rattle.std.proofs.Math.Nat.{le-max_left, le-max_right}
use Rattle.std.proofs.lemmas.Bool.Decides.{nat_tests}
use Rattle.std.proofs.lemmas.List.{get_or_default}
use Rattle.std.proofs.lemmas.List.Elements.{All-cons, All-filter, All-map}
use Rattle.cg_read.specs.Profiles.{Contents, IsProfile}
use Rattle.cg_read.specs.declared.rows.SelfRow.{SelfRow}
use Rattle.cycles.specs.Limits.{AreAllWithin, of_total}
use Rattle.annotate.specs.Files.{is_in_file}
use Rattle.annotate.specs.Names.{costs_text}
use Rattle.report_rows.specs.Lists.{each_event}
use Rattle.report_rows.specs.Orders.{numbers}
use Rattle.annotate.specs.Sources.{has_cost, line_cost, line_costs_text, lines_end, lines_text}
use Rattle.annotate.specs.Sources.{others_text, shown_byte, text_line}
use Rattle.annotate.specs.Sources as src
use Rattle.report_rows.specs.Entries.{AreAtPlaces, AreWithin, EntryValue, Places, cost_of, costs_of, if_any, is_at, entry_values}
use Rattle.report_rows.specs.Entries.{values_at, self_entry}
use Rattle.annotate.specs.inner.SourceRows.{costs_or_dot, is_outside, other_with}
use Rattle.report_rows.specs.declared.entries.By.TheVariants as by
use Rattle.report_rows.specs.declared.entries.Entry.{Entry}
use Rattle.annotate.proofs.CallLemmas.{any_of_filter, any_of_map, cond_and}
use Rattle.report_rows.proofs.ListLemmas.{flat_map_agree, map_agree, sum_agree_on, sum_of_filter, sum_of_map}
use Rattle.annotate.proofs.PlaceLemmas.{is_some-if_any, place_texts, said_there}
use Rattle.report_rows.proofs.RowLemmas.{no_sum, sum_part}

abbrev higher : ℕ → SelfRow → ℕ
higher end row = max end (row.line + 1)

fold_up : (rows : List SelfRow) (a : ℕ) → a ≤ fold higher a rows
fold_up [] a = omega arith
fold_up (row ∷ rows) a =
    let rest = fold_up rows (max a (row.line + 1)) in
    let here = le-max_left a (row.line + 1) in
    omega (arith, rest, here)

lines_below : (rows : List SelfRow) (a : ℕ) → All (λ row. row.line < fold higher a rows) rows
lines_below [] a = λ k d lt. absurd (omega arith)
lines_below (row ∷ rows) a =
    All-cons (λ r. r.line < fold higher a (row ∷ rows)) row rows
    (let up = fold_up rows (max a (row.line + 1)) in
    let here = le-max_right a (row.line + 1) in
    omega (arith, up, here))
    (lines_below rows (max a (row.line + 1)))

flat_map_filter : {X : Type 0} (f : X → List ℕ) (q : X → Bool) (xs : List X)
    → flat_map f (filter q xs) ≡ flat_map (λ x. cond (q x) (f x) []) xs
flat_map_filter f q [] = refl
flat_map_filter f q (x ∷ xs) = cases (q x) (flat_map_filter f q xs)
  where
    cases : (b : Bool) → flat_map f (filter q xs) ≡ flat_map (λ y. cond (q y) (f y) []) xs
        → flat_map f (cond b (x ∷ filter q xs) (filter q xs))
        ≡ cond b (f x) [] ++ flat_map (λ y. cond (q y) (f y) []) xs
    cases true rest = ap (λ t. f x ++ t) rest
    cases false rest = rest

text_and : (a b : Bool) (t : List ℕ) → cond a (cond b t []) [] ≡ cond (a && b) t []
text_and true b t = refl
text_and false b t = refl

outside_is : (count line : ℕ) → is_outside count line ≡ not (nat_le 1 line && nat_le line count)
outside_is count line = grind (arith, nat_tests)

pub if_any_all : (P : List EntryValue → Type 0) (xs : List EntryValue) → P xs → IfSome (if_any xs) P
if_any_all P [] all = tt
if_any_all P (x ∷ xs) all = all

module _ (p : Contents) (profile : IsProfile p) (name : List ℕ) where
  abbrev rows : List SelfRow
  rows = filter (is_in_file p name) p.self_rows

  abbrev ks : List EntryValue
  ks = map (self_entry by.File) (filter (is_in_file p name) p.self_rows)

  sum_there : (F : EntryValue → ℕ) (n : ℕ) → sum_by F (filter (is_at n) ks)
      ≡ sum_by (λ row. cond (src.is_at p name n row) (F (self_entry by.File row)) 0) p.self_rows
  sum_there F n =
      sum_of_filter F (is_at n) ks
      ∙ sum_of_map (λ k. cond (is_at n k) (F k) 0) (self_entry by.File) rows
      ∙ sum_of_filter (λ row. cond (row.line == n) (F (self_entry by.File row)) 0) (is_in_file p name) p.self_rows
      ∙ sum_agree_on (λ row. cond (is_in_file p name row) (cond (row.line == n) (F (self_entry by.File row)) 0) 0)
      (λ row. cond (src.is_at p name n row) (F (self_entry by.File row)) 0) p.self_rows
      (λ i d lt. let row = get_or p.self_rows i d in
      cond_and (is_in_file p name row) (row.line == n) (F (self_entry by.File row)))

  cost_there : (n event : ℕ) → cost_of (filter (is_at n) ks) event ≡ line_cost p name n event
  cost_there n event = sum_there (λ k. get_or k.cost event 0) n

  any_there : (n : ℕ) → list_any (is_at n) ks ≡ has_cost p name n
  any_there n =
      any_of_map (self_entry by.File) (is_at n) rows
      ∙ any_of_filter (is_in_file p name) (λ row. row.line == n) p.self_rows

  wide : All (λ k. length k.cost ≡ length p.events) ks
  wide =
      All-map (λ k. length k.cost ≡ length p.events) (self_entry by.File) rows
      (All-filter (is_in_file p name) (λ row. length row.cost ≡ length p.events) p.self_rows
      (λ i d lt. (profile.self_rows_fit i d lt).cost))

  at_below : All (λ k. k.at < lines_end p) ks
  at_below =
      All-map (λ k. k.at < lines_end p) (self_entry by.File) rows
      (All-filter (is_in_file p name) (λ row. row.line < lines_end p) p.self_rows (lines_below p.self_rows 0))

  -- the rows of a line
  pub line_within : AreAllWithin p → (n : ℕ) → AreWithin (length p.events) (filter (is_at n) ks)
  line_within within n = record {
    width = All-filter (is_at n) (λ k. length k.cost ≡ length p.events) ks wide;
    cost = λ event lt. omega (
      arith,
      cost_there n event,
      sum_part (src.is_at p name n) (λ row. get_or row.cost event 0) p.self_rows,
      within event _ (of_total event lt),
    );
    calls = omega (
      arith,
      sum_there (λ k. k.calls) n,
      sum_part (src.is_at p name n) (λ row. 0) p.self_rows,
      no_sum p.self_rows,
    );
  }

  costs_there : (n : ℕ) → costs_of (length p.events) (filter (is_at n) ks) ≡ each_event p (line_cost p name n)
  costs_there n =
      map_agree (cost_of (filter (is_at n) ks)) (line_cost p name n) (numbers (length p.events))
      (λ k d lt. cost_there n (get_or (numbers (length p.events)) k d))

  dot_there : (n : ℕ) → costs_or_dot (length p.events) (if_any (filter (is_at n) ks))
      ≡ cond (has_cost p name n) (line_costs_text p name n) (codes ".")
  dot_there n =
      cases (filter (is_at n) ks)
      ∙ ap (λ b. cond b (costs_text (costs_of (length p.events) (filter (is_at n) ks))) (codes "."))
      (is_some-if_any ks n ∙ any_there n)
      ∙ ap (λ t. cond (has_cost p name n) (costs_text t) (codes ".")) (costs_there n)
    where
      cases : (xs : List EntryValue) → costs_or_dot (length p.events) (if_any xs)
          ≡ cond (is_some (if_any xs)) (costs_text (costs_of (length p.events) xs)) (codes ".")
      cases [] = refl
      cases (x ∷ xs) = refl

  module _ (places : Places) (stands : AreAtPlaces ks places) where
    pub entries_within : AreAllWithin p
        → All (λ (e : ℕ × Vec Entry Global). AreWithin (length p.events) (entry_values e.1.items)) places.entries
    entries_within within i d lt =
        let e = get_or places.entries i d in
        subst (AreWithin (length p.events))
        (sym (said_there ks places stands (lines_end p) at_below i e lt (get_or_default places.entries i d e lt)))
        (line_within within e.0)

    -- the lines of a text
    pub lines_there : (lines : List (List ℕ))
        → flat_map (λ i. costs_or_dot (length p.events) (values_at places (i + 1)) ++ codes " | "
        ++ map shown_byte (get_or lines i []) ++ codes "\n") (numbers (length lines)) ≡ lines_text p name lines
    lines_there lines =
        flat_map_agree (λ i. costs_or_dot (length p.events) (values_at places (i + 1)) ++ codes " | "
        ++ map shown_byte (get_or lines i []) ++ codes "\n") (λ i. text_line p name (i + 1) (get_or lines i []))
        (numbers (length lines))
        (λ k d lt. let i = get_or (numbers (length lines)) k d in
        ap (λ t. t ++ codes " | " ++ map shown_byte (get_or lines i []) ++ codes "\n")
        (ap (costs_or_dot (length p.events)) (stands.exact (i + 1)) ∙ dot_there (i + 1)))

    other_is : (count m : ℕ)
        → cond (list_any (is_at m) ks) (cond (is_outside count m)
        (other_with (length p.events) m (filter (is_at m) ks)) []) []
        ≡ cond (has_cost p name m && not (nat_le 1 m && nat_le m count))
        (line_costs_text p name m ++ codes " | <line " ++ decimal m ++ codes ">\n") []
    other_is count m =
        let text = other_with (length p.events) m (filter (is_at m) ks) in
        ap (λ b. cond b (cond (is_outside count m) text []) []) (any_there m)
        ∙ text_and (has_cost p name m) (is_outside count m) text
        ∙ ap (λ b. cond (has_cost p name m && b) text []) (outside_is count m)
        ∙ ap (λ cs. cond (has_cost p name m && not (nat_le 1 m && nat_le m count))
        (costs_text cs ++ codes " | <line " ++ decimal m ++ codes ">\n") [])
        (costs_there m)

    -- the lines that it doesn't have
    pub others_there : (count : ℕ)
        → flat_map (λ (e : ℕ × Vec Entry Global). other_with (length p.events) e.0 (entry_values e.1.items))
        (filter (λ (e : ℕ × Vec Entry Global). is_outside count e.0) places.entries)
        ≡ others_text p name count
    others_there count =
        let g : ℕ → List EntryValue → List ℕ = λ m xs. cond (is_outside count m) (other_with (length p.events) m xs) [] in
        let is_other : ℕ → Bool = λ m. has_cost p name m && not (nat_le 1 m && nat_le m count) in
        let line : ℕ → List ℕ = λ m. line_costs_text p name m ++ codes " | <line " ++ decimal m ++ codes ">\n" in
        flat_map_filter (λ (e : ℕ × Vec Entry Global). other_with (length p.events) e.0 (entry_values e.1.items))
        (λ (e : ℕ × Vec Entry Global). is_outside count e.0) places.entries
        ∙ place_texts ks places stands (lines_end p) at_below g
        ∙ flat_map_filter (λ m. g m (filter (is_at m) ks)) (λ m. list_any (is_at m) ks) (numbers (lines_end p))
        ∙ flat_map_agree (λ m. cond (list_any (is_at m) ks) (g m (filter (is_at m) ks)) [])
        (λ m. cond (is_other m) (line m) []) (numbers (lines_end p))
        (λ k d lt. other_is count (get_or (numbers (lines_end p)) k d))
        ∙ sym (flat_map_filter line is_other (numbers (lines_end p)))
