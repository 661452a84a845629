-- A profile of rows in place of one of other rows with equal sums: its functions and files, under the same numbers.
use Rattle.std.proofs.Common.{◌≡◌, ◌≢◌, ℕ, zero, suc, ◌<◌, ◌≤◌, Bool, true, false}
use Rattle.std.proofs.Common.{not, ◌&&◌, ◌||◌, nat_lt, List, [], ◌∷◌}
use Rattle.std.proofs.Common.{get_or, length, map, flat_map, take, Option, None, Some, refl, sym, ap, subst, ◌∙◌}
use Rattle.std.proofs.Common.{arith, if◌then◌else◌, sum_by}
use Rattle.std.specs.List.{AllByRecursion, AllPairs, list_any, position_or_len}
use Rattle.std.specs.Str.{bytes_eq}
use Rattle.std.proofs.lemmas.Bool.{lt-ltb, ltb-true, and_from, and_parts}
use Rattle.std.proofs.lemmas.Bool.Decides.{nat_tests}
use Rattle.std.proofs.lemmas.List.{get_or-take, get_or_past}
use Rattle.std.proofs.lemmas.List.Elements.{All-from_recursion, recursion_from_All}
use Rattle.std.proofs.lemmas.List.Folds.{list_any-append}
use Rattle.std.proofs.lemmas.List.Sums.{position_or_len_is}
use Rattle.std.proofs.lemmas.Slice.Eq.{bytes_eq-Decides}
use Rattle.event_costs.specs.Costs.{IsWhole, events_shown}
use Rattle.event_costs.specs.Keys.{ArcKey, Place}
use Rattle.sym_map.specs.SymbolMap.{SymbolMap}
use Rattle.arc_costs.specs.Contents.{Listed}
use Rattle.arc_costs.specs.Rows.{ArcRow, LineRow}
use Rattle.cg_format.specs.declared.head.PartHead.{PartHead}
use Rattle.cg_read.specs.Profiles.{Contents, FitsCall, FitsSelf, IsProfile, NamedCall, NamedSelf, file_at, files_of}
use Rattle.cg_read.specs.Profiles.{function_at, functions_of, has_function, has_text, named_call, named_self}
use Rattle.cg_read.specs.Profiles.{named_call_rows, named_self_rows, same_function, unknown, unknown_function}
use Rattle.cg_read.specs.declared.rows.CallRow.{CallRow}
use Rattle.cg_read.specs.declared.rows.FuncKey.{FuncKey}
use Rattle.cg_read.specs.declared.rows.SelfRow.{SelfRow}
pub use Rattle.cg_read.proofs.MergeLemmas.{functions_decide}
pub use Rattle.annotate.proofs.CallLemmas.{any_of_map}
use Rattle.once_each.specs.Profiles.{Numbering, call_row, self_row}
use Rattle.once_each.specs.Texts.{Naming, named_arc, named_line, numbers_in}
pub use Rattle.report_laws.proofs.Others.{each_weaker, functions_eq, texts_are}
use Rattle.report_laws.proofs.Others.{sum_by-map, sum_by-none, sum_by-same, shown_length}
use Rattle.reads_back.specs.Rows.{IsOfRows, arcs_read, lines_read, naming}
use Rattle.report_laws.specs.Sums.{HaveEqualSums, StandsFor}
use Rattle.report_laws.proofs.RowLemmas.{arcs_any, arcs_where, lines_any, lines_where}
use Rattle.report_laws.proofs.TextLemmas.{SumAlike, files_same, with_rows}
use Rattle.report_laws.proofs.GroupLemmas.{report_over, within_over}

-- ---- numbers that are read again

-- the place of an element of a list whose elements differ
module _ {K : Type 0} (same : K → K → Bool) (one : (k l : K) → same k l ≡ true → k ≡ l)
    (itself : (k : K) → same k k ≡ true) where
  place_again : (ks : List K) (i : ℕ) (d : K) → AllPairs (λ x y. x ≢ y) ks → i < length ks
      → i ≡ position_or_len (same (get_or ks i d)) ks
  place_again ks i d apart within =
      sym (position_or_len_is (same (get_or ks i d)) ks i d (omega (arith, within)) before
      (λ _. itself (get_or ks i d)))
    where
      before : (j : ℕ) → j < i → same (get_or ks i d) (get_or ks j d) ≡ false
      before j less = by (same (get_or ks i d) (get_or ks j d)) refl
        where
          by : (b : Bool) → same (get_or ks i d) (get_or ks j d) ≡ b → b ≡ false
          by false so = refl
          by true so = absurd (apart j i d less within (sym (one (get_or ks i d) (get_or ks j d) so)))

itself_text : (t : List ℕ) → bytes_eq t t ≡ true
itself_text t = (bytes_eq-Decides t t).1 refl

itself_function : (f : FuncKey) → same_function f f ≡ true
itself_function f = (functions_decide f f).1 refl

module _ (q : Contents) (profile : IsProfile q) where
  -- a row by the numbers of its texts
  abbrev pub number_self : NamedSelf → SelfRow
  number_self row = record {
    func = position_or_len (same_function row.function) q.functions;
    file = position_or_len (bytes_eq row.file) q.files;
    line = row.line;
    cost = row.cost;
  }

  abbrev pub number_call : NamedCall → CallRow
  number_call row = record {
    caller = position_or_len (same_function row.caller) q.functions;
    file = position_or_len (bytes_eq row.file) q.files;
    line = row.line;
    callee = position_or_len (same_function row.callee) q.functions;
    calls = row.calls;
    cost = row.cost;
  }

  pub func_again : (f : ℕ) → f < length q.functions
      → f ≡ position_or_len (same_function (function_at q.functions f)) q.functions
  func_again f within =
      place_again same_function functions_eq itself_function q.functions f unknown_function profile.functions_differ
      within

  pub file_again : (f : ℕ) → f < length q.files → f ≡ position_or_len (bytes_eq (file_at q.files f)) q.files
  file_again f within =
      place_again bytes_eq texts_are itself_text q.files f unknown profile.files_differ within

  pub selfs_again : (rows : List SelfRow)
      → AllByRecursion (FitsSelf (length q.events) (length q.functions) (length q.files)) rows
      → rows ≡ map number_self (map (named_self q.functions q.files) rows)
  selfs_again [] fit = refl
  selfs_again (row ∷ rows) fit = λ i. record {
    func = func_again row.func fit.0.function i;
    file = file_again row.file fit.0.file i;
    line = row.line;
    cost = row.cost;
  } ∷ selfs_again rows fit.1 i

  pub calls_again : (rows : List CallRow)
      → AllByRecursion (FitsCall (length q.events) (length q.functions) (length q.files)) rows
      → rows ≡ map number_call (map (named_call q.functions q.files) rows)
  calls_again [] fit = refl
  calls_again (row ∷ rows) fit = λ i. record {
    caller = func_again row.caller fit.0.caller i;
    file = file_again row.file fit.0.file i;
    line = row.line;
    callee = func_again row.callee fit.0.callee i;
    calls = row.calls;
    cost = row.cost;
  } ∷ calls_again rows fit.1 i

  selfs_numbered : (names : Naming) (lines : List LineRow)
      → map number_self (map (named_line names) lines) ≡ map (self_row (numbers_in q names)) lines
  selfs_numbered names [] = refl
  selfs_numbered names (row ∷ lines) =
      ap (λ rows. self_row (numbers_in q names) row ∷ rows) (selfs_numbered names lines)

  calls_numbered : (names : Naming) (arcs : List ArcRow)
      → map number_call (map (named_arc names) arcs) ≡ map (call_row (numbers_in q names)) arcs
  calls_numbered names [] = refl
  calls_numbered names (row ∷ arcs) =
      ap (λ rows. call_row (numbers_in q names) row ∷ rows) (calls_numbered names arcs)

-- rows with the texts of others have the numbers of these texts
module _ (q : Contents) (profile : IsProfile q) (names : Naming) where
  pub selfs_are : (lines : List LineRow) → named_self_rows q ≡ map (named_line names) lines
      → q.self_rows ≡ map (self_row (numbers_in q names)) lines
  selfs_are lines is =
      selfs_again q profile q.self_rows (recursion_from_All _ q.self_rows profile.self_rows_fit)
      ∙ ap (map (number_self q profile)) is ∙ selfs_numbered q profile names lines

  pub calls_are : (arcs : List ArcRow) → named_call_rows q ≡ map (named_arc names) arcs
      → q.call_rows ≡ map (call_row (numbers_in q names)) arcs
  calls_are arcs is =
      calls_again q profile q.call_rows (recursion_from_All _ q.call_rows profile.call_rows_fit)
      ∙ ap (map (number_call q profile)) is ∙ calls_numbered q profile names arcs

-- ---- what is shown of costs

module _ {X : Type 0} (cost : X → List ℕ) (passes : X → Bool) where
  abbrev sum_of : ℕ → List X → ℕ
  sum_of event xs = sum_by (λ x. if passes x then get_or (cost x) event 0 else 0) xs

  abbrev shown_of : Bool → ℕ → List X → ℕ
  shown_of branches event xs =
      sum_by (λ x. if passes x then get_or (events_shown branches (cost x)) event 0 else 0) xs

  within_nine : (event : ℕ) (xs : List X) → event < 9 → shown_of false event xs ≡ sum_of event xs
  within_nine event xs within =
      sum_by-same (λ x. if passes x then get_or (take 9 (cost x)) event 0 else 0)
      (λ x. if passes x then get_or (cost x) event 0 else 0)
      (λ x. ap (λ n. if passes x then n else 0) (get_or-take 9 (cost x) event 0 within)) xs

  past_nine : (event : ℕ) (xs : List X) → 9 ≤ event → shown_of false event xs ≡ 0
  past_nine event xs past =
      sum_by-same (λ x. if passes x then get_or (take 9 (cost x)) event 0 else 0) (λ x. 0)
      (λ x. ap (λ n. if passes x then n else 0)
      (get_or_past (take 9 (cost x)) event 0 (let few = take_few 9 (cost x) in omega (arith, few, past)))
      ∙ zero_both (passes x)) xs
      ∙ sum_by-none xs
    where
      take_few : (n : ℕ) (ns : List ℕ) → length (take n ns) ≤ n
      take_few zero ns = omega arith
      take_few (suc n) [] = omega arith
      take_few (suc n) (m ∷ ns) = let rest = take_few n ns in omega (arith, rest)

      zero_both : (b : Bool) → ◌≡◌ {A = ℕ} (if b then 0 else 0) 0
      zero_both true = refl
      zero_both false = refl

  shown_same : (branches : Bool) (event : ℕ) (xs ys : List X) → ((e : ℕ) → sum_of e xs ≡ sum_of e ys)
      → shown_of branches event xs ≡ shown_of branches event ys
  shown_same true event xs ys equal = equal event
  shown_same false event xs ys equal = by (nat_lt event 9) refl
    where
      by : (b : Bool) → nat_lt event 9 ≡ b → shown_of false event xs ≡ shown_of false event ys
      by true is =
          let within = ltb-true event 9 is in
          within_nine event xs within ∙ equal event ∙ sym (within_nine event ys within)
      by false is =
          let past : 9 ≤ event = grind (arith, nat_tests) in past_nine event xs past ∙ sym (past_nine event ys past)

-- ---- lists

mapped : {X Y : Type 0} (P : Y → Type 0) (f : X → Y) (xs : List X) → AllByRecursion (λ x. P (f x)) xs
    → AllByRecursion P (map f xs)
mapped P f [] all = tt
mapped P f (x ∷ xs) all = (all.0, mapped P f xs all.1)

map_each : {X Y : Type 0} (f g : X → Y) (xs : List X) → AllByRecursion (λ x. f x ≡ g x) xs → map f xs ≡ map g xs
map_each f g [] all = refl
map_each f g (x ∷ xs) all = λ i. all.0 i ∷ map_each f g xs all.1 i

unmapped : {X Y : Type 0} (P : Y → Type 0) (f : X → Y) (xs : List X) → AllByRecursion P (map f xs)
    → AllByRecursion (λ x. P (f x)) xs
unmapped P f [] all = tt
unmapped P f (x ∷ xs) all = (all.0, unmapped P f xs all.1)

map_twice : {X Y Z : Type 0} (f : Y → Z) (g : X → Y) (xs : List X) → map f (map g xs) ≡ map (λ x. f (g x)) xs
map_twice f g [] = refl
map_twice f g (x ∷ xs) = ap (λ zs. f (g x) ∷ zs) (map_twice f g xs)

both_each : {X : Type 0} (P Q R : X → Type 0) → ((x : X) → P x → Q x → R x) → (xs : List X) → AllByRecursion P xs
    → AllByRecursion Q xs → AllByRecursion R xs
both_each P Q R f [] all more = tt
both_each P Q R f (x ∷ xs) all more = (f x all.0 more.0, both_each P Q R f xs all.1 more.1)

each_alike : {X Y : Type 0} (f g : X → Y) (xs : List X) → map f xs ≡ map g xs → AllByRecursion (λ x. f x ≡ g x) xs
each_alike f g [] is = tt
each_alike f g (x ∷ xs) is = (cc, each_alike f g xs (cc))

every : {X : Type 0} (test : X → Bool) (xs : List X) → list_any (λ x. not (test x)) xs ≡ false
    → AllByRecursion (λ x. test x ≡ true) xs
every test [] none = tt
every test (x ∷ xs) none = by (test x) refl none (every test xs)
  where
    by : (b : Bool) → test x ≡ b → (not b || list_any (λ y. not (test y)) xs) ≡ false
        → (list_any (λ y. not (test y)) xs ≡ false → AllByRecursion (λ y. test y ≡ true) xs)
        → (test x ≡ true) × AllByRecursion (λ y. test y ≡ true) xs
    by true is none later = (is, later none)
    by false is none later = absurd (cc)

none_fails : {X : Type 0} (test : X → Bool) (xs : List X) → AllByRecursion (λ x. test x ≡ true) xs
    → list_any (λ x. not (test x)) xs ≡ false
none_fails test [] all = refl
none_fails test (x ∷ xs) all =
    ap (λ b. not b || list_any (λ y. not (test y)) xs) all.0 ∙ none_fails test xs all.1

any_of_pairs : {X Y : Type 0} (f g : X → Y) (test : Y → Bool) (xs : List X)
    → list_any test (flat_map (λ x. f x ∷ g x ∷ []) xs) ≡ list_any (λ x. test (f x) || test (g x)) xs
any_of_pairs f g test [] = refl
any_of_pairs f g test (x ∷ xs) =
    ap (λ b. test (f x) || (test (g x) || b)) (any_of_pairs f g test xs) ∙ or_again (test (f x))
  where
    or_again : (a : Bool) → (a || (test (g x) || list_any (λ y. test (f y) || test (g y)) xs))
        ≡ ((a || test (g x)) || list_any (λ y. test (f y) || test (g y)) xs)
    or_again true = refl
    or_again false = refl

-- ---- the profile

module _ (head : PartHead) (command : Option (List ℕ)) (rows others : Listed) (m : SymbolMap) (q : Contents)
    (equal : HaveEqualSums rows others) (profile : IsProfile q) (of : IsOfRows head command others m q) where
  abbrev names : Naming
  names = naming head m

  abbrev n : Numbering
  n = numbers_in q names

  abbrev selfs : List SelfRow
  selfs = map (self_row n) rows.lines

  abbrev calls : List CallRow
  calls = map (call_row n) rows.arcs

  abbrev p : Contents
  p = with_rows q selfs calls

  others_selfs : q.self_rows ≡ map (self_row n) others.lines
  others_selfs = selfs_are q profile names others.lines of.self_rows

  others_calls : q.call_rows ≡ map (call_row n) others.arcs
  others_calls = calls_are q profile names others.arcs of.call_rows

  -- ---- sums

  abbrev at_self : (ℕ → ℕ → ℕ → Bool) → SelfRow → Bool
  at_self test r = test r.func r.file r.line

  abbrev at_place : (ℕ → ℕ → ℕ → Bool) → Place → Bool
  at_place test place = test (n.func place.func.0) (n.file place.file.0) place.line

  abbrev at_call : (ℕ → ℕ → Bool) → CallRow → Bool
  at_call test r = test r.caller r.callee

  abbrev at_arc : (ℕ → ℕ → Bool) → ArcKey → Bool
  at_arc test arc = test (n.func arc.caller.0) (n.func arc.callee.0)

  self_any : (test : ℕ → ℕ → ℕ → Bool) → list_any (at_self test) selfs ≡ list_any (at_self test) q.self_rows
  self_any test =
      any_of_map (self_row n) (at_self test) rows.lines ∙ lines_any rows others equal (at_place test)
      ∙ sym (any_of_map (self_row n) (at_self test) others.lines)
      ∙ ap (list_any (at_self test)) (sym others_selfs)

  abbrev self_number : (ℕ → ℕ → ℕ → Bool) → ℕ → SelfRow → ℕ
  self_number test event r = if at_self test r then get_or r.cost event 0 else 0

  self_sum : (test : ℕ → ℕ → ℕ → Bool) (event : ℕ)
      → sum_by (self_number test event) selfs ≡ sum_by (self_number test event) q.self_rows
  self_sum test event =
      sum_by-map (self_number test event) (self_row n) rows.lines
      ∙ shown_same (λ (row : LineRow). row.cost) (λ row. at_place test row.place) head.branch event rows.lines
      others.lines (λ e. lines_where rows others equal e (at_place test))
      ∙ sym (sum_by-map (self_number test event) (self_row n) others.lines)
      ∙ ap (sum_by (self_number test event)) (sym others_selfs)

  call_any : (test : ℕ → ℕ → Bool) → list_any (at_call test) calls ≡ list_any (at_call test) q.call_rows
  call_any test =
      any_of_map (call_row n) (at_call test) rows.arcs ∙ arcs_any rows others equal (at_arc test)
      ∙ sym (any_of_map (call_row n) (at_call test) others.arcs) ∙ ap (list_any (at_call test)) (sym others_calls)

  abbrev call_number : (ℕ → ℕ → Bool) → ℕ → CallRow → ℕ
  call_number test event r = if at_call test r then get_or r.cost event 0 else 0

  call_sum : (test : ℕ → ℕ → Bool) (event : ℕ)
      → sum_by (call_number test event) calls ≡ sum_by (call_number test event) q.call_rows
  call_sum test event =
      sum_by-map (call_number test event) (call_row n) rows.arcs
      ∙ shown_same (λ (row : ArcRow). row.cost) (λ row. at_arc test row.arc) head.branch event rows.arcs others.arcs
      (λ e. arcs_where rows others equal (Some e) (at_arc test))
      ∙ sym (sum_by-map (call_number test event) (call_row n) others.arcs)
      ∙ ap (sum_by (call_number test event)) (sym others_calls)

  abbrev times : (ℕ → ℕ → Bool) → CallRow → ℕ
  times test r = if at_call test r then r.calls else 0

  calls_sum : (test : ℕ → ℕ → Bool) → sum_by (times test) calls ≡ sum_by (times test) q.call_rows
  calls_sum test =
      sum_by-map (times test) (call_row n) rows.arcs ∙ arcs_where rows others equal None (at_arc test)
      ∙ sym (sum_by-map (times test) (call_row n) others.arcs) ∙ ap (sum_by (times test)) (sym others_calls)

  alike : SumAlike q selfs calls
  alike = record {
    self_any = self_any;
    self_sum = self_sum;
    call_any = call_any;
    call_sum = call_sum;
    calls_sum = calls_sum;
  }

  -- ---- its rows

  every_line : (test : Place → Bool) → AllByRecursion (λ (row : LineRow). test row.place ≡ true) others.lines
      → AllByRecursion (λ (row : LineRow). test row.place ≡ true) rows.lines
  every_line test all =
      every (λ (row : LineRow). test row.place) rows.lines
      (lines_any rows others equal (λ place. not (test place))
      ∙ none_fails (λ (row : LineRow). test row.place) others.lines all)

  every_arc : (test : ArcKey → Bool) → AllByRecursion (λ (row : ArcRow). test row.arc ≡ true) others.arcs
      → AllByRecursion (λ (row : ArcRow). test row.arc ≡ true) rows.arcs
  every_arc test all =
      every (λ (row : ArcRow). test row.arc) rows.arcs
      (arcs_any rows others equal (λ arc. not (test arc))
      ∙ none_fails (λ (row : ArcRow). test row.arc) others.arcs all)

  -- the number of a function or file is in range, and is that of its text
  has_func : ℕ → Bool
  has_func f =
      nat_lt (n.func f) (length q.functions) && same_function (function_at q.functions (n.func f)) (names.func f)

  has_file : ℕ → Bool
  has_file f = nat_lt (n.file f) (length q.files) && bytes_eq (file_at q.files (n.file f)) (names.file f)

  record FuncThere (f : ℕ) : Type 0 where
    within : n.func f < length q.functions
    text : function_at q.functions (n.func f) ≡ names.func f

  record FileThere (f : ℕ) : Type 0 where
    within : n.file f < length q.files
    text : file_at q.files (n.file f) ≡ names.file f

  func_is : (f : ℕ) → has_func f ≡ true → FuncThere f
  unfolding has_func
  func_is f there =
      let parts =
      and_parts (nat_lt (n.func f) (length q.functions))
      (same_function (function_at q.functions (n.func f)) (names.func f))
      there in
      record {
        within = ltb-true (n.func f) (length q.functions) parts.0;
        text = functions_eq (function_at q.functions (n.func f)) (names.func f) parts.1;
      }

  func_has : (f : ℕ) → FuncThere f → has_func f ≡ true
  unfolding has_func
  func_has f there =
      and_from (nat_lt (n.func f) (length q.functions))
      (same_function (function_at q.functions (n.func f)) (names.func f))
      (lt-ltb (n.func f) (length q.functions) there.within)
      ((functions_decide (function_at q.functions (n.func f)) (names.func f)).1 there.text)

  file_is : (f : ℕ) → has_file f ≡ true → FileThere f
  unfolding has_file
  file_is f there =
      let parts =
      and_parts (nat_lt (n.file f) (length q.files)) (bytes_eq (file_at q.files (n.file f)) (names.file f)) there in
      record {
        within = ltb-true (n.file f) (length q.files) parts.0;
        text = texts_are (file_at q.files (n.file f)) (names.file f) parts.1;
      }

  file_has : (f : ℕ) → FileThere f → has_file f ≡ true
  unfolding has_file
  file_has f there =
      and_from (nat_lt (n.file f) (length q.files)) (bytes_eq (file_at q.files (n.file f)) (names.file f))
      (lt-ltb (n.file f) (length q.files) there.within)
      ((bytes_eq-Decides (file_at q.files (n.file f)) (names.file f)).1 there.text)

  has_place : Place → Bool
  has_place place = has_func place.func.0 && has_file place.file.0

  has_arc : ArcKey → Bool
  has_arc arc = has_func arc.caller.0 && (has_file arc.file.0 && has_func arc.callee.0)

  abbrev IsPlaced : LineRow → Type 0
  IsPlaced row = has_place row.place ≡ true

  abbrev IsArced : ArcRow → Type 0
  IsArced row = has_arc row.arc ≡ true

  abbrev Fits : SelfRow → Type 0
  Fits = FitsSelf (length q.events) (length q.functions) (length q.files)

  abbrev FitsC : CallRow → Type 0
  FitsC = FitsCall (length q.events) (length q.functions) (length q.files)

  others_placed : AllByRecursion IsPlaced others.lines
  unfolding has_place
  others_placed =
      both_each (λ row. Fits (self_row n row))
      (λ row. named_self q.functions q.files (self_row n row) ≡ named_line names row) IsPlaced
      (λ row fit same. and_from (has_func row.place.func.0) (has_file row.place.file.0)
      (func_has row.place.func.0 (record { within = fit.function; text = ap (λ (x : NamedSelf). x.function) same }))
      (file_has row.place.file.0 (record { within = fit.file; text = ap (λ (x : NamedSelf). x.file) same })))
      others.lines
      (unmapped Fits (self_row n) others.lines
      (subst (AllByRecursion Fits) others_selfs (recursion_from_All Fits q.self_rows profile.self_rows_fit)))
      (each_alike (λ row. named_self q.functions q.files (self_row n row)) (named_line names) others.lines
      (sym (map_twice (named_self q.functions q.files) (self_row n) others.lines)
      ∙ ap (map (named_self q.functions q.files)) (sym others_selfs) ∙ of.self_rows))

  others_arced : AllByRecursion IsArced others.arcs
  unfolding has_arc
  others_arced =
      both_each (λ row. FitsC (call_row n row))
      (λ row. named_call q.functions q.files (call_row n row) ≡ named_arc names row) IsArced
      (λ row fit same. and_from (has_func row.arc.caller.0) (has_file row.arc.file.0 && has_func row.arc.callee.0)
      (func_has row.arc.caller.0 (record { within = fit.caller; text = ap (λ (x : NamedCall). x.caller) same }))
      (and_from (has_file row.arc.file.0) (has_func row.arc.callee.0)
      (file_has row.arc.file.0 (record { within = fit.file; text = ap (λ (x : NamedCall). x.file) same }))
      (func_has row.arc.callee.0 (record { within = fit.callee; text = ap (λ (x : NamedCall). x.callee) same }))))
      others.arcs
      (unmapped FitsC (call_row n) others.arcs
      (subst (AllByRecursion FitsC) others_calls (recursion_from_All FitsC q.call_rows profile.call_rows_fit)))
      (each_alike (λ row. named_call q.functions q.files (call_row n row)) (named_arc names) others.arcs
      (sym (map_twice (named_call q.functions q.files) (call_row n) others.arcs)
      ∙ ap (map (named_call q.functions q.files)) (sym others_calls) ∙ of.call_rows))

  record PlaceThere (place : Place) : Type 0 where
    func : FuncThere place.func.0
    file : FileThere place.file.0

  record ArcThere (arc : ArcKey) : Type 0 where
    caller : FuncThere arc.caller.0
    file : FileThere arc.file.0
    callee : FuncThere arc.callee.0

  place_is : (place : Place) → has_place place ≡ true → PlaceThere place
  unfolding has_place
  place_is place is =
      let parts = and_parts (has_func place.func.0) (has_file place.file.0) is in
      record { func = func_is place.func.0 parts.0; file = file_is place.file.0 parts.1 }

  arc_is : (arc : ArcKey) → has_arc arc ≡ true → ArcThere arc
  unfolding has_arc
  arc_is arc is =
      let parts = and_parts (has_func arc.caller.0) (has_file arc.file.0 && has_func arc.callee.0) is in
      let rest = and_parts (has_file arc.file.0) (has_func arc.callee.0) parts.1 in
      record {
        caller = func_is arc.caller.0 parts.0;
        file = file_is arc.file.0 rest.0;
        callee = func_is arc.callee.0 rest.1;
      }

  own_placed : AllByRecursion (λ (row : LineRow). PlaceThere row.place) rows.lines
  own_placed = each_weaker IsPlaced (λ (row : LineRow). PlaceThere row.place) (λ row is. place_is row.place is)
      rows.lines (every_line has_place others_placed)

  own_arced : AllByRecursion (λ (row : ArcRow). ArcThere row.arc) rows.arcs
  own_arced = each_weaker IsArced (λ (row : ArcRow). ArcThere row.arc) (λ row is. arc_is row.arc is)
      rows.arcs (every_arc has_arc others_arced)

  selfs_named : map (named_self q.functions q.files) selfs ≡ lines_read head m rows.lines
  selfs_named =
      map_twice (named_self q.functions q.files) (self_row n) rows.lines
      ∙ map_each (λ row. named_self q.functions q.files (self_row n row)) (named_line names) rows.lines
      (each_weaker (λ (row : LineRow). PlaceThere row.place)
      (λ row. named_self q.functions q.files (self_row n row) ≡ named_line names row)
      (λ row there i. record {
        function = there.func.text i;
        file = there.file.text i;
        line = row.place.line;
        cost = events_shown head.branch row.cost;
      }) rows.lines own_placed)

  calls_named : map (named_call q.functions q.files) calls ≡ arcs_read head m rows.arcs
  calls_named =
      map_twice (named_call q.functions q.files) (call_row n) rows.arcs
      ∙ map_each (λ row. named_call q.functions q.files (call_row n row)) (named_arc names) rows.arcs
      (each_weaker (λ (row : ArcRow). ArcThere row.arc)
      (λ row. named_call q.functions q.files (call_row n row) ≡ named_arc names row)
      (λ row there i. record {
        caller = there.caller.text i;
        file = there.file.text i;
        line = row.arc.line;
        callee = there.callee.text i;
        calls = row.calls;
        cost = events_shown head.branch row.cost;
      }) rows.arcs own_arced)

  wide : (cost : List ℕ) → IsWhole cost → length (events_shown head.branch cost) ≡ length q.events
  wide cost whole = shown_length head.branch cost whole ∙ ap length (sym of.events)

  selfs_fit : AllByRecursion Fits selfs
  selfs_fit =
      mapped Fits (self_row n) rows.lines
      (both_each (λ (row : LineRow). PlaceThere row.place) (λ (row : LineRow). IsWhole row.cost)
      (λ row. Fits (self_row n row))
      (λ row there whole. record {
        function = there.func.within;
        file = there.file.within;
        cost = wide row.cost whole;
      }) rows.lines own_placed (recursion_from_All (λ (row : LineRow). IsWhole row.cost) rows.lines equal.counted.whole.lines))

  calls_fit : AllByRecursion FitsC calls
  calls_fit =
      mapped FitsC (call_row n) rows.arcs
      (both_each (λ (row : ArcRow). ArcThere row.arc) (λ (row : ArcRow). IsWhole row.cost)
      (λ row. FitsC (call_row n row))
      (λ row there whole. record {
        caller = there.caller.within;
        callee = there.callee.within;
        file = there.file.within;
        cost = wide row.cost whole;
      }) rows.arcs own_arced (recursion_from_All (λ (row : ArcRow). IsWhole row.cost) rows.arcs equal.counted.whole.arcs))

  is_profile : IsProfile p
  is_profile = record {
    event_limit = profile.event_limit;
    events_differ = profile.events_differ;
    functions_differ = profile.functions_differ;
    files_differ = profile.files_differ;
    self_rows_fit = All-from_recursion Fits selfs selfs_fit;
    call_rows_fit = All-from_recursion FitsC calls calls_fit;
  }

  -- ---- its functions and files

  function_in : (lines : List LineRow) (arcs : List ArcRow) (f : FuncKey)
      → has_function (functions_of (lines_read head m lines) (arcs_read head m arcs)) f
      ≡ (list_any (λ (row : LineRow). same_function f (names.func row.place.func.0)) lines
      || list_any (λ (row : ArcRow). same_function f (names.func row.arc.caller.0)
      || same_function f (names.func row.arc.callee.0)) arcs)
  function_in lines arcs f =
      list_any-append (same_function f) (map (λ (r : NamedSelf). r.function) (lines_read head m lines))
      (flat_map (λ (r : NamedCall). r.caller ∷ r.callee ∷ []) (arcs_read head m arcs))
      ∙ (λ i. (any_of_map (λ (r : NamedSelf). r.function) (same_function f) (lines_read head m lines)
      ∙ any_of_map (named_line names) (λ (r : NamedSelf). same_function f r.function) lines) i
      || (any_of_pairs (λ (r : NamedCall). r.caller) (λ (r : NamedCall). r.callee) (same_function f)
      (arcs_read head m arcs)
      ∙ any_of_map (named_arc names) (λ (r : NamedCall). same_function f r.caller || same_function f r.callee) arcs) i)

  functions_same : (f : FuncKey) → has_function q.functions f
      ≡ has_function (functions_of (lines_read head m rows.lines) (arcs_read head m rows.arcs)) f
  functions_same f =
      of.functions f ∙ function_in others.lines others.arcs f
      ∙ sym (function_in rows.lines rows.arcs f
      ∙ (λ i. lines_any rows others equal (λ place. same_function f (names.func place.func.0)) i
      || arcs_any rows others equal
      (λ arc. same_function f (names.func arc.caller.0) || same_function f (names.func arc.callee.0)) i))

  file_in : (lines : List LineRow) (arcs : List ArcRow) (t : List ℕ)
      → has_text (files_of (lines_read head m lines) (arcs_read head m arcs)) t
      ≡ (list_any (λ (row : LineRow). bytes_eq t (names.file row.place.file.0)) lines
      || list_any (λ (row : ArcRow). bytes_eq t (names.file row.arc.file.0)) arcs)
  file_in lines arcs t =
      list_any-append (bytes_eq t) (map (λ (r : NamedSelf). r.file) (lines_read head m lines))
      (map (λ (r : NamedCall). r.file) (arcs_read head m arcs))
      ∙ (λ i. (any_of_map (λ (r : NamedSelf). r.file) (bytes_eq t) (lines_read head m lines)
      ∙ any_of_map (named_line names) (λ (r : NamedSelf). bytes_eq t r.file) lines) i
      || (any_of_map (λ (r : NamedCall). r.file) (bytes_eq t) (arcs_read head m arcs)
      ∙ any_of_map (named_arc names) (λ (r : NamedCall). bytes_eq t r.file) arcs) i)

  texts_same : (t : List ℕ) → has_text q.files t
      ≡ has_text (files_of (lines_read head m rows.lines) (arcs_read head m rows.arcs)) t
  texts_same t =
      of.files t ∙ file_in others.lines others.arcs t
      ∙ sym (file_in rows.lines rows.arcs t
      ∙ (λ i. lines_any rows others equal (λ place. bytes_eq t (names.file place.file.0)) i
      || arcs_any rows others equal (λ arc. bytes_eq t (names.file arc.file.0)) i))

  pub stands_for : StandsFor head command rows m q
  stands_for = record {
    profile = p;
    is = is_profile;
    of_rows = record {
      events = of.events;
      command_is = of.command_is;
      self_rows = selfs_named;
      call_rows = calls_named;
      functions = functions_same;
      files = texts_same;
    };
    events = refl;
    files = files_same q selfs calls alike;
    report = report_over q selfs calls alike;
    within = within_over q selfs calls alike;
  }
