-- There is a profile of any rows: its functions and files are those of the rows, each once.
use Rattle.std.proofs.Common.{◌≡◌, ℕ, suc, ◌+◌, ◌<◌, ◌≤◌, Bool, true, false, not, ◌||◌, cond, if◌then◌else◌}
use Rattle.std.proofs.Common.{List, [], ◌∷◌}
use Rattle.std.proofs.Common.{◌++◌, length, map, flat_map, get_or, Option, refl, sym, ap, ◌∙◌, subst, arith, All}
use Rattle.std.specs.Bool.{Decides}
use Rattle.std.specs.List.{AllByRecursion, IsDistinct, list_any, position_or_len}
use Rattle.std.specs.Str.{bytes_eq}
use Rattle.std.proofs.lemmas.List.Elements.{All-head, All-tail}
use Rattle.std.proofs.lemmas.List.Sums.{passes_at_first}
use Rattle.std.proofs.lemmas.Map.Made.{AllPairs-from_IsDistinct}
use Rattle.std.proofs.lemmas.Slice.Eq.{bytes_eq-Decides}
use Rattle.event_costs.specs.Costs.{IsWhole, event_names, events_shown}
use Rattle.arc_costs.specs.Contents.{Listed}
use Rattle.arc_costs.specs.Rows.{ArcRow, LineRow}
use Rattle.sym_map.specs.SymbolMap.{SymbolMap}
use Rattle.cg_format.specs.declared.head.PartHead.{PartHead}
use Rattle.cg_lines.specs.Names.{is_distinct}
use Rattle.cg_read.specs.Profiles.{Contents, FitsCall, FitsSelf, IsProfile, NamedCall, NamedSelf, contents, files_of}
use Rattle.cg_read.specs.Profiles.{functions_of, most_events, named_call, named_self, same_function, unknown}
use Rattle.cg_read.specs.Profiles.{unknown_function}
use Rattle.cg_read.specs.declared.rows.CallRow.{CallRow}
use Rattle.cg_read.specs.declared.rows.FuncKey.{FuncKey}
use Rattle.cg_read.specs.declared.rows.SelfRow.{SelfRow}
use Rattle.reads_back.proofs.Others.{each_weaker, functions_decide, apart_names, each_at}
use Rattle.reads_back.specs.Joined.{AreWhole, no_rows_of}
use Rattle.reads_back.specs.Rows.{IsOfRows, arcs_read, lines_read}
use Rattle.reads_back.proofs.CostLemmas.{shown_length}
use Rattle.std.proofs.lemmas.Bool.{or_right}

module _ {X : Type 0} (P : X → Type 0) where
  front_of : (xs ys : List X) → AllByRecursion P (xs ++ ys) → AllByRecursion P xs
  front_of [] ys all = tt
  front_of (x ∷ xs) ys all = (all.0, front_of xs ys all.1)

  rest_of : (xs ys : List X) → AllByRecursion P (xs ++ ys) → AllByRecursion P ys
  rest_of [] ys all = all
  rest_of (x ∷ xs) ys all = rest_of xs ys all.1

  of_mapped : {Y : Type 0} (f : Y → X) (ys : List Y) → AllByRecursion P (map f ys)
      → AllByRecursion (λ y. P (f y)) ys
  of_mapped f [] all = tt
  of_mapped f (y ∷ ys) all = (all.0, of_mapped f ys all.1)

  of_pairs : {Y : Type 0} (f g : Y → X) (ys : List Y) → AllByRecursion P (flat_map (λ y. f y ∷ g y ∷ []) ys)
      → AllByRecursion (λ y. P (f y) × P (g y)) ys
  of_pairs f g [] all = tt
  of_pairs f g (y ∷ ys) all = ((all.0, all.1.0), of_pairs f g ys all.1.1)

-- Keys, each once

module _ {K : Type 0} (same : K → K → Bool) where
  abbrev each_once : List K → List K
  each_once [] = []
  each_once (k ∷ ks) = if list_any (same k) ks then each_once ks else k ∷ each_once ks

module _ {K : Type 0} (same : K → K → Bool) (decide : (x y : K) → Decides (same x y) (x ≡ y)) where
  same_members : (ks : List K) (q : K) → list_any (same q) (each_once same ks) ≡ list_any (same q) ks
  same_members [] q = refl
  same_members (k ∷ ks) q = go (list_any (same k) ks) refl (same_members ks q)
    where
      by : list_any (same k) ks ≡ true → (c : Bool) → same q k ≡ c
          → list_any (same q) ks ≡ (c || list_any (same q) ks)
      by there true is =
          let e : q ≡ k = (decide q k).0 is in
          subst (λ (x : K). list_any (same x) ks ≡ true) (sym e) there
      by there false is = refl

      go : (b : Bool) → list_any (same k) ks ≡ b → list_any (same q) (each_once same ks) ≡ list_any (same q) ks
          → list_any (same q) (cond b (each_once same ks) (k ∷ each_once same ks)) ≡ (same q k || list_any (same q) ks)
      go true is rest = rest ∙ by is (same q k) refl
      go false is rest = ap (λ b. same q k || b) rest

  all_differ : (k : K) (xs : List K) → list_any (same k) xs ≡ false → AllByRecursion (λ x. same k x ≡ false) xs
  all_differ k [] none = tt
  all_differ k (x ∷ xs) none = go (same k x) refl none (all_differ k xs)
    where
      go : (b : Bool) → same k x ≡ b → (b || list_any (same k) xs) ≡ false
          → (list_any (same k) xs ≡ false → AllByRecursion (λ y. same k y ≡ false) xs)
          → (same k x ≡ false) × AllByRecursion (λ y. same k y ≡ false) xs
      go true is none rest = absurd (cc)
      go false is none rest = (is, rest none)

  distinct_once : (ks : List K) → IsDistinct same (each_once same ks)
  unfolding IsDistinct
  distinct_once [] = tt
  distinct_once (k ∷ ks) = go (list_any (same k) ks) refl (distinct_once ks)
    where
      go : (b : Bool) → list_any (same k) ks ≡ b → IsDistinct same (each_once same ks)
          → IsDistinct same (cond b (each_once same ks) (k ∷ each_once same ks))
      go true is rest = rest
      go false is rest = (all_differ k (each_once same ks) (same_members ks k ∙ is), rest)

  -- each key is among all
  all_among : (ks : List K) → AllByRecursion (λ k. list_any (same k) ks ≡ true) ks
  all_among [] = tt
  all_among (k ∷ ks) = (
    ap (λ b. b || list_any (same k) ks) ((decide k k).1 refl),
    each_weaker (λ (x : K). list_any (same x) ks ≡ true) (λ (x : K). list_any (same x) (k ∷ ks) ≡ true)
        (λ x is. or_right (same x k) (list_any (same x) ks) is) ks (all_among ks),
  )

  place_within : (ks : List K) (k : K) → list_any (same k) ks ≡ true → position_or_len (same k) ks < length ks
  place_within [] k some = absurd (cc)
  place_within (x ∷ ks) k some = go (same k x) some (place_within ks k)
    where
      go : (b : Bool) → (b || list_any (same k) ks) ≡ true
          → (list_any (same k) ks ≡ true → position_or_len (same k) ks < length ks)
          → cond (not b) (1 + position_or_len (same k) ks) 0 < suc (length ks)
      go true some rest = omega arith
      go false some rest = omega (arith, rest some)

  at_place : (ks : List K) (k d : K) → list_any (same k) ks ≡ true → get_or ks (position_or_len (same k) ks) d ≡ k
  at_place ks k d there =
      sym ((decide k (get_or ks (position_or_len (same k) ks) d)).0
      (passes_at_first (same k) ks d (place_within ks k there)))

-- Rows by the places of their keys

module _ (fs : List FuncKey) (ts : List (List ℕ)) (n : ℕ) where
  pub number_self : NamedSelf → SelfRow
  number_self row = record {
    func = position_or_len (same_function row.function) fs;
    file = position_or_len (bytes_eq row.file) ts;
    line = row.line;
    cost = row.cost;
  }

  pub number_call : NamedCall → CallRow
  number_call row = record {
    caller = position_or_len (same_function row.caller) fs;
    file = position_or_len (bytes_eq row.file) ts;
    line = row.line;
    callee = position_or_len (same_function row.callee) fs;
    calls = row.calls;
    cost = row.cost;
  }

  abbrev pub IsThere : FuncKey → Type 0
  IsThere f = list_any (same_function f) fs ≡ true

  abbrev pub IsFileThere : List ℕ → Type 0
  IsFileThere t = list_any (bytes_eq t) ts ≡ true

  pub selfs_named : (rows : List NamedSelf) → AllByRecursion (λ (r : NamedSelf). IsThere r.function) rows
      → AllByRecursion (λ (r : NamedSelf). IsFileThere r.file) rows
      → map (named_self fs ts) (map number_self rows) ≡ rows
  unfolding number_self
  selfs_named [] f t = refl
  selfs_named (row ∷ rows) f t = λ i. record {
    function = at_place same_function functions_decide fs row.function unknown_function f.0 i;
    file = at_place bytes_eq bytes_eq-Decides ts row.file unknown t.0 i;
    line = row.line;
    cost = row.cost;
  } ∷ selfs_named rows f.1 t.1 i

  pub calls_named : (rows : List NamedCall)
      → AllByRecursion (λ (r : NamedCall). IsThere r.caller × IsThere r.callee) rows
      → AllByRecursion (λ (r : NamedCall). IsFileThere r.file) rows
      → map (named_call fs ts) (map number_call rows) ≡ rows
  unfolding number_call
  calls_named [] f t = refl
  calls_named (row ∷ rows) f t = λ i. record {
    caller = at_place same_function functions_decide fs row.caller unknown_function f.0.0 i;
    file = at_place bytes_eq bytes_eq-Decides ts row.file unknown t.0 i;
    line = row.line;
    callee = at_place same_function functions_decide fs row.callee unknown_function f.0.1 i;
    calls = row.calls;
    cost = row.cost;
  } ∷ calls_named rows f.1 t.1 i

  pub selfs_fit : (rows : List NamedSelf) → AllByRecursion (λ (r : NamedSelf). IsThere r.function) rows
      → AllByRecursion (λ (r : NamedSelf). IsFileThere r.file) rows
      → AllByRecursion (λ (r : NamedSelf). length r.cost ≡ n) rows
      → AllByRecursion (FitsSelf n (length fs) (length ts)) (map number_self rows)
  unfolding number_self
  selfs_fit [] f t c = tt
  selfs_fit (row ∷ rows) f t c = (
    record {
      function = place_within same_function functions_decide fs row.function f.0;
      file = place_within bytes_eq bytes_eq-Decides ts row.file t.0;
      cost = c.0;
    },
    selfs_fit rows f.1 t.1 c.1,
  )

  pub calls_fit : (rows : List NamedCall)
      → AllByRecursion (λ (r : NamedCall). IsThere r.caller × IsThere r.callee) rows
      → AllByRecursion (λ (r : NamedCall). IsFileThere r.file) rows
      → AllByRecursion (λ (r : NamedCall). length r.cost ≡ n) rows
      → AllByRecursion (FitsCall n (length fs) (length ts)) (map number_call rows)
  unfolding number_call
  calls_fit [] f t c = tt
  calls_fit (row ∷ rows) f t c = (
    record {
      caller = place_within same_function functions_decide fs row.caller f.0.0;
      callee = place_within same_function functions_decide fs row.callee f.0.1;
      file = place_within bytes_eq bytes_eq-Decides ts row.file t.0;
      cost = c.0;
    },
    calls_fit rows f.1 t.1 c.1,
  )

lines_wide : (head : PartHead) (m : SymbolMap) (lines : List LineRow)
    → All (λ (row : LineRow). IsWhole row.cost) lines
    → AllByRecursion (λ (r : NamedSelf). length r.cost ≡ length (events_shown head.branch event_names))
    (lines_read head m lines)
lines_wide head m [] whole = tt
lines_wide head m (row ∷ lines) whole =
    let P : LineRow → Type 0 = λ r. IsWhole r.cost in (
      shown_length head.branch row.cost (All-head P row lines whole),
      lines_wide head m lines
          (All-tail P row lines whole),
    )

arcs_wide : (head : PartHead) (m : SymbolMap) (arcs : List ArcRow)
    → All (λ (row : ArcRow). IsWhole row.cost) arcs
    → AllByRecursion (λ (r : NamedCall). length r.cost ≡ length (events_shown head.branch event_names))
    (arcs_read head m arcs)
arcs_wide head m [] whole = tt
arcs_wide head m (row ∷ arcs) whole =
    let P : ArcRow → Type 0 = λ r. IsWhole r.cost in
    (shown_length head.branch row.cost (All-head P row arcs whole), arcs_wide head m arcs (All-tail P row arcs whole))

events_few : (branch : Bool) → length (events_shown branch event_names) ≤ most_events
unfolding event_names
events_few true = omega arith
events_few false = omega arith

events_apart : (branch : Bool) → is_distinct (events_shown branch event_names) ≡ true
unfolding event_names
events_apart true = refl
events_apart false = refl

pub no_rows_profile : (head : PartHead) → IsProfile (no_rows_of head)
no_rows_profile head = record {
  event_limit = events_few head.branch;
  events_differ = apart_names (events_shown head.branch event_names) (events_apart head.branch);
  functions_differ = λ i j d lt long. absurd (omega arith);
  files_differ = λ i j d lt long. absurd (omega arith);
  self_rows_fit = λ k d lt. absurd (omega arith);
  call_rows_fit = λ k d lt. absurd (omega arith);
}

module _ (head : PartHead) (command : Option (List ℕ)) (rows : Listed) (m : SymbolMap) (whole : AreWhole rows) where
  abbrev selfs : List NamedSelf
  selfs = lines_read head m rows.lines

  abbrev calls : List NamedCall
  calls = arcs_read head m rows.arcs

  abbrev all_functions : List FuncKey
  all_functions = functions_of selfs calls

  abbrev all_files : List (List ℕ)
  all_files = files_of selfs calls

  abbrev functions : List FuncKey
  functions = each_once same_function all_functions

  abbrev files : List (List ℕ)
  files = each_once bytes_eq all_files

  abbrev width : ℕ
  width = length (events_shown head.branch event_names)

  profile : Contents
  profile = contents (events_shown head.branch event_names) command functions files
      (map (number_self functions files width) selfs) (map (number_call functions files width) calls)

  functions_there : AllByRecursion (λ (f : FuncKey). list_any (same_function f) functions ≡ true) all_functions
  functions_there =
      each_weaker (λ (f : FuncKey). list_any (same_function f) all_functions ≡ true)
      (λ (f : FuncKey). list_any (same_function f) functions ≡ true)
      (λ f is. same_members same_function functions_decide all_functions f ∙ is) all_functions
      (all_among same_function functions_decide all_functions)

  files_there : AllByRecursion (λ (t : List ℕ). list_any (bytes_eq t) files ≡ true) all_files
  files_there =
      each_weaker (λ (t : List ℕ). list_any (bytes_eq t) all_files ≡ true)
      (λ (t : List ℕ). list_any (bytes_eq t) files ≡ true)
      (λ t is. same_members bytes_eq bytes_eq-Decides all_files t ∙ is) all_files
      (all_among bytes_eq bytes_eq-Decides all_files)

  abbrev IsIn : FuncKey → Type 0
  IsIn f = list_any (same_function f) functions ≡ true

  abbrev IsFileIn : List ℕ → Type 0
  IsFileIn t = list_any (bytes_eq t) files ≡ true

  self_functions : AllByRecursion (λ (r : NamedSelf). IsIn r.function) selfs
  self_functions =
      of_mapped IsIn (λ (r : NamedSelf). r.function) selfs
      (front_of IsIn (map (λ (r : NamedSelf). r.function) selfs)
      (flat_map (λ (r : NamedCall). r.caller ∷ r.callee ∷ []) calls) functions_there)

  call_functions : AllByRecursion (λ (r : NamedCall). IsIn r.caller × IsIn r.callee) calls
  call_functions =
      of_pairs IsIn (λ (r : NamedCall). r.caller) (λ (r : NamedCall). r.callee) calls
      (rest_of IsIn (map (λ (r : NamedSelf). r.function) selfs)
      (flat_map (λ (r : NamedCall). r.caller ∷ r.callee ∷ []) calls) functions_there)

  self_files : AllByRecursion (λ (r : NamedSelf). IsFileIn r.file) selfs
  self_files =
      of_mapped IsFileIn (λ (r : NamedSelf). r.file) selfs
      (front_of IsFileIn (map (λ (r : NamedSelf). r.file) selfs) (map (λ (r : NamedCall). r.file) calls) files_there)

  call_files : AllByRecursion (λ (r : NamedCall). IsFileIn r.file) calls
  call_files =
      of_mapped IsFileIn (λ (r : NamedCall). r.file) calls
      (rest_of IsFileIn (map (λ (r : NamedSelf). r.file) selfs) (map (λ (r : NamedCall). r.file) calls) files_there)

  is_profile : IsProfile profile
  unfolding profile
  is_profile = record {
    event_limit = events_few head.branch;
    events_differ = apart_names (events_shown head.branch event_names) (events_apart head.branch);
    functions_differ = AllPairs-from_IsDistinct functions_decide functions
        (distinct_once same_function functions_decide all_functions);
    files_differ = AllPairs-from_IsDistinct bytes_eq-Decides files
        (distinct_once bytes_eq bytes_eq-Decides all_files);
    self_rows_fit = each_at (FitsSelf width (length functions) (length files))
        (map (number_self functions files width) selfs)
        (selfs_fit functions files width selfs self_functions self_files (lines_wide head m rows.lines whole.lines));
    call_rows_fit = each_at (FitsCall width (length functions) (length files))
        (map (number_call functions files width) calls)
        (calls_fit functions files width calls call_functions call_files (arcs_wide head m rows.arcs whole.arcs));
  }

  is_of_rows : IsOfRows head command rows m profile
  unfolding profile
  is_of_rows = record {
    events = refl;
    command_is = refl;
    self_rows = selfs_named functions files width selfs self_functions self_files;
    call_rows = calls_named functions files width calls call_functions call_files;
    functions = λ f. same_members same_function functions_decide all_functions f;
    files = λ t. same_members bytes_eq bytes_eq-Decides all_files t;
  }

  pub there_is : (p : Contents) × IsProfile p × IsOfRows head command rows m p
  there_is = (profile, is_profile, is_of_rows)
