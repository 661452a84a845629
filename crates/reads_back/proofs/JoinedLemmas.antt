-- Profiles of rows, joined.
use Rattle.sym_map.specs.SymbolMap.{file_text, identity_in, identity_of}
use Rattle.std.proofs.Common.{◌≡◌, ℕ, ◌-◌, ◌<◌, Bool, true, false, not, ◌||◌, nat_lt, cond, List, [], ◌∷◌, ◌++◌}
use Rattle.std.proofs.Common.{length, map, flat_map, get_or, Option, None, refl, sym, ap, ◌∙◌, subst, arith}
use Rattle.std.proofs.Common.{All, ◌⊎◌, ⊎_elim}
use Rattle.std.specs.Bool.{Decides}
use Rattle.std.specs.List.{list_any}
use Rattle.std.specs.Str.{bytes_eq}
use Rattle.std.proofs.lemmas.List.{length-map, map-append}
use Rattle.std.proofs.lemmas.List.Concat.{flat_map-append}
use Rattle.std.proofs.lemmas.List.Elements.{All-append, All-head, All-tail}
use Rattle.std.proofs.lemmas.List.Folds.{list_any-append}
use Rattle.std.proofs.lemmas.Slice.Eq.{bytes_eq-Decides}
use Rattle.event_costs.specs.Costs.{IsWhole, event_names, events_shown}
use Rattle.byte_text.specs.Names.{clean_name}
use Rattle.arc_costs.specs.Contents.{Listed}
use Rattle.arc_costs.specs.Rows.{ArcRow, LineRow}
use Rattle.byte_text.specs.Names.{unknown as unknown_name}
use Rattle.sym_map.specs.Places.{unknown_function}
use Rattle.sym_map.specs.SymbolMap.{SymbolMap, IsSound, identities}
use Rattle.cg_format.specs.Part.{part_text}
use Rattle.cg_format.specs.declared.head.PartHead.{PartHead}
use Rattle.cg_read.specs.Meaning.{or_else}
use Rattle.cg_read.specs.Merge.{IsJoined, longer, missing, padded_call, padded_self}
use Rattle.cg_read.specs.Profiles.{Contents, NamedCall, NamedSelf, files_of, functions_of, has_function, has_text}
use Rattle.cg_read.specs.Profiles.{named_call_rows, named_self_rows, same_function}
use Rattle.cg_read.specs.Reading.{Reads}
use Rattle.cg_read.specs.declared.rows.FuncKey.{FuncKey}
use Rattle.reads_back.proofs.Others.{functions_decide, padded_whole}
use Rattle.once_each.specs.Texts.{Naming, named_arc, named_line}
use Rattle.reads_back.specs.Joined.{AreOfOneRun, AreWhole, HaveOwnTexts, no_rows, no_rows_of, together}
use Rattle.reads_back.specs.Rows.{AreWritable, IsOfRows, arcs_read, command_of, lines_read, naming}
use Rattle.reads_back.proofs.CostLemmas.{shown_length}
use Rattle.reads_back.proofs.PartLemmas.{only_part}
use Rattle.std.proofs.lemmas.Bool.{or_left}

-- Before the first part

pub nothing_joined : (head : PartHead) (m : SymbolMap) → IsOfRows head None no_rows m (no_rows_of head)
nothing_joined head m = record {
  events = refl;
  command_is = refl;
  self_rows = refl;
  call_rows = refl;
  functions = λ f. refl;
  files = λ t. refl;
}

-- Keys of both

or_swap : (a b c d : Bool) → ((a || b) || (c || d)) ≡ ((a || c) || (b || d))
or_swap true b c d = refl
or_swap false true true d = refl
or_swap false true false d = refl
or_swap false false true d = refl
or_swap false false false d = refl

module _ {K : Type 0} (same : K → K → Bool) (decide : (x y : K) → Decides (same x y) (x ≡ y)) where
  -- the keys that are missing are those of the second list, but for those that are in the first
  missing_any : (xs ys : List K) (k : K)
      → (list_any (same k) xs || list_any (same k) (missing same xs ys))
      ≡ (list_any (same k) xs || list_any (same k) ys)
  missing_any xs [] k = refl
  missing_any xs (y ∷ ys) k = go (list_any (same y) xs) refl (missing_any xs ys k)
    where
      known : list_any (same y) xs ≡ true → same k y ≡ true → list_any (same k) xs ≡ true
      known there is = let e : k ≡ y = (decide k y).0 is in subst (λ (x : K). list_any (same x) xs ≡ true) (sym e) there

      add : (b : Bool) → same k y ≡ b → list_any (same y) xs ≡ true
          → (list_any (same k) xs || list_any (same k) ys) ≡ (list_any (same k) xs || (b || list_any (same k) ys))
      add true is there =
          or_left (list_any (same k) xs) (list_any (same k) ys) (known there is)
          ∙ sym (or_left (list_any (same k) xs) true (known there is))
      add false is there = refl

      grown : (a b c d : Bool) → (a || c) ≡ (a || d) → (a || (b || c)) ≡ (a || (b || d))
      grown true b c d e = refl
      grown false true c d e = refl
      grown false false c d e = e

      go : (b : Bool) → list_any (same y) xs ≡ b
          → (list_any (same k) xs || list_any (same k) (missing same xs ys))
          ≡ (list_any (same k) xs || list_any (same k) ys)
          → (list_any (same k) xs
          || list_any (same k) (cond (not b) (y ∷ missing same xs ys) (missing same xs ys)))
          ≡ (list_any (same k) xs || (same k y || list_any (same k) ys))
      go true is rest = rest ∙ add (same k y) refl is
      go false is rest =
          grown (list_any (same k) xs) (same k y) (list_any (same k) (missing same xs ys)) (list_any (same k) ys) rest

  pub joined_any : (xs ys : List K) (k : K)
      → list_any (same k) (xs ++ missing same xs ys) ≡ (list_any (same k) xs || list_any (same k) ys)
  joined_any xs ys k = list_any-append (same k) xs (missing same xs ys) ∙ missing_any xs ys k

  -- a key in two lists, each of which goes on
  both_any : (a b c d : List K) (k : K)
      → list_any (same k) ((a ++ b) ++ (c ++ d))
      ≡ (list_any (same k) (a ++ c) || list_any (same k) (b ++ d))
  both_any a b c d k =
      list_any-append (same k) (a ++ b) (c ++ d)
      ∙ (λ i. list_any-append (same k) a b i || list_any-append (same k) c d i)
      ∙ or_swap (list_any (same k) a) (list_any (same k) b) (list_any (same k) c) (list_any (same k) d)
      ∙ sym (λ i. list_any-append (same k) a c i || list_any-append (same k) b d i)

functions_together : (s t : List NamedSelf) (c d : List NamedCall) (f : FuncKey)
    → has_function (functions_of (s ++ t) (c ++ d)) f
    ≡ (has_function (functions_of s c) f || has_function (functions_of t d) f)
functions_together s t c d f =
    (λ i. has_function (map-append (λ (r : NamedSelf). r.function) s t i
    ++ flat_map-append (λ (r : NamedCall). r.caller ∷ r.callee ∷ []) c d i) f)
    ∙ both_any same_function functions_decide (map (λ (r : NamedSelf). r.function) s)
    (map (λ (r : NamedSelf). r.function) t) (flat_map (λ (r : NamedCall). r.caller ∷ r.callee ∷ []) c)
    (flat_map (λ (r : NamedCall). r.caller ∷ r.callee ∷ []) d) f

files_together : (s t : List NamedSelf) (c d : List NamedCall) (x : List ℕ)
    → has_text (files_of (s ++ t) (c ++ d)) x ≡ (has_text (files_of s c) x || has_text (files_of t d) x)
files_together s t c d x =
    (λ i. has_text (map-append (λ (r : NamedSelf). r.file) s t i ++ map-append (λ (r : NamedCall). r.file) c d i) x)
    ∙ both_any bytes_eq bytes_eq-Decides (map (λ (r : NamedSelf). r.file) s) (map (λ (r : NamedSelf). r.file) t)
    (map (λ (r : NamedCall). r.file) c) (map (λ (r : NamedCall). r.file) d) x

-- Costs that are whole need no zeros

abbrev width : PartHead → ℕ
width head = length (events_shown head.branch event_names)

lines_padded : (head : PartHead) (m : SymbolMap) (lines : List LineRow)
    → All (λ (row : LineRow). IsWhole row.cost) lines
    → map (padded_self (width head)) (lines_read head m lines) ≡ lines_read head m lines
lines_padded head m [] whole = refl
lines_padded head m (row ∷ lines) whole =
    let P : LineRow → Type 0 = λ r. IsWhole r.cost in
    let full = padded_whole (width head) (events_shown head.branch row.cost)
    (shown_length head.branch row.cost (All-head P row lines whole)) in
    λ i. record (named_line (naming head m) row) { cost = full i }
    ∷ lines_padded head m lines (All-tail P row lines whole) i

arcs_padded : (head : PartHead) (m : SymbolMap) (arcs : List ArcRow)
    → All (λ (row : ArcRow). IsWhole row.cost) arcs
    → map (padded_call (width head)) (arcs_read head m arcs) ≡ arcs_read head m arcs
arcs_padded head m [] whole = refl
arcs_padded head m (row ∷ arcs) whole =
    let P : ArcRow → Type 0 = λ r. IsWhole r.cost in
    let full = padded_whole (width head) (events_shown head.branch row.cost)
    (shown_length head.branch row.cost (All-head P row arcs whole)) in
    λ i. record (named_arc (naming head m) row) { cost = full i }
    ∷ arcs_padded head m arcs (All-tail P row arcs whole) i

pub longer_same : (names : List (List ℕ)) → longer names names ≡ names
longer_same names = go (nat_lt (length names) (length names))
  where
    go : (b : Bool) → cond b names names ≡ names
    go true = refl
    go false = refl

pub whole_rows : (m : SymbolMap) (rows : Listed) → AreWritable m rows → AreWhole rows
whole_rows m rows fits = record {
  lines = λ k d lt. (fits.lines_fit k d lt).whole;
  arcs = λ k d lt. (fits.arcs_fit k d lt).whole;
}

pub both_whole : (earlier rows : Listed) → AreWhole earlier → AreWhole rows → AreWhole (together earlier rows)
both_whole earlier rows whole own = record {
  lines = All-append (λ (row : LineRow). IsWhole row.cost) earlier.lines rows.lines whole.lines own.lines;
  arcs = All-append (λ (row : ArcRow). IsWhole row.cost) earlier.arcs rows.arcs whole.arcs own.arcs;
}

pub stay_whole : (m : SymbolMap) (earlier rows : Listed) → AreWhole earlier → AreWritable m rows
    → AreWhole (together earlier rows)
stay_whole m earlier rows whole fits = both_whole earlier rows whole (whole_rows m rows fits)

-- The texts of one run

same_naming : (head part : PartHead) (m : SymbolMap) → AreOfOneRun head part → naming part m ≡ naming head m
same_naming head part m run = λ i. record {
  func = λ n. record {
    object = clean_name (run.object i);
    file = (identity_of m (record { 0 = n })).file;
    name = (identity_of m (record { 0 = n })).name;
  };
  file = λ n. file_text m (record { 0 = n });
  branches = run.branch i;
}

-- a profile of earlier rows, and one of the rows of a part
module _ (head part : PartHead) (command : Option (List ℕ)) (earlier rows : Listed) (m : SymbolMap)
    (before read after : Contents) (run : AreOfOneRun head part) (whole : AreWhole earlier) (own_whole : AreWhole rows)
    (old : IsOfRows head command earlier m before) (part_rows : IsOfRows part (command_of part) rows m read)
    (joined : IsJoined before read after) where
  all_whole : AreWhole (together earlier rows)
  all_whole = both_whole earlier rows whole own_whole

  new_lines : named_self_rows read ≡ lines_read head m rows.lines
  new_lines = part_rows.self_rows ∙ ap (λ (n : Naming). map (named_line n) rows.lines) (same_naming head part m run)

  new_arcs : named_call_rows read ≡ arcs_read head m rows.arcs
  new_arcs = part_rows.call_rows ∙ ap (λ (n : Naming). map (named_arc n) rows.arcs) (same_naming head part m run)

  events_are : after.events ≡ events_shown head.branch event_names
  events_are =
      joined.events
      ∙ (λ i. longer (old.events i)
      ((part_rows.events ∙ ap (λ b. events_shown b event_names) run.branch) i))
      ∙ longer_same (events_shown head.branch event_names)

  lines_apart : lines_read head m earlier.lines ++ lines_read head m rows.lines
      ≡ lines_read head m (earlier.lines ++ rows.lines)
  lines_apart = sym (map-append (named_line (naming head m)) earlier.lines rows.lines)

  arcs_apart : arcs_read head m earlier.arcs ++ arcs_read head m rows.arcs
      ≡ arcs_read head m (earlier.arcs ++ rows.arcs)
  arcs_apart = sym (map-append (named_arc (naming head m)) earlier.arcs rows.arcs)

  lines_all : named_self_rows before ++ named_self_rows read ≡ lines_read head m (earlier.lines ++ rows.lines)
  lines_all = (λ i. old.self_rows i ++ new_lines i) ∙ lines_apart

  arcs_all : named_call_rows before ++ named_call_rows read ≡ arcs_read head m (earlier.arcs ++ rows.arcs)
  arcs_all = (λ i. old.call_rows i ++ new_arcs i) ∙ arcs_apart

  -- what is read of the part, in the words of the run
  part_functions : (f : FuncKey) → has_function read.functions f
      ≡ has_function (functions_of (lines_read head m rows.lines) (arcs_read head m rows.arcs)) f
  part_functions f =
      part_rows.functions f
      ∙ ap (λ (n : Naming). has_function (functions_of (map (named_line n) rows.lines) (map (named_arc n) rows.arcs)) f)
      (same_naming head part m run)

  part_files : (t : List ℕ) → has_text read.files t
      ≡ has_text (files_of (lines_read head m rows.lines) (arcs_read head m rows.arcs)) t
  part_files t =
      part_rows.files t
      ∙ ap (λ (n : Naming). has_text (files_of (map (named_line n) rows.lines) (map (named_arc n) rows.arcs)) t)
      (same_naming head part m run)

  pub one_more_profile : IsOfRows head (or_else command (command_of part)) (together earlier rows) m after
  one_more_profile = record {
    events = events_are;
    command_is = joined.command ∙ (λ i. or_else (old.command_is i) (part_rows.command_is i));
    self_rows = joined.self_rows
        ∙ (λ i. map (padded_self (length (events_are i))) (lines_all i))
        ∙ lines_padded head m (earlier.lines ++ rows.lines) all_whole.lines;
    call_rows = joined.call_rows
        ∙ (λ i. map (padded_call (length (events_are i))) (arcs_all i))
        ∙ arcs_padded head m (earlier.arcs ++ rows.arcs) all_whole.arcs;
    functions = λ f.
        ap (λ (fs : List FuncKey). has_function fs f) joined.functions
        ∙ joined_any same_function functions_decide before.functions read.functions f
        ∙ (λ i. old.functions f i || part_functions f i)
        ∙ sym (functions_together (lines_read head m earlier.lines) (lines_read head m rows.lines)
        (arcs_read head m earlier.arcs) (arcs_read head m rows.arcs) f)
        ∙ (λ i. has_function (functions_of (lines_apart i) (arcs_apart i)) f);
    files = λ t.
        ap (λ (ts : List (List ℕ)). has_text ts t) joined.files
        ∙ joined_any bytes_eq bytes_eq-Decides before.files read.files t
        ∙ (λ i. old.files t i || part_files t i)
        ∙ sym (files_together (lines_read head m earlier.lines) (lines_read head m rows.lines)
        (arcs_read head m earlier.arcs) (arcs_read head m rows.arcs) t)
        ∙ (λ i. has_text (files_of (lines_apart i) (arcs_apart i)) t);
  }

-- a part that is read
pub one_more_part : (head part : PartHead) (command : Option (List ℕ)) (earlier rows : Listed) (m : SymbolMap)
    (before read after : Contents) → IsSound m → AreOfOneRun head part → AreWhole earlier → AreWritable m rows
    → IsOfRows head command earlier m before → Reads (part_text part rows m) read → IsJoined before read after
    → IsOfRows head (or_else command (command_of part)) (together earlier rows) m after
one_more_part head part command earlier rows m before read after sound run whole fits old reads joined =
    one_more_profile head part command earlier rows m before read after run whole (whole_rows m rows fits) old
    (only_part part rows m sound fits read reads) joined

-- Texts of their own

own_function : (m : SymbolMap) (sound : IsSound m) (f g : ℕ) → f < length m.functions → g < length m.functions
    → get_or (identities m) f unknown_function ≡ get_or (identities m) g unknown_function → f ≡ g
own_function m sound f g f_in g_in same =
    let long : length (identities m) ≡ length m.functions =
    length-map m.functions (identity_in m.files) in
    ⊎_elim (λ (e : f ≡ g). e)
    (λ (rest : (f < g) ⊎ (g < f)).
    ⊎_elim
    (λ (less : f < g). absurd (sound.functions_differ f g unknown_function less (omega (arith, long, g_in)) same))
    (λ (less : g < f). absurd (sound.functions_differ g f unknown_function less (omega (arith, long, f_in)) (sym same)))
    rest)
    (let P : (f ≡ g) ⊎ ((f < g) ⊎ (g < f)) = grind arith in P)

own_file : (m : SymbolMap) (sound : IsSound m) (f g : ℕ) → f < length m.files → g < length m.files
    → get_or m.files f unknown_name ≡ get_or m.files g unknown_name → f ≡ g
own_file m sound f g f_in g_in same =
    ⊎_elim (λ (e : f ≡ g). e)
    (λ (rest : (f < g) ⊎ (g < f)).
    ⊎_elim (λ (less : f < g). absurd (sound.files_differ f g unknown_name less g_in same))
    (λ (less : g < f). absurd (sound.files_differ g f unknown_name less f_in (sym same))) rest)
    (let P : (f ≡ g) ⊎ ((f < g) ⊎ (g < f)) = grind arith in P)

pub own_texts : (head : PartHead) (m : SymbolMap) → IsSound m → HaveOwnTexts head m
own_texts head m sound = record {
  functions = λ f g f_in g_in same.
      own_function m sound f g f_in g_in
      (λ i. record {
        file = (same i).file;
        name = (same i).name;
      });
  files = λ f g f_in g_in same. own_file m sound f g f_in g_in same;
}
