-- There is a profile that joins two of the same events: its functions and files are those of both, each once.
use Rattle.std.proofs.Common.{◌≡◌, ℕ, suc, zero, ◌<◌, Bool, true, false, not, ◌||◌, cond, List, [], ◌∷◌, ◌++◌}
use Rattle.std.proofs.Common.{All, length, map, get_or, nat_lt, refl, sym, ap, ◌∙◌, subst, arith}
use Rattle.std.specs.Bool.{Decides}
use Rattle.std.specs.List.{AllByRecursion, IsDistinct, list_any}
use Rattle.std.specs.Str.{bytes_eq}
use Rattle.std.proofs.lemmas.Map.Made.{AllPairs-from_IsDistinct, IsDistinct-from_AllPairs}
use Rattle.std.proofs.lemmas.Slice.Eq.{bytes_eq-Decides}
use Rattle.cg_read.specs.Meaning.{or_else}
use Rattle.cg_read.specs.Merge.{IsJoined, missing, padded_call, padded_self}
use Rattle.cg_read.specs.Profiles.{AreApart, Contents, FitsCall, FitsSelf, IsProfile, NamedCall, NamedSelf, contents}
use Rattle.cg_read.specs.Profiles.{named_call, named_call_rows, named_self, named_self_rows, same_function}
use Rattle.cg_read.specs.Profiles.{unknown, unknown_function}
use Rattle.cg_read.specs.declared.rows.CallRow.{CallRow}
use Rattle.cg_read.specs.declared.rows.FuncKey.{FuncKey}
use Rattle.cg_read.specs.declared.rows.SelfRow.{SelfRow}
use Rattle.reads_back.proofs.Others.{padded_whole, each_weaker, functions_decide, each_at}
use Rattle.cg_read.proofs.JoinLemmas.{each_from}
use Rattle.reads_back.proofs.ExistsLemmas.{calls_fit, calls_named, number_call, number_self, selfs_fit}
use Rattle.reads_back.proofs.ExistsLemmas.{selfs_named}
use Rattle.reads_back.proofs.JoinedLemmas.{joined_any}
use Rattle.std.proofs.lemmas.Bool.{or_left, or_right}

each_append : {X : Type 0} (P : X → Type 0) (xs ys : List X) → AllByRecursion P xs → AllByRecursion P ys
    → AllByRecursion P (xs ++ ys)
each_append P [] ys all more = more
each_append P (x ∷ xs) ys all more = (all.0, each_append P xs ys all.1 more)

-- Keys of two lists, each once

module _ {K : Type 0} (same : K → K → Bool) (decide : (x y : K) → Decides (same x y) (x ≡ y)) where
  -- a key of a list is in it
  at_among : (ks : List K) (i : ℕ) (d : K) → i < length ks → list_any (same (get_or ks i d)) ks ≡ true
  at_among [] i d lt = absurd (omega arith)
  at_among (k ∷ ks) zero d lt = or_left (same k k) (list_any (same k) ks) ((decide k k).1 refl)
  at_among (k ∷ ks) (suc i) d lt =
      or_right (same (get_or ks i d) k) (list_any (same (get_or ks i d)) ks) (at_among ks i d (omega arith))

  differ_back : (x y : K) → same x y ≡ false → same y x ≡ false
  differ_back x y no_x = go (same y x) refl
    where
      go : (b : Bool) → same y x ≡ b → b ≡ false
      go true is = let back : same x y ≡ true = (decide x y).1 (sym ((decide y x).0 is)) in absurd (cc)
      go false is = refl

  neither : (a b : Bool) → (a || b) ≡ false → (a ≡ false) × (b ≡ false)
  neither true b e = absurd (cc)
  neither false b e = (refl, e)

  abbrev IsOutside : List K → K → Type 0
  IsOutside xs y = list_any (same y) xs ≡ false

  head_outside : (x : K) (xs ys : List K) → AllByRecursion (IsOutside (x ∷ xs)) ys
      → AllByRecursion (λ y. same x y ≡ false) ys
  head_outside x xs [] out = tt
  head_outside x xs (y ∷ ys) out = (
    differ_back y x (neither (same y x) (list_any (same y) xs) out.0).0,
    head_outside x xs ys out.1,
  )

  tail_outside : (x : K) (xs ys : List K) → AllByRecursion (IsOutside (x ∷ xs)) ys
      → AllByRecursion (IsOutside xs) ys
  tail_outside x xs [] out = tt
  tail_outside x xs (y ∷ ys) out =
      ((neither (same y x) (list_any (same y) xs) out.0).1, tail_outside x xs ys out.1)

  distinct_append : (xs ys : List K) → IsDistinct same xs → IsDistinct same ys → AllByRecursion (IsOutside xs) ys
      → IsDistinct same (xs ++ ys)
  unfolding IsDistinct
  distinct_append [] ys dx dy out = dy
  distinct_append (x ∷ xs) ys dx dy out = (
    each_append (λ y. same x y ≡ false) xs ys dx.0 (head_outside x xs ys out),
    distinct_append xs ys dx.1 dy (tail_outside x xs ys out),
  )

  missing_outside : (xs ys : List K) → AllByRecursion (IsOutside xs) (missing same xs ys)
  missing_outside xs [] = tt
  missing_outside xs (y ∷ ys) = go (list_any (same y) xs) refl (missing_outside xs ys)
    where
      go : (b : Bool) → list_any (same y) xs ≡ b → AllByRecursion (IsOutside xs) (missing same xs ys)
          → AllByRecursion (IsOutside xs) (cond (not b) (y ∷ missing same xs ys) (missing same xs ys))
      go true is rest = rest
      go false is rest = (is, rest)

  each_missing : (P : K → Type 0) (xs ys : List K) → AllByRecursion P ys → AllByRecursion P (missing same xs ys)
  each_missing P xs [] all = tt
  each_missing P xs (y ∷ ys) all = go (list_any (same y) xs) (each_missing P xs ys all.1)
    where
      go : (b : Bool) → AllByRecursion P (missing same xs ys)
          → AllByRecursion P (cond (not b) (y ∷ missing same xs ys) (missing same xs ys))
      go true rest = rest
      go false rest = (all.0, rest)

  missing_distinct : (xs ys : List K) → IsDistinct same ys → IsDistinct same (missing same xs ys)
  unfolding IsDistinct
  missing_distinct xs [] distinct = tt
  missing_distinct xs (y ∷ ys) distinct = go (list_any (same y) xs) (missing_distinct xs ys distinct.1)
    where
      go : (b : Bool) → IsDistinct same (missing same xs ys)
          → IsDistinct same (cond (not b) (y ∷ missing same xs ys) (missing same xs ys))
      go true rest = rest
      go false rest = (each_missing (λ z. same y z ≡ false) xs ys distinct.0, rest)

  joined_apart : (xs ys : List K) → AreApart xs → AreApart ys → AreApart (xs ++ missing same xs ys)
  joined_apart xs ys apart_x apart_y =
      AllPairs-from_IsDistinct decide (xs ++ missing same xs ys)
      (distinct_append xs (missing same xs ys) (IsDistinct-from_AllPairs decide xs apart_x)
      (missing_distinct xs ys (IsDistinct-from_AllPairs decide ys apart_y)) (missing_outside xs ys))

  in_first : (xs ys : List K) (k : K) → list_any (same k) xs ≡ true
      → list_any (same k) (xs ++ missing same xs ys) ≡ true
  in_first xs ys k there =
      joined_any same decide xs ys k ∙ or_left (list_any (same k) xs) (list_any (same k) ys) there

  in_second : (xs ys : List K) (k : K) → list_any (same k) ys ≡ true
      → list_any (same k) (xs ++ missing same xs ys) ≡ true
  in_second xs ys k there =
      joined_any same decide xs ys k ∙ or_right (list_any (same k) xs) (list_any (same k) ys) there

-- Rows whose functions and files are among these, with a cost for each of so many events

module _ (fs : List FuncKey) (ts : List (List ℕ)) (n : ℕ) where
  abbrev HasFunction : FuncKey → Type 0
  HasFunction f = list_any (same_function f) fs ≡ true

  abbrev HasFile : List ℕ → Type 0
  HasFile t = list_any (bytes_eq t) ts ≡ true

  record IsKnownSelf (row : NamedSelf) : Type 0 where
    function : HasFunction row.function
    file : HasFile row.file
    cost : length row.cost ≡ n

  record IsKnownCall (row : NamedCall) : Type 0 where
    functions : HasFunction row.caller × HasFunction row.callee
    file : HasFile row.file
    cost : length row.cost ≡ n

  module _ (gs : List FuncKey) (us : List (List ℕ)) (more_f : (f : FuncKey) → list_any (same_function f) gs ≡ true
      → HasFunction f) (more_t : (t : List ℕ) → list_any (bytes_eq t) us ≡ true → HasFile t) where
    known_selfs : (rows : List SelfRow) → AllByRecursion (FitsSelf n (length gs) (length us)) rows
        → AllByRecursion IsKnownSelf (map (named_self gs us) rows)
    known_selfs [] fit = tt
    known_selfs (row ∷ rows) fit = (
      record {
        function = more_f (get_or gs row.func unknown_function)
            (at_among same_function functions_decide gs row.func unknown_function fit.0.function);
        file = more_t (get_or us row.file unknown)
            (at_among bytes_eq bytes_eq-Decides us row.file unknown fit.0.file);
        cost = fit.0.cost;
      },
      known_selfs rows fit.1,
    )

    known_calls : (rows : List CallRow) → AllByRecursion (FitsCall n (length gs) (length us)) rows
        → AllByRecursion IsKnownCall (map (named_call gs us) rows)
    known_calls [] fit = tt
    known_calls (row ∷ rows) fit = (
      record {
        functions = (
          more_f (get_or gs row.caller unknown_function)
              (at_among same_function functions_decide gs row.caller unknown_function fit.0.caller),
          more_f (get_or gs row.callee unknown_function)
              (at_among same_function functions_decide gs row.callee unknown_function fit.0.callee),
        );
        file = more_t (get_or us row.file unknown)
            (at_among bytes_eq bytes_eq-Decides us row.file unknown fit.0.file);
        cost = fit.0.cost;
      },
      known_calls rows fit.1,
    )

  selfs_full : (rows : List NamedSelf) → AllByRecursion IsKnownSelf rows → rows ≡ map (padded_self n) rows
  selfs_full [] known = refl
  selfs_full (row ∷ rows) known = λ i. record row { cost = sym (padded_whole n row.cost known.0.cost) i }
      ∷ selfs_full rows known.1 i

  calls_full : (rows : List NamedCall) → AllByRecursion IsKnownCall rows → rows ≡ map (padded_call n) rows
  calls_full [] known = refl
  calls_full (row ∷ rows) known = λ i. record row { cost = sym (padded_whole n row.cost known.0.cost) i }
      ∷ calls_full rows known.1 i

-- The profile of both

module _ (old other : Contents) (is_old : IsProfile old) (is_other : IsProfile other)
    (same_events : other.events ≡ old.events) where
  abbrev fs : List FuncKey
  fs = old.functions ++ missing same_function old.functions other.functions

  abbrev ts : List (List ℕ)
  ts = old.files ++ missing bytes_eq old.files other.files

  abbrev n : ℕ
  n = length old.events

  abbrev selfs : List NamedSelf
  selfs = named_self_rows old ++ named_self_rows other

  abbrev calls : List NamedCall
  calls = named_call_rows old ++ named_call_rows other

  both : Contents
  both = contents old.events (or_else old.command other.command) fs ts (map (number_self fs ts n) selfs)
      (map (number_call fs ts n) calls)

  other_selfs_fit : AllByRecursion (FitsSelf n (length other.functions) (length other.files)) other.self_rows
  other_selfs_fit =
      each_from (FitsSelf n (length other.functions) (length other.files)) other.self_rows
      (subst (λ (k : ℕ). All (FitsSelf k (length other.functions) (length other.files)) other.self_rows)
      (ap length same_events) is_other.self_rows_fit)

  other_calls_fit : AllByRecursion (FitsCall n (length other.functions) (length other.files)) other.call_rows
  other_calls_fit =
      each_from (FitsCall n (length other.functions) (length other.files)) other.call_rows
      (subst (λ (k : ℕ). All (FitsCall k (length other.functions) (length other.files)) other.call_rows)
      (ap length same_events) is_other.call_rows_fit)

  selfs_known : AllByRecursion (IsKnownSelf fs ts n) selfs
  selfs_known =
      each_append (IsKnownSelf fs ts n) (named_self_rows old) (named_self_rows other)
      (known_selfs fs ts n old.functions old.files
      (in_first same_function functions_decide old.functions other.functions)
      (in_first bytes_eq bytes_eq-Decides old.files other.files) old.self_rows
      (each_from (FitsSelf n (length old.functions) (length old.files)) old.self_rows is_old.self_rows_fit))
      (known_selfs fs ts n other.functions other.files
      (in_second same_function functions_decide old.functions other.functions)
      (in_second bytes_eq bytes_eq-Decides old.files other.files) other.self_rows other_selfs_fit)

  calls_known : AllByRecursion (IsKnownCall fs ts n) calls
  calls_known =
      each_append (IsKnownCall fs ts n) (named_call_rows old) (named_call_rows other)
      (known_calls fs ts n old.functions old.files
      (in_first same_function functions_decide old.functions other.functions)
      (in_first bytes_eq bytes_eq-Decides old.files other.files) old.call_rows
      (each_from (FitsCall n (length old.functions) (length old.files)) old.call_rows is_old.call_rows_fit))
      (known_calls fs ts n other.functions other.files
      (in_second same_function functions_decide old.functions other.functions)
      (in_second bytes_eq bytes_eq-Decides old.files other.files) other.call_rows other_calls_fit)

  self_functions : AllByRecursion (λ (r : NamedSelf). HasFunction fs ts n r.function) selfs
  self_functions = each_weaker (IsKnownSelf fs ts n) (λ (r : NamedSelf). HasFunction fs ts n r.function)
      (λ r known. known.function) selfs selfs_known

  self_files : AllByRecursion (λ (r : NamedSelf). HasFile fs ts n r.file) selfs
  self_files = each_weaker (IsKnownSelf fs ts n) (λ (r : NamedSelf). HasFile fs ts n r.file)
      (λ r known. known.file) selfs selfs_known

  self_costs : AllByRecursion (λ (r : NamedSelf). length r.cost ≡ n) selfs
  self_costs = each_weaker (IsKnownSelf fs ts n) (λ (r : NamedSelf). length r.cost ≡ n)
      (λ r known. known.cost) selfs selfs_known

  call_functions : AllByRecursion
      (λ (r : NamedCall). HasFunction fs ts n r.caller × HasFunction fs ts n r.callee) calls
  call_functions = each_weaker (IsKnownCall fs ts n)
      (λ (r : NamedCall). HasFunction fs ts n r.caller × HasFunction fs ts n r.callee)
      (λ r known. known.functions) calls calls_known

  call_files : AllByRecursion (λ (r : NamedCall). HasFile fs ts n r.file) calls
  call_files = each_weaker (IsKnownCall fs ts n) (λ (r : NamedCall). HasFile fs ts n r.file)
      (λ r known. known.file) calls calls_known

  call_costs : AllByRecursion (λ (r : NamedCall). length r.cost ≡ n) calls
  call_costs = each_weaker (IsKnownCall fs ts n) (λ (r : NamedCall). length r.cost ≡ n)
      (λ r known. known.cost) calls calls_known

  longer_of_same : (b : Bool) → old.events ≡ cond b other.events old.events
  longer_of_same true = sym same_events
  longer_of_same false = refl

  is_joined : IsJoined old other both
  unfolding both
  is_joined = record {
    events = longer_of_same (nat_lt (length old.events) (length other.events));
    command = refl;
    functions = refl;
    files = refl;
    self_rows = selfs_named fs ts n selfs self_functions self_files ∙ selfs_full fs ts n selfs selfs_known;
    call_rows = calls_named fs ts n calls call_functions call_files ∙ calls_full fs ts n calls calls_known;
  }

  is_profile : IsProfile both
  unfolding both
  is_profile = record {
    event_limit = is_old.event_limit;
    events_differ = is_old.events_differ;
    functions_differ = joined_apart same_function functions_decide old.functions other.functions
        is_old.functions_differ is_other.functions_differ;
    files_differ = joined_apart bytes_eq bytes_eq-Decides old.files other.files is_old.files_differ
        is_other.files_differ;
    self_rows_fit = each_at (FitsSelf n (length fs) (length ts)) (map (number_self fs ts n) selfs)
        (selfs_fit fs ts n selfs self_functions self_files self_costs);
    call_rows_fit = each_at (FitsCall n (length fs) (length ts)) (map (number_call fs ts n) calls)
        (calls_fit fs ts n calls call_functions call_files call_costs);
  }

  pub there_is_joined : (next : Contents) × IsProfile next × IsJoined old other next
  there_is_joined = (both, is_profile, is_joined)
