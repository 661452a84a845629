-- Two profiles joined.
use Rattle.std.proofs.Common.{◌≡◌, ℕ, zero, suc, ◌<◌, ◌≤◌, List, [], ◌∷◌, ◌++◌, length, map, get_or, Option, refl, ap}
use Rattle.std.proofs.Common.{arith, append-nil}
use Rattle.std.specs.List.{All, AllByRecursion}
use Rattle.std.specs.Str.{bytes_eq}
use Rattle.std.proofs.lemmas.List.{map-append}
use Rattle.std.proofs.lemmas.Option.{get_or_from_slice_get, slice_get_within}
use Rattle.cg_read.specs.Meaning.{or_else}
use Rattle.cg_read.specs.Merge.{padded_self, padded_call, missing}
use Rattle.cg_read.specs.inner.Gains.{HasRows, NumberEach, renumbered_self, renumbered_call, InRangeSelf}
use Rattle.cg_read.specs.inner.Gains.{InRangeCall, with_functions, with_gain}
use Rattle.cg_read.specs.Profiles.{Contents, IsProfile, AreApart, FitsSelf, FitsCall, named_self, named_call}
use Rattle.cg_read.specs.Profiles.{named_call_rows, named_self_rows, unknown, unknown_function}
use Rattle.cg_read.proofs.CostLemmas.{padded_to}
use Rattle.cg_read.proofs.DraftLemmas.{self_rows-kept, call_rows-kept, self_fit-kept, call_fit-kept}
use Rattle.cg_read.proofs.ProfileLemmas.{each_at}
use Rattle.cg_read.specs.declared.rows.FuncKey.{FuncKey}
use Rattle.cg_read.specs.declared.rows.SelfRow.{SelfRow}
use Rattle.cg_read.specs.declared.rows.CallRow.{CallRow}

pub each_from : {X : Type 0} (P : X → Type 0) (xs : List X) → All P xs → AllByRecursion P xs
each_from P [] h = tt
each_from P (x ∷ xs) h = (h 0 x (omega arith), each_from P xs (λ k d lt. h (suc k) d (omega arith)))

pub each_append : {X : Type 0} (P : X → Type 0) (xs ys : List X) → AllByRecursion P xs → AllByRecursion P ys
    → AllByRecursion P (xs ++ ys)
each_append P [] ys h k = k
each_append P (x ∷ xs) ys h k = (h.0, each_append P xs ys h.1 k)

pub length_numbers : {K : Type 0} (table : List K) (ns : List ℕ) (ks : List K) → NumberEach table ns ks
    → length ns ≡ length ks
length_numbers table [] [] h = refl
length_numbers table [] (k ∷ ks) h = absurd h
length_numbers table (n ∷ ns) [] h = absurd h
length_numbers table (n ∷ ns) (k ∷ ks) h = ap suc (length_numbers table ns ks h.1)

pub at_number : {K : Type 0} (table : List K) (ns : List ℕ) (ks : List K) (d : K) (i : ℕ) → NumberEach table ns ks
    → i < length ks → (get_or table (get_or ns i 0) d ≡ get_or ks i d) × (get_or ns i 0 < length table)
at_number table [] [] d i h lt = absurd (omega arith)
at_number table [] (k ∷ ks) d i h lt = absurd h
at_number table (n ∷ ns) [] d i h lt = absurd h
at_number table (n ∷ ns) (k ∷ ks) d zero h lt = (get_or_from_slice_get table n k d h.0, slice_get_within table n k h.0)
at_number table (n ∷ ns) (k ∷ ks) d (suc i) h lt = at_number table ns ks d i h.1 (omega arith)

module _ (m n : ℕ) (few : m ≤ n) (fs table_f : List FuncKey) (ts table_t : List (List ℕ)) (nf nt : List ℕ)
    (at_f : NumberEach table_f nf fs) (at_t : NumberEach table_t nt ts) where
  self_named : (rows : List SelfRow) → AllByRecursion (FitsSelf m (length fs) (length ts)) rows
      → map (named_self table_f table_t) (map (renumbered_self n nf nt) rows)
      ≡ map (padded_self n) (map (named_self fs ts) rows)
  self_named [] h = refl
  self_named (r ∷ rs) h =
      rw (
        (at_number table_f nf fs unknown_function r.func at_f h.0.function).0,
        (at_number table_t nt ts unknown r.file at_t h.0.file).0,
        self_named rs h.1,
      ) refl

  self_fit : (rows : List SelfRow) → AllByRecursion (FitsSelf m (length fs) (length ts)) rows
      → AllByRecursion (FitsSelf n (length table_f) (length table_t)) (map (renumbered_self n nf nt) rows)
  self_fit [] h = tt
  self_fit (r ∷ rs) h = (
    record {
      function = (at_number table_f nf fs unknown_function r.func at_f h.0.function).1;
      file = (at_number table_t nt ts unknown r.file at_t h.0.file).1;
      cost = padded_to n r.cost (omega (arith, h.0.cost, few));
    },
    self_fit rs h.1,
  )

  call_named : (rows : List CallRow) → AllByRecursion (FitsCall m (length fs) (length ts)) rows
      → map (named_call table_f table_t) (map (renumbered_call n nf nt) rows)
      ≡ map (padded_call n) (map (named_call fs ts) rows)
  call_named [] h = refl
  call_named (r ∷ rs) h =
      rw (
        (at_number table_f nf fs unknown_function r.caller at_f h.0.caller).0,
        (at_number table_f nf fs unknown_function r.callee at_f h.0.callee).0,
        (at_number table_t nt ts unknown r.file at_t h.0.file).0,
        call_named rs h.1,
      ) refl

  call_fit : (rows : List CallRow) → AllByRecursion (FitsCall m (length fs) (length ts)) rows
      → AllByRecursion (FitsCall n (length table_f) (length table_t)) (map (renumbered_call n nf nt) rows)
  call_fit [] h = tt
  call_fit (r ∷ rs) h = (
    record {
      caller = (at_number table_f nf fs unknown_function r.caller at_f h.0.caller).1;
      callee = (at_number table_f nf fs unknown_function r.callee at_f h.0.callee).1;
      file = (at_number table_t nt ts unknown r.file at_t h.0.file).1;
      cost = padded_to n r.cost (omega (arith, h.0.cost, few));
    },
    call_fit rs h.1,
  )

module _ (q : Contents) (table_f : List FuncKey) (table_t : List (List ℕ)) (nf nt : List ℕ) (n : ℕ)
    (holds : IsProfile q) (at_f : NumberEach table_f nf q.functions) (at_t : NumberEach table_t nt q.files)
    (few : length q.events ≤ n) where
  pub self_in_range : All (InRangeSelf n (length nf) (length nt)) q.self_rows
  self_in_range = λ k d lt.
      let fit = holds.self_rows_fit k d lt in
      rw (length_numbers table_f nf q.functions at_f, length_numbers table_t nt q.files at_t)
      (fit.function, fit.file, omega (arith, fit.cost, few))

  pub call_in_range : All (InRangeCall n (length nf) (length nt)) q.call_rows
  call_in_range = λ k d lt.
      let fit = holds.call_rows_fit k d lt in
      rw (length_numbers table_f nf q.functions at_f, length_numbers table_t nt q.files at_t)
      (fit.caller, fit.file, fit.callee, omega (arith, fit.cost, few))

-- a profile with these functions behind its own has the rows that it had
pub grown : (p : Contents) (more : List FuncKey) → IsProfile p → AreApart (p.functions ++ more)
    → IsProfile (with_functions p more) × (named_self_rows (with_functions p more) ≡ named_self_rows p)
    × (named_call_rows (with_functions p more) ≡ named_call_rows p)
grown p more holds apart =
    let n : ℕ = length p.events in
    let selfs = each_from (FitsSelf n (length p.functions) (length p.files)) p.self_rows holds.self_rows_fit in
    let calls = each_from (FitsCall n (length p.functions) (length p.files)) p.call_rows holds.call_rows_fit in (
      record {
        event_limit = holds.event_limit;
        events_differ = holds.events_differ;
        functions_differ = apart;
        files_differ = holds.files_differ;
        self_rows_fit = each_at (FitsSelf n (length (p.functions ++ more)) (length p.files)) p.self_rows
            (rw (append-nil p.files) at (self_fit-kept n p.functions more p.files [] p.self_rows selfs));
        call_rows_fit = each_at (FitsCall n (length (p.functions ++ more)) (length p.files)) p.call_rows
            (rw (append-nil p.files) at (call_fit-kept n p.functions more p.files [] p.call_rows calls));
      },
      rw (append-nil p.files) at (self_rows-kept n p.functions more p.files [] p.self_rows selfs),
      rw (append-nil p.files) at (call_rows-kept n p.functions more p.files [] p.call_rows calls),
    )

-- so what is appended to it is appended to the profile itself
pub grown_has : (p q new : Contents) (more : List FuncKey) → IsProfile p → AreApart (p.functions ++ more)
    → HasRows (p.functions ++ more) (with_functions p more) q new → HasRows (p.functions ++ more) p q new
grown_has p q new more holds apart h =
    let same = grown p more holds apart in
    record {
      events = h.events;
      command = h.command;
      functions = h.functions;
      files = h.files;
      self_rows = rw same.1 at h.self_rows;
      call_rows = rw same.2 at h.call_rows;
      profile = h.profile;
    }

pub gain_has_rows : (p q : Contents) (command : Option (List ℕ)) (mt : List (List ℕ)) (nf nt : List ℕ)
    → IsProfile p → IsProfile q → length q.events ≤ length p.events
    → mt ≡ missing bytes_eq p.files q.files → NumberEach p.functions nf q.functions
    → NumberEach (p.files ++ mt) nt q.files → AreApart (p.files ++ mt)
    → or_else p.command command ≡ or_else p.command q.command
    → HasRows p.functions p q
    (with_gain p command mt (map (renumbered_self (length p.events) nf nt) q.self_rows)
    (map (renumbered_call (length p.events) nf nt) q.call_rows))
gain_has_rows p q command mt nf nt holds_p holds_q few is_t at_f at_t apart_t same_command =
    let m : ℕ = length q.events in
    let n : ℕ = length p.events in
    let fs : List FuncKey = p.functions in
    let ts : List (List ℕ) = p.files ++ mt in
    let more_s : List SelfRow = map (renumbered_self n nf nt) q.self_rows in
    let more_c : List CallRow = map (renumbered_call n nf nt) q.call_rows in
    let own_s = each_from (FitsSelf n (length p.functions) (length p.files)) p.self_rows holds_p.self_rows_fit in
    let own_c = each_from (FitsCall n (length p.functions) (length p.files)) p.call_rows holds_p.call_rows_fit in
    let other_s = each_from (FitsSelf m (length q.functions) (length q.files)) q.self_rows holds_q.self_rows_fit in
    let other_c = each_from (FitsCall m (length q.functions) (length q.files)) q.call_rows holds_q.call_rows_fit in
    record {
      events = refl;
      command = same_command;
      functions = refl;
      files = ap (λ (l : List (List ℕ)). p.files ++ l) is_t;
      self_rows =
          rw (
            map-append (named_self fs ts) p.self_rows more_s,
            rw (append-nil p.functions) at (self_rows-kept n p.functions [] p.files mt p.self_rows own_s),
            self_named m n few q.functions fs q.files ts nf nt at_f at_t q.self_rows other_s,
          ) refl;
      call_rows =
          rw (
            map-append (named_call fs ts) p.call_rows more_c,
            rw (append-nil p.functions) at (call_rows-kept n p.functions [] p.files mt p.call_rows own_c),
            call_named m n few q.functions fs q.files ts nf nt at_f at_t q.call_rows other_c,
          ) refl;
      profile = record {
        event_limit = holds_p.event_limit;
        events_differ = holds_p.events_differ;
        functions_differ = holds_p.functions_differ;
        files_differ = apart_t;
        self_rows_fit = each_at (FitsSelf n (length fs) (length ts)) (p.self_rows ++ more_s)
            (each_append (FitsSelf n (length fs) (length ts)) p.self_rows more_s
            (rw (append-nil p.functions) at (self_fit-kept n p.functions [] p.files mt p.self_rows own_s))
            (self_fit m n few q.functions fs q.files ts nf nt at_f at_t q.self_rows other_s));
        call_rows_fit = each_at (FitsCall n (length fs) (length ts)) (p.call_rows ++ more_c)
            (each_append (FitsCall n (length fs) (length ts)) p.call_rows more_c
            (rw (append-nil p.functions) at (call_fit-kept n p.functions [] p.files mt p.call_rows own_c))
            (call_fit m n few q.functions fs q.files ts nf nt at_f at_t q.call_rows other_c));
      };
    }
