-- Two profiles joined, whichever has more events.
use Rattle.std.proofs.Common.{◌≡◌, ℕ, ◌≤◌, Bool, true, false, List, [], ◌∷◌, ◌++◌, length, get_or}
use Rattle.std.proofs.Common.{drop, map, refl, sym, ◌∙◌, ap, nat_lt, if◌then◌else◌, arith, append-nil, length-append}
use Rattle.std.specs.List.{AllByRecursion, starts_with}
use Rattle.std.specs.Str.{bytes_eq}
use Rattle.std.proofs.lemmas.Bool.Decides.{nat_tests}
use Rattle.std.proofs.lemmas.List.{map-append}
use Rattle.std.proofs.lemmas.Slice.Eq.{bytes_eq-Decides, starts_is}
use Rattle.cg_read.specs.Merge.{IsJoined, longer, missing, padded_self, padded_call}
use Rattle.cg_read.specs.inner.Gains.{IsAppended, no_rows}
use Rattle.cg_read.specs.Profiles.{Contents, IsProfile, AreApart, FitsSelf, FitsCall, named_self, named_call}
use Rattle.cg_read.specs.Profiles.{NamedSelf, NamedCall, named_self_rows, named_call_rows, same_function}
use Rattle.cg_read.specs.Profiles.{unknown, unknown_function}
use Rattle.cg_read.proofs.CostLemmas.{padded_whole}
use Rattle.cg_read.proofs.JoinLemmas.{each_from}
use Rattle.cg_read.proofs.ProfileLemmas.{place_is}
use Rattle.cg_read.specs.declared.rows.FuncKey.{FuncKey}
use Rattle.cg_read.specs.declared.rows.SelfRow.{SelfRow}
use Rattle.cg_read.specs.declared.rows.CallRow.{CallRow}

-- The lists of events

starts : (xs ys : List (List ℕ)) → starts_with bytes_eq xs ys ≡ true → xs ≡ ys ++ drop (length ys) xs
starts xs ys e = (starts_is bytes_eq-Decides xs ys (starts_with bytes_eq xs ys) refl).0 e

pub no_longer : (xs ys : List (List ℕ)) → starts_with bytes_eq xs ys ≡ true → length ys ≤ length xs
no_longer xs ys e = omega (arith, ap length (starts xs ys e), length-append ys (drop (length ys) xs))

first_is : (xs ys : List (List ℕ)) → length ys ≤ length xs → longer xs ys ≡ xs
first_is xs ys le =
    let go : (b : Bool) → nat_lt (length xs) (length ys) ≡ b → (if b then ys else xs) ≡ xs
    = elim [ true ↦ λ h. absurd (grind (arith, nat_tests, h, le)) | false ↦ λ h. refl ]
    in go (nat_lt (length xs) (length ys)) refl

same_long : (xs rest : List (List ℕ)) → length (xs ++ rest) ≤ length xs → xs ≡ xs ++ rest
same_long xs [] le = sym (append-nil xs)
same_long xs (r ∷ rest) le = absurd (omega (arith, length-append xs (r ∷ rest)))

second_is : (xs ys : List (List ℕ)) → starts_with bytes_eq ys xs ≡ true → longer xs ys ≡ ys
second_is xs ys e =
    let front = starts ys xs e in
    let go : (b : Bool) → nat_lt (length xs) (length ys) ≡ b → (if b then ys else xs) ≡ ys
    = elim [
      | true ↦ λ h. refl
      | false ↦ λ h.
          let le : length ys ≤ length xs = grind (arith, nat_tests, h) in
          same_long xs (drop (length xs) ys) (rw (← front) le) ∙ sym front
    ]
    in go (nat_lt (length xs) (length ys)) refl

-- The rows

module _ (n : ℕ) (fs : List FuncKey) (ts : List (List ℕ)) where
  self_whole : (rows : List SelfRow) → AllByRecursion (FitsSelf n (length fs) (length ts)) rows
      → map (padded_self n) (map (named_self fs ts) rows) ≡ map (named_self fs ts) rows
  self_whole [] h = refl
  self_whole (r ∷ rs) h = rw (padded_whole n r.cost h.0.cost, self_whole rs h.1) refl

  call_whole : (rows : List CallRow) → AllByRecursion (FitsCall n (length fs) (length ts)) rows
      → map (padded_call n) (map (named_call fs ts) rows) ≡ map (named_call fs ts) rows
  call_whole [] h = refl
  call_whole (r ∷ rs) h = rw (padded_whole n r.cost h.0.cost, call_whole rs h.1) refl

-- A profile that is appended to one of its events with no rows

missing_none : {K : Type 0} (same : K → K → Bool) (ys : List K) → missing same [] ys ≡ ys
missing_none same [] = refl
missing_none {K = K} same (y ∷ ys) = ap (λ (l : List K). y ∷ l) (missing_none same ys)

abbrev no_self : NamedSelf
no_self = record { function = unknown_function; file = unknown; line = 0; cost = [] }

abbrev no_call : NamedCall
no_call =
    record {
      caller = unknown_function;
      file = unknown;
      line = 0;
      callee = unknown_function;
      calls = 0;
      cost = [];
    }

module _ (n : ℕ) (fs : List FuncKey) (ts : List (List ℕ)) (apart_f : AreApart fs) (apart_t : AreApart ts) where
  self_is : (rows others : List SelfRow) → AllByRecursion (FitsSelf n (length fs) (length ts)) rows
      → AllByRecursion (FitsSelf n (length fs) (length ts)) others
      → map (named_self fs ts) rows ≡ map (named_self fs ts) others → rows ≡ others
  self_is [] [] h k e = refl
  self_is [] (q ∷ qs) h k e = absurd (cc)
  self_is (r ∷ rs) [] h k e = absurd (cc)
  self_is (r ∷ rs) (q ∷ qs) h k e =
      let head : named_self fs ts r ≡ named_self fs ts q = ap (λ l. get_or l 0 no_self) e in
      let one : r ≡ q = λ i. record {
        func = place_is fs unknown_function r.func q.func apart_f h.0.function k.0.function
            (ap (λ (x : NamedSelf). x.function) head) i;
        file = place_is ts unknown r.file q.file apart_t h.0.file k.0.file (ap (λ (x : NamedSelf). x.file) head) i;
        line = ap (λ (x : NamedSelf). x.line) head i;
        cost = ap (λ (x : NamedSelf). x.cost) head i;
      } in
      rw (one, self_is rs qs h.1 k.1 (ap (drop 1) e)) refl

  call_is : (rows others : List CallRow) → AllByRecursion (FitsCall n (length fs) (length ts)) rows
      → AllByRecursion (FitsCall n (length fs) (length ts)) others
      → map (named_call fs ts) rows ≡ map (named_call fs ts) others → rows ≡ others
  call_is [] [] h k e = refl
  call_is [] (q ∷ qs) h k e = absurd (cc)
  call_is (r ∷ rs) [] h k e = absurd (cc)
  call_is (r ∷ rs) (q ∷ qs) h k e =
      let head : named_call fs ts r ≡ named_call fs ts q = ap (λ l. get_or l 0 no_call) e in
      let one : r ≡ q = λ i. record {
        caller = place_is fs unknown_function r.caller q.caller apart_f h.0.caller k.0.caller
            (ap (λ (x : NamedCall). x.caller) head) i;
        file = place_is ts unknown r.file q.file apart_t h.0.file k.0.file (ap (λ (x : NamedCall). x.file) head) i;
        line = ap (λ (x : NamedCall). x.line) head i;
        callee = place_is fs unknown_function r.callee q.callee apart_f h.0.callee k.0.callee
            (ap (λ (x : NamedCall). x.callee) head) i;
        calls = ap (λ (x : NamedCall). x.calls) head i;
        cost = ap (λ (x : NamedCall). x.cost) head i;
      } in
      rw (one, call_is rs qs h.1 k.1 (ap (drop 1) e)) refl

-- with the same events it is the profile itself
pub copy_is : (p q : Contents) → IsProfile p → IsAppended (no_rows p.events) p q → q ≡ p
copy_is p q holds_p a =
    let holds_q = a.profile in
    let n : ℕ = length p.events in
    let fs : List FuncKey = p.functions in
    let ts : List (List ℕ) = p.files in
    let functions : q.functions ≡ fs = a.functions ∙ missing_none same_function fs in
    let files : q.files ≡ ts = a.files ∙ missing_none bytes_eq ts in
    let events : q.events ≡ p.events = a.events in
    let own_s = each_from (FitsSelf n (length fs) (length ts)) p.self_rows holds_p.self_rows_fit in
    let own_c = each_from (FitsCall n (length fs) (length ts)) p.call_rows holds_p.call_rows_fit in
    let new_s : AllByRecursion (FitsSelf n (length fs) (length ts)) q.self_rows =
    rw (functions, files, events) at
    (each_from (FitsSelf (length q.events) (length q.functions) (length q.files)) q.self_rows holds_q.self_rows_fit) in
    let new_c : AllByRecursion (FitsCall n (length fs) (length ts)) q.call_rows =
    rw (functions, files, events) at
    (each_from (FitsCall (length q.events) (length q.functions) (length q.files)) q.call_rows holds_q.call_rows_fit) in
    let named_s : map (named_self fs ts) q.self_rows ≡ map (named_self fs ts) p.self_rows
    = rw (functions, files) at a.self_rows ∙ self_whole n fs ts p.self_rows own_s in
    let named_c : map (named_call fs ts) q.call_rows ≡ map (named_call fs ts) p.call_rows
    = rw (functions, files) at a.call_rows ∙ call_whole n fs ts p.call_rows own_c in
    let self_rows = self_is n fs ts holds_p.functions_differ holds_p.files_differ q.self_rows p.self_rows
    new_s own_s named_s in
    let call_rows = call_is n fs ts holds_p.functions_differ holds_p.files_differ q.call_rows p.call_rows
    new_c own_c named_c in
    λ i. record {
      events = events i;
      command = a.command i;
      functions = functions i;
      files = files i;
      self_rows = self_rows i;
      call_rows = call_rows i;
    }

-- Joining

pub own_is_longer : (p q r : Contents) → IsProfile p → starts_with bytes_eq p.events q.events ≡ true → IsAppended p q r
    → IsJoined p q r
own_is_longer p q r holds e a =
    let n : ℕ = length p.events in
    let own_s : map (padded_self n) (named_self_rows p) ≡ named_self_rows p
    = self_whole n p.functions p.files p.self_rows
    (each_from (FitsSelf n (length p.functions) (length p.files)) p.self_rows holds.self_rows_fit) in
    let own_c : map (padded_call n) (named_call_rows p) ≡ named_call_rows p
    = call_whole n p.functions p.files p.call_rows
    (each_from (FitsCall n (length p.functions) (length p.files)) p.call_rows holds.call_rows_fit) in
    record {
      events = a.events ∙ sym (first_is p.events q.events (no_longer p.events q.events e));
      command = a.command;
      functions = a.functions;
      files = a.files;
      self_rows = rw (a.events, map-append (padded_self n) (named_self_rows p) (named_self_rows q), own_s) a.self_rows;
      call_rows = rw (a.events, map-append (padded_call n) (named_call_rows p) (named_call_rows q), own_c) a.call_rows;
    }

pub other_is_longer : (p q w r : Contents) → starts_with bytes_eq q.events p.events ≡ true
    → IsAppended (no_rows q.events) p w → IsAppended w q r → IsJoined p q r
other_is_longer p q w r e a b =
    let n : ℕ = length q.events in
    let functions : w.functions ≡ p.functions = a.functions ∙ missing_none same_function p.functions in
    let files : w.files ≡ p.files = a.files ∙ missing_none bytes_eq p.files in
    let events : w.events ≡ q.events = a.events in
    let command : w.command ≡ p.command = a.command in
    let own_s : named_self_rows w ≡ map (padded_self n) (named_self_rows p) = a.self_rows in
    let own_c : named_call_rows w ≡ map (padded_call n) (named_call_rows p) = a.call_rows in
    record {
      events = b.events ∙ events ∙ sym (second_is p.events q.events e);
      command = rw command at b.command;
      functions = rw functions at b.functions;
      files = rw files at b.files;
      self_rows =
          rw (b.events, events, map-append (padded_self n) (named_self_rows p) (named_self_rows q), ← own_s)
          (rw events at b.self_rows);
      call_rows =
          rw (b.events, events, map-append (padded_call n) (named_call_rows p) (named_call_rows q), ← own_c)
          (rw events at b.call_rows);
    }
