-- A row more in a draft.
use Rattle.std.proofs.Common.{◌≡◌, ℕ, Bool, true, false, ◌||◌, ◌&&◌, cond, List, [], ◌∷◌, ◌++◌, length, map, flat_map}
use Rattle.std.proofs.Common.{Some, refl, sym, ◌∙◌, ap, slice_get, arith, length-append, append-nil}
use Rattle.std.specs.List.{list_any, AllByRecursion}
use Rattle.std.specs.Str.{bytes_eq}
use Rattle.std.proofs.Math.ListN.{get_or-append}
use Rattle.std.proofs.lemmas.List.{map_push}
use Rattle.std.proofs.lemmas.Grind.{flat_map-append}
use Rattle.std.proofs.lemmas.Option.{get_or_from_slice_get, slice_get_within}
use Rattle.std.proofs.lemmas.List.Folds.{list_any-append}
use Rattle.std.proofs.lemmas.Slice.Eq.{bytes_eq-Decides}
use Rattle.cg_read.specs.inner.Same.{both_true}
use Rattle.key_tables.specs.Keys.{with_key}
use Rattle.cg_read.specs.Profiles.{FitsSelf, FitsCall, NamedSelf, NamedCall, named_self, named_call, has_function}
use Rattle.cg_read.specs.Profiles.{has_text, functions_of, files_of, same_function, unknown, unknown_function}
use Rattle.cg_read.specs.inner.Drafts.{StandFor}
use Rattle.cg_read.specs.declared.rows.FuncKey.{FuncKey}
use Rattle.cg_read.specs.declared.rows.SelfRow.{SelfRow}
use Rattle.cg_read.specs.declared.rows.CallRow.{CallRow}

-- Tests

pub or-false : (a : Bool) → (a || false) ≡ a
or-false true = refl
or-false false = refl

or_swap : (a b c : Bool) → ((a || b) || c) ≡ ((a || c) || b)
or_swap true b c = refl
or_swap false true true = refl
or_swap false true false = refl
or_swap false false true = refl
or_swap false false false = refl

pub or_assoc : (a b c : Bool) → ((a || b) || c) ≡ (a || (b || c))
or_assoc true b c = refl
or_assoc false b c = refl

-- Equal functions are the same

abbrev pub function : List ℕ → List ℕ → List ℕ → FuncKey
function object file name = record { object = object; file = file; name = name }

pub functions_eq : (f g : FuncKey) → same_function f g ≡ true → f ≡ g
functions_eq f g e =
    let first = both_true (bytes_eq f.object g.object) (bytes_eq f.file g.file && bytes_eq f.name g.name) e in
    let rest = both_true (bytes_eq f.file g.file) (bytes_eq f.name g.name) first.1 in
    ap (λ (t : List ℕ). function t f.file f.name) ((bytes_eq-Decides f.object g.object).0 first.0)
    ∙ ap (λ (t : List ℕ). function g.object t f.name) ((bytes_eq-Decides f.file g.file).0 rest.0)
    ∙ ap (λ (t : List ℕ). function g.object g.file t) ((bytes_eq-Decides f.name g.name).0 rest.1)

pub texts_are : (x y : List ℕ) → bytes_eq x y ≡ true → x ≡ y
texts_are x y = (bytes_eq-Decides x y).0

-- What is among the keys once one is added

abbrev pub fresh : {K : Type 0} → (K → K → Bool) → List K → K → List K
fresh same xs x = cond (list_any (same x) xs) [] (x ∷ [])

pub with_key-grows : {K : Type 0} (same : K → K → Bool) (xs : List K) (x : K) → with_key same xs x ≡ xs ++ fresh same xs x
with_key-grows same xs x =
    let go : (b : Bool) → cond b xs (xs ++ x ∷ []) ≡ xs ++ cond b [] (x ∷ [])
    = elim [ true ↦ sym (append-nil xs) | false ↦ refl ]
    in go (list_any (same x) xs)

-- Rows keep their texts

pub each_weaker : {X : Type 0} (P Q : X → Type 0) → ((x : X) → P x → Q x) → (xs : List X) → AllByRecursion P xs
    → AllByRecursion Q xs
each_weaker P Q f [] h = tt
each_weaker P Q f (x ∷ xs) h = (f x h.0, each_weaker P Q f xs h.1)

pub each_push : {X : Type 0} (P : X → Type 0) (xs : List X) (y : X) → AllByRecursion P xs → P y
    → AllByRecursion P (xs ++ y ∷ [])
each_push P [] y h p = (p, tt)
each_push P (x ∷ xs) y h p = (h.0, each_push P xs y h.1 p)

pub self_rows-kept : (n : ℕ) (fs more : List FuncKey) (ts others : List (List ℕ)) (rows : List SelfRow)
    → AllByRecursion (FitsSelf n (length fs) (length ts)) rows
    → map (named_self (fs ++ more) (ts ++ others)) rows ≡ map (named_self fs ts) rows
self_rows-kept n fs more ts others [] h = refl
self_rows-kept n fs more ts others (r ∷ rs) h =
    rw (
      get_or-append fs more unknown_function r.func h.0.function,
      get_or-append ts others unknown r.file h.0.file,
      self_rows-kept n fs more ts others rs h.1,
    ) refl

pub call_rows-kept : (n : ℕ) (fs more : List FuncKey) (ts others : List (List ℕ)) (rows : List CallRow)
    → AllByRecursion (FitsCall n (length fs) (length ts)) rows
    → map (named_call (fs ++ more) (ts ++ others)) rows ≡ map (named_call fs ts) rows
call_rows-kept n fs more ts others [] h = refl
call_rows-kept n fs more ts others (r ∷ rs) h =
    rw (
      get_or-append fs more unknown_function r.caller h.0.caller,
      get_or-append fs more unknown_function r.callee h.0.callee,
      get_or-append ts others unknown r.file h.0.file,
      call_rows-kept n fs more ts others rs h.1,
    ) refl

pub self_fit-kept : (n : ℕ) (fs more : List FuncKey) (ts others : List (List ℕ)) (rows : List SelfRow)
    → AllByRecursion (FitsSelf n (length fs) (length ts)) rows
    → AllByRecursion (FitsSelf n (length (fs ++ more)) (length (ts ++ others))) rows
self_fit-kept n fs more ts others rows h =
    each_weaker (FitsSelf n (length fs) (length ts)) (FitsSelf n (length (fs ++ more)) (length (ts ++ others)))
    (λ r p. record {
      function = omega (arith, length-append fs more, p.function);
      file = omega (arith, length-append ts others, p.file);
      cost = p.cost;
    }) rows h

pub call_fit-kept : (n : ℕ) (fs more : List FuncKey) (ts others : List (List ℕ)) (rows : List CallRow)
    → AllByRecursion (FitsCall n (length fs) (length ts)) rows
    → AllByRecursion (FitsCall n (length (fs ++ more)) (length (ts ++ others))) rows
call_fit-kept n fs more ts others rows h =
    each_weaker (FitsCall n (length fs) (length ts)) (FitsCall n (length (fs ++ more)) (length (ts ++ others)))
    (λ r p. record {
      caller = omega (arith, length-append fs more, p.caller);
      callee = omega (arith, length-append fs more, p.callee);
      file = omega (arith, length-append ts others, p.file);
      cost = p.cost;
    }) rows h

-- What the rows name once one is added

or_four : (a b c d : Bool) → (a || (b || (c || (d || false)))) ≡ (((a || b) || c) || d)
or_four true b c d = refl
or_four false true c d = refl
or_four false false true d = refl
or_four false false false d = or-false d

any_functions-self : (q : FuncKey) (selfs : List NamedSelf) (x : NamedSelf) (calls : List NamedCall)
    → has_function (functions_of (selfs ++ x ∷ []) calls) q
    ≡ (has_function (functions_of selfs calls) q || same_function q x.function)
any_functions-self q selfs x calls =
    let of_calls : List FuncKey = flat_map (λ (r : NamedCall). r.caller ∷ r.callee ∷ []) calls in
    let of_selfs : List FuncKey = map (λ (r : NamedSelf). r.function) selfs in
    rw (
      map_push (λ (r : NamedSelf). r.function) selfs x,
      list_any-append (same_function q) (of_selfs ++ x.function ∷ []) of_calls,
      list_any-append (same_function q) of_selfs (x.function ∷ []),
      list_any-append (same_function q) of_selfs of_calls,
      or-false (same_function q x.function),
    )
    (or_swap (list_any (same_function q) of_selfs) (same_function q x.function) (list_any (same_function q) of_calls))

any_functions-call : (q : FuncKey) (selfs : List NamedSelf) (calls : List NamedCall) (c : NamedCall)
    → has_function (functions_of selfs (calls ++ c ∷ [])) q
    ≡ ((has_function (functions_of selfs calls) q || same_function q c.caller) || same_function q c.callee)
any_functions-call q selfs calls c =
    let of_call : NamedCall → List FuncKey = λ r. r.caller ∷ r.callee ∷ [] in
    let of_calls : List FuncKey = flat_map of_call calls in
    let of_selfs : List FuncKey = map (λ (r : NamedSelf). r.function) selfs in
    rw (
      flat_map-append of_call calls (c ∷ []),
      list_any-append (same_function q) of_selfs (of_calls ++ (c.caller ∷ c.callee ∷ [])),
      list_any-append (same_function q) of_calls (c.caller ∷ c.callee ∷ []),
      list_any-append (same_function q) of_selfs of_calls,
    )
    (or_four (list_any (same_function q) of_selfs) (list_any (same_function q) of_calls) (same_function q c.caller)
    (same_function q c.callee))

any_files-self : (q : List ℕ) (selfs : List NamedSelf) (x : NamedSelf) (calls : List NamedCall)
    → has_text (files_of (selfs ++ x ∷ []) calls) q ≡ (has_text (files_of selfs calls) q || bytes_eq q x.file)
any_files-self q selfs x calls =
    let of_calls : List (List ℕ) = map (λ (r : NamedCall). r.file) calls in
    let of_selfs : List (List ℕ) = map (λ (r : NamedSelf). r.file) selfs in
    rw (
      map_push (λ (r : NamedSelf). r.file) selfs x,
      list_any-append (bytes_eq q) (of_selfs ++ x.file ∷ []) of_calls,
      list_any-append (bytes_eq q) of_selfs (x.file ∷ []),
      list_any-append (bytes_eq q) of_selfs of_calls,
      or-false (bytes_eq q x.file),
    )
    (or_swap (list_any (bytes_eq q) of_selfs) (bytes_eq q x.file) (list_any (bytes_eq q) of_calls))

any_files-call : (q : List ℕ) (selfs : List NamedSelf) (calls : List NamedCall) (c : NamedCall)
    → has_text (files_of selfs (calls ++ c ∷ [])) q ≡ (has_text (files_of selfs calls) q || bytes_eq q c.file)
any_files-call q selfs calls c =
    let of_calls : List (List ℕ) = map (λ (r : NamedCall). r.file) calls in
    let of_selfs : List (List ℕ) = map (λ (r : NamedSelf). r.file) selfs in
    rw (
      map_push (λ (r : NamedCall). r.file) calls c,
      list_any-append (bytes_eq q) of_selfs (of_calls ++ c.file ∷ []),
      list_any-append (bytes_eq q) of_calls (c.file ∷ []),
      list_any-append (bytes_eq q) of_selfs of_calls,
      or-false (bytes_eq q c.file),
    )
    (sym (or_assoc (list_any (bytes_eq q) of_selfs) (list_any (bytes_eq q) of_calls) (bytes_eq q c.file)))

-- A self row more

pub StandFor-self : (n : ℕ) (fs more_f : List FuncKey) (ts more_t : List (List ℕ)) (rows : List SelfRow)
    (arcs : List CallRow) (selfs : List NamedSelf) (calls : List NamedCall) (f : FuncKey) (t : List ℕ) (row : SelfRow)
    → StandFor n fs ts rows arcs selfs calls
    → ((q : FuncKey) → has_function (fs ++ more_f) q ≡ (has_function fs q || same_function q f))
    → ((q : List ℕ) → has_text (ts ++ more_t) q ≡ (has_text ts q || bytes_eq q t))
    → slice_get (fs ++ more_f) row.func ≡ Some f → slice_get (ts ++ more_t) row.file ≡ Some t → length row.cost ≡ n
    → StandFor n (fs ++ more_f) (ts ++ more_t) (rows ++ row ∷ []) arcs
    (selfs ++ record { function = f; file = t; line = row.line; cost = row.cost } ∷ []) calls
StandFor-self n fs more_f ts more_t rows arcs selfs calls f t row was has_f has_t at_f at_t width =
    let fs' : List FuncKey = fs ++ more_f in
    let ts' : List (List ℕ) = ts ++ more_t in
    let kept : map (named_self fs' ts') rows ≡ selfs = self_rows-kept n fs more_f ts more_t rows was.self_fit
    ∙ was.self_rows in
    record {
      self_rows =
          rw (
            map_push (named_self fs' ts') rows row,
            kept,
            get_or_from_slice_get fs' row.func f unknown_function at_f,
            get_or_from_slice_get ts' row.file t unknown at_t,
          ) refl;
      call_rows = call_rows-kept n fs more_f ts more_t arcs was.call_fit ∙ was.call_rows;
      self_fit = each_push (FitsSelf n (length fs') (length ts')) rows row
          (self_fit-kept n fs more_f ts more_t rows was.self_fit)
          (record {
            function = slice_get_within fs' row.func f at_f;
            file = slice_get_within ts' row.file t at_t;
            cost = width;
          });
      call_fit = call_fit-kept n fs more_f ts more_t arcs was.call_fit;
      functions = λ q. has_f q ∙ ap (λ b. b || same_function q f) (was.functions q)
          ∙ sym (any_functions-self q selfs _ calls);
      files = λ q. has_t q ∙ ap (λ b. b || bytes_eq q t) (was.files q) ∙ sym (any_files-self q selfs _ calls);
    }

-- A call row more

pub StandFor-call : (n : ℕ) (fs more_f : List FuncKey) (ts more_t : List (List ℕ)) (rows : List SelfRow)
    (arcs : List CallRow) (selfs : List NamedSelf) (calls : List NamedCall) (f g : FuncKey) (t : List ℕ) (row : CallRow)
    → StandFor n fs ts rows arcs selfs calls
    → ((q : FuncKey)
    → has_function (fs ++ more_f) q ≡ ((has_function fs q || same_function q f) || same_function q g))
    → ((q : List ℕ) → has_text (ts ++ more_t) q ≡ (has_text ts q || bytes_eq q t))
    → slice_get (fs ++ more_f) row.caller ≡ Some f → slice_get (fs ++ more_f) row.callee ≡ Some g
    → slice_get (ts ++ more_t) row.file ≡ Some t → length row.cost ≡ n
    → StandFor n (fs ++ more_f) (ts ++ more_t) rows (arcs ++ row ∷ []) selfs
    (calls ++ record { caller = f; file = t; line = row.line; callee = g; calls = row.calls; cost = row.cost } ∷ [])
StandFor-call n fs more_f ts more_t rows arcs selfs calls f g t row was has_f has_t at_f at_g at_t width =
    let fs' : List FuncKey = fs ++ more_f in
    let ts' : List (List ℕ) = ts ++ more_t in
    let kept : map (named_call fs' ts') arcs ≡ calls = call_rows-kept n fs more_f ts more_t arcs was.call_fit
    ∙ was.call_rows in
    record {
      self_rows = self_rows-kept n fs more_f ts more_t rows was.self_fit ∙ was.self_rows;
      call_rows =
          rw (
            map_push (named_call fs' ts') arcs row,
            kept,
            get_or_from_slice_get fs' row.caller f unknown_function at_f,
            get_or_from_slice_get fs' row.callee g unknown_function at_g,
            get_or_from_slice_get ts' row.file t unknown at_t,
          ) refl;
      self_fit = self_fit-kept n fs more_f ts more_t rows was.self_fit;
      call_fit = each_push (FitsCall n (length fs') (length ts')) arcs row
          (call_fit-kept n fs more_f ts more_t arcs was.call_fit)
          (record {
            caller = slice_get_within fs' row.caller f at_f;
            callee = slice_get_within fs' row.callee g at_g;
            file = slice_get_within ts' row.file t at_t;
            cost = width;
          });
      functions = λ q. has_f q
          ∙ ap (λ b. (b || same_function q f) || same_function q g) (was.functions q)
          ∙ sym (any_functions-call q selfs calls _);
      files = λ q. has_t q ∙ ap (λ b. b || bytes_eq q t) (was.files q) ∙ sym (any_files-call q selfs calls _);
    }
