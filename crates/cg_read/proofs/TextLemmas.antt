-- Texts by their numbers, once there are more of them.
use Rattle.std.proofs.Common.{◌≡◌, ℕ, zero, suc, ◌<◌, Bool, true, false, List, [], ◌∷◌, ◌++◌}
use Rattle.std.proofs.Common.{length, map, get_or, Option, Some, None}
use Rattle.std.proofs.Common.{refl, ◌∙◌, ap, slice_get, unwrap_or, is_some, IsNone, rules, cond}
use Rattle.std.specs.List.{AllByRecursion}
use Rattle.std.proofs.lemmas.Option.{slice_get-get_or, get_or_from_slice_get, slice_get_within}
use Rattle.cg_read.specs.Meaning as meaning
use Rattle.cg_read.specs.Meaning.{Call, id_fault}
use Rattle.cg_read.specs.Profiles.{NamedSelf, NamedCall}
use Rattle.cg_read.specs.inner.Drafts.{StandForNumbered}
use Rattle.cg_read.specs.inner.Knowing.{Knows, Opens}
use Rattle.cg_read.specs.inner.Texts.{Keeps, Means, Names, IsOfTexts, function_in, text_in}
use Rattle.key_tables.specs.Keys.{with_key}
use Rattle.cg_read.proofs.DraftLemmas.{with_key-grows, fresh}
use Rattle.cg_read.specs.declared.rows.FuncKey.{FuncKey}
use Rattle.cg_read.specs.declared.rows.SelfRow.{SelfRow}
use Rattle.cg_read.specs.declared.rows.CallRow.{CallRow}
use Rattle.cg_read.specs.declared.function_numbers.FunctionNumbers.{FunctionNumbers}
use Rattle.cg_read.specs.declared.reader.OpenCall.{OpenCall}
use Rattle.cg_read.specs.declared.reader.Reader.{Reader}
use Rattle.cg_lines.specs.declared.line.Line.{Line}

-- What stands in a list stands there once there is more

pub slice_get_kept : {X : Type 0} (xs ys : List X) (n : ℕ) (x : X) → slice_get xs n ≡ Some x
    → slice_get (xs ++ ys) n ≡ Some x
slice_get_kept [] ys n x e = absurd (cc)
slice_get_kept (z ∷ xs) ys zero x e = e
slice_get_kept (z ∷ xs) ys (suc n) x e = slice_get_kept xs ys n x e

pub last_at : {X : Type 0} (xs : List X) (x : X) → slice_get (xs ++ x ∷ []) (length xs) ≡ Some x
last_at [] x = refl
last_at (z ∷ xs) x = last_at xs x

-- What a number means

pub means_or : (texts : List (List ℕ)) (o : Option ℕ) (t : Option (List ℕ)) (n : ℕ) (u : List ℕ) → Means texts o t
    → slice_get texts n ≡ Some u → slice_get texts (unwrap_or o n) ≡ Some (unwrap_or t u)
means_or texts None None n u h e = e
means_or texts None (Some t) n u h e = absurd h
means_or texts (Some m) None n u h e = absurd h
means_or texts (Some m) (Some t) n u h e = h

pub stands_or : (texts : List (List ℕ)) (n : ℕ) (t : Option (List ℕ)) (u : List ℕ) → Means texts (Some n) t
    → slice_get texts n ≡ Some (unwrap_or t u)
stands_or texts n None u h = absurd h
stands_or texts n (Some t) u h = h

pub no_fault : (texts : List (List ℕ)) (n : ℕ) (t : Option (List ℕ)) → Means texts (Some n) t → id_fault t ≡ None
no_fault texts n None h = absurd h
no_fault texts n (Some t) h = refl

pub is_meant : (texts : List (List ℕ)) (n : ℕ) (t : Option (List ℕ)) → Means texts (Some n) t → is_some t ≡ true
is_meant texts n None h = absurd h
is_meant texts n (Some t) h = refl

pub unknown_fault : (texts : List (List ℕ)) (t : Option (List ℕ)) → Means texts None t → t ≡ None
unknown_fault texts None h = refl
unknown_fault texts (Some t) h = absurd h

pub means_if : (texts : List (List ℕ)) (b : Bool) (o p : Option ℕ) (t u : Option (List ℕ)) → Means texts o t
    → Means texts p u → Means texts (cond b o p) (cond b t u)
means_if texts true o p t u h k = h
means_if texts false o p t u h k = k

pub opens_some : (texts : List (List ℕ)) (o : Option OpenCall) (m : Option Call) → Opens texts o m
    → is_some m ≡ is_some o
opens_some texts None None h = refl
opens_some texts None (Some m) h = absurd h
opens_some texts (Some o) None h = absurd h
opens_some texts (Some o) (Some m) h = refl

pub closed_opens : (texts : List (List ℕ)) (o : Option OpenCall) → IsNone o → Opens texts o None
closed_opens texts None h = tt
closed_opens texts (Some o) h = absurd (search (rules))

-- Texts that keep their numbers

pub keeps_all : (texts : List (List ℕ)) → Keeps texts texts
keeps_all texts = λ n text h. h

pub added_keeps : (same : List ℕ → List ℕ → Bool) (old new : List (List ℕ)) (text : List ℕ) → new ≡ with_key same old text
    → Keeps old new
added_keeps same old new text e = λ n t at.
    ap (λ (l : List (List ℕ)). slice_get l n) (e ∙ with_key-grows same old text)
    ∙ slice_get_kept old (fresh same old text) n t at

pub means_kept : (old new : List (List ℕ)) → Keeps old new → (o : Option ℕ) (t : Option (List ℕ)) → Means old o t
    → Means new o t
means_kept old new keeps None None h = tt
means_kept old new keeps None (Some t) h = h
means_kept old new keeps (Some n) None h = h
means_kept old new keeps (Some n) (Some t) h = keeps n t h

pub names_kept : (old new : List (List ℕ)) → Keeps old new → (f : FunctionNumbers) (k : FuncKey) → Names old f k
    → Names new f k
names_kept old new keeps f k h = record {
  object = keeps f.object k.object h.object;
  file = keeps f.file k.file h.file;
  name = keeps f.name k.name h.name;
}

opens_kept : (old new : List (List ℕ)) → Keeps old new → (o : Option OpenCall) (m : Option Call) → Opens old o m
    → Opens new o m
opens_kept old new keeps None None h = tt
opens_kept old new keeps None (Some m) h = h
opens_kept old new keeps (Some o) None h = h
opens_kept old new keeps (Some o) (Some m) h = (names_kept old new keeps o.callee m.callee h.0, h.1)

kept_at : (old new : List (List ℕ)) → Keeps old new → (n : ℕ) → n < length old
    → (text_in new n ≡ text_in old n) × (n < length new)
kept_at old new keeps n lt =
    let text : List ℕ = get_or old n [] in
    let now : slice_get new n ≡ Some text = keeps n text (slice_get-get_or old n [] lt) in
    (get_or_from_slice_get new n text [] now, slice_get_within new n text now)

pub functions_kept : (old new : List (List ℕ)) → Keeps old new → (fs : List FunctionNumbers)
    → AllByRecursion (IsOfTexts (length old)) fs
    → (map (function_in new) fs ≡ map (function_in old) fs) × AllByRecursion (IsOfTexts (length new)) fs
functions_kept old new keeps [] h = (refl, tt)
functions_kept old new keeps (f ∷ fs) h =
    let object = kept_at old new keeps f.object h.0.object in
    let file = kept_at old new keeps f.file h.0.file in
    let name = kept_at old new keeps f.name h.0.name in
    let rest = functions_kept old new keeps fs h.1 in (
      rw (object.0, file.0, name.0, rest.0) refl,
      (record { object = object.1; file = file.1; name = name.1 }, rest.1),
    )

files_kept : (old new : List (List ℕ)) → Keeps old new → (ts : List ℕ) → AllByRecursion (λ t. t < length old) ts
    → (map (text_in new) ts ≡ map (text_in old) ts) × AllByRecursion (λ t. t < length new) ts
files_kept old new keeps [] h = (refl, tt)
files_kept old new keeps (t ∷ ts) h =
    let file = kept_at old new keeps t h.0 in
    let rest = files_kept old new keeps ts h.1 in (rw (file.0, rest.0) refl, (file.1, rest.1))

holds_kept : (old new : List (List ℕ)) → Keeps old new → (n : ℕ) (fs : List FunctionNumbers) (ts : List ℕ)
    (rows : List SelfRow) (arcs : List CallRow) (selfs : List NamedSelf) (calls : List NamedCall)
    → StandForNumbered old n fs ts rows arcs selfs calls → StandForNumbered new n fs ts rows arcs selfs calls
holds_kept old new keeps n fs ts rows arcs selfs calls h =
    let functions = functions_kept old new keeps fs h.functions_known in
    let files = files_kept old new keeps ts h.files_known in
    record { functions_known = functions.1; files_known = files.1; stands = rw (functions.0, files.0) h.stands }

-- a reader that numbers more texts knows what it knew
pub knows_kept : (r : Reader) (new : List (List ℕ)) (before : List Line) → Keeps r.texts new → Knows r before
    → Knows (record r { texts = new }) before
knows_kept r new before keeps k = record {
  rows = record {
    names = k.rows.names;
    sound = k.rows.sound;
    none = k.rows.none;
    rows = holds_kept r.texts new keeps _ r.draft.functions r.draft.files r.draft.self_rows.items
        r.draft.call_rows.items (meaning.self_rows before) (meaning.call_rows before) k.rows.rows;
  };
  command = k.command;
  ids = record {
    objects = λ id. means_kept r.texts new keeps _ (meaning.object_ids before id) (k.ids.objects id);
    files = λ id. means_kept r.texts new keeps _ (meaning.file_ids before id) (k.ids.files id);
    functions = λ id. means_kept r.texts new keeps _ (meaning.function_ids before id) (k.ids.functions id);
  };
  current = record {
    object = keeps r.current.object (meaning.current_object before) k.current.object;
    file = keeps r.current.file (meaning.current_file before) k.current.file;
    function = names_kept r.texts new keeps r.current.function (meaning.current_function before) k.current.function;
  };
  position = k.position;
  callee = record {
    object = means_kept r.texts new keeps r.callee.object (meaning.callee_object before) k.callee.object;
    file = means_kept r.texts new keeps r.callee.file (meaning.callee_file before) k.callee.file;
    name = means_kept r.texts new keeps r.callee.name (meaning.callee_name before) k.callee.name;
  };
  open_call = opens_kept r.texts new keeps r.open_call (meaning.open_call before) k.open_call;
}
