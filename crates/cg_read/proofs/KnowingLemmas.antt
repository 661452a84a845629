-- What names mean, where two readings of the ids agree.
use Rattle.std.proofs.Common.{◌≡◌, ℕ, suc, ◌<◌, ◌≤◌, Bool, true, false, not, ◌&&◌, List, [], ◌∷◌, ◌++◌, length, Option}
use Rattle.std.proofs.Common.{Some, None, refl, sym, ◌∙◌, ap, subst, option_map, is_some, nat_le, if◌then◌else◌, IsNone}
use Rattle.std.proofs.Common.{unwrap_or, rules, arith, Result, Ok, Err, OnOk, IfErr, IfSome, IsErrAnd}
use Rattle.std.proofs.Common.{MatchResult}
use Rattle.std.specs.Str.{bytes_eq}
use Rattle.std.specs.List.{list_all}
use Rattle.std.specs.Cmp.Lexicographic.{pointwise}
use Rattle.std.proofs.lemmas.Bool.Decides.{nat_tests}
use Rattle.std.proofs.lemmas.Slice.Eq.{bytes_eq-Decides}
use Rattle.cg_lines.specs.Lines.{words}
use Rattle.cg_read.specs.Profiles.{most_events, NamedSelf, NamedCall, unknown}
use Rattle.cg_read.specs.Meaning as meaning
use Rattle.cg_lines.specs.Names.{same_names, is_distinct}
use Rattle.cg_read.specs.Meaning.{events_fault, calls_fault}
use Rattle.cg_read.specs.Meaning.{numbers_fault, number_fault, values, padded, self_rows, call_rows, self_if}
use Rattle.cg_lines.specs.Numbers.{value_of}
use Rattle.cg_read.specs.Meaning.{call_if, Call, fault, fault_alone}
use Rattle.cg_lines.specs.Shapes.{follows_call}
use Rattle.cg_read.specs.inner.Knowing.{counting_from, Knows, KnowsRows, KnowsCurrent, KnowsCallee, Opens}
use Rattle.cg_read.specs.inner.Drafts.{StandForNumbered, Holds}
use Rattle.cg_read.specs.inner.Texts.{Means, Names}
use Rattle.cg_lines.specs.Faults.{Refuses}
use Rattle.cg_read.proofs.CostLemmas.{padded_to}
use Rattle.cg_read.proofs.TextLemmas.{means_or, stands_or, is_meant, opens_some, closed_opens}
use Rattle.cg_read.specs.inner.Same.{both_true}
use Rattle.cg_read.specs.declared.draft.Draft.{Draft}
use Rattle.cg_read.specs.declared.callee.NextCallee.{NextCallee}
use Rattle.cg_read.specs.declared.current.Current.{Current}
use Rattle.cg_read.specs.declared.function_numbers.FunctionNumbers.{FunctionNumbers}
use Rattle.cg_read.specs.declared.reader.OpenCall.{OpenCall}
use Rattle.cg_read.specs.declared.reader.Reader.{Reader}
use Rattle.cg_read.specs.declared.rows.FuncKey.{FuncKey}
use Rattle.cg_read.specs.declared.rows.SelfRow.{SelfRow}
use Rattle.cg_read.specs.declared.rows.CallRow.{CallRow}
use Rattle.cg_lines.specs.declared.number.Number.{Number}
use Rattle.cg_lines.specs.declared.number.Number.TheVariants.{Fits, TooLarge}
use Rattle.cg_lines.specs.declared.line.Line.{Line}
use Rattle.cg_lines.specs.declared.line.Line.TheVariants.{Blank, Header, Events, Positions}
use Rattle.cg_lines.specs.declared.fault.Fault.{Fault}
use Rattle.cg_lines.specs.declared.fault.Fault.TheVariants.{BadLine, NoEvents, Jumps, UnknownId, BadNumber, Instr}
use Rattle.cg_lines.specs.declared.fault.Fault.TheVariants.{OutOfMemory}
use Rattle.cg_read.specs.inner.Events.{AreEvents}

-- the exit of a `?`
pub at_exit : {U : Type 0} (r : Result U Fault) (f : Fault) (P : U → Type 0) (fault : Option Fault)
    → IsErrAnd r (λ e. e ≡ f) → Refuses f fault → MatchResult r P (λ e. Refuses e fault)
at_exit (Ok x) f P fault h k = absurd h
at_exit (Err e) f P fault h k = let Q : Fault → Type 0 = λ g. Refuses g fault in subst Q (sym h) k

-- Names of events

pub names_are : (xs ys : List (List ℕ)) → same_names xs ys ≡ true → xs ≡ ys
names_are [] [] e = refl
names_are [] (y ∷ ys) e = absurd (cc)
names_are (x ∷ xs) [] e = absurd (cc)
names_are (x ∷ xs) (y ∷ ys) e =
    let both = both_true (bytes_eq x y) (pointwise bytes_eq xs ys) e in
    ap (λ (z : List ℕ). z ∷ xs) ((bytes_eq-Decides x y).0 both.0)
    ∙ ap (λ (zs : List (List ℕ)). y ∷ zs) (names_are xs ys both.1)

-- names that are repeated
pub repeated : {U : Type 0} (r : Result U Fault) (K : Type 0) (o : Option (List (List ℕ))) (first names : List (List ℕ))
    → Some first ≡ o
    → OnOk r (same_names first names ≡ true) → IfErr r (λ e. (e ≡ BadLine) × (same_names first names ≡ false))
    → (same_names first names ≡ true → K)
    → MatchResult r (λ _. K × (events_fault o names ≡ None)) (λ e. Refuses e (events_fault o names))
repeated (Ok x) K o first names is same err keep = (keep same, rw (← is, same) refl)
repeated (Err e) K o first names is same err keep = rw (err.0, ← is, err.1) refl

pub first_sound : (names : List (List ℕ)) → 0 < length names → length names ≤ most_events → is_distinct names ≡ true
    → events_fault None names ≡ None
first_sound names some few apart =
    let least : nat_le 1 (length names) ≡ true = grind (arith, nat_tests) in
    let most : nat_le (length names) most_events ≡ true = grind (arith, nat_tests) in
    rw (least, most, apart) refl

-- what isn't refused is free
no_refusal : (e : Fault) (fault : Option Fault) → Refuses e None → Refuses e fault
no_refusal (OutOfMemory _) fault h = tt
no_refusal BadLine fault h = absurd (cc)
no_refusal NoEvents fault h = absurd (cc)
no_refusal Jumps fault h = absurd (cc)
no_refusal UnknownId fault h = absurd (cc)
no_refusal BadNumber fault h = absurd (cc)
no_refusal Instr fault h = absurd (cc)

many : (o : Option (List (List ℕ))) (names : List (List ℕ)) → IfSome o AreEvents
    → nat_le (length names) most_events ≡ false → events_fault o names ≡ Some BadLine
many None names sound e =
    let go : (b : Bool) → (if b && false && is_distinct names then None else Some BadLine) ≡ Some BadLine
    = elim [ true ↦ refl | false ↦ refl ]
    in rw e (go (nat_le 1 (length names)))
many (Some first) names sound e =
    let go : (b : Bool) → same_names first names ≡ b → (if b then None else Some BadLine) ≡ Some BadLine
    = elim [
      | true ↦ λ same. absurd (grind (arith, nat_tests, e, sound.limit, ap length (names_are first names same)))
      | false ↦ λ _. refl
    ]
    in go (same_names first names) refl

-- too many names
pub too_many : (e : Fault) (o : Option (List (List ℕ))) (names : List (List ℕ)) → IfSome o AreEvents
    → Refuses e (if nat_le (length names) most_events then None else Some BadLine) → Refuses e (events_fault o names)
too_many e o names sound =
    let go : (b : Bool) → nat_le (length names) most_events ≡ b → Refuses e (if b then None else Some BadLine)
    → Refuses e (events_fault o names)
    = elim [
      | true ↦ λ _ h. no_refusal e (events_fault o names) h
      | false ↦ λ over h. rw (many o names sound over) h
    ]
    in go (nat_le (length names) most_events) refl

-- a draft without rows fits any number of events
pub Numbered-empty : (texts : List (List ℕ)) (n m : ℕ) (fs : List FunctionNumbers) (ts : List ℕ) (rows : List SelfRow)
    (arcs : List CallRow) (selfs : List NamedSelf) (calls : List NamedCall) → rows ≡ [] → arcs ≡ []
    → StandForNumbered texts n fs ts rows arcs selfs calls → StandForNumbered texts m fs ts rows arcs selfs calls
Numbered-empty texts n m fs ts rows arcs selfs calls e d h = record {
  functions_known = h.functions_known;
  files_known = h.files_known;
  stands = record {
    self_rows = h.stands.self_rows;
    call_rows = h.stands.call_rows;
    self_fit = rw e tt;
    call_fit = rw d tt;
    functions = h.stands.functions;
    files = h.stands.files;
  };
}

pub events_kept : (r : Reader) (before : List Line) (text : List ℕ) → Knows r before → IsNone r.open_call
    → meaning.events before ≡ Some (words text)
    → Knows (counting_from (meaning.position before) r) (Events text ∷ before)
events_kept r before text k closed same = record {
  rows =
      (let P : Option (List (List ℕ)) → Type 0
      = λ o. KnowsRows r.texts r.events r.draft o (self_rows before) (call_rows before) in subst P same k.rows);
  command = k.command;
  ids = k.ids;
  current = k.current;
  position = refl;
  callee = k.callee;
  open_call = closed_opens r.texts r.open_call closed;
}

-- Calls

abbrev pub numbers_of : ℕ → ℕ → ℕ → FunctionNumbers
numbers_of object file name = record { object = object; file = file; name = name }

pub calls_sound : (o : Option (List (List ℕ))) (name : Option (List ℕ)) (n : Number) (place : Option ℕ)
    → is_some o ≡ true → is_some name ≡ true → is_some (value_of n) ≡ true → is_some place ≡ true
    → calls_fault o name n place ≡ None
calls_sound None name n place a b c d = absurd (cc)
calls_sound (Some o) None n place a b c d = absurd (cc)
calls_sound (Some o) (Some name) TooLarge place a b c d = absurd (cc)
calls_sound (Some o) (Some name) (Fits n) None a b c d = absurd (cc)
calls_sound (Some o) (Some name) (Fits n) (Some place) a b c d = refl

-- what is taken of a callee is the callee that the lines say
pub callee_is : (texts : List (List ℕ)) (given : NextCallee) (known : Current) (before : List Line)
    (f : FunctionNumbers)
    → KnowsCallee texts given (meaning.callee_object before) (meaning.callee_file before) (meaning.callee_name before)
    → KnowsCurrent texts known (meaning.current_object before) (meaning.current_file before)
    (meaning.current_function before)
    → Some f
    ≡ option_map
    (λ name. numbers_of (unwrap_or given.object known.object) (unwrap_or given.file known.file) name) given.name
    → Names texts f (meaning.callee before) × (is_some (meaning.callee_name before) ≡ true)
callee_is texts given known before f said current e =
    let go : (o : Option ℕ) → Means texts o (meaning.callee_name before)
    → Some f
    ≡ option_map (λ name. numbers_of (unwrap_or given.object known.object) (unwrap_or given.file known.file) name) o
    → Names texts f (meaning.callee before) × (is_some (meaning.callee_name before) ≡ true)
    = elim [
      | None ↦ λ is h. absurd (cc)
      | Some name ↦ λ is h.
          let same : f ≡ numbers_of (unwrap_or given.object known.object) (unwrap_or given.file known.file) name
          = cc in
          rw same (
            record {
              object = means_or texts given.object (meaning.callee_object before) known.object
                  (meaning.current_object before) said.object current.object;
              file = means_or texts given.file (meaning.callee_file before) known.file (meaning.current_file before)
                  said.file current.file;
              name = stands_or texts name (meaning.callee_name before) unknown is;
            },
            is_meant texts name (meaning.callee_name before) is,
          )
    ]
    in go given.name said.name e

-- Costs

length-values : (ns : List (Option Number)) (vs : List ℕ) → values ns ≡ Some vs → length vs ≡ length ns
length-values [] vs e = let f : [] ≡ vs = cc in rw (← f) refl
length-values (None ∷ ns) vs e = absurd (cc)
length-values (Some TooLarge ∷ ns) vs e = absurd (cc)
length-values (Some (Fits n) ∷ ns) vs e =
    let go : (o : Option (List ℕ)) → values ns ≡ o → option_map (λ l. n ∷ l) o ≡ Some vs
    → length vs ≡ length (Some (Fits n) ∷ ns)
    = elim [
      | None ↦ λ is f. absurd (cc)
      | Some us ↦ λ is f. let g : n ∷ us ≡ vs = cc in let h = length-values ns us is in rw (← g) (ap suc h)
    ]
    in go (values ns) refl e

-- where the numbers have no fault, there are as many costs as events
pub length-padded : (n : ℕ) (ns : List (Option Number)) → numbers_fault n ns ≡ None
    → length (padded n (unwrap_or (values ns) [])) ≡ n
length-padded n ns e =
    let few : (b : Bool) → (list_all is_some ns && nat_le (length ns) n) ≡ b
    → (if b then number_fault (values ns) else Some BadLine) ≡ None
    → (length ns ≤ n) × (number_fault (values ns) ≡ None)
    = elim [
      | true ↦ λ h f.
          (let both = both_true (list_all is_some ns) (nat_le (length ns) n) h in grind (arith, nat_tests, both.1), f)
      | false ↦ λ h f. absurd (cc)
    ] in
    let sound = few (list_all is_some ns && nat_le (length ns) n) refl e in
    let go : (o : Option (List ℕ)) → values ns ≡ o → number_fault o ≡ None → length (padded n (unwrap_or o [])) ≡ n
    = elim [
      | None ↦ λ is f. absurd (cc)
      | Some vs ↦ λ is f. padded_to n vs (omega (arith, length-values ns vs is, sound.0))
    ]
    in go (values ns) refl sound.1

pub is_some-map : {X Y : Type 0} (f : X → Y) (o : Option X) → is_some (option_map f o) ≡ is_some o
is_some-map f None = refl
is_some-map f (Some x) = refl

pub draft_row : (texts : List (List ℕ)) (n : ℕ) (d : Draft) (selfs : List NamedSelf) (calls : List NamedCall)
    (o : Option Call) (f : FuncKey) (t : List ℕ) (l l' : ℕ) (cost cost' : List ℕ) → l ≡ l' → cost ≡ cost'
    → Holds texts n d (selfs ++ self_if o (record { function = f; file = t; line = l; cost = cost }))
    (calls ++ call_if o
    (λ call. record { caller = f; file = t; line = l; callee = call.callee; calls = call.calls; cost = cost }))
    → Holds texts n d (selfs ++ self_if o (record { function = f; file = t; line = l'; cost = cost' }))
    (calls ++ call_if o
    (λ call. record { caller = f; file = t; line = l'; callee = call.callee; calls = call.calls; cost = cost' }))
draft_row texts n d selfs calls o f t l l' cost cost' el ec h = rw (← el, ← ec) h

-- Lines that set nothing

pub blank_kept : (r : Reader) (before : List Line) → Knows r before
    → Knows (counting_from (meaning.position before) r) (Blank ∷ before)
blank_kept r before k = record {
  rows = k.rows;
  command = k.command;
  ids = k.ids;
  current = k.current;
  position = refl;
  callee = k.callee;
  open_call = k.open_call;
}

pub header_kept : (r : Reader) (before : List Line) → IsNone r.open_call → Knows r before
    → Knows (counting_from (meaning.position before) r) (Header ∷ before)
header_kept r before closed k =
    record {
      rows = k.rows;
      command = k.command;
      ids = k.ids;
      current = k.current;
      position = refl;
      callee = k.callee;
      open_call = closed_opens r.texts r.open_call closed;
    }

pub positions_kept : (r : Reader) (before : List Line) (text : List ℕ) → IsNone r.open_call → Knows r before
    → Knows (counting_from (meaning.position before) r) (Positions text ∷ before)
positions_kept r before text closed k =
    record {
      rows = k.rows;
      command = k.command;
      ids = k.ids;
      current = k.current;
      position = refl;
      callee = k.callee;
      open_call = closed_opens r.texts r.open_call closed;
    }

pub closed_from : {X : Type 0} (o : Option X) → (is_some o && true) ≡ false → IsNone o
closed_from None e = search (rules)
closed_from (Some x) e = absurd (cc)

-- where no call is open, or the line may follow one, the line is judged by itself
pub fault_is : (texts : List (List ℕ)) (o : Option OpenCall) (before : List Line) (line : Line)
    → Opens texts o (meaning.open_call before) → (is_some o && not (follows_call line)) ≡ false
    → fault before line ≡ fault_alone before line
fault_is texts o before line opens apart =
    let test : (is_some (meaning.open_call before) && not (follows_call line)) ≡ false
    = rw (opens_some texts o (meaning.open_call before) opens) apart in
    rw test refl
