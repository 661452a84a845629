-- What is asked for keeps the bounds of the table.
use Rattle.std.proofs.Common.{◌≡◌, ◌&&◌, ◌^◌, ◌<◌, ◌≤◌, ℕ, zero, suc, Bool, true, false, true≢false, cond, nat_le}
use Rattle.std.proofs.Common.{nat_lt, List, [], ◌∷◌, length, get_or, refl, sym, ap, subst, arith, Option, Some, None}
use Rattle.std.proofs.Common.{IfSome, map, codes, lit<, lit≤, unwrap_or}
use Rattle.std.specs.Prelude.{if◌then◌else◌, option_and_then}
use Rattle.std.specs.List.{list_all}
use Rattle.std.specs.Option.{option_map_or}
use Rattle.std.specs.Prelude.{Contains}
use Rattle.std.specs.Str.{bytes_eq}
use Rattle.std.proofs.lemmas.Map.Views.{Contains-from_any}
use Rattle.event_costs.specs.Costs.{event_names, events_shown}
use Rattle.std.proofs.lemmas.Bool.{and_parts, leb-true, lt-ltb, ltb-true}
use Rattle.sorted_words.specs.Sorting.{SortedCommand, Syntax, Text, is_among, sorting, uses}
use Rattle.sorted_words.proofs.RowLemmas.{same_text}
use Rattle.command_words.specs.Request.{Request, Usage, Uses, are_fine, read_request, request_of, command_named, demo, first}
use Rattle.command_words.specs.Request.{has_its_values, is_fine, job, request, command_request}
use Rattle.command_words.specs.Request.{Addresses, Contexts, Nothing, Waits, counts_one}
use Rattle.command_words.specs.Request.{says, sort_is_shown, view, watching}
use Rattle.command_words.specs.Request.{Demo as Asked_Demo}
use Rattle.command_words.specs.Table.{Command, AnyText, Number, Row, Run, RunAndReport, Report, Annotate, Demo, Sized}
use Rattle.command_words.specs.Table.{commands, rows_of, syntax_of}
use Rattle.command_words.specs.Values.{accepts, is_between, is_numeral, number, number_below, small_number, value_of}
use Rattle.command_words.specs.Within.{AreFew, IsBetween, IsJob, IsSortShown, IsView, IsWithin}

-- ---- numbers

between : (least most n : ℕ) → is_between least most n ≡ true → IsBetween least most n
between least most n e =
    let parts = and_parts (nat_le least n) (nat_le n most) e in
    record { least_of = leb-true least n parts.0; most_of = leb-true n most parts.1 }

-- the number that a text writes, where it is in range, is the same below any limit above the range
same_number : (limit n : ℕ) (text : Text) → number text ≡ Some n → n < limit → number_below limit text ≡ Some n
same_number limit n text e lt = go (is_numeral text && nat_lt (value_of text) (2 ^ 64)) refl
  where
    go : (b : Bool) → (is_numeral text && nat_lt (value_of text) (2 ^ 64)) ≡ b → number_below limit text ≡ Some n
    go false t =
        let bad : ◌≡◌ {A = Option ℕ} None (Some n) = rw t at e in
        cc
    go true t =
        let is : ◌≡◌ {A = Option ℕ} (Some (value_of text)) (Some n) = rw t at e in
        let same : value_of text ≡ n = cc in
        let numeral : is_numeral text ≡ true = (and_parts (is_numeral text) (nat_lt (value_of text) (2 ^ 64)) t).0 in
        let small : nat_lt (value_of text) limit ≡ true = lt-ltb (value_of text) limit (rw same lt) in
        rw (numeral, small) (ap (λ (v : ℕ). Some v) same)

number_of_text : (least most : ℕ) (text : Text) → option_map_or (is_between least most) (number text) false ≡ true
    → (n : ℕ) × (number text ≡ Some n) × IsBetween least most n
number_of_text least most text passes = go (number text) refl passes
  where
    go : (o : Option ℕ) → number text ≡ o → option_map_or (is_between least most) o false ≡ true
        → (n : ℕ) × (number text ≡ Some n) × IsBetween least most n
    go None e p = absurd (true≢false (sym p))
    go (Some n) e p = (n, e, between least most n p)

-- a number or its default
number_within : (least most limit default : ℕ) (texts : List Text) → list_all (accepts (Number least most)) texts ≡ true
    → IsBetween least most default → most < limit
    → IsBetween least most (unwrap_or (option_and_then (number_below limit) (first texts)) default)
number_within least most limit default [] fine is lt = is
number_within least most limit default (text ∷ texts) fine is lt =
    let parts = and_parts (accepts (Number least most) text) (list_all (accepts (Number least most)) texts) fine in
    let found = number_of_text least most text parts.0 in
    let below : found.0 < limit = omega (arith, found.2.most_of) in
    let P : Option ℕ → Type 0 = λ o. IsBetween least most (unwrap_or o default) in
    subst P (sym (same_number limit found.0 text found.1 below)) found.2

-- a number, where there is one
number_if : (least most limit : ℕ) (texts : List Text) → list_all (accepts (Number least most)) texts ≡ true
    → most < limit
    → IfSome (option_and_then (number_below limit) (first texts)) (λ n. IsBetween least most n)
number_if least most limit [] fine lt = tt
number_if least most limit (text ∷ texts) fine lt =
    let parts = and_parts (accepts (Number least most) text) (list_all (accepts (Number least most)) texts) fine in
    let found = number_of_text least most text parts.0 in
    let below : found.0 < limit = omega (arith, found.2.most_of) in
    let P : Option ℕ → Type 0 = λ o. IfSome o (λ n. IsBetween least most n) in
    subst P (sym (same_number limit found.0 text found.1 below)) found.2

-- ---- texts

text_within : (least most : ℕ) (default : Text) (texts : List Text)
    → list_all (accepts (Sized least (Some most))) texts ≡ true
    → IsBetween least most (length default) → IsBetween least most (length (unwrap_or (first texts) default))
text_within least most default [] fine is = is
text_within least most default (text ∷ texts) fine is =
    let parts =
    and_parts (accepts (Sized least (Some most)) text) (list_all (accepts (Sized least (Some most))) texts) fine in
    between least most (length text) parts.0

text_if : (least : ℕ) (texts : List Text) → list_all (accepts (Sized least None)) texts ≡ true
    → IfSome (first texts) (λ text. least ≤ length text)
text_if least [] fine = tt
text_if least (text ∷ texts) fine =
    let parts = and_parts (accepts (Sized least None) text) (list_all (accepts (Sized least None)) texts) fine in
    let size = and_parts (nat_le least (length text)) true parts.0 in
    leb-true least (length text) size.0

-- ---- the rows of a command

row_is_fine : (given : Uses) (rows : List Row) (k : ℕ) (d : Row) → k < length rows
    → list_all (λ row. is_fine row given) rows ≡ true
    → list_all (accepts (get_or rows k d).kind) (given (get_or rows k d).name) ≡ true
row_is_fine given [] k d lt fine = absurd (omega arith)
row_is_fine given (row ∷ rows) zero d lt fine =
    let parts = and_parts (is_fine row given) (list_all (λ r. is_fine r given) rows) fine in
    (and_parts (nat_le (length (given row.name)) 1) (list_all (accepts row.kind) (given row.name)) parts.0).1
row_is_fine given (row ∷ rows) (suc k) d lt fine =
    let parts = and_parts (is_fine row given) (list_all (λ r. is_fine r given) rows) fine in
    row_is_fine given rows k d (omega arith) parts.1

abbrev any_row : Row
any_row = record { name = []; takers = RunAndReport; kind = AnyText }

job_within : (given : Uses) (values : List Text)
    → list_all (accepts (Sized 1 (Some 200))) (given (codes "base")) ≡ true
    → list_all (accepts (Sized 1 None)) (given (codes "input")) ≡ true
    → list_all (accepts (Number 1 (10 ^ 12))) (given (codes "budget")) ≡ true
    → list_all (accepts (Number 1 1000000)) (given (codes "quantum")) ≡ true
    → list_all (accepts (Number 1 (10 ^ 12))) (given (codes "dump-every")) ≡ true
    → nat_lt 0 (length values) ≡ true → IsJob (job given values)
job_within given values base input budget quantum every named = record {
  base = text_within 1 200 (codes "callgrind.out") (given (codes "base")) base
      (record { least_of = lit≤ tt; most_of = lit≤ tt });
  input = text_if 1 (given (codes "input")) input;
  budget = number_within 1 (10 ^ 12) (2 ^ 64) (10 ^ 9) (given (codes "budget")) budget
      (record { least_of = lit≤ tt; most_of = lit≤ tt }) (lit< tt);
  quantum = number_within 1 1000000 (2 ^ 32) 10000 (given (codes "quantum")) quantum
      (record { least_of = lit≤ tt; most_of = lit≤ tt }) (lit< tt);
  every = number_if 1 (10 ^ 12) (2 ^ 64) (given (codes "dump-every")) every (lit< tt);
  program = ltb-true 0 (length values) named;
}

callers_of : (callers : Option ℕ) → IfSome callers (λ n. IsBetween 1 16 n) → AreFew (option_map_or Contexts callers Nothing)
callers_of None is = tt
callers_of (Some n) is = is

callers_within : (given : Uses) → list_all (accepts (Number 1 16)) (given (codes "separate-callers")) ≡ true
    → AreFew (watching given)
callers_within given fine =
    by (says (codes "yes") (given (codes "waits"))) (says (codes "yes") (given (codes "dump-instr")))
  where
    by : (b c : Bool) → AreFew (cond b Waits
        (cond c Addresses (option_map_or Contexts (option_and_then small_number (first (given (codes "separate-callers")))) Nothing)))
    by true c = tt
    by false true = tt
    by false false =
        callers_of (option_and_then small_number (first (given (codes "separate-callers"))))
        (number_if 1 16 (2 ^ 32) (given (codes "separate-callers")) fine (lit< tt))

view_within : (given : Uses) → list_all (accepts (Number 0 100)) (given (codes "threshold")) ≡ true
    → IsView (view given)
view_within given threshold =
    (number_within 0 100 (2 ^ 32) 0 (given (codes "threshold")) threshold
    (record { least_of = lit≤ tt; most_of = lit≤ tt }) (lit< tt)).most_of

one_of : (events : List Text) (event : Option Text) → option_map_or (is_among events) event true ≡ true
    → IfSome event (λ e. Contains events e)
one_of events None is = tt
one_of events (Some event) is =
    Contains-from_any {eq = λ a b. bytes_eq b a} (λ a b e. sym (same_text b a e)) event events is

sort_within : (given : Uses) (values : List Text) → sort_is_shown given ≡ true
    → IsSortShown (job given values) (view given)
sort_within given values is =
    one_of (events_shown (says (codes "yes") (given (codes "branch-sim"))) event_names)
    (first (given (codes "sort"))) is

demo_within : (values : List Text) → IsWithin (demo values)
demo_within [] = tt
demo_within (size ∷ []) = go (small_number size)
  where
    go : (o : Option ℕ) → IsWithin (option_map_or (λ n. if is_between 1 100000 n then Asked_Demo n else Usage) o Usage)
    go None = tt
    go (Some n) = inner (is_between 1 100000 n) refl
      where
        inner : (b : Bool) → is_between 1 100000 n ≡ b → IsWithin (cond b (Asked_Demo n) Usage)
        inner false e = tt
        inner true e = between 1 100000 n e
demo_within (size ∷ other ∷ values) = tt

requested_within : (c : Command) (given : Uses) (values : List Text) → are_fine c given ≡ true
    → has_its_values c given values ≡ true
    → IsWithin (command_request c given values)
requested_within Run given values fine has = (
  job_within given values (row_is_fine given (rows_of Run) 0 any_row (lit< tt) fine)
      (row_is_fine given (rows_of Run) 1 any_row (lit< tt) fine)
      (row_is_fine given (rows_of Run) 2 any_row (lit< tt) fine)
      (row_is_fine given (rows_of Run) 3 any_row (lit< tt) fine)
      (row_is_fine given (rows_of Run) 8 any_row (lit< tt) fine)
      (and_parts (nat_lt 0 (length values)) (counts_one given) has).0,
  callers_within given (row_is_fine given (rows_of Run) 13 any_row (lit< tt) fine),
)
requested_within Report given values fine has = (
  job_within given values (row_is_fine given (rows_of Report) 0 any_row (lit< tt) fine)
      (row_is_fine given (rows_of Report) 1 any_row (lit< tt) fine)
      (row_is_fine given (rows_of Report) 2 any_row (lit< tt) fine)
      (row_is_fine given (rows_of Report) 3 any_row (lit< tt) fine)
      (row_is_fine given (rows_of Report) 8 any_row (lit< tt) fine)
      (and_parts (nat_lt 0 (length values)) (sort_is_shown given) has).0,
  view_within given (row_is_fine given (rows_of Report) 13 any_row (lit< tt) fine),
  sort_within given values (and_parts (nat_lt 0 (length values)) (sort_is_shown given) has).1,
)
requested_within Annotate given values fine has =
    (ltb-true 0 (length values) has, view_within given (row_is_fine given (rows_of Annotate) 1 any_row (lit< tt) fine))
requested_within Demo given values fine has = demo_within values

request_within : (o : Option Command) (given : Uses) (values : List Text) → IsWithin (request o given values)
request_within None given values = tt
request_within (Some c) given values = go (are_fine c given && has_its_values c given values) refl
  where
    go : (b : Bool) → (are_fine c given && has_its_values c given values) ≡ b
        → IsWithin (cond b (command_request c given values) Usage)
    go false e = tt
    go true e =
        let parts = and_parts (are_fine c given) (has_its_values c given values) e in
        requested_within c given values parts.0 parts.1

of_sorted : (o : Option (Syntax × SortedCommand)) → IsWithin (request_of o)
of_sorted None = tt
of_sorted (Some (syntax, sorted)) =
    request_within (command_named syntax.name) (λ name. uses name sorted.options) sorted.values

pub asked_within : (words : List Text) → IsWithin (read_request words)
asked_within words = of_sorted (sorting (map syntax_of commands) words)

pub within_as : (words : List Text) (a : Request) → a ≡ read_request words → IsWithin a
within_as words a is = subst IsWithin (sym is) (asked_within words)
