-- The text of a report in which rows are replaced by others with equal sums.
use Rattle.std.proofs.Common.{◌≡◌, ℕ, ◌+◌, ◌*◌, ◌<◌, ◌==◌, Bool, true, false, not, ◌&&◌, ◌||◌, nat_le, nat_lt, List}
use Rattle.std.proofs.Common.{[], ◌∷◌, ◌++◌, get_or, length, map, filter, flat_map, take, refl, sym, ap, ◌∙◌, arith}
use Rattle.std.proofs.Common.{if◌then◌else◌, codes, count_by, sum_by, true≢false, ⊎_elim, ◌⊎◌}
use Rattle.std.specs.Prelude.{decimal, fold, max, slice_index, slice_index_or}
use Rattle.std.specs.List.{join_by, list_any}
use Rattle.std.specs.Str.{bytes_eq}
use Rattle.std.proofs.lemmas.Bool.{lt-ltb}
use Rattle.std.proofs.lemmas.Bool.Decides.{nat_tests}
use Rattle.byte_text.specs.Names.{clean_name}
use Rattle.call_graph.specs.Groups.{Grouping, is_member}
use Rattle.cg_read.specs.Profiles.{Contents, file_at, unknown}
use Rattle.cg_read.specs.Totals.{total}
use Rattle.cg_read.specs.declared.rows.CallRow.{CallRow}
use Rattle.cg_read.specs.declared.rows.SelfRow.{SelfRow}
use Rattle.cycles.specs.Costs.{group_at, inclusive_cost, self_cost}
use Rattle.cycles.specs.Limits.{pair_calls, pair_cost}
use Rattle.annotate.specs.Calls.{call_line, callees_text, callers_text, calls_of}
use Rattle.annotate.specs.Calls.{calls_text, is_call, is_off, pair_text}
use Rattle.annotate.specs.Files.{AreFilesShown, is_file_shown}
use Rattle.annotate.specs.Functions.{command_line, cycle_text, function_text, functions_text, group_rest}
use Rattle.annotate.specs.Functions.{group_text, heading, is_large, self_and_name, self_text}
use Rattle.annotate.specs.Names.{costs_text}
use Rattle.report_rows.specs.Lists.{each_event}
use Rattle.report_rows.specs.Orders.{cost_at, is_shown, members, numbers}
use Rattle.annotate.specs.Report.{IsReport, SourceTexts, text_with}
use Rattle.annotate.specs.Sources.{has_cost, line_cost, line_costs_text, lines_end, lines_text, others_text, shown_byte}
use Rattle.annotate.specs.Sources.{source_text, text_line, text_lines}
use Rattle.report_rows.specs.declared.options.ReportOptions.{ReportOptions}
use Rattle.report_rows.specs.declared.options.Tree.{Tree}
use Rattle.report_rows.specs.declared.options.Tree.TheVariants.{Off, Caller, Calling, Both}
use Rattle.annotate.specs.declared.source.Source.{Source}
use Rattle.annotate.specs.declared.source.Source.TheVariants.{Found, Missing, TooLong}

-- a profile with other rows
abbrev pub with_rows : Contents → List SelfRow → List CallRow → Contents
with_rows q selfs calls = record q { self_rows = selfs; call_rows = calls }

-- The rows have the sums of those of the profile, over any test of where they stand, and pass the same tests.
pub record SumAlike (q : Contents) (selfs : List SelfRow) (calls : List CallRow) : Type 0 where
  pub self_any : (test : ℕ → ℕ → ℕ → Bool)
      → list_any (λ (r : SelfRow). test r.func r.file r.line) selfs
      ≡ list_any (λ (r : SelfRow). test r.func r.file r.line) q.self_rows
  pub self_sum : (test : ℕ → ℕ → ℕ → Bool) (event : ℕ)
      → sum_by (λ (r : SelfRow). if test r.func r.file r.line then get_or r.cost event 0 else 0) selfs
      ≡ sum_by (λ (r : SelfRow). if test r.func r.file r.line then get_or r.cost event 0 else 0) q.self_rows
  pub call_any : (test : ℕ → ℕ → Bool)
      → list_any (λ (r : CallRow). test r.caller r.callee) calls
      ≡ list_any (λ (r : CallRow). test r.caller r.callee) q.call_rows
  pub call_sum : (test : ℕ → ℕ → Bool) (event : ℕ)
      → sum_by (λ (r : CallRow). if test r.caller r.callee then get_or r.cost event 0 else 0) calls
      ≡ sum_by (λ (r : CallRow). if test r.caller r.callee then get_or r.cost event 0 else 0) q.call_rows
  pub calls_sum : (test : ℕ → ℕ → Bool)
      → sum_by (λ (r : CallRow). if test r.caller r.callee then r.calls else 0) calls
      ≡ sum_by (λ (r : CallRow). if test r.caller r.callee then r.calls else 0) q.call_rows

-- ---- the last line of all

abbrev end_after : ℕ → SelfRow → ℕ
end_after end row = max end (row.line + 1)

-- a number is below the end where a row stands at it or past it
below_end : (n end : ℕ) (rows : List SelfRow)
    → nat_lt n (fold end_after end rows) ≡ (nat_lt n end || list_any (λ (r : SelfRow). nat_le n r.line) rows)
below_end n end [] = or_none (nat_lt n end)
  where
    or_none : (b : Bool) → b ≡ (b || false)
    or_none true = refl
    or_none false = refl
below_end n end (row ∷ rows) =
    below_end n (end_after end row) rows
    ∙ ap (λ b. b || list_any (λ (r : SelfRow). nat_le n r.line) rows) (at_max end row.line)
    ∙ or_assoc (nat_lt n end) (nat_le n row.line) (list_any (λ (r : SelfRow). nat_le n r.line) rows)
  where
    at_max : (e l : ℕ) → nat_lt n (max e (l + 1)) ≡ (nat_lt n e || nat_le n l)
    at_max e l = grind (arith, nat_tests)

    or_assoc : (a b c : Bool) → ((a || b) || c) ≡ (a || (b || c))
    or_assoc true b c = refl
    or_assoc false b c = refl

same_below : (a b : ℕ) → ((n : ℕ) → nat_lt n a ≡ nat_lt n b) → a ≡ b
same_below a b same =
    ⊎_elim (λ (e : a ≡ b). e)
    (λ (rest : (a < b) ⊎ (b < a)).
    ⊎_elim (λ (less : a < b). absurd (true≢false (sym (lt-ltb a b less) ∙ sym (same a) ∙ itself a)))
    (λ (less : b < a). absurd (true≢false (sym (lt-ltb b a less) ∙ same b ∙ itself b))) rest)
    (let P : (a ≡ b) ⊎ ((a < b) ⊎ (b < a)) = grind arith in P)
  where
    itself : (n : ℕ) → nat_lt n n ≡ false
    itself n = grind (arith, nat_tests)

module _ (q : Contents) (selfs : List SelfRow) (calls : List CallRow) (alike : SumAlike q selfs calls) where
  abbrev p : Contents
  p = with_rows q selfs calls

  pub total_same : total p ≡ total q
  total_same = λ i event. alike.self_sum (λ func file line. true) event i

  self_same : (member : ℕ → Bool) → self_cost member selfs ≡ self_cost member q.self_rows
  self_same member = λ i event. alike.self_sum (λ func file line. member func) event i

  pub inclusive_same : (member : ℕ → Bool) (event : ℕ) → inclusive_cost member p event ≡ inclusive_cost member q event
  inclusive_same member event = λ i.
      alike.self_sum (λ func file line. member func) event i
      + alike.call_sum (λ caller callee. member caller && not (member callee)) event i

  pub pair_same : (caller callee : ℕ) → pair_cost caller callee calls ≡ pair_cost caller callee q.call_rows
  pair_same caller callee = λ i event. alike.call_sum (λ f g. f == caller && g == callee) event i

  pub pair_calls_same : (caller callee : ℕ) → pair_calls caller callee calls ≡ pair_calls caller callee q.call_rows
  pair_calls_same caller callee = alike.calls_sum (λ f g. f == caller && g == callee)

  pub is_call_same : (caller callee : ℕ) → is_call p caller callee ≡ is_call q caller callee
  is_call_same caller callee = alike.call_any (λ f g. f == caller && g == callee)

  has_cost_same : (name : List ℕ) (line : ℕ) → has_cost p name line ≡ has_cost q name line
  has_cost_same name line = alike.self_any (λ func file l. bytes_eq (file_at q.files file) name && l == line)

  line_cost_same : (name : List ℕ) (line : ℕ) → line_cost p name line ≡ line_cost q name line
  line_cost_same name line = λ i event.
      alike.self_sum (λ func file l. bytes_eq (file_at q.files file) name && l == line) event i

  file_shown_same : (name : List ℕ) → is_file_shown p name ≡ is_file_shown q name
  file_shown_same name = λ i.
      alike.self_any (λ func file l. bytes_eq (file_at q.files file) name) i && not (bytes_eq name unknown)

  end_same : lines_end p ≡ lines_end q
  end_same =
      same_below (lines_end p) (lines_end q)
      (λ n. below_end n 0 selfs ∙ ap (λ b. nat_lt n 0 || b) (alike.self_any (λ func file l. nat_le n l))
      ∙ sym (below_end n 0 q.self_rows))

  pub files_same : (names : List (List ℕ)) → AreFilesShown q names → AreFilesShown p names
  files_same names are = record {
    rising = are.rising;
    exact = λ name. are.exact name ∙ sym (file_shown_same name);
  }

  -- ---- the pieces of the text

  heading_same : (options : ReportOptions) → heading p options ≡ heading q options
  heading_same options = λ i.
      command_line q ++ (codes "events: " ++ join_by (λ name. name) (codes " ") q.events ++ codes "\n")
      ++ (codes "totals: " ++ costs_text (each_event q (total_same i)) ++ codes "\n")
      ++ (codes "sort: " ++ slice_index_or q.events options.sort [] ++ codes " threshold: " ++ decimal options.threshold
      ++ codes "\n")

  self_text_same : (member : ℕ → Bool) → self_text p member ≡ self_text q member
  self_text_same member = λ i. costs_text (each_event q (self_same member i))

  name_same : (f : ℕ) → self_and_name p f ≡ self_and_name q f
  name_same f = λ i. self_text_same (λ g. g == f) i ++ codes " | " ++ function_text q f ++ codes "\n"

  cycle_same : (member : ℕ → Bool) (number : ℕ) (functions : List ℕ)
      → cycle_text p member number functions ≡ cycle_text q member number functions
  cycle_same member number functions = λ i.
      self_text_same member i ++ codes " | <cycle " ++ decimal number ++ codes ">\n"
      ++ flat_map (λ f. codes "  - | " ++ name_same f i) functions

  rest_same : (member : ℕ → Bool) (number : ℕ) (functions : List ℕ)
      → group_rest p member number functions ≡ group_rest q member number functions
  rest_same member number [] = cycle_same member number []
  rest_same member number (f ∷ []) = name_same f
  rest_same member number (f ∷ g ∷ functions) = cycle_same member number (f ∷ g ∷ functions)

  group_same : (groups : Grouping) (costs : List (List ℕ)) (functions : List ℕ) (number group : ℕ)
      → group_text p groups costs functions number group ≡ group_text q groups costs functions number group
  group_same groups costs functions number group = λ i.
      costs_text (slice_index_or costs group []) ++ codes " | "
      ++ rest_same (is_member groups group) number (members groups functions group) i

  functions_same : (groups : Grouping) (costs : List (List ℕ)) (functions shown : List ℕ)
      → functions_text p groups costs functions shown ≡ functions_text q groups costs functions shown
  functions_same groups costs functions shown = λ i.
      codes "\n-- functions\n"
      ++ flat_map (λ n. group_same groups costs functions (count_by (is_large groups functions) (take n shown) + 1)
      (slice_index shown n) i) (numbers (length shown))

  pair_text_same : (groups : Grouping) (caller callee : ℕ)
      → pair_text p groups caller callee ≡ pair_text q groups caller callee
  pair_text_same groups caller callee = λ i.
      if group_at groups caller == group_at groups callee then codes "-"
      else costs_text (each_event q (pair_same caller callee i))

  call_line_same : (groups : Grouping) (mark : List ℕ) (caller callee named : ℕ)
      → call_line p groups mark caller callee named ≡ call_line q groups mark caller callee named
  call_line_same groups mark caller callee named = λ i.
      mark ++ decimal (pair_calls_same caller callee i) ++ codes " | " ++ pair_text_same groups caller callee i
      ++ codes " | " ++ function_text q named ++ codes "\n"

  callers_same : (groups : Grouping) (functions : List ℕ) (f : ℕ)
      → callers_text p groups functions f ≡ callers_text q groups functions f
  callers_same groups functions f = λ i.
      flat_map (λ g. call_line_same groups (codes "  < ") g f g i) (filter (λ g. is_call_same g f i) functions)

  callees_same : (groups : Grouping) (functions : List ℕ) (f : ℕ)
      → callees_text p groups functions f ≡ callees_text q groups functions f
  callees_same groups functions f = λ i.
      flat_map (λ g. call_line_same groups (codes "  > ") f g g i) (filter (λ g. is_call_same f g i) functions)

  calls_of_same : (groups : Grouping) (functions : List ℕ) (tree : Tree) (f : ℕ)
      → calls_of p groups functions tree f ≡ calls_of q groups functions tree f
  calls_of_same groups functions Off f = refl
  calls_of_same groups functions Caller f = λ i.
      function_text q f ++ codes "\n" ++ callers_same groups functions f i
  calls_of_same groups functions Calling f = λ i.
      function_text q f ++ codes "\n" ++ callees_same groups functions f i
  calls_of_same groups functions Both f = λ i.
      function_text q f ++ codes "\n" ++ callers_same groups functions f i ++ callees_same groups functions f i

  calls_same : (groups : Grouping) (functions shown : List ℕ) (tree : Tree)
      → calls_text p groups functions shown tree ≡ calls_text q groups functions shown tree
  calls_same groups functions shown tree = λ i.
      if is_off tree then []
      else codes "\n-- calls\n"
      ++ flat_map (λ f. calls_of_same groups functions tree f i) (flat_map (members groups functions) shown)

  line_text_same : (name : List ℕ) (line : ℕ) → line_costs_text p name line ≡ line_costs_text q name line
  line_text_same name line = λ i. costs_text (each_event q (line_cost_same name line i))

  text_line_same : (name : List ℕ) (line : ℕ) (text : List ℕ)
      → text_line p name line text ≡ text_line q name line text
  text_line_same name line text = λ i.
      (if has_cost_same name line i then line_text_same name line i else codes ".")
      ++ codes " | " ++ map shown_byte text ++ codes "\n"

  lines_same : (name : List ℕ) (lines : List (List ℕ)) → lines_text p name lines ≡ lines_text q name lines
  lines_same name lines = λ i.
      flat_map (λ n. text_line_same name (n + 1) (slice_index_or lines n []) i) (numbers (length lines))

  others_same : (name : List ℕ) (count : ℕ) → others_text p name count ≡ others_text q name count
  others_same name count = λ i.
      flat_map (λ line. line_text_same name line i ++ codes " | <line " ++ decimal line ++ codes ">\n")
      (filter (λ line. has_cost_same name line i && not (nat_le 1 line && nat_le line count)) (numbers (end_same i)))

  source_same : (name : List ℕ) (source : Source) → source_text p name source ≡ source_text q name source
  source_same name (Found text) = λ i.
      codes "\n-- source " ++ clean_name name ++ codes "\n"
      ++ (lines_same name (text_lines text) i ++ others_same name (length (text_lines text)) i)
  source_same name Missing = refl
  source_same name (TooLong len) = refl

  sources_same : (asked : Bool) (texts : SourceTexts)
      → (if asked then flat_map (λ t. source_text p t.0 t.1) texts else [])
      ≡ (if asked then flat_map (λ t. source_text q t.0 t.1) texts else [])
  sources_same asked texts = λ i. if asked then flat_map (λ t. source_same t.0 t.1 i) texts else []

  shown_same : (costs : List (List ℕ)) (options : ReportOptions) → is_shown p costs options ≡ is_shown q costs options
  shown_same costs options = λ i group.
      nat_le (options.threshold * total_same i options.sort) (cost_at costs options.sort group * 100)

  text_same : (groups : Grouping) (costs : List (List ℕ)) (options : ReportOptions) (texts : SourceTexts)
      (functions shown : List ℕ)
      → text_with p groups costs options texts functions shown ≡ text_with q groups costs options texts functions shown
  text_same groups costs options texts functions shown = λ i.
      heading_same options i ++ functions_same groups costs functions shown i
      ++ calls_same groups functions shown options.tree i ++ sources_same options.auto texts i

  pub report_same : (groups : Grouping) (costs : List (List ℕ)) (options : ReportOptions) (texts : SourceTexts)
      (text : List ℕ) → IsReport q groups costs options texts text → IsReport p groups costs options texts text
  report_same groups costs options texts text is = record {
    functions = is.functions;
    in_order = is.in_order;
    ranked = is.ranked;
    falling = is.falling;
    files = λ asked. files_same (map (λ t. t.0) texts) (is.files asked);
    is = is.is
        ∙ sym (text_same groups costs options texts is.functions (filter (is_shown q costs options) is.ranked))
        ∙ ap (λ test. text_with p groups costs options texts is.functions (filter test is.ranked))
        (sym (shown_same costs options));
  }
