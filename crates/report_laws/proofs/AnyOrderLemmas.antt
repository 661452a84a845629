-- Profiles of the same rows in any order have one report, but for the commands.
use Rattle.std.proofs.Common.{◌≡◌, ℕ, ◌+◌, Bool, true, false, not, ◌&&◌, ◌||◌, nat_lt, List, [], ◌∷◌, ◌++◌, get_or}
use Rattle.std.proofs.Common.{length, map, filter, sum_by, refl, sym, ap, ◌∙◌, arith, zero-add, append_assoc}
use Rattle.std.proofs.Common.{codes, decimal, flat_map, if◌then◌else◌}
use Rattle.std.specs.Prelude.{slice_index_or}
use Rattle.std.specs.List.{AllByRecursion, join_by, list_any}
use Rattle.std.specs.Str.{bytes_eq}
use Rattle.std.proofs.lemmas.Bool.{lt-ltb}
use Rattle.std.proofs.lemmas.List.Elements.{All-from_recursion, recursion_from_All}
use Rattle.std.proofs.lemmas.List.Sums.{sum_by-cons}
use Rattle.call_graph.specs.Groups.{Grouping}
use Rattle.cg_read.specs.Merge.{padded_call, padded_self}
use Rattle.cg_read.specs.Profiles.{Contents, FitsCall, FitsSelf, IsProfile, NamedCall, NamedSelf, SaysTheSame}
use Rattle.cg_read.specs.Profiles.{named_call, named_call_rows, named_self, named_self_rows, unknown}
use Rattle.cg_read.specs.Totals.{total}
use Rattle.cg_read.specs.declared.rows.CallRow.{CallRow}
use Rattle.cg_read.specs.declared.rows.SelfRow.{SelfRow}
use Rattle.annotate.specs.Calls.{calls_text}
use Rattle.annotate.specs.Files.{AreFilesShown, is_in_file}
use Rattle.annotate.specs.Functions.{command_line, functions_text}
use Rattle.annotate.specs.Names.{costs_text}
use Rattle.report_rows.specs.Lists.{each_event}
use Rattle.annotate.specs.Report.{IsReportOf, SourceTexts, text_with}
use Rattle.annotate.specs.Sources.{source_text}
use Rattle.report_rows.specs.Orders.{is_shown}
use Rattle.report_rows.specs.declared.options.ReportOptions.{ReportOptions}
use Rattle.report_laws.specs.Reports.{DifferByCommand}
use Rattle.report_laws.proofs.GroupLemmas.{report_over}
use Rattle.report_laws.proofs.JoinOrderLemmas.{TellAlike, at_padded}
use Rattle.report_laws.proofs.Others.{sum_by-map}
use Rattle.report_laws.proofs.RenumberLemmas.{file_found, func_found, one_report}
use Rattle.report_laws.proofs.StandLemmas.{any_of_map, calls_again, number_call, number_self, selfs_again}
use Rattle.report_laws.proofs.TextLemmas.{SumAlike, with_rows}

-- a test passes where more than none pass it
any_counts : {X : Type 0} (test : X → Bool) (xs : List X)
    → list_any test xs ≡ nat_lt 0 (sum_by (λ x. if test x then 1 else 0) xs)
any_counts test [] = refl
any_counts test (x ∷ xs) =
    by (test x) (any_counts test xs) ∙ ap (nat_lt 0) (sym (sum_by-cons (λ y. if test y then 1 else 0) x xs))
  where
    by : (b : Bool) → list_any test xs ≡ nat_lt 0 (sum_by (λ y. if test y then 1 else 0) xs)
        → (b || list_any test xs) ≡ nat_lt 0 ((if b then 1 else 0) + sum_by (λ y. if test y then 1 else 0) xs)
    by true rest = sym (lt-ltb 0 (1 + sum_by (λ y. if test y then 1 else 0) xs) (omega arith))
    by false rest = rest ∙ ap (nat_lt 0) (sym (zero-add (sum_by (λ y. if test y then 1 else 0) xs)))

module _ (p q : Contents) (alike : TellAlike p q) where
  -- a test that looks at no cost
  self_test : (test : NamedSelf → Bool) → ((n : ℕ) (row : NamedSelf) → test (padded_self n row) ≡ test row)
      → list_any test (named_self_rows p) ≡ list_any test (named_self_rows q)
  self_test test padding =
      any_counts test (named_self_rows p)
      ∙ ap (nat_lt 0) (alike.selfs (λ row. if test row then 1 else 0)
      (λ n row. ap (λ b. if b then 1 else 0) (padding n row)))
      ∙ sym (any_counts test (named_self_rows q))

  call_test : (test : NamedCall → Bool) → ((n : ℕ) (row : NamedCall) → test (padded_call n row) ≡ test row)
      → list_any test (named_call_rows p) ≡ list_any test (named_call_rows q)
  call_test test padding =
      any_counts test (named_call_rows p)
      ∙ ap (nat_lt 0) (alike.calls (λ row. if test row then 1 else 0)
      (λ n row. ap (λ b. if b then 1 else 0) (padding n row)))
      ∙ sym (any_counts test (named_call_rows q))

  in_file : (name : List ℕ) → list_any (is_in_file p name) p.self_rows ≡ list_any (is_in_file q name) q.self_rows
  in_file name =
      let at = λ (row : NamedSelf). bytes_eq row.file name in
      sym (any_of_map (named_self p.functions p.files) at p.self_rows) ∙ self_test at (λ n row. refl)
      ∙ any_of_map (named_self q.functions q.files) at q.self_rows

  pub same_files : (names : List (List ℕ)) → AreFilesShown p names → AreFilesShown q names
  same_files names are = record {
    rising = are.rising;
    exact = λ name. are.exact name ∙ (λ i. in_file name i && not (bytes_eq name unknown));
  }

-- ---- the command

abbrev events_line : Contents → List ℕ
events_line p = codes "events: " ++ join_by (λ name. name) (codes " ") p.events ++ codes "\n"

abbrev totals_line : Contents → List ℕ
totals_line p = codes "totals: " ++ costs_text (each_event p (total p)) ++ codes "\n"

abbrev sort_line : Contents → ReportOptions → List ℕ
sort_line p options =
    codes "sort: " ++ slice_index_or p.events options.sort [] ++ codes " threshold: " ++ decimal options.threshold
    ++ codes "\n"

abbrev source_texts : Contents → Bool → SourceTexts → List ℕ
source_texts p asked texts = if asked then flat_map (λ t. source_text p t.0 t.1) texts else []

-- what stands behind the first line
abbrev rest_of : Contents → Grouping → List (List ℕ) → ReportOptions → SourceTexts → List ℕ → List ℕ → List ℕ
rest_of p groups costs options texts functions shown =
    events_line p ++ totals_line p ++ sort_line p options ++ functions_text p groups costs functions shown
    ++ calls_text p groups functions shown options.tree ++ source_texts p options.auto texts

behind : (c e t s f k r : List ℕ) → (c ++ e ++ t ++ s) ++ f ++ k ++ r ≡ c ++ (e ++ t ++ s ++ f ++ k ++ r)
behind c e t s f k r = simp append_assoc

split : (p : Contents) (groups : Grouping) (costs : List (List ℕ)) (options : ReportOptions) (texts : SourceTexts)
    (functions shown : List ℕ)
    → text_with p groups costs options texts functions shown
    ≡ command_line p ++ rest_of p groups costs options texts functions shown
split p groups costs options texts functions shown =
    behind (command_line p) (events_line p) (totals_line p) (sort_line p options)
    (functions_text p groups costs functions shown) (calls_text p groups functions shown options.tree)
    (source_texts p options.auto texts)

module _ (p q : Contents) (profile : IsProfile p) (other : IsProfile q) (alike : TellAlike p q) where
  -- the second profile with the command of the first
  abbrev renamed : Contents
  renamed = record q { command = p.command }

  -- the rows of the first by the numbers of the second
  abbrev selfs : List SelfRow
  selfs = map (number_self q other) (named_self_rows p)

  abbrev calls : List CallRow
  calls = map (number_call q other) (named_call_rows p)

  -- ---- their sums

  own_selfs : q.self_rows ≡ map (number_self q other) (named_self_rows q)
  own_selfs = selfs_again q other q.self_rows (recursion_from_All _ q.self_rows other.self_rows_fit)

  own_calls : q.call_rows ≡ map (number_call q other) (named_call_rows q)
  own_calls = calls_again q other q.call_rows (recursion_from_All _ q.call_rows other.call_rows_fit)

  self_sum : (number : SelfRow → ℕ)
      → ((n : ℕ) (row : NamedSelf) → number (number_self q other (padded_self n row)) ≡ number (number_self q other row))
      → sum_by number selfs ≡ sum_by number q.self_rows
  self_sum number padding =
      sum_by-map number (number_self q other) (named_self_rows p)
      ∙ alike.selfs (λ row. number (number_self q other row)) padding
      ∙ sym (ap (sum_by number) own_selfs ∙ sum_by-map number (number_self q other) (named_self_rows q))

  call_sum : (number : CallRow → ℕ)
      → ((n : ℕ) (row : NamedCall) → number (number_call q other (padded_call n row)) ≡ number (number_call q other row))
      → sum_by number calls ≡ sum_by number q.call_rows
  call_sum number padding =
      sum_by-map number (number_call q other) (named_call_rows p)
      ∙ alike.calls (λ row. number (number_call q other row)) padding
      ∙ sym (ap (sum_by number) own_calls ∙ sum_by-map number (number_call q other) (named_call_rows q))

  self_any : (test : SelfRow → Bool)
      → ((n : ℕ) (row : NamedSelf) → test (number_self q other (padded_self n row)) ≡ test (number_self q other row))
      → list_any test selfs ≡ list_any test q.self_rows
  self_any test padding =
      any_of_map (number_self q other) test (named_self_rows p)
      ∙ self_test p q alike (λ row. test (number_self q other row)) padding
      ∙ sym (ap (list_any test) own_selfs ∙ any_of_map (number_self q other) test (named_self_rows q))

  call_any : (test : CallRow → Bool)
      → ((n : ℕ) (row : NamedCall) → test (number_call q other (padded_call n row)) ≡ test (number_call q other row))
      → list_any test calls ≡ list_any test q.call_rows
  call_any test padding =
      any_of_map (number_call q other) test (named_call_rows p)
      ∙ call_test p q alike (λ row. test (number_call q other row)) padding
      ∙ sym (ap (list_any test) own_calls ∙ any_of_map (number_call q other) test (named_call_rows q))

  sums : SumAlike renamed selfs calls
  sums = record {
    self_any = λ test. self_any (λ r. test r.func r.file r.line) (λ n row. refl);
    self_sum = λ test event.
        self_sum (λ r. if test r.func r.file r.line then get_or r.cost event 0 else 0)
        (λ n row.
        let at = number_self q other row in
        ap (λ m. if test at.func at.file at.line then m else 0) (at_padded n row.cost event));
    call_any = λ test. call_any (λ r. test r.caller r.callee) (λ n row. refl);
    call_sum = λ test event.
        call_sum (λ r. if test r.caller r.callee then get_or r.cost event 0 else 0)
        (λ n row.
        let at = number_call q other row in
        ap (λ m. if test at.caller at.callee then m else 0) (at_padded n row.cost event));
    calls_sum = λ test. call_sum (λ r. if test r.caller r.callee then r.calls else 0) (λ n row. refl);
  }

  -- ---- they are a profile, which says the same as the first

  abbrev SelfOf : Contents → SelfRow → Type 0
  SelfOf r = FitsSelf (length r.events) (length r.functions) (length r.files)

  abbrev CallOf : Contents → CallRow → Type 0
  CallOf r = FitsCall (length r.events) (length r.functions) (length r.files)

  width : (cost : List ℕ) → length cost ≡ length p.events → length cost ≡ length q.events
  width cost is = is ∙ ap length alike.events

  selfs_fit : (rows : List SelfRow) → AllByRecursion (SelfOf p) rows
      → AllByRecursion (SelfOf q) (map (number_self q other) (map (named_self p.functions p.files) rows))
      × (map (named_self p.functions p.files) rows
      ≡ map (named_self q.functions q.files)
      (map (number_self q other) (map (named_self p.functions p.files) rows)))
  selfs_fit [] fit = (tt, refl)
  selfs_fit (row ∷ rows) fit =
      let func = func_found p q alike.functions row.func fit.0.function in
      let file = file_found p q alike.files row.file fit.0.file in
      let rest = selfs_fit rows fit.1 in (
        (record { function = func.0; file = file.0; cost = width row.cost fit.0.cost }, rest.0),
        λ i. record { function = sym func.1 i; file = sym file.1 i; line = row.line; cost = row.cost } ∷ rest.1 i,
      )

  calls_fit : (rows : List CallRow) → AllByRecursion (CallOf p) rows
      → AllByRecursion (CallOf q) (map (number_call q other) (map (named_call p.functions p.files) rows))
      × (map (named_call p.functions p.files) rows
      ≡ map (named_call q.functions q.files)
      (map (number_call q other) (map (named_call p.functions p.files) rows)))
  calls_fit [] fit = (tt, refl)
  calls_fit (row ∷ rows) fit =
      let caller = func_found p q alike.functions row.caller fit.0.caller in
      let callee = func_found p q alike.functions row.callee fit.0.callee in
      let file = file_found p q alike.files row.file fit.0.file in
      let rest = calls_fit rows fit.1 in (
        (
          record { caller = caller.0; callee = callee.0; file = file.0; cost = width row.cost fit.0.cost },
          rest.0,
        ),
        λ i. record {
          caller = sym caller.1 i;
          file = sym file.1 i;
          line = row.line;
          callee = sym callee.1 i;
          calls = row.calls;
          cost = row.cost;
        } ∷ rest.1 i,
      )

  abbrev again : Contents
  again = with_rows renamed selfs calls

  selfs_are : AllByRecursion (SelfOf q) selfs × (named_self_rows p ≡ map (named_self q.functions q.files) selfs)
  selfs_are = selfs_fit p.self_rows (recursion_from_All (SelfOf p) p.self_rows profile.self_rows_fit)

  calls_are : AllByRecursion (CallOf q) calls × (named_call_rows p ≡ map (named_call q.functions q.files) calls)
  calls_are = calls_fit p.call_rows (recursion_from_All (CallOf p) p.call_rows profile.call_rows_fit)

  is_profile : IsProfile again
  is_profile = record {
    event_limit = other.event_limit;
    events_differ = other.events_differ;
    functions_differ = other.functions_differ;
    files_differ = other.files_differ;
    self_rows_fit = All-from_recursion (SelfOf q) selfs selfs_are.0;
    call_rows_fit = All-from_recursion (CallOf q) calls calls_are.0;
  }

  says : SaysTheSame p again
  says = record {
    events = alike.events;
    command = refl;
    self_rows = selfs_are.1;
    call_rows = calls_are.1;
    functions = alike.functions;
    files = alike.files;
  }

  -- ---- the report

  pub differ_by_command : (options : ReportOptions) (texts : SourceTexts) (text its : List ℕ)
      → IsReportOf p options texts text → IsReportOf q options texts its → DifferByCommand p q text its
  differ_by_command options texts text its first second =
      let report = second.report in
      let shown = filter (is_shown q second.costs options) report.ranked in
      let rest = rest_of q second.groups second.costs options texts report.functions shown in
      let as_renamed : IsReportOf renamed options texts (command_line p ++ rest)
      = record {
        groups = second.groups;
        grouped = second.grouped;
        costs = second.costs;
        inclusive = record {
          count = second.inclusive.count;
          width = second.inclusive.width;
          exact = second.inclusive.exact;
        };
        report = record {
          functions = report.functions;
          in_order = report.in_order;
          ranked = report.ranked;
          falling = report.falling;
          files = λ asked.
              let are = report.files asked in record { rising = are.rising; exact = are.exact };
          is = sym (split renamed second.groups second.costs options texts report.functions shown);
        };
      } in
      record {
        rest = rest;
        text_is = one_report p again profile is_profile says options texts text (command_line p ++ rest) first
            (report_over renamed selfs calls sums options texts (command_line p ++ rest) as_renamed);
        other_is = report.is ∙ split q second.groups second.costs options texts report.functions shown;
      }
