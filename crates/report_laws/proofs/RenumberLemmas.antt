-- Profiles that say the same have one report, however their functions and files are numbered.
use Rattle.std.proofs.Common.{◌≡◌, ℕ, ◌+◌, ◌*◌, ◌<◌, ◌==◌, ◌&&◌, ◌||◌, nat_le, nat_lt, not, Bool, true, false, List, [], ◌∷◌, ◌++◌}
use Rattle.std.proofs.Common.{All, Contains, get_or, length, map, filter, flat_map, take, refl, sym, ap, subst, ◌∙◌, arith, inl, inr}
use Rattle.std.proofs.Common.{cond, codes, count_by, if◌then◌else◌, sum_by, suc}
use Rattle.std.specs.Prelude.{decimal, fold, max, slice_index, slice_index_or}
use Rattle.std.specs.List.{AllByRecursion, join_by, list_any, position_or_len, range_with_len}
use Rattle.std.specs.Option.{option_map_or}
use Rattle.std.specs.Str.{bytes_eq}
use Rattle.std.proofs.lemmas.Bool.{lt-ltb}
use Rattle.std.proofs.lemmas.List.{length-map, map-append}
use Rattle.std.proofs.lemmas.List.Elements.{All-append, All-filter, recursion_from_All}
use Rattle.std.proofs.lemmas.List.Folds.{flat_map-map, list_any_at}
use Rattle.std.proofs.lemmas.List.FromFn.{get_or-map-range_with_len, length-map-range_with_len}
use Rattle.std.proofs.lemmas.List.Sums.{passes_at_first}
use Rattle.std.proofs.lemmas.Simd.{map-map}
use Rattle.std.proofs.lemmas.Slice.Eq.{bytes_eq-Decides}
use Rattle.call_graph.specs.Groups.{Grouping, is_member}
use Rattle.call_graph.specs.declared.arc.CallArc.{CallArc}
use Rattle.call_graph.specs.Reach.{Reach, SameGroup, Steps, more, one}
use Rattle.cg_read.specs.Profiles.{Contents, FitsCall, FitsSelf, IsProfile, NamedCall, NamedSelf, SaysTheSame, file_at}
use Rattle.cg_read.specs.Profiles.{function_at, has_function, has_text}
use Rattle.cg_read.specs.declared.rows.FuncKey.{FuncKey}
use Rattle.cg_read.specs.Profiles.{named_call, named_self, same_function, unknown, unknown_function}
use Rattle.cg_read.specs.Totals.{total}
use Rattle.cg_read.specs.declared.rows.CallRow.{CallRow}
use Rattle.cg_read.specs.declared.rows.SelfRow.{SelfRow}
use Rattle.cycles.specs.Costs.{IsInclusive, arc_of, call_arcs, group_at, inclusive_cost, self_cost}
use Rattle.cycles.specs.Limits.{is_pair, pair_calls, pair_cost}
use Rattle.report_rows.specs.Lists.{each_event}
use Rattle.report_rows.specs.Orders.{AreInOrder, IsArranged, cost_at, group_order, in_group, is_shown, key_order, least}
use Rattle.report_rows.specs.Orders.{members, numbers}
use Rattle.report_laws.proofs.OneTextLemmas.{filter_agree_on, filter_of_map, flat_map_agree, sum_agree_on, sum_of_map}
use Rattle.annotate.specs.Calls.{call_line, callees_text, callers_text, calls_of, calls_text, is_call, is_off}
use Rattle.annotate.specs.Functions.{heading}
use Rattle.annotate.specs.Functions.{cycle_text, function_text, functions_text, group_rest, group_text, is_large}
use Rattle.annotate.specs.Functions.{self_and_name, self_text}
use Rattle.annotate.specs.Names.{costs_text, name_text}
use Rattle.report_rows.specs.declared.options.Tree.{Tree}
use Rattle.report_rows.specs.declared.options.Tree.TheVariants.{Off, Caller, Calling, Both}
use Rattle.annotate.specs.Report.{IsReportOf, SourceTexts, text_with}
use Rattle.annotate.specs.Sources.{has_cost, is_at, line_cost, line_costs_text, lines_end, lines_text, others_text}
use Rattle.annotate.specs.Sources.{shown_byte, source_text, text_lines}
use Rattle.annotate.specs.declared.source.Source.{Source}
use Rattle.annotate.specs.declared.source.Source.TheVariants.{Found, Missing, TooLong}
use Rattle.byte_text.specs.Names.{clean_name}
use Rattle.std.specs.Ordering.{nat_cmp, ordering_then}
use Rattle.std.specs.declared.cmp.Ordering.{Ordering}
use Rattle.report_rows.specs.declared.options.ReportOptions.{ReportOptions}
use Rattle.report_laws.proofs.StandLemmas.{any_of_map, file_again, func_again, functions_decide, functions_eq, texts_are}
use Rattle.report_laws.proofs.GroupLemmas.{Contains-map}
use Rattle.report_laws.proofs.ArrangedLemmas.{all_below, one_order}
use Rattle.report_laws.proofs.OneTextLemmas.{IsNumbered, first_alike, key_only, key_total, tests_alike}
use Rattle.report_laws.proofs.OneTextLemmas.{texts_same}

any_there : {X : Type 0} (test : X → Bool) (xs : List X) → list_any test xs ≡ true → position_or_len test xs < length xs
any_there test [] is = absurd (cc)
any_there test (x ∷ xs) is = by (test x) is (any_there test xs)
  where
    by : (b : Bool) → (b || list_any test xs) ≡ true → (list_any test xs ≡ true → position_or_len test xs < length xs)
        → cond (not b) (1 + position_or_len test xs) 0 < suc (length xs)
    by true is rest = omega arith
    by false is rest = omega (arith, rest is)

any_agree : {X : Type 0} (p q : X → Bool) (xs : List X) → All (λ x. p x ≡ q x) xs → list_any p xs ≡ list_any q xs
any_agree p q [] all = refl
any_agree p q (x ∷ xs) all =
    λ i. all 0 x (omega arith) i || any_agree p q xs (λ k d lt. all (suc k) d (omega (arith, lt))) i

-- the numbers of one profile's functions and files in another
abbrev pub func_in : Contents → Contents → ℕ → ℕ
func_in p q f = position_or_len (same_function (function_at p.functions f)) q.functions

abbrev pub file_in : Contents → Contents → ℕ → ℕ
file_in p q f = position_or_len (bytes_eq (file_at p.files f)) q.files

flipped : (p q : Contents) → SaysTheSame p q → SaysTheSame q p
flipped p q says = record {
  events = sym says.events;
  command = sym says.command;
  self_rows = sym says.self_rows;
  call_rows = sym says.call_rows;
  functions = λ f. sym (says.functions f);
  files = λ t. sym (says.files t);
}

module _ (p q : Contents) where
  -- a function that both profiles have has its text under its new number
  pub func_found : ((f : FuncKey) → has_function p.functions f ≡ has_function q.functions f) → (f : ℕ)
      → f < length p.functions
      → (func_in p q f < length q.functions) × (function_at q.functions (func_in p q f) ≡ function_at p.functions f)
  func_found same f lt =
      let key = function_at p.functions f in
      let has = sym (same key)
      ∙ list_any_at (same_function key) p.functions f unknown_function lt ((functions_decide key key).1 refl) in
      let there = any_there (same_function key) q.functions has in
      (there, sym (functions_eq key _ (passes_at_first (same_function key) q.functions unknown_function there)))

  pub file_found : ((t : List ℕ) → has_text p.files t ≡ has_text q.files t) → (f : ℕ) → f < length p.files
      → (file_in p q f < length q.files) × (file_at q.files (file_in p q f) ≡ file_at p.files f)
  file_found same f lt =
      let text = file_at p.files f in
      let has = sym (same text)
      ∙ list_any_at (bytes_eq text) p.files f unknown lt ((bytes_eq-Decides text text).1 refl) in
      let there = any_there (bytes_eq text) q.files has in
      (there, sym (texts_are text _ (passes_at_first (bytes_eq text) q.files unknown there)))

module _ (p q : Contents) (says : SaysTheSame p q) where
  func_there : (f : ℕ) → f < length p.functions
      → (func_in p q f < length q.functions) × (function_at q.functions (func_in p q f) ≡ function_at p.functions f)
  func_there = func_found p q says.functions

  file_there : (f : ℕ) → f < length p.files → file_at q.files (file_in p q f) ≡ file_at p.files f
  file_there f lt = (file_found p q says.files f lt).1

  func_back : IsProfile p → (f : ℕ) → f < length p.functions → func_in q p (func_in p q f) ≡ f
  func_back profile f lt =
      ap (λ key. position_or_len (same_function key) p.functions) (func_there f lt).1 ∙ sym (func_again p profile f lt)

module _ (p q : Contents) (profile : IsProfile p) (other : IsProfile q) (says : SaysTheSame p q) where
  abbrev n : ℕ
  n = length p.functions

  abbrev new : ℕ → ℕ
  new = func_in p q

  abbrev self_new : SelfRow → SelfRow
  self_new row = record {
    func = func_in p q row.func;
    file = file_in p q row.file;
    line = row.line;
    cost = row.cost;
  }

  abbrev call_new : CallRow → CallRow
  call_new row = record {
    caller = func_in p q row.caller;
    file = file_in p q row.file;
    line = row.line;
    callee = func_in p q row.callee;
    calls = row.calls;
    cost = row.cost;
  }

  func_is : (f g : ℕ) → f < length q.functions → function_at q.functions f ≡ function_at p.functions g → f ≡ new g
  func_is f g lt same =
      func_again q other f lt ∙ ap (λ (key : FuncKey). position_or_len (same_function key) q.functions) same

  file_is : (f g : ℕ) → f < length q.files → file_at q.files f ≡ file_at p.files g → f ≡ file_in p q g
  file_is f g lt same =
      file_again q other f lt ∙ ap (λ (text : List ℕ). position_or_len (bytes_eq text) q.files) same

  selfs_from : (qs ps : List SelfRow)
      → AllByRecursion (FitsSelf (length q.events) (length q.functions) (length q.files)) qs
      → map (named_self q.functions q.files) qs ≡ map (named_self p.functions p.files) ps → qs ≡ map self_new ps
  selfs_from [] [] fit same = refl
  selfs_from [] (y ∷ ps) fit same = absurd (cc)
  selfs_from (x ∷ qs) [] fit same = absurd (cc)
  selfs_from (x ∷ qs) (y ∷ ps) fit same =
      let head : named_self q.functions q.files x ≡ named_self p.functions p.files y = cc in
      let tail : map (named_self q.functions q.files) qs ≡ map (named_self p.functions p.files) ps = cc in
      let func = func_is x.func y.func fit.0.function (ap (λ (r : NamedSelf). r.function) head) in
      let file = file_is x.file y.file fit.0.file (ap (λ (r : NamedSelf). r.file) head) in
      let rest = selfs_from qs ps fit.1 tail in
      λ i. record { func = func i; file = file i; line = (head i).line; cost = (head i).cost } ∷ rest i

  calls_from : (qs ps : List CallRow)
      → AllByRecursion (FitsCall (length q.events) (length q.functions) (length q.files)) qs
      → map (named_call q.functions q.files) qs ≡ map (named_call p.functions p.files) ps → qs ≡ map call_new ps
  calls_from [] [] fit same = refl
  calls_from [] (y ∷ ps) fit same = absurd (cc)
  calls_from (x ∷ qs) [] fit same = absurd (cc)
  calls_from (x ∷ qs) (y ∷ ps) fit same =
      let head : named_call q.functions q.files x ≡ named_call p.functions p.files y = cc in
      let tail : map (named_call q.functions q.files) qs ≡ map (named_call p.functions p.files) ps = cc in
      let caller = func_is x.caller y.caller fit.0.caller (ap (λ (r : NamedCall). r.caller) head) in
      let callee = func_is x.callee y.callee fit.0.callee (ap (λ (r : NamedCall). r.callee) head) in
      let file = file_is x.file y.file fit.0.file (ap (λ (r : NamedCall). r.file) head) in
      let rest = calls_from qs ps fit.1 tail in
      λ i. record {
        caller = caller i;
        file = file i;
        line = (head i).line;
        callee = callee i;
        calls = (head i).calls;
        cost = (head i).cost;
      } ∷ rest i

  selfs : q.self_rows ≡ map self_new p.self_rows
  selfs =
      selfs_from q.self_rows p.self_rows (recursion_from_All _ q.self_rows other.self_rows_fit) (sym says.self_rows)

  calls : q.call_rows ≡ map call_new p.call_rows
  calls =
      calls_from q.call_rows p.call_rows (recursion_from_All _ q.call_rows other.call_rows_fit) (sym says.call_rows)

  -- ---- sums and tests over rows

  abbrev IsSelf : SelfRow → Type 0
  IsSelf row = FitsSelf (length p.events) n (length p.files) row

  abbrev IsCall : CallRow → Type 0
  IsCall row = FitsCall (length p.events) n (length p.files) row

  self_sum : (number its : SelfRow → ℕ) → ((row : SelfRow) → IsSelf row → number (self_new row) ≡ its row)
      → sum_by number q.self_rows ≡ sum_by its p.self_rows
  self_sum number its agree =
      ap (sum_by number) selfs ∙ sum_of_map number self_new p.self_rows
      ∙ sum_agree_on (λ row. number (self_new row)) its p.self_rows
      (λ k d lt. agree (get_or p.self_rows k d) (profile.self_rows_fit k d lt))

  self_any : (test its : SelfRow → Bool) → ((row : SelfRow) → IsSelf row → test (self_new row) ≡ its row)
      → list_any test q.self_rows ≡ list_any its p.self_rows
  self_any test its agree =
      ap (list_any test) selfs ∙ any_of_map self_new test p.self_rows
      ∙ any_agree (λ row. test (self_new row)) its p.self_rows
      (λ k d lt. agree (get_or p.self_rows k d) (profile.self_rows_fit k d lt))

  call_sum : (number its : CallRow → ℕ) → ((row : CallRow) → IsCall row → number (call_new row) ≡ its row)
      → sum_by number q.call_rows ≡ sum_by its p.call_rows
  call_sum number its agree =
      ap (sum_by number) calls ∙ sum_of_map number call_new p.call_rows
      ∙ sum_agree_on (λ row. number (call_new row)) its p.call_rows
      (λ k d lt. agree (get_or p.call_rows k d) (profile.call_rows_fit k d lt))

  call_any : (test its : CallRow → Bool) → ((row : CallRow) → IsCall row → test (call_new row) ≡ its row)
      → list_any test q.call_rows ≡ list_any its p.call_rows
  call_any test its agree =
      ap (list_any test) calls ∙ any_of_map call_new test p.call_rows
      ∙ any_agree (λ row. test (call_new row)) its p.call_rows
      (λ k d lt. agree (get_or p.call_rows k d) (profile.call_rows_fit k d lt))

  same_func : (f g : ℕ) → f < n → g < n → (new f == new g) ≡ (f == g)
  same_func f g in_f in_g =
      tests_alike (new f) (new g) f g
      (λ e. sym (func_back p q says profile f in_f) ∙ ap (func_in q p) e ∙ func_back p q says profile g in_g) (ap new)

  total_same : (event : ℕ) → total q event ≡ total p event
  total_same event =
      self_sum (λ row. slice_index row.cost event) (λ row. slice_index row.cost event) (λ row fit. refl)

  -- tests of functions that agree
  abbrev Agree : (ℕ → Bool) → (ℕ → Bool) → Type 0
  Agree theirs mine = (f : ℕ) → f < n → theirs (new f) ≡ mine f

  self_same : (theirs mine : ℕ → Bool) → Agree theirs mine → (event : ℕ)
      → self_cost theirs q.self_rows event ≡ self_cost mine p.self_rows event
  self_same theirs mine agree event =
      self_sum (λ row. if theirs row.func then slice_index row.cost event else 0)
      (λ row. if mine row.func then slice_index row.cost event else 0)
      (λ row fit. ap (λ b. if b then slice_index row.cost event else 0) (agree row.func fit.function))

  inclusive_same : (theirs mine : ℕ → Bool) → Agree theirs mine → (event : ℕ)
      → inclusive_cost theirs q event ≡ inclusive_cost mine p event
  inclusive_same theirs mine agree event =
      let leaving = call_sum
      (λ row. if theirs row.caller && not (theirs row.callee) then slice_index row.cost event else 0)
      (λ row. if mine row.caller && not (mine row.callee) then slice_index row.cost event else 0)
      (λ row fit i. if agree row.caller fit.caller i && not (agree row.callee fit.callee i)
      then slice_index row.cost event else 0) in
      λ i. self_same theirs mine agree event i + leaving i

  module _ (f g : ℕ) (in_f : f < n) (in_g : g < n) where
    same_pair : (row : CallRow) → IsCall row → is_pair (new f) (new g) (call_new row) ≡ is_pair f g row
    same_pair row fit = λ i. same_func row.caller f fit.caller in_f i && same_func row.callee g fit.callee in_g i

    pair_same : (event : ℕ) → pair_cost (new f) (new g) q.call_rows event ≡ pair_cost f g p.call_rows event
    pair_same event =
        call_sum (λ row. if is_pair (new f) (new g) row then slice_index row.cost event else 0)
        (λ row. if is_pair f g row then slice_index row.cost event else 0)
        (λ row fit. ap (λ b. if b then slice_index row.cost event else 0) (same_pair row fit))

    pair_calls_same : pair_calls (new f) (new g) q.call_rows ≡ pair_calls f g p.call_rows
    pair_calls_same =
        call_sum (λ row. if is_pair (new f) (new g) row then row.calls else 0)
        (λ row. if is_pair f g row then row.calls else 0)
        (λ row fit. ap (λ b. if b then row.calls else 0) (same_pair row fit))

    is_call_same : is_call q (new f) (new g) ≡ is_call p f g
    is_call_same = call_any (is_pair (new f) (new g)) (is_pair f g) same_pair

-- ---- groups

reach_over : {S T : ℕ → ℕ → Type 0} (number : ℕ → ℕ) → ((f g : ℕ) → S f g → T (number f) (number g)) → {f g : ℕ}
    → Reach S f g → Reach T (number f) (number g)
reach_over number to {f = f} {g = g} (one s) = one (to f g s)
reach_over number to {f = f} (more {g = h} s r) = more (to f h s) (reach_over number to r)

group_over : {S T : ℕ → ℕ → Type 0} (number : ℕ → ℕ) → ((f g : ℕ) → S f g → T (number f) (number g)) → (f g : ℕ)
    → SameGroup S f g → SameGroup T (number f) (number g)
group_over number to f g (inl e) = inl (ap number e)
group_over number to f g (inr r) = inr (reach_over number to r.0, reach_over number to r.1)

module _ (p q : Contents) (profile : IsProfile p) (other : IsProfile q) (says : SaysTheSame p q) where
  arc_new : CallArc → CallArc
  arc_new arc = record { caller = func_in p q arc.caller; callee = func_in p q arc.callee }

  step_over : (f g : ℕ) → Steps (call_arcs p) f g → Steps (call_arcs q) (func_in p q f) (func_in p q g)
  unfolding arc_new
  step_over f g step =
      subst (λ (arcs : List CallArc). Contains arcs (record { caller = func_in p q f; callee = func_in p q g }))
      (sym (ap (map arc_of) (calls p q profile other says)
      ∙ map-map arc_of (call_new p q profile other says) p.call_rows ∙ sym (map-map arc_new arc_of p.call_rows)))
      (Contains-map arc_new (call_arcs p) (record { caller = f; callee = g }) step)

module _ (p q : Contents) (profile : IsProfile p) (other : IsProfile q) (says : SaysTheSame p q) (theirs : Grouping)
    (numbered : IsNumbered q theirs) where
  abbrev num : ℕ
  num = length p.functions

  abbrev to : ℕ → ℕ
  to = func_in p q

  abbrev mine : Grouping
  mine = record { number = map (λ f. group_at theirs (func_in p q f)) (numbers (length p.functions)); cyclic = theirs.cyclic }

  mine_at : (f : ℕ) → f < num → group_at mine f ≡ group_at theirs (to f)
  mine_at f lt = get_or-map-range_with_len (λ g. group_at theirs (to g)) 0 num f f 0 lt (omega arith)

  down : (f g : ℕ) → f < num → g < num → SameGroup (Steps (call_arcs q)) (to f) (to g)
      → SameGroup (Steps (call_arcs p)) f g
  down f g in_f in_g same =
      let back = group_over (func_in q p) (step_over q p other profile (flipped p q says)) (to f) (to g) same in
      subst (λ h. SameGroup (Steps (call_arcs p)) h g) (func_back p q says profile f in_f)
      (subst (λ h. SameGroup (Steps (call_arcs p)) (func_in q p (to f)) h) (func_back p q says profile g in_g) back)

  pub mine_numbered : IsNumbered p mine
  mine_numbered = record {
    size = length-map-range_with_len (λ g. group_at theirs (to g)) 0 num;
    same = λ f g in_f in_g.
        let is = numbered.same (to f) (to g) (func_there p q says f in_f).0 (func_there p q says g in_g).0 in (
          (λ e. down f g in_f in_g (is.0 (sym (mine_at f in_f) ∙ e ∙ mine_at g in_g))),
          (λ r. mine_at f in_f ∙ is.1 (group_over to (step_over p q profile other says) f g r) ∙ sym (mine_at g in_g)),
        );
    below = λ f lt.
        subst (λ c. c < length theirs.cyclic) (sym (mine_at f lt)) (numbered.below (to f) (func_there p q says f lt).0);
    used = λ c within.
        let some = numbered.used c within in
        let back = func_there q p (flipped p q says) some.0 some.1 in (
          func_in q p some.0,
          back.0,
          mine_at (func_in q p some.0) back.0
              ∙ ap (group_at theirs) (func_back q p (flipped p q says) other some.0 some.1) ∙ some.2,
        );
  }

  member_agree : (c f : ℕ) → f < num → is_member theirs c (to f) ≡ is_member mine c f
  member_agree c f lt =
      let there : (to f < length theirs.number) = let at = (func_there p q says f lt).0 in omega (arith, at, numbered.size) in
      let here : (f < length mine.number) = omega (arith, lt, mine_numbered.size) in
      (λ i. lt-ltb (to f) (length theirs.number) there i && (group_at theirs (to f) == c))
      ∙ (λ i. sym (lt-ltb f (length mine.number) here) i && (sym (mine_at f lt) i == c))

  pub mine_inclusive : (costs : List (List ℕ)) → IsInclusive q theirs costs → IsInclusive p mine costs
  mine_inclusive costs are = record {
    count = are.count;
    width = λ c within. are.width c within ∙ ap length (sym says.events);
    exact = λ c event within shown.
        are.exact c event within (omega (arith, shown, ap length says.events))
        ∙ inclusive_same p q profile other says (is_member theirs c) (is_member mine c) (member_agree c) event;
  }

  -- ---- the text

  first_of_map : (test : ℕ → Bool) (f : ℕ → ℕ) (xs : List ℕ)
      → position_or_len test (map f xs) ≡ position_or_len (λ x. test (f x)) xs
  first_of_map test f [] = refl
  first_of_map test f (x ∷ xs) = ap (λ m. cond (not (test (f x))) (1 + m) 0) (first_of_map test f xs)

  costs_in : (theirs_cost mine_cost : ℕ → ℕ) → ((event : ℕ) → theirs_cost event ≡ mine_cost event)
      → costs_text (each_event q theirs_cost) ≡ costs_text (each_event p mine_cost)
  costs_in theirs_cost mine_cost same =
      let back = sym says.events in
      λ i. costs_text (map (λ event. same event i) (range_with_len 0 (length (back i))))

  name_in : (f : ℕ) → f < num → function_text q (to f) ≡ function_text p f
  name_in f lt = ap name_text (func_there p q says f lt).1

  self_in : (t m : ℕ → Bool) → ((f : ℕ) → f < num → t (to f) ≡ m f) → self_text q t ≡ self_text p m
  self_in t m agree =
      costs_in (self_cost t q.self_rows) (self_cost m p.self_rows) (self_same p q profile other says t m agree)

  self_name_in : (f : ℕ) → f < num → self_and_name q (to f) ≡ self_and_name p f
  self_name_in f lt =
      let self = self_in (λ g. g == to f) (λ g. g == f) (λ g in_g. same_func p q profile other says g f in_g lt) in
      λ i. self i ++ codes " | " ++ name_in f lt i ++ codes "\n"

  cycle_in : (t m : ℕ → Bool) → ((f : ℕ) → f < num → t (to f) ≡ m f) → (number : ℕ) (fs : List ℕ)
      → All (λ f. f < num) fs → cycle_text q t number (map to fs) ≡ cycle_text p m number fs
  cycle_in t m agree number fs all =
      let lines = flat_map-map (λ f. codes "  - | " ++ self_and_name q f) to fs
      ∙ flat_map_agree (λ f. codes "  - | " ++ self_and_name q (to f)) (λ f. codes "  - | " ++ self_and_name p f) fs
      (λ k d lt. ap (λ (text : List ℕ). codes "  - | " ++ text) (self_name_in (get_or fs k d) (all k d lt))) in
      let self = self_in t m agree in
      λ i. self i ++ codes " | <cycle " ++ decimal number ++ codes ">\n" ++ lines i

  rest_in : (t m : ℕ → Bool) → ((f : ℕ) → f < num → t (to f) ≡ m f) → (number : ℕ) (fs : List ℕ)
      → All (λ f. f < num) fs → group_rest q t number (map to fs) ≡ group_rest p m number fs
  rest_in t m agree number [] all = cycle_in t m agree number [] all
  rest_in t m agree number (f ∷ []) all = self_name_in f (all 0 f (omega arith))
  rest_in t m agree number (f ∷ g ∷ fs) all = cycle_in t m agree number (f ∷ g ∷ fs) all

  module _ (fs : List ℕ) (below : All (λ f. f < num) fs) where
    of_agree : (c : ℕ) → All (λ f. in_group theirs c (to f) ≡ in_group mine c f) fs
    of_agree c k d lt = ap (λ g. g == c) (sym (mine_at (get_or fs k d) (below k d lt)))

    members_in : (c : ℕ) → members theirs (map to fs) c ≡ map to (members mine fs c)
    members_in c =
        filter_of_map to (in_group theirs c) fs
        ∙ ap (map to) (filter_agree_on (λ f. in_group theirs c (to f)) (in_group mine c) fs (of_agree c))

    pub least_in : (c : ℕ) → least theirs (map to fs) c ≡ least mine fs c
    least_in c =
        first_of_map (in_group theirs c) to fs
        ∙ first_alike (λ f. in_group theirs c (to f)) (in_group mine c) fs
        (recursion_from_All (λ f. in_group theirs c (to f) ≡ in_group mine c f) fs (of_agree c))

    below_members : (c : ℕ) → All (λ f. f < num) (members mine fs c)
    below_members c = All-filter (in_group mine c) (λ f. f < num) fs below

    large_in : (c : ℕ) → is_large theirs (map to fs) c ≡ is_large mine fs c
    large_in c = ap (λ m. nat_lt 1 m) (ap length (members_in c) ∙ length-map (members mine fs c) to)

    group_in : (costs : List (List ℕ)) (number c : ℕ)
        → group_text q theirs costs (map to fs) number c ≡ group_text p mine costs fs number c
    group_in costs number c =
        ap (λ (text : List ℕ). costs_text (slice_index_or costs c []) ++ codes " | " ++ text)
        (ap (group_rest q (is_member theirs c) number) (members_in c)
        ∙ rest_in (is_member theirs c) (is_member mine c) (member_agree c) number (members mine fs c) (below_members c))

    functions_in : (costs : List (List ℕ)) (shown : List ℕ)
        → functions_text q theirs costs (map to fs) shown ≡ functions_text p mine costs fs shown
    functions_in costs shown =
        (λ i. codes "\n-- functions\n"
        ++ flat_map (λ k. group_text q theirs costs (map to fs)
        (count_by (λ c. large_in c i) (take k shown) + 1) (slice_index shown k)) (numbers (length shown)))
        ∙ (λ i. codes "\n-- functions\n"
        ++ flat_map (λ k. group_in costs (count_by (is_large mine fs) (take k shown) + 1) (slice_index shown k) i)
        (numbers (length shown)))

    -- calls

    line_in : (mark : List ℕ) (f g named : ℕ) → f < num → g < num → named < num
        → call_line q theirs mark (to f) (to g) (to named) ≡ call_line p mine mark f g named
    line_in mark f g named in_f in_g in_named =
        let calls = pair_calls_same p q profile other says f g in_f in_g in
        let cost = costs_in (pair_cost (to f) (to g) q.call_rows) (pair_cost f g p.call_rows)
        (pair_same p q profile other says f g in_f in_g) in
        let at_f = sym (mine_at f in_f) in
        let at_g = sym (mine_at g in_g) in
        λ i. mark ++ decimal (calls i) ++ codes " | " ++ (if at_f i == at_g i then codes "-" else cost i)
        ++ codes " | " ++ name_in named in_named i ++ codes "\n"

    callers_in : (f : ℕ) → f < num → callers_text q theirs (map to fs) (to f) ≡ callers_text p mine fs f
    callers_in f in_f =
        let kept = filter_of_map to (λ g. is_call q g (to f)) fs
        ∙ ap (map to) (filter_agree_on (λ g. is_call q (to g) (to f)) (λ g. is_call p g f) fs
        (λ k d lt. is_call_same p q profile other says (get_or fs k d) f (below k d lt) in_f)) in
        ap (flat_map (λ g. call_line q theirs (codes "  < ") g (to f) g)) kept
        ∙ flat_map-map (λ g. call_line q theirs (codes "  < ") g (to f) g) to (filter (λ g. is_call p g f) fs)
        ∙ flat_map_agree (λ g. call_line q theirs (codes "  < ") (to g) (to f) (to g))
        (λ g. call_line p mine (codes "  < ") g f g) (filter (λ g. is_call p g f) fs)
        (λ k d lt.
        let at = All-filter (λ g. is_call p g f) (λ g. g < num) fs below k d lt in
        line_in (codes "  < ") _ f _ at in_f at)

    callees_in : (f : ℕ) → f < num → callees_text q theirs (map to fs) (to f) ≡ callees_text p mine fs f
    callees_in f in_f =
        let kept = filter_of_map to (λ g. is_call q (to f) g) fs
        ∙ ap (map to) (filter_agree_on (λ g. is_call q (to f) (to g)) (λ g. is_call p f g) fs
        (λ k d lt. is_call_same p q profile other says f (get_or fs k d) in_f (below k d lt))) in
        ap (flat_map (λ g. call_line q theirs (codes "  > ") (to f) g g)) kept
        ∙ flat_map-map (λ g. call_line q theirs (codes "  > ") (to f) g g) to (filter (λ g. is_call p f g) fs)
        ∙ flat_map_agree (λ g. call_line q theirs (codes "  > ") (to f) (to g) (to g))
        (λ g. call_line p mine (codes "  > ") f g g) (filter (λ g. is_call p f g) fs)
        (λ k d lt.
        let at = All-filter (λ g. is_call p f g) (λ g. g < num) fs below k d lt in
        line_in (codes "  > ") f _ _ in_f at at)

    calls_of_in : (tree : Tree) (f : ℕ) → f < num
        → calls_of q theirs (map to fs) tree (to f) ≡ calls_of p mine fs tree f
    calls_of_in Off f in_f = refl
    calls_of_in Caller f in_f = λ i. name_in f in_f i ++ codes "\n" ++ callers_in f in_f i
    calls_of_in Calling f in_f = λ i. name_in f in_f i ++ codes "\n" ++ callees_in f in_f i
    calls_of_in Both f in_f = λ i. name_in f in_f i ++ codes "\n" ++ callers_in f in_f i ++ callees_in f in_f i

    below_all : (cs : List ℕ) → All (λ f. f < num) (flat_map (members mine fs) cs)
    below_all [] = λ k d lt. absurd (omega arith)
    below_all (c ∷ cs) =
        All-append (λ f. f < num) (members mine fs c) (flat_map (members mine fs) cs) (below_members c) (below_all cs)

    map_members : (cs : List ℕ)
        → flat_map (members theirs (map to fs)) cs ≡ map to (flat_map (members mine fs) cs)
    map_members [] = refl
    map_members (c ∷ cs) =
        (λ i. members_in c i ++ map_members cs i)
        ∙ sym (map-append to (members mine fs c) (flat_map (members mine fs) cs))

    calls_in : (shown : List ℕ) (tree : Tree)
        → calls_text q theirs (map to fs) shown tree ≡ calls_text p mine fs shown tree
    calls_in shown tree =
        ap (λ (text : List ℕ). if is_off tree then [] else codes "\n-- calls\n" ++ text)
        (ap (flat_map (calls_of q theirs (map to fs) tree)) (map_members shown)
        ∙ flat_map-map (calls_of q theirs (map to fs) tree) to (flat_map (members mine fs) shown)
        ∙ flat_map_agree (λ f. calls_of q theirs (map to fs) tree (to f)) (calls_of p mine fs tree)
        (flat_map (members mine fs) shown) (λ k d lt. calls_of_in tree _ (below_all shown k d lt)))

-- ---- the heading and the sources

module _ (p q : Contents) (profile : IsProfile p) (other : IsProfile q) (says : SaysTheSame p q) where
  costs_of : (theirs_cost mine_cost : ℕ → ℕ) → ((event : ℕ) → theirs_cost event ≡ mine_cost event)
      → costs_text (each_event q theirs_cost) ≡ costs_text (each_event p mine_cost)
  costs_of theirs_cost mine_cost same =
      let back = sym says.events in
      λ i. costs_text (map (λ event. same event i) (range_with_len 0 (length (back i))))

  heading_in : (options : ReportOptions) → heading q options ≡ heading p options
  heading_in options =
      let events = sym says.events in
      let command = sym says.command in
      let totals = costs_of (total q) (total p) (total_same p q profile other says) in
      λ i. (codes "command: " ++ option_map_or clean_name (command i) unknown ++ codes "\n")
      ++ (codes "events: " ++ join_by (λ name. name) (codes " ") (events i) ++ codes "\n")
      ++ (codes "totals: " ++ totals i ++ codes "\n")
      ++ (codes "sort: " ++ slice_index_or (events i) options.sort [] ++ codes " threshold: "
      ++ decimal options.threshold ++ codes "\n")

  shown_in : (costs : List (List ℕ)) (options : ReportOptions) → is_shown q costs options ≡ is_shown p costs options
  shown_in costs options = λ i group.
      nat_le (options.threshold * total_same p q profile other says options.sort i) (cost_at costs options.sort group * 100)

  at_in : (name : List ℕ) (line : ℕ) (row : SelfRow) → FitsSelf (length p.events) (length p.functions) (length p.files) row
      → is_at q name line (self_new p q profile other says row) ≡ is_at p name line row
  at_in name line row fit = λ i. bytes_eq (file_there p q says row.file fit.file i) name && row.line == line

  has_in : (name : List ℕ) (line : ℕ) → has_cost q name line ≡ has_cost p name line
  has_in name line = self_any p q profile other says (is_at q name line) (is_at p name line) (at_in name line)

  line_in_file : (name : List ℕ) (line : ℕ) → line_costs_text q name line ≡ line_costs_text p name line
  line_in_file name line =
      costs_of (line_cost q name line) (line_cost p name line)
      (λ event. self_sum p q profile other says (λ row. if is_at q name line row then slice_index row.cost event else 0)
      (λ row. if is_at p name line row then slice_index row.cost event else 0)
      (λ row fit. ap (λ b. if b then slice_index row.cost event else 0) (at_in name line row fit)))

  end_in : lines_end q ≡ lines_end p
  end_in = ap (fold (λ end row. max end (row.line + 1)) 0) (selfs p q profile other says) ∙ ends 0 p.self_rows
    where
      ends : (end : ℕ) (rows : List SelfRow)
          → fold (λ e (row : SelfRow). max e (row.line + 1)) end (map (self_new p q profile other says) rows)
          ≡ fold (λ e (row : SelfRow). max e (row.line + 1)) end rows
      ends end [] = refl
      ends end (row ∷ rows) = ends (max end (row.line + 1)) rows

  lines_in : (name : List ℕ) (lines : List (List ℕ)) → lines_text q name lines ≡ lines_text p name lines
  lines_in name lines = λ i.
      flat_map (λ n. (if has_in name (n + 1) i then line_in_file name (n + 1) i else codes ".") ++ codes " | "
      ++ map shown_byte (slice_index_or lines n []) ++ codes "\n") (numbers (length lines))

  others_in : (name : List ℕ) (count : ℕ) → others_text q name count ≡ others_text p name count
  others_in name count = λ i.
      flat_map (λ line. line_in_file name line i ++ codes " | <line " ++ decimal line ++ codes ">\n")
      (filter (λ line. has_in name line i && not (nat_le 1 line && nat_le line count)) (numbers (end_in i)))

  source_in : (name : List ℕ) (source : Source) → source_text q name source ≡ source_text p name source
  source_in name (Found text) = λ i.
      codes "\n-- source " ++ clean_name name ++ codes "\n"
      ++ (lines_in name (text_lines text) i ++ others_in name (length (text_lines text)) i)
  source_in name Missing = refl
  source_in name (TooLong len) = refl

  order_in : (fs gs : List ℕ) → AreInOrder p fs → AreInOrder q gs → gs ≡ map (func_in p q) fs
  order_in fs gs are also =
      let back = λ (r : Contents) (key : FuncKey). position_or_len (same_function key) r.functions in
      one_order key_order key_total key_only (function_at p.functions) (function_at q.functions) (back p) (back q)
      (length p.functions) (length q.functions) fs gs (record { again = func_again p profile; is = are })
      (record { again = func_again q other; is = also })
      (λ f lt. let at = func_there p q says f lt in (func_in p q f, at.0, at.1))
      (λ f lt. let at = func_there q p (flipped p q says) f lt in (func_in q p f, at.0, at.1))
      ∙ map-map (back q) (function_at p.functions) fs

  pub one_report : (options : ReportOptions) (texts : SourceTexts) (text again : List ℕ)
      → IsReportOf p options texts text → IsReportOf q options texts again → text ≡ again
  one_report options texts text again first second =
      let one = first.report in
      let two = second.report in
      let fs = one.functions in
      let theirs = second.groups in
      let below = all_below (length p.functions) fs one.in_order.same in
      let order = order_in fs two.functions one.in_order two.in_order in
      let my = mine p q profile other says theirs second.grouped.numbered in
      let least = least_in p q profile other says theirs second.grouped.numbered fs below in
      let falls = subst (λ (R : ℕ → ℕ → Ordering). IsArranged R (numbers (length theirs.cyclic)) two.ranked)
      (λ i c d. ordering_then (nat_cmp (cost_at second.costs options.sort d) (cost_at second.costs options.sort c))
      (nat_cmp (least c i) (least d i)))
      (subst (λ (gs : List ℕ). IsArranged (group_order theirs gs second.costs options.sort)
      (numbers (length theirs.cyclic)) two.ranked) order two.falling) in
      let shown = filter (is_shown p second.costs options) two.ranked in
      one.is
      ∙ texts_same p profile fs one.in_order first.groups my first.grouped.numbered
      (mine_numbered p q profile other says theirs second.grouped.numbered) first.costs second.costs first.inclusive
      (mine_inclusive p q profile other says theirs second.grouped.numbered second.costs second.inclusive) options texts
      one.ranked two.ranked one.falling falls
      ∙ sym (two.is
      ∙ (λ i. text_with q theirs second.costs options texts (order i)
      (filter (shown_in second.costs options i) two.ranked))
      ∙ (λ i. heading_in options i
      ++ functions_in p q profile other says theirs second.grouped.numbered fs below second.costs shown i
      ++ calls_in p q profile other says theirs second.grouped.numbered fs below shown options.tree i
      ++ (if options.auto then flat_map (λ t. source_in t.0 t.1 i) texts else [])))
