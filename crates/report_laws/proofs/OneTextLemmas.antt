-- Two texts of one profile are the same, however its groups are numbered.
use Rattle.std.proofs.Common.{◌≡◌, ℕ, ◌+◌, ◌*◌, ◌<◌, ◌≤◌, nat_le, ◌==◌, ◌&&◌, ◌⊎◌, Bool, true, false, nat_lt, List, [], ◌∷◌, ◌++◌}
use Rattle.std.proofs.Common.{All, Contains, get_or, length, map, filter, flat_map, take, refl, sym, ap, subst, ◌∙◌, arith}
use Rattle.std.proofs.Common.{⊎_elim, cond, codes, count_by, not, if◌then◌else◌}
use Rattle.std.specs.Prelude.{decimal, slice_index, slice_index_or}
use Rattle.std.specs.Cmp.{IsTotalOrder}
use Rattle.std.specs.Cmp.Lexicographic.{on_texts}
use Rattle.std.specs.FinMap.{IsAntisymmetric, nat_cmp-IsAntisymmetric, slice_cmp-IsAntisymmetric}
use Rattle.std.specs.List.{AllByRecursion, position_or_len}
use Rattle.std.specs.Ordering.{nat_cmp, ordering_then}
use Rattle.std.specs.declared.cmp.Ordering.{Ordering}
use Rattle.std.specs.declared.cmp.Ordering.TheVariants.{Less, Equal, Greater}
use Rattle.std.proofs.lemmas.Bool.{eq-eqb, eqb-true, ltb-true}
use Rattle.std.proofs.lemmas.Cmp.{back_total, nat_cmp_total, on_total, then_total}
use Rattle.std.proofs.lemmas.Grind.{same_number_lists}
use Rattle.std.proofs.lemmas.List.{get_or-map, get_or_default, length-map, take-map}
use Rattle.std.proofs.lemmas.List.Elements.{All-append, All-filter, All-take, recursion_from_All}
use Rattle.std.proofs.lemmas.List.Folds.{flat_map-map}
use Rattle.std.proofs.lemmas.List.Sorted.{Contains-permutation}
use Rattle.std.proofs.lemmas.List.FromFn.{get_or-range_with_len, length-range_with_len}
use Rattle.std.proofs.lemmas.List.Sums.{fails_before_first, passes_at_first}
use Rattle.std.proofs.lemmas.Simd.{map-map}
use Rattle.call_graph.specs.Groups.{Grouping, IsNumbering, is_member}
use Rattle.call_graph.specs.Reach.{Steps}
use Rattle.cg_read.specs.Profiles.{Contents, IsProfile, function_at, same_function}
use Rattle.cg_read.specs.Totals.{total}
use Rattle.cg_read.specs.declared.rows.FuncKey.{FuncKey}
use Rattle.cycles.specs.Costs.{IsInclusive, call_arcs, group_at, inclusive_cost}
use Rattle.cycles.specs.Limits.{pair_calls, pair_cost}
use Rattle.report_rows.specs.Lists.{each_event}
use Rattle.report_rows.specs.Orders.{AreInOrder, IsArranged, cost_at, group_order, in_group, is_shown, key_order, least}
use Rattle.report_rows.specs.Orders.{members, numbers, text_order}
use Rattle.report_rows.specs.declared.options.ReportOptions.{ReportOptions}
use Rattle.report_rows.specs.declared.options.Tree.{Tree}
use Rattle.report_rows.specs.declared.options.Tree.TheVariants.{Off, Caller, Calling, Both}
pub use Rattle.report_rows.proofs.ListLemmas.{filter_agree_on, filter_of_map, flat_map_agree, sum_agree_on, sum_of_map}
use Rattle.annotate.specs.Calls.{call_line, callees_text, callers_text, calls_of, calls_text, is_call, is_off}
use Rattle.annotate.specs.Functions.{function_text, functions_text, group_rest, group_text, heading, is_large}
use Rattle.annotate.specs.Names.{costs_text}
use Rattle.annotate.specs.Report.{IsReportOf, SourceTexts, text_with}
use Rattle.annotate.specs.Sources.{source_text}
use Rattle.report_laws.proofs.StandLemmas.{func_again}
use Rattle.report_laws.proofs.ArrangedLemmas.{AreAmong, IsInOrder, all_below, numbers_below, one_order}

-- ---- orders

then_equal : (a b : Ordering) → ordering_then a b ≡ Equal → (a ≡ Equal) × (b ≡ Equal)
then_equal Less b e = absurd (cc)
then_equal Equal b e = (refl, e)
then_equal Greater b e = absurd (cc)

pub key_total : IsTotalOrder key_order
key_total = then_total (on_texts (λ f. f.file)) (then_total (on_texts (λ f. f.name)) (on_texts (λ f. f.object)))

pub key_only : IsAntisymmetric key_order
key_only f g e =
    let text_only : IsAntisymmetric text_order = slice_cmp-IsAntisymmetric nat_cmp-IsAntisymmetric in
    let first = then_equal _ _ e in
    let second = then_equal _ _ first.1 in
    λ i. record {
      object = text_only f.object g.object second.1 i;
      file = text_only f.file g.file first.0 i;
      name = text_only f.name g.name second.0 i;
    }

-- by falling cost, and then by place
abbrev rank_order : (ℕ × ℕ) → (ℕ × ℕ) → Ordering
rank_order k q = ordering_then (nat_cmp q.0 k.0) (nat_cmp k.1 q.1)

rank_total : IsTotalOrder rank_order
rank_total =
    then_total (on_total (λ (k : ℕ × ℕ). k.0) (back_total nat_cmp_total)) (on_total (λ (k : ℕ × ℕ). k.1) nat_cmp_total)

rank_only : IsAntisymmetric rank_order
rank_only k q e =
    let both = then_equal _ _ e in
    let cost : k.0 ≡ q.0 = sym (nat_cmp-IsAntisymmetric q.0 k.0 both.0) in
    λ i. (cost i, nat_cmp-IsAntisymmetric k.1 q.1 both.1 i)

-- ---- tests

pub tests_alike : (a b c d : ℕ) → (a ≡ b → c ≡ d) → (c ≡ d → a ≡ b) → (a == b) ≡ (c == d)
tests_alike a b c d to from = by (a == b) (c == d) refl refl
  where
    by : (x y : Bool) → (a == b) ≡ x → (c == d) ≡ y → x ≡ y
    by true true e f = refl
    by false false e f = refl
    by true false e f = sym (eq-eqb c d (to (eqb-true a b e))) ∙ f
    by false true e f = sym e ∙ eq-eqb a b (from (eqb-true c d f))

pub first_alike : (p q : ℕ → Bool) (xs : List ℕ) → AllByRecursion (λ x. p x ≡ q x) xs
    → position_or_len p xs ≡ position_or_len q xs
first_alike p q [] all = refl
first_alike p q (x ∷ xs) all = λ i. cond (not (all.0 i)) (1 + first_alike p q xs all.1 i) 0

-- a place that passes is the first one or stands behind it
first_there : (p : ℕ → Bool) (xs : List ℕ) (k : ℕ) → k < length xs → p (get_or xs k 0) ≡ true
    → position_or_len p xs < length xs
first_there p xs k lt passes = ⊎_elim (λ (le : length xs ≤ position_or_len p xs). absurd (never le)) (λ less. less)
    (let P : (length xs ≤ position_or_len p xs) ⊎ (position_or_len p xs < length xs) = grind arith in P)
  where
    never : length xs ≤ position_or_len p xs → ⊥
    never le =
        let fails = fails_before_first p xs k 0 (omega (arith, lt, le)) in cc

-- the groups of a profile's functions have these numbers
abbrev pub IsNumbered : Contents → Grouping → Type 0
IsNumbered p groups = IsNumbering (length p.functions) (Steps (call_arcs p)) groups.number (length groups.cyclic)

module _ (p : Contents) (profile : IsProfile p) where
  abbrev n : ℕ
  n = length p.functions

  -- ---- functions

  one_function_order : (fs gs : List ℕ) → AreInOrder p fs → AreInOrder p gs → gs ≡ fs
  one_function_order fs gs are also =
      let key = function_at p.functions in
      let back = λ (k : FuncKey). position_or_len (same_function k) p.functions in
      let among : AreAmong key_order key n key n = λ i lt. (i, lt, refl) in
      one_order key_order key_total key_only key key back back n n fs gs (record { again = func_again p profile; is = are })
      (record { again = func_again p profile; is = also }) among among
      ∙ sym (one_order key_order key_total key_only key key back back n n fs fs (record { again = func_again p profile; is = are })
      (record { again = func_again p profile; is = are }) among among)

  -- ---- a grouping

  module _ (fs : List ℕ) (in_order : AreInOrder p fs) where
    pub all_fs : All (λ f. f < n) fs
    all_fs = all_below n fs in_order.same

    is_there : (f : ℕ) → f < n → Contains fs f
    is_there f lt =
        let size = length-range_with_len 0 n in
        Contains-permutation (numbers n) fs f in_order.same
        (f, omega (arith, lt, size), get_or-range_with_len 0 n f f lt ∙ omega arith)

    -- the least function of a group
    abbrev first_of : Grouping → ℕ → ℕ
    first_of groups c = get_or fs (least groups fs c) 0

    first_is : (groups : Grouping) → IsNumbered p groups → (c : ℕ) → c < length groups.cyclic
        → (first_of groups c < n) × (group_at groups (first_of groups c) ≡ c)
    first_is groups are c within =
        let some = are.used c within in
        let at = is_there some.0 some.1 in
        let passes : in_group groups c (get_or fs at.0 0) ≡ true
        = eq-eqb (group_at groups (get_or fs at.0 0)) c
        (ap (group_at groups) (get_or_default fs at.0 0 some.0 at.1 ∙ at.2) ∙ some.2) in
        let there = first_there (in_group groups c) fs at.0 at.1 passes in (
          all_fs (least groups fs c) 0 there,
          eqb-true (group_at groups (first_of groups c)) c (passes_at_first (in_group groups c) fs 0 there),
        )

    module _ (groups others : Grouping) (are : IsNumbered p groups) (also : IsNumbered p others) where
      same_test : (f g : ℕ) → f < n → g < n
          → (group_at groups f == group_at groups g) ≡ (group_at others f == group_at others g)
      same_test f g in_f in_g =
          let one = are.same f g in_f in_g in
          let two = also.same f g in_f in_g in
          tests_alike (group_at groups f) (group_at groups g) (group_at others f) (group_at others g)
          (λ e. two.1 (one.0 e)) (λ e. one.1 (two.0 e))

      -- the other number of a group
      abbrev over : ℕ → ℕ
      over c = group_at others (first_of groups c)

      module _ (c : ℕ) (within : c < length groups.cyclic) where
        here : (first_of groups c < n) × (group_at groups (first_of groups c) ≡ c)
        here = first_is groups are c within

        over_within : over c < length others.cyclic
        over_within = also.below (first_of groups c) here.0

        of_same : (g : ℕ) → g < n → in_group groups c g ≡ in_group others (over c) g
        of_same g in_g =
            ap (λ d. group_at groups g == d) (sym here.1) ∙ same_test g (first_of groups c) in_g here.0

        all_same : All (λ g. in_group groups c g ≡ in_group others (over c) g) fs
        all_same k d lt = of_same (get_or fs k d) (all_fs k d lt)

        members_same : members groups fs c ≡ members others fs (over c)
        members_same = filter_agree_on (in_group groups c) (in_group others (over c)) fs all_same

        least_same : least groups fs c ≡ least others fs (over c)
        least_same =
            first_alike (in_group groups c) (in_group others (over c)) fs
            (recursion_from_All (λ g. in_group groups c g ≡ in_group others (over c) g) fs all_same)

        member_same : is_member groups c ≡ is_member others (over c)
        member_same = λ i g. at g i
          where
            at : (g : ℕ) → is_member groups c g ≡ is_member others (over c) g
            at g =
                ap (λ m. nat_lt g m && in_group groups c g) are.size ∙ by (nat_lt g n) refl
                ∙ sym (ap (λ m. nat_lt g m && in_group others (over c) g) also.size)
              where
                by : (b : Bool) → nat_lt g n ≡ b → (b && in_group groups c g) ≡ (b && in_group others (over c) g)
                by true e = of_same g (ltb-true g n e)
                by false e = refl

        costs_same : (costs more : List (List ℕ)) → IsInclusive p groups costs → IsInclusive p others more
            → slice_index_or costs c [] ≡ slice_index_or more (over c) []
        costs_same costs more inclusive too =
            let in_costs : c < length costs = omega (arith, within, inclusive.count) in
            let in_more : over c < length more = omega (arith, over_within, too.count) in
            let width = inclusive.width c in_costs in
            same_number_lists (slice_index_or costs c []) (slice_index_or more (over c) [])
            (width ∙ sym (too.width (over c) in_more))
            (λ k lt.
            let shown : k < length p.events = omega (arith, lt, width) in
            inclusive.exact c k in_costs shown ∙ ap (λ member. inclusive_cost member p k) member_same
            ∙ sym (too.exact (over c) k in_more shown))

    -- ---- ranks

    abbrev key_of : Grouping → List (List ℕ) → ℕ → ℕ → (ℕ × ℕ)
    key_of groups costs sort c = (cost_at costs sort c, least groups fs c)

    abbrev back_of : Grouping → (ℕ × ℕ) → ℕ
    back_of groups k = group_at groups (get_or fs k.1 0)

    ranks : (groups : Grouping) → IsNumbered p groups → (costs : List (List ℕ)) (sort : ℕ) (ranked : List ℕ)
        → IsArranged (group_order groups fs costs sort) (numbers (length groups.cyclic)) ranked
        → IsInOrder rank_order (key_of groups costs sort) (back_of groups) (length groups.cyclic) ranked
    ranks groups are costs sort ranked falling = record {
      again = λ c within. sym (first_is groups are c within).1;
      is = falling;
    }

    among : (groups others : Grouping) → IsNumbered p groups → IsNumbered p others → (costs more : List (List ℕ))
        → IsInclusive p groups costs → IsInclusive p others more → (sort : ℕ)
        → AreAmong rank_order (key_of groups costs sort) (length groups.cyclic) (key_of others more sort)
        (length others.cyclic)
    among groups others are also costs more inclusive too sort c within =
        let cost = sym (costs_same groups others are also c within costs more inclusive too) in
        let place = sym (least_same groups others are also c within) in (
          over groups others are also c,
          over_within groups others are also c within,
          (λ i. (slice_index (cost i) sort, place i)),
        )

    -- ---- the text

    module _ (groups others : Grouping) (are : IsNumbered p groups) (also : IsNumbered p others)
        (costs more : List (List ℕ)) (inclusive : IsInclusive p groups costs) (too : IsInclusive p others more) where
      abbrev new : ℕ → ℕ
      new = over groups others are also

      abbrev AreGroups : List ℕ → Type 0
      AreGroups cs = All (λ c. c < length groups.cyclic) cs

      same_costs : (c : ℕ) → c < length groups.cyclic → slice_index_or costs c [] ≡ slice_index_or more (new c) []
      same_costs c within = costs_same groups others are also c within costs more inclusive too

      ranked_same : (sort : ℕ) (ranked again : List ℕ)
          → IsArranged (group_order groups fs costs sort) (numbers (length groups.cyclic)) ranked
          → IsArranged (group_order others fs more sort) (numbers (length others.cyclic)) again → again ≡ map new ranked
      ranked_same sort ranked again falling falls =
          one_order rank_order rank_total rank_only (key_of groups costs sort) (key_of others more sort)
          (back_of groups) (back_of others) (length groups.cyclic) (length others.cyclic) ranked again
          (ranks groups are costs sort ranked falling) (ranks others also more sort again falls)
          (among groups others are also costs more inclusive too sort)
          (among others groups also are more costs too inclusive sort)
          ∙ map-map (back_of others) (key_of groups costs sort) ranked

      shown_same : (options : ReportOptions) (ranked : List ℕ) → AreGroups ranked
          → filter (is_shown p more options) (map new ranked) ≡ map new (filter (is_shown p costs options) ranked)
      shown_same options ranked all =
          filter_of_map new (is_shown p more options) ranked
          ∙ ap (map new) (filter_agree_on (λ c. is_shown p more options (new c)) (is_shown p costs options) ranked
          (λ k d lt. ap (λ (cost : List ℕ).
          nat_le (options.threshold * total p options.sort) (slice_index cost options.sort * 100))
          (sym (same_costs (get_or ranked k d) (all k d lt)))))

      group_same : (number c : ℕ) → c < length groups.cyclic
          → group_text p groups costs fs number c ≡ group_text p others more fs number (new c)
      group_same number c within = λ i.
          costs_text (same_costs c within i) ++ codes " | "
          ++ group_rest p (member_same groups others are also c within i) number
          (members_same groups others are also c within i)

      counted : (cs : List ℕ) → AreGroups cs
          → count_by (is_large groups fs) cs ≡ count_by (is_large others fs) (map new cs)
      counted cs all =
          sum_agree_on (λ c. if is_large groups fs c then 1 else 0) (λ c. if is_large others fs (new c) then 1 else 0) cs
          (λ k d lt. ap (λ (fs : List ℕ). if nat_lt 1 (length fs) then 1 else 0)
          (members_same groups others are also (get_or cs k d) (all k d lt)))
          ∙ sym (sum_of_map (λ c. if is_large others fs c then 1 else 0) new cs)

      abbrev piece : Grouping → List (List ℕ) → List ℕ → ℕ → List ℕ
      piece gs cs shown i =
          group_text p gs cs fs (count_by (is_large gs fs) (take i shown) + 1) (slice_index shown i)

      functions_same : (shown : List ℕ) → AreGroups shown
          → functions_text p groups costs fs shown ≡ functions_text p others more fs (map new shown)
      functions_same shown all =
          ap (λ (text : List ℕ). codes "\n-- functions\n" ++ text)
          (flat_map_agree (piece groups costs shown) (piece others more (map new shown)) (numbers (length shown))
          (λ k d lt. at (get_or (numbers (length shown)) k d) (numbers_below (length shown) k d lt))
          ∙ ap (λ m. flat_map (piece others more (map new shown)) (numbers m)) (sym (length-map shown new)))
        where
          at : (i : ℕ) → i < length shown → piece groups costs shown i ≡ piece others more (map new shown) i
          at i lt =
              let count = counted (take i shown) (All-take (λ c. c < length groups.cyclic) i shown all)
              ∙ ap (count_by (is_large others fs)) (sym (take-map new i shown)) in
              let group = sym (get_or-map new shown i 0 0 lt) in
              group_same (count_by (is_large groups fs) (take i shown) + 1) (slice_index shown i) (all i 0 lt)
              ∙ (λ j. group_text p others more fs (count j + 1) (group j))

      -- ---- calls

      line_same : (mark : List ℕ) (f g named : ℕ) → f < n → g < n
          → call_line p groups mark f g named ≡ call_line p others mark f g named
      line_same mark f g named in_f in_g = λ i.
          mark ++ decimal (pair_calls f g p.call_rows) ++ codes " | "
          ++ (if same_test groups others are also f g in_f in_g i then codes "-"
          else costs_text (each_event p (pair_cost f g p.call_rows)))
          ++ codes " | " ++ function_text p named ++ codes "\n"

      callers_same : (f : ℕ) → f < n → callers_text p groups fs f ≡ callers_text p others fs f
      callers_same f in_f =
          flat_map_agree (λ g. call_line p groups (codes "  < ") g f g) (λ g. call_line p others (codes "  < ") g f g)
          (filter (λ g. is_call p g f) fs)
          (λ k d lt. line_same (codes "  < ") _ f _ (All-filter (λ g. is_call p g f) (λ g. g < n) fs all_fs k d lt) in_f)

      callees_same : (f : ℕ) → f < n → callees_text p groups fs f ≡ callees_text p others fs f
      callees_same f in_f =
          flat_map_agree (λ g. call_line p groups (codes "  > ") f g g) (λ g. call_line p others (codes "  > ") f g g)
          (filter (λ g. is_call p f g) fs)
          (λ k d lt. line_same (codes "  > ") f _ _ in_f (All-filter (λ g. is_call p f g) (λ g. g < n) fs all_fs k d lt))

      calls_of_same : (tree : Tree) (f : ℕ) → f < n → calls_of p groups fs tree f ≡ calls_of p others fs tree f
      calls_of_same Off f in_f = refl
      calls_of_same Caller f in_f = λ i. function_text p f ++ codes "\n" ++ callers_same f in_f i
      calls_of_same Calling f in_f = λ i. function_text p f ++ codes "\n" ++ callees_same f in_f i
      calls_of_same Both f in_f = λ i.
          function_text p f ++ codes "\n" ++ callers_same f in_f i ++ callees_same f in_f i

      pub all_members : (cs : List ℕ) → All (λ f. f < n) (flat_map (members groups fs) cs)
      all_members [] = λ k d lt. absurd (omega arith)
      all_members (c ∷ cs) =
          All-append (λ f. f < n) (members groups fs c) (flat_map (members groups fs) cs)
          (All-filter (in_group groups c) (λ f. f < n) fs all_fs) (all_members cs)

      calls_same : (shown : List ℕ) (tree : Tree) → AreGroups shown
          → calls_text p groups fs shown tree ≡ calls_text p others fs (map new shown) tree
      calls_same shown tree all =
          ap (λ (text : List ℕ). if is_off tree then [] else codes "\n-- calls\n" ++ text)
          (flat_map_agree (calls_of p groups fs tree) (calls_of p others fs tree) (flat_map (members groups fs) shown)
          (λ k d lt. calls_of_same tree _ (all_members shown k d lt))
          ∙ ap (flat_map (calls_of p others fs tree))
          (flat_map_agree (members groups fs) (λ c. members others fs (new c)) shown
          (λ k d lt. members_same groups others are also (get_or shown k d) (all k d lt))
          ∙ sym (flat_map-map (members others fs) new shown)))

      pub texts_same : (options : ReportOptions) (texts : SourceTexts) (ranked again : List ℕ)
          → IsArranged (group_order groups fs costs options.sort) (numbers (length groups.cyclic)) ranked
          → IsArranged (group_order others fs more options.sort) (numbers (length others.cyclic)) again
          → text_with p groups costs options texts fs (filter (is_shown p costs options) ranked)
          ≡ text_with p others more options texts fs (filter (is_shown p more options) again)
      texts_same options texts ranked again falling falls =
          let shown = filter (is_shown p costs options) ranked in
          let all = all_below (length groups.cyclic) ranked falling.same in
          let some = All-filter (is_shown p costs options) (λ c. c < length groups.cyclic) ranked all in
          (λ i. heading p options ++ functions_same shown some i ++ calls_same shown options.tree some i
          ++ (if options.auto then flat_map (λ t. source_text p t.0 t.1) texts else []))
          ∙ ap (text_with p others more options texts fs) (sym (ap (filter (is_shown p more options))
          (ranked_same options.sort ranked again falling falls) ∙ shown_same options ranked all))

pub one_text : (p : Contents) → IsProfile p → (options : ReportOptions) (texts : SourceTexts) (text other : List ℕ)
    → IsReportOf p options texts text → IsReportOf p options texts other → text ≡ other
one_text p profile options texts text other first second =
    let one = first.report in
    let two = second.report in
    let order = one_function_order p profile one.functions two.functions one.in_order two.in_order in
    let falls = subst (λ (fs : List ℕ). IsArranged (group_order second.groups fs second.costs options.sort)
    (numbers (length second.groups.cyclic)) two.ranked) order two.falling in
    one.is
    ∙ texts_same p profile one.functions one.in_order first.groups second.groups first.grouped.numbered second.grouped.numbered first.costs
    second.costs first.inclusive second.inclusive options texts one.ranked two.ranked one.falling falls
    ∙ ap (λ (fs : List ℕ). text_with p second.groups second.costs options texts fs
    (filter (is_shown p second.costs options) two.ranked)) (sym order)
    ∙ sym two.is
