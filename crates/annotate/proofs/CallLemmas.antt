-- The calls between two functions, among the entries that one of them lists.
use Rattle.std.proofs.Common.{◌≡◌, ◌≢◌, ◌⊎◌, inl, inr, ℕ, ◌<◌, ◌^◌, ◌==◌, ◌&&◌, ◌||◌, Bool, true, false, cond, List, []}
use Rattle.std.proofs.Common.{◌∷◌, ◌++◌, length, get_or, map, flat_map, All, refl, ap, sym, subst, ◌∙◌, arith, sum_by}
use Rattle.std.proofs.Common.{codes, decimal, zero-add, if◌then◌else◌}
use Rattle.std.specs.List.{filter, list_any}
use Rattle.std.specs.List.Sorted.{IsPermutation}
use Rattle.std.proofs.lemmas.Bool.{cases_eq}
use Rattle.std.proofs.lemmas.Bool.Decides.{nat_tests}
use Rattle.std.proofs.lemmas.List.{get_or_default}
use Rattle.std.proofs.lemmas.List.Elements.{All-head, All-tail, All-filter, All-map}
use Rattle.std.proofs.lemmas.List.FromFn.{length-range_with_len, get_or-range_with_len}
use Rattle.std.proofs.lemmas.List.Sorted.{Contains-permutation}
use Rattle.cg_read.specs.Profiles.{Contents, IsProfile}
use Rattle.cg_read.specs.declared.rows.CallRow.{CallRow}
use Rattle.cycles.specs.Limits.{AreAllWithin, of_calls, of_pair, is_pair, pair_calls, pair_cost}
use Rattle.annotate.specs.Calls.{is_call}
use Rattle.report_rows.specs.Lists.{each_event}
use Rattle.report_rows.specs.Orders.{numbers}
use Rattle.report_rows.specs.Entries.{AreWithin, EntryValue, call_entry, calls_of, cost_of, costs_of, far_end, is_at}
use Rattle.report_rows.specs.Entries.{near_end, of_list}
use Rattle.report_rows.specs.Ranks.{ArePlaces}
use Rattle.report_rows.specs.declared.entries.End.{End}
use Rattle.report_rows.specs.declared.entries.End.TheVariants.{Caller, Callee}
use Rattle.std.proofs.lemmas.List.Folds.{flat_map-map}
use Rattle.std.proofs.lemmas.Grind.{same_number_lists}
use Rattle.call_graph.specs.Groups.{Grouping}
use Rattle.cycles.specs.Costs.{group_at}
use Rattle.annotate.specs.Calls.{call_line}
use Rattle.annotate.specs.Functions.{function_text}
use Rattle.annotate.specs.Names.{costs_text}
use Rattle.annotate.specs.inner.Layout.{AreNeighbours, mark_of, neighbour_line, neighbours_text, side_text}
use Rattle.annotate.specs.declared.view.View.{View}
use Rattle.std.proofs.lemmas.List.FromFn.{length-map-range_with_len, get_or-map-range_with_len}
use Rattle.report_rows.proofs.ListLemmas.{filter_agree_on, filter_of_map, flat_map_agree, map_agree, sum_agree_on, sum_of_filter, sum_of_map}
use Rattle.report_rows.proofs.OrderLemmas.{numbers_below}

-- a number below n stands among n numbers
there : (n : ℕ) (functions : List ℕ) (f : ℕ) → IsPermutation (numbers n) functions → f < n
    → (j : ℕ) × (j < length functions) × (get_or functions j 0 ≡ f)
there n functions f same lt =
    from (Contains-permutation (numbers n) functions f same
    (f, omega (arith, lt, length-range_with_len 0 n), get_or-range_with_len 0 n f f lt ∙ zero-add f))
  where
    from : (k : ℕ) × (k < length functions) × (get_or functions k f ≡ f)
        → (j : ℕ) × (j < length functions) × (get_or functions j 0 ≡ f)
    from (k, below, at) = (k, below, sym (get_or_default functions k f 0 below) ∙ at)

-- a function stands at a place exactly where it is the one that stands there
pub place_is : (n : ℕ) (functions places : List ℕ) → IsPermutation (numbers n) functions → ArePlaces functions places
    → (i f : ℕ) → i < length functions → f < n → (get_or places f 0 == i) ≡ (f == get_or functions i 0)
place_is n functions places same stands i f lt small = from (there n functions f same small)
  where
    from : (j : ℕ) × (j < length functions) × (get_or functions j 0 ≡ f)
        → (get_or places f 0 == i) ≡ (f == get_or functions i 0)
    from (j, below, at) =
        let back : get_or places f 0 ≡ j = ap (λ g. get_or places g 0) (sym at) ∙ stands.exact j below in
        by back (cases_eq j i)
      where
        by : get_or places f 0 ≡ j → (j ≡ i) ⊎ (j ≢ i) → (get_or places f 0 == i) ≡ (f == get_or functions i 0)
        by back (inl is) =
            let g : f ≡ get_or functions i 0 = sym at ∙ ap (λ k. get_or functions k 0) is in
            grind (arith, nat_tests)
        by back (inr differ) =
            let apart : get_or places f 0 ≢ i = λ e. differ (sym back ∙ e) in
            let other : f ≢ get_or functions i 0 =
            λ e. differ (sym back ∙ ap (λ g. get_or places g 0) e ∙ stands.exact i lt) in
            grind (arith, nat_tests)

pub any_of_filter : {X : Type 0} (p q : X → Bool) (xs : List X)
    → list_any q (filter p xs) ≡ list_any (λ x. p x && q x) xs
any_of_filter p q [] = refl
any_of_filter p q (x ∷ xs) = cases (p x) (any_of_filter p q xs)
  where
    cases : (b : Bool) → list_any q (filter p xs) ≡ list_any (λ y. p y && q y) xs
        → list_any q (cond b (x ∷ filter p xs) (filter p xs)) ≡ ((b && q x) || list_any (λ y. p y && q y) xs)
    cases true rest = ap (λ b. q x || b) rest
    cases false rest = rest

pub any_of_map : {X Y : Type 0} (f : X → Y) (q : Y → Bool) (xs : List X)
    → list_any q (map f xs) ≡ list_any (λ x. q (f x)) xs
any_of_map f q [] = refl
any_of_map f q (x ∷ xs) = ap (λ b. q (f x) || b) (any_of_map f q xs)

any_agree_on : {X : Type 0} (p q : X → Bool) (xs : List X) → All (λ x. p x ≡ q x) xs → list_any p xs ≡ list_any q xs
any_agree_on p q [] all = refl
any_agree_on {X} p q (x ∷ xs) all =
    let P : X → Type 0 = λ y. p y ≡ q y in
    ap (λ b. b || list_any p xs) (All-head P x xs all) ∙ ap (λ b. q x || b) (any_agree_on p q xs (All-tail P x xs all))

and_flip : (a b : Bool) → (a && b) ≡ (b && a)
and_flip true true = refl
and_flip true false = refl
and_flip false true = refl
and_flip false false = refl

pub cond_and : (a b : Bool) (x : ℕ) → cond a (cond b x 0) 0 ≡ cond (a && b) x 0
cond_and true b x = refl
cond_and false b x = refl

flip : (a b : ℕ) → (a == b) ≡ (b == a)
flip a b = grind (arith, nat_tests)

every_number : (xs : List ℕ) → map (λ i. get_or xs i 0) (numbers (length xs)) ≡ xs
every_number xs =
    let size = length-map-range_with_len (λ i. get_or xs i 0) 0 (length xs) in
    same_number_lists (map (λ i. get_or xs i 0) (numbers (length xs))) xs size
    (λ k lt. get_or-map-range_with_len (λ i. get_or xs i 0) 0 (length xs) k k 0 (omega (arith, lt, size)) (omega arith))

-- the calls that a function lists, of it by another one or of another one by it
abbrev pair : End → ℕ → ℕ → CallRow → Bool
pair Callee f g row = is_pair g f row
pair Caller f g row = is_pair f g row

abbrev pub line_of : Contents → Grouping → End → List ℕ → ℕ → ℕ → List ℕ
line_of p groups Callee mark f g = call_line p groups mark g f g
line_of p groups Caller mark f g = call_line p groups mark f g g

abbrev pub is_call_of : Contents → End → ℕ → ℕ → Bool
is_call_of p Callee f g = is_call p g f
is_call_of p Caller f g = is_call p f g

abbrev line_with : List ℕ → ℕ → Bool → List ℕ → List ℕ → List ℕ
line_with mark calls same costs name =
    mark ++ decimal calls ++ codes " | " ++ (if same then codes "-" else costs_text costs) ++ codes " | " ++ name
    ++ codes "\n"

module _ (p : Contents) (profile : IsProfile p) (functions places : List ℕ)
    (same : IsPermutation (numbers (length p.functions)) functions) (stands : ArePlaces functions places)
    (end : End) where
  abbrev n : ℕ
  n = length p.functions

  abbrev entry : CallRow → EntryValue
  entry = call_entry places end

  abbrev listed : ℕ → List EntryValue
  listed f = filter (of_list f) (map entry p.call_rows)

  far_below : All (λ row. far_end end row < n) p.call_rows
  far_below i d lt = by end (profile.call_rows_fit i d lt).caller (profile.call_rows_fit i d lt).callee
    where
      by : (e : End) → (get_or p.call_rows i d).caller < n → (get_or p.call_rows i d).callee < n
          → far_end e (get_or p.call_rows i d) < n
      by Caller a b = b
      by Callee a b = a

  both : (f i : ℕ) (row : CallRow) → i < length functions → far_end end row < n
      → (of_list f (entry row) && is_at i (entry row)) ≡ pair end f (get_or functions i 0) row
  both f i row lt small = by end (place_is n functions places same stands i (far_end end row) lt small)
    where
      by : (e : End) → (get_or places (far_end e row) 0 == i) ≡ (far_end e row == get_or functions i 0)
          → ((near_end e row == f) && (get_or places (far_end e row) 0 == i)) ≡ pair e f (get_or functions i 0) row
      by Caller is = ap (λ b. (row.caller == f) && b) is
      by Callee is = ap (λ b. (row.callee == f) && b) is
          ∙ and_flip (row.callee == f) (row.caller == get_or functions i 0)

  sum_there : (F : EntryValue → ℕ) (f i : ℕ) → i < length functions
      → sum_by F (filter (is_at i) (listed f))
      ≡ sum_by (λ row. cond (pair end f (get_or functions i 0) row) (F (entry row)) 0) p.call_rows
  sum_there F f i lt =
      let G : EntryValue → ℕ = λ k. cond (is_at i k) (F k) 0 in
      let H : EntryValue → ℕ = λ k. cond (of_list f k) (G k) 0 in
      sum_of_filter F (is_at i) (listed f) ∙ sum_of_filter G (of_list f) (map entry p.call_rows)
      ∙ sum_of_map H entry p.call_rows
      ∙ sum_agree_on (λ row. H (entry row)) (λ row. cond (pair end f (get_or functions i 0) row)
      (F (entry row)) 0) p.call_rows
      (λ k d below. let row = get_or p.call_rows k d in
      cond_and (of_list f (entry row)) (is_at i (entry row)) (F (entry row))
      ∙ ap (λ b. cond b (F (entry row)) 0) (both f i row lt (far_below k d below)))

  any_there : (f i : ℕ) → i < length functions
      → list_any (is_at i) (listed f) ≡ is_call_of p end f (get_or functions i 0)
  any_there f i lt =
      any_of_filter (of_list f) (is_at i) (map entry p.call_rows)
      ∙ any_of_map entry (λ k. of_list f k && is_at i k) p.call_rows
      ∙ any_agree_on (λ row. of_list f (entry row) && is_at i (entry row))
      (pair end f (get_or functions i 0)) p.call_rows
      (λ k d below. both f i (get_or p.call_rows k d) lt (far_below k d below))
      ∙ by end
    where
      by : (e : End) → list_any (pair e f (get_or functions i 0)) p.call_rows ≡ is_call_of p e f (get_or functions i 0)
      by Caller = refl
      by Callee = refl

  at_below : (f : ℕ) → All (λ k. k.at < length functions) (listed f)
  at_below f =
      All-filter (of_list f) (λ k. k.at < length functions) (map entry p.call_rows)
      (All-map (λ k. k.at < length functions) entry p.call_rows
      (λ i d lt. below (far_end end (get_or p.call_rows i d)) (far_below i d lt)))
    where
      below : (g : ℕ) → g < n → get_or places g 0 < length functions
      below g small = from (there n functions g same small)
        where
          from : (j : ℕ) × (j < length functions) × (get_or functions j 0 ≡ g) → get_or places g 0 < length functions
          from (j, lt, at) =
              let back : get_or places g 0 ≡ j = ap (λ h. get_or places h 0) (sym at) ∙ stands.exact j lt in
              omega (arith, lt, back)

  wide : (f : ℕ) → All (λ k. length k.cost ≡ length p.events) (listed f)
  wide f =
      All-filter (of_list f) (λ k. length k.cost ≡ length p.events) (map entry p.call_rows)
      (All-map (λ k. length k.cost ≡ length p.events) entry p.call_rows
      (λ i d lt. (profile.call_rows_fit i d lt).cost))

  pub within_there : AreAllWithin p → (f i : ℕ) → i < length functions
      → AreWithin (length p.events) (filter (is_at i) (listed f))
  within_there within f i lt = record {
    width = All-filter (is_at i) (λ k. length k.cost ≡ length p.events) (listed f) (wide f);
    cost = λ event small. cost event small end (sum_there (λ k. get_or k.cost event 0) f i lt);
    calls = calls end (sum_there (λ k. k.calls) f i lt);
  }
    where
      cost : (event : ℕ) → event < length p.events → (e : End)
          → cost_of (filter (is_at i) (listed f)) event
          ≡ sum_by (λ row. cond (pair e f (get_or functions i 0) row) (get_or row.cost event 0) 0) p.call_rows
          → cost_of (filter (is_at i) (listed f)) event < 2 ^ 64
      cost event small Caller is = omega (arith, is, within event _ (of_pair event f (get_or functions i 0) small))
      cost event small Callee is = omega (arith, is, within event _ (of_pair event (get_or functions i 0) f small))

      calls : (e : End) → calls_of (filter (is_at i) (listed f))
          ≡ sum_by (λ row. cond (pair e f (get_or functions i 0) row) row.calls 0) p.call_rows
          → calls_of (filter (is_at i) (listed f)) < 2 ^ 64
      calls Caller is = omega (arith, is, within (length p.events) _ (of_calls f (get_or functions i 0)))
      calls Callee is = omega (arith, is, within (length p.events) _ (of_calls (get_or functions i 0) f))

pub neighbours_within : (v : View) (p : Contents) (places : List ℕ) (end : End) (f : ℕ) (ks : List EntryValue)
    → v.profile.now ≡ p → IsProfile p → AreAllWithin p → IsPermutation (numbers (length p.functions)) v.functions.now
    → ArePlaces v.functions.now places → ks ≡ filter (of_list f) (map (call_entry places end) p.call_rows)
    → AreNeighbours v ks
neighbours_within v p places end f ks here profile within same stands is =
    subst (AreNeighbours v) (sym is) (record {
      below = at_below p profile v.functions.now places same stands end f;
      within = λ i lt. subst (λ q. AreWithin (length q.events)
          (filter (is_at i) (filter (of_list f) (map (call_entry places end) p.call_rows))))
          (sym here) (within_there p profile v.functions.now places same stands end within f i lt);
    })

module _ (v : View) (profile : IsProfile v.profile.now) (places : List ℕ)
    (same : IsPermutation (numbers (length v.profile.now.functions)) v.functions.now)
    (stands : ArePlaces v.functions.now places) (mark : List ℕ) (f : ℕ) where
  abbrev p : Contents
  p = v.profile.now

  abbrev fs : List ℕ
  fs = v.functions.now

  abbrev rows_of : End → List EntryValue
  rows_of end = filter (of_list f) (map (call_entry places end) p.call_rows)

  line_is : (end : End) (i : ℕ) → i < length fs
      → neighbour_line v mark f (get_or fs i 0) (filter (is_at i) (rows_of end))
      ≡ line_of p v.groups.now end mark f (get_or fs i 0)
  line_is Caller i lt =
      let g = get_or fs i 0 in
      let K = filter (is_at i) (rows_of Caller) in
      let alone = group_at v.groups.now f == group_at v.groups.now g in
      let calls = sum_there p profile fs places same stands Caller (λ k. k.calls) f i lt in
      let costs = map_agree (cost_of K) (pair_cost f g p.call_rows) (numbers (length p.events))
      (λ k d small. sum_there p profile fs places same stands Caller
      (λ x. get_or x.cost (get_or (numbers (length p.events)) k d) 0) f i lt) in
      ap (λ n. line_with mark n alone (costs_of (length p.events) K) (function_text p g)) calls
      ∙ ap (λ cs. line_with mark (pair_calls f g p.call_rows) alone cs (function_text p g)) costs
  line_is Callee i lt =
      let g = get_or fs i 0 in
      let K = filter (is_at i) (rows_of Callee) in
      let alone = group_at v.groups.now f == group_at v.groups.now g in
      let calls = sum_there p profile fs places same stands Callee (λ k. k.calls) f i lt in
      let costs = map_agree (cost_of K) (pair_cost g f p.call_rows) (numbers (length p.events))
      (λ k d small. sum_there p profile fs places same stands Callee
      (λ x. get_or x.cost (get_or (numbers (length p.events)) k d) 0) f i lt) in
      ap (λ n. line_with mark n alone (costs_of (length p.events) K) (function_text p g)) calls
      ∙ ap (λ cs. line_with mark (pair_calls g f p.call_rows) alone cs (function_text p g)) costs
      ∙ ap (λ b. line_with mark (pair_calls g f p.call_rows) b (each_event p (pair_cost g f p.call_rows))
      (function_text p g))
      (flip (group_at v.groups.now f) (group_at v.groups.now g))

  pub neighbours_are : (end : End) (ks : List EntryValue) → ks ≡ rows_of end
      → neighbours_text v mark f ks ≡ flat_map (line_of p v.groups.now end mark f) (filter (is_call_of p end f) fs)
  neighbours_are end ks is =
      let N = numbers (length fs) in
      let F : ℕ → ℕ = λ i. get_or fs i 0 in
      let line : ℕ → List ℕ = line_of p v.groups.now end mark f in
      let small = numbers_below (length fs) in
      ap (neighbours_text v mark f) is
      ∙ ap (flat_map (λ i. neighbour_line v mark f (F i) (filter (is_at i) (rows_of end))))
      (filter_agree_on (λ i. list_any (is_at i) (rows_of end)) (λ i. is_call_of p end f (F i)) N
      (λ k d lt. any_there p profile fs places same stands end f (get_or N k d) (small k d lt)))
      ∙ flat_map_agree (λ i. neighbour_line v mark f (F i) (filter (is_at i) (rows_of end))) (λ i. line (F i))
      (filter (λ i. is_call_of p end f (F i)) N)
      (λ k d lt. line_is end (get_or (filter (λ i. is_call_of p end f (F i)) N) k d)
      (All-filter (λ i. is_call_of p end f (F i)) (λ i. i < length fs) N small k d lt))
      ∙ sym (flat_map-map line F (filter (λ i. is_call_of p end f (F i)) N))
      ∙ ap (flat_map line) (sym (filter_of_map F (is_call_of p end f) N))
      ∙ ap (λ xs. flat_map line (filter (is_call_of p end f) xs)) (every_number fs)

-- the lines of the calls that have a function at this end
pub side_is : (v : View) → IsProfile v.profile.now → (places : List ℕ)
    → IsPermutation (numbers (length v.profile.now.functions)) v.functions.now
    → ArePlaces v.functions.now places
    → (f : ℕ) (end : End) (ks : List EntryValue)
    → ks ≡ filter (of_list f) (map (call_entry places end) v.profile.now.call_rows)
    → neighbours_text v (mark_of end) f ks ≡ side_text v.profile.now v.groups.now v.functions.now end f
side_is v profile places same stands f Caller ks is =
    neighbours_are v profile places same stands (mark_of Caller) f Caller ks is
side_is v profile places same stands f Callee ks is =
    neighbours_are v profile places same stands (mark_of Callee) f Callee ks is
