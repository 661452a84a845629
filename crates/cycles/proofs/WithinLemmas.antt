-- The sums over no rows, and which sums of a profile those over all rows are.
use Rattle.std.proofs.Common.{◌≡◌, ◌⊎◌, ℕ, zero, suc, ◌+◌, ◌^◌, ◌<◌, ◌≤◌, ◌==◌, Bool, true, false, cond, not, ◌&&◌}
use Rattle.std.proofs.Common.{List, [], ◌∷◌, length, get_or, replicate, All, Vec, Err, refl, sym, ap, subst, ◌∙◌, inl}
use Rattle.std.proofs.Common.{inr, arith, sum_by}
use Rattle.std.specs.Result.{IsErrOf}
use Rattle.std.specs.declared.alloc.Global.{Global}
use Rattle.cycles.specs.declared.error.InclError.TheVariants.{SumLimit}
use Rattle.std.proofs.lemmas.Bool.{cases_lt, eqb-true, and_parts}
use Rattle.std.proofs.lemmas.List.{get_or-replicate, length-replicate}
use Rattle.std.proofs.lemmas.List.Elements.{All-head, All-tail}
use Rattle.std.proofs.lemmas.List.Sums.{sum_by-cons}
use Rattle.call_graph.specs.Groups.{Grouping, is_member}
use Rattle.call_graph.specs.Reach.{IsGroup, Steps}
use Rattle.call_graph.specs.declared.arc.CallArc.{CallArc}
use Rattle.call_graph.proofs.GroupLemmas.{member_from, member_parts}
use Rattle.cg_read.specs.Profiles.{Contents, IsProfile}
use Rattle.cg_read.specs.Totals.{column_sum, total}
use Rattle.cg_read.specs.declared.rows.CallRow.{CallRow}
use Rattle.cg_read.specs.declared.rows.SelfRow.{SelfRow}
use Rattle.cycles.specs.Costs.{IsGroupsOf, IsInclusive, call_arcs, inclusive_cost, is_leaving, leaving_cost, self_cost}
use Rattle.cycles.specs.Limits.{AreAllWithin, IsFirstOver, IsSum, is_pair, of_calls, of_group, of_pair, of_total}
use Rattle.cycles.specs.Limits.{pair_calls, pair_cost}
use Rattle.cycles.specs.inner.Counting.{Counts, HasShape, HasWidth, IsExact, group_sum, list_at, lists, pair_sum}
use Rattle.cycles.specs.inner.Pairs.{IsPairs, arc_at}
use Rattle.cycles.specs.declared.sums.Sums.{Sums}
use Rattle.cycles.proofs.HoldsLemmas.{at}
use Rattle.call_graph.proofs.RowLemmas.{length-lists}

-- Sums over no rows

zero_list : (count events n : ℕ) → n < count → get_or (replicate count (replicate {A = ℕ} events 0)) n []
    ≡ replicate {A = ℕ} events 0
zero_list count events n lt = get_or-replicate {A = List ℕ} count n (replicate {A = ℕ} events 0) [] lt

zeros_exact : {limit : ℕ} (events : ℕ) (sum : ℕ → ℕ) (cells : List ℕ) → cells ≡ replicate events 0
    → ((k : ℕ) → sum k ≡ 0) → IsExact limit sum cells
zeros_exact events sum cells is none k lt within =
    let size : length cells ≡ events = ap length is ∙ length-replicate {A = ℕ} events 0 in
    let cell : at cells k ≡ 0 = ap (λ l. at l k) is
    ∙ get_or-replicate {A = ℕ} events k 0 0 (omega (arith, within, size)) in
    (cell ∙ sym (none k), omega (arith, none k))

-- how the sums begin
pub record AreZeros (events groups_of pairs_of : ℕ) (sums : Sums) : Type 0 where
  pub totals : sums.totals.items ≡ replicate events 0
  pub groups : lists sums.groups.items ≡ replicate groups_of (replicate events 0)
  pub pairs : lists sums.pairs.items ≡ replicate pairs_of (replicate events 0)
  pub calls : sums.calls.items ≡ replicate pairs_of 0
  pub limit : sums.limit ≡ events + 1

-- as the code makes them
pub zeros_of : {events events' groups_of groups' pairs_of pairs' : ℕ} {sums : Sums} → events ≡ events'
    → groups_of ≡ groups' → pairs_of ≡ pairs'
    → sums.totals.items ≡ replicate events 0 → lists sums.groups.items ≡ replicate groups_of (replicate events 0)
    → lists sums.pairs.items ≡ replicate pairs_of (replicate events 0)
    → sums.calls.items ≡ replicate pairs_of 0 → sums.limit ≡ events + 1 → AreZeros events' groups' pairs' sums
zeros_of {events = events} {groups_of = groups_of} {groups' = groups'} {pairs' = pairs'}
    {sums = sums} e g n totals groups pairs calls limit =
    subst (λ x. AreZeros x groups' pairs' sums) e
    (subst (λ x. AreZeros events x pairs' sums) g (subst (λ x. AreZeros events groups_of x sums) n
    (record { totals = totals; groups = groups; pairs = pairs; calls = calls; limit = limit })))

module _ {events groups_of pairs_of : ℕ} {sums : Sums} (zeros : AreZeros events groups_of pairs_of sums) where
  width_of : (count : ℕ) (table : List (Vec ℕ Global)) → lists table ≡ replicate count (replicate events 0)
      → (length table ≡ count) × HasWidth events table
  width_of count table is =
      let size : length table ≡ count = sym (length-lists table) ∙ ap length is
      ∙ length-replicate {A = List ℕ} count (replicate events 0) in (
        size,
        λ n lt. ap length
            (ap (λ (l : List (List ℕ)). get_or l n []) is ∙ zero_list count events n (omega (arith, lt, size)))
            ∙ length-replicate {A = ℕ} events 0,
      )

  pub zeros_shape : HasShape events groups_of pairs_of sums
  zeros_shape = record {
    totals = ap length zeros.totals ∙ length-replicate {A = ℕ} events 0;
    group_count = (width_of groups_of sums.groups.items zeros.groups).0;
    groups = (width_of groups_of sums.groups.items zeros.groups).1;
    pair_count = (width_of pairs_of sums.pairs.items zeros.pairs).0;
    pairs = (width_of pairs_of sums.pairs.items zeros.pairs).1;
    calls = ap length zeros.calls ∙ length-replicate {A = ℕ} pairs_of 0;
  }

pub zeros_count : (p : Contents) (groups : Grouping) (arcs : List CallArc) (sums : Sums)
    → AreZeros (length p.events) (length groups.cyclic) (length arcs) sums → Counts p groups arcs [] [] sums
zeros_count p groups arcs sums zeros = record {
  shape = zeros_shape zeros;
  last = omega (arith, zeros.limit);
  too_large = λ le. absurd (omega (arith, zeros.limit));
  totals = zeros_exact (length p.events) (column_sum []) sums.totals.items zeros.totals (λ k. refl);
  groups =
      λ g lt. zeros_exact (length p.events) (group_sum groups [] [] g) (list_at sums.groups.items g)
      (ap (λ (l : List (List ℕ)). get_or l g []) zeros.groups ∙ zero_list (length groups.cyclic) (length p.events) g lt)
      (λ k. refl);
  pairs =
      λ n lt. zeros_exact (length p.events) (pair_sum arcs [] n) (list_at sums.pairs.items n)
      (ap (λ (l : List (List ℕ)). get_or l n []) zeros.pairs ∙ zero_list (length arcs) (length p.events) n lt)
      (λ k. refl);
  calls = λ n lt past. (ap (λ l. at l n) zeros.calls ∙ get_or-replicate {A = ℕ} (length arcs) n 0 0 lt, omega arith);
}

-- Sums by tests that agree

sum_by_agree : {R : Type 0} (f g : R → ℕ) (rows : List R) → All (λ r. f r ≡ g r) rows → sum_by f rows ≡ sum_by g rows
sum_by_agree f g [] same = refl
sum_by_agree f g (r ∷ rs) same =
    sum_by-cons f r rs ∙ ap (λ n. n + sum_by f rs) (All-head (λ x. f x ≡ g x) r rs same)
    ∙ ap (λ n. g r + n) (sum_by_agree f g rs (All-tail (λ x. f x ≡ g x) r rs same)) ∙ sym (sum_by-cons g r rs)

no_sum : {R : Type 0} (rows : List R) → sum_by (λ (r : R). 0) rows ≡ 0
no_sum [] = refl
no_sum {R = R} (r ∷ rs) = sum_by-cons (λ (x : R). 0) r rs ∙ omega (arith, no_sum rs)

-- a row of the pair, or nothing is counted for it
pair_found : (caller callee : ℕ) (rows : List CallRow)
    → ((i : ℕ) × (i < length rows) × ((d : CallRow) → is_pair caller callee (get_or rows i d) ≡ true))
    ⊎ ((number : CallRow → ℕ) → sum_by (λ r. cond (is_pair caller callee r) (number r) 0) rows ≡ 0)
pair_found caller callee [] = inr (λ number. refl)
pair_found caller callee (r ∷ rs) = go (is_pair caller callee r) refl (pair_found caller callee rs)
  where
    go : (b : Bool) → is_pair caller callee r ≡ b
        → ((i : ℕ) × (i < length rs) × ((d : CallRow) → is_pair caller callee (get_or rs i d) ≡ true))
        ⊎ ((number : CallRow → ℕ) → sum_by (λ r. cond (is_pair caller callee r) (number r) 0) rs ≡ 0)
        → ((i : ℕ) × (i < length (r ∷ rs)) × ((d : CallRow) → is_pair caller callee (get_or (r ∷ rs) i d) ≡ true))
        ⊎ ((number : CallRow → ℕ) → sum_by (λ r. cond (is_pair caller callee r) (number r) 0) (r ∷ rs) ≡ 0)
    go true is rest = inl (0, omega arith, λ d. is)
    go false is (inl (i, lt, at_i)) = inl (suc i, omega arith, λ d. at_i d)
    go false is (inr none) =
        inr (λ number. sum_by-cons (λ (x : CallRow). cond (is_pair caller callee x) (number x) 0) r rs
        ∙ omega (arith, none number, ap (λ b. cond b (number r) 0) is))

-- a function that passes, or none does
member_found : (member : ℕ → Bool) (n : ℕ)
    → ((f : ℕ) × (f < n) × (member f ≡ true)) ⊎ ((f : ℕ) → f < n → member f ≡ false)
member_found member zero = inr (λ f lt. absurd (omega arith))
member_found member (suc n) = go (member n) refl (member_found member n)
  where
    go : (b : Bool) → member n ≡ b → ((f : ℕ) × (f < n) × (member f ≡ true)) ⊎ ((f : ℕ) → f < n → member f ≡ false)
        → ((f : ℕ) × (f < suc n) × (member f ≡ true)) ⊎ ((f : ℕ) → f < suc n → member f ≡ false)
    go true is rest = inl (n, omega arith, is)
    go false is (inl (f, lt, passes)) = inl (f, omega arith, passes)
    go false is (inr none) =
        inr (λ f lt. elim (cases_lt f n) [
          | inl less ↦ none f less
          | inr past ↦ let e : f ≡ n = omega arith in ap member e ∙ is
        ])

same_bool : (a b : Bool) → (a ≡ true → b ≡ true) → (b ≡ true → a ≡ true) → a ≡ b
same_bool true b to from = sym (to refl)
same_bool false true to from = from refl
same_bool false false to from = refl

module _ (p : Contents) (profile : IsProfile p) where
  -- an inclusive cost depends on the profile's functions alone
  inclusive_by : (m o : ℕ → Bool) (k : ℕ) → ((f : ℕ) → f < length p.functions → m f ≡ o f)
      → inclusive_cost m p k ≡ inclusive_cost o p k
  inclusive_by m o k agree =
      let selfs : self_cost m p.self_rows k ≡ self_cost o p.self_rows k =
      sum_by_agree (λ (r : SelfRow). cond (m r.func) (at r.cost k) 0)
      (λ (r : SelfRow). cond (o r.func) (at r.cost k) 0) p.self_rows
      (λ i d lt. ap (λ b. cond b (at (get_or p.self_rows i d).cost k) 0)
      (agree (get_or p.self_rows i d).func (profile.self_rows_fit i d lt).function)) in
      let calls : leaving_cost m p.call_rows k ≡ leaving_cost o p.call_rows k =
      sum_by_agree (λ (r : CallRow). cond (is_leaving m r) (at r.cost k) 0)
      (λ (r : CallRow). cond (is_leaving o r) (at r.cost k) 0) p.call_rows
      (λ i d lt.
      let r = get_or p.call_rows i d in
      let fits = profile.call_rows_fit i d lt in
      ap (λ b. cond (b && not (m r.callee)) (at r.cost k) 0) (agree r.caller fits.caller)
      ∙ ap (λ b. cond (o r.caller && not b) (at r.cost k) 0) (agree r.callee fits.callee)) in
      ap (λ n. n + leaving_cost m p.call_rows k) selfs ∙ ap (λ n. self_cost o p.self_rows k + n) calls

  none_inclusive : (k : ℕ) → inclusive_cost (λ f. false) p k ≡ 0
  none_inclusive k = omega (arith, no_sum p.self_rows, no_sum p.call_rows)

  module _ (groups : Grouping) (of_profile : IsGroupsOf p groups) (arcs : List CallArc) (numbers : List ℕ)
      (pairs : IsPairs p.call_rows arcs numbers) (sums : Sums)
      (counts : Counts p groups arcs p.self_rows p.call_rows sums) where
    total_within : (k : ℕ) → k < sums.limit → k < length p.events → total p k < 2 ^ 64
    total_within k lt within = (counts.totals k lt (subst (λ n. k < n) (sym counts.shape.totals) within)).1

    group_within : (g k : ℕ) → g < length groups.cyclic → k < sums.limit → k < length p.events
        → inclusive_cost (is_member groups g) p k < 2 ^ 64
    group_within g k gt lt within =
        (counts.groups g gt k lt
        (subst (λ n. k < n)
        (sym (counts.shape.groups g (subst (λ n. g < n) (sym counts.shape.group_count) gt))) within)).1

    pair_within : (n k : ℕ) → n < length arcs → k < sums.limit → k < length p.events
        → pair_sum arcs p.call_rows n k < 2 ^ 64
    pair_within n k nt lt within =
        (counts.pairs n nt k lt
        (subst (λ m. k < m)
        (sym (counts.shape.pairs n (subst (λ m. n < m) (sym counts.shape.pair_count) nt))) within)).1

    -- the pair of a row that was found
    pair_at : (caller callee i : ℕ) → i < length p.call_rows
        → ((d : CallRow) → is_pair caller callee (get_or p.call_rows i d) ≡ true)
        → ((arc_at arcs (at numbers i)).caller ≡ caller) × ((arc_at arcs (at numbers i)).callee ≡ callee)
    pair_at caller callee i lt passes =
        let d : CallRow = record { caller = 0; file = 0; line = 0; callee = 0; calls = 0; cost = [] } in
        let r = get_or p.call_rows i d in
        let parts = and_parts (r.caller == caller) (r.callee == callee) (passes d) in
        let is = pairs.each i d lt in (
          ap (λ a. a.caller) is ∙ eqb-true r.caller caller parts.0,
          ap (λ a. a.callee) is
              ∙ eqb-true r.callee callee parts.1,
        )

    any_pair : (caller callee k : ℕ) → k < sums.limit → k < length p.events
        → pair_cost caller callee p.call_rows k < 2 ^ 64
    any_pair caller callee k lt within = elim (pair_found caller callee p.call_rows) [
      | inl found ↦
          let n : ℕ = at numbers found.0 in
          let is = pair_at caller callee found.0 found.1 found.2 in
          let below : pair_cost (arc_at arcs n).caller (arc_at arcs n).callee p.call_rows k < 2 ^ 64
          = pair_within n k (pairs.within found.0 found.1) lt within in
          subst (λ a. pair_cost a callee p.call_rows k < 2 ^ 64) is.0
          (subst (λ b. pair_cost (arc_at arcs n).caller b p.call_rows k < 2 ^ 64) is.1 below)
      | inr none ↦ omega (arith, none (λ r. at r.cost k))
    ]

    any_calls : (caller callee : ℕ) → length p.events < sums.limit → pair_calls caller callee p.call_rows < 2 ^ 64
    any_calls caller callee past = elim (pair_found caller callee p.call_rows) [
      | inl found ↦
          let n : ℕ = at numbers found.0 in
          let is = pair_at caller callee found.0 found.1 found.2 in
          let below : pair_calls (arc_at arcs n).caller (arc_at arcs n).callee p.call_rows < 2 ^ 64
          = (counts.calls n (pairs.within found.0 found.1) past).1 in
          subst (λ a. pair_calls a callee p.call_rows < 2 ^ 64) is.0
          (subst (λ b. pair_calls (arc_at arcs n).caller b p.call_rows < 2 ^ 64) is.1 below)
      | inr none ↦ omega (arith, none (λ r. r.calls))
    ]

    any_group : (member : ℕ → Bool) (k : ℕ) → IsGroup (Steps (call_arcs p)) member → k < sums.limit
        → k < length p.events → inclusive_cost member p k < 2 ^ 64
    any_group member k group lt within = elim (member_found member (length p.functions)) [
      | inl found ↦
          let f : ℕ = found.0 in
          let c : ℕ = at groups.number f in
          let numbered = of_profile.numbered in
          let agree : (h : ℕ) → h < length p.functions → member h ≡ is_member groups c h = λ h ht.
          same_bool (member h) (is_member groups c h)
          (λ is. member_from groups c h (subst (λ n. h < n) (sym numbered.size) ht)
          (sym ((numbered.same f h found.1 ht).1 ((group f h found.2).0 is))))
          (λ is. (group f h found.2).1 ((numbered.same f h found.1 ht).0 (sym (member_parts groups c h is).1))) in
          omega (
            arith,
            inclusive_by member (is_member groups c) k agree,
            group_within c k (numbered.below f found.1) lt within,
          )
      | inr none ↦ omega (arith, inclusive_by member (λ f. false) k none, none_inclusive k)
    ]

    pub below_limit : (q s : ℕ) → IsSum p q s → q < sums.limit → s < 2 ^ 64
    below_limit q s (of_total event within) lt = total_within event lt within
    below_limit q s (of_pair event caller callee within) lt = any_pair caller callee event lt within
    below_limit q s (of_group event member within group) lt = any_group member event group lt within
    below_limit q s (of_calls caller callee) lt = any_calls caller callee lt

    pub first_over : sums.limit ≤ length p.events → IsFirstOver p sums.limit
    first_over le = record { too_large = counts.too_large le; first = λ q s lt is. below_limit q s is lt }

    pub all_within : length p.events < sums.limit → AreAllWithin p
    all_within past q s is = below_limit q s is (position is)
      where
        position : {q s : ℕ} → IsSum p q s → q < sums.limit
        position (of_total event within) = omega arith
        position (of_pair event caller callee within) = omega arith
        position (of_group event member within group) = omega arith
        position (of_calls caller callee) = past

    pub all_inclusive : length p.events < sums.limit → IsInclusive p groups (lists sums.groups.items)
    all_inclusive past = record {
      count = length-lists sums.groups.items ∙ counts.shape.group_count;
      width = λ g lt. counts.shape.groups g (subst (λ n. g < n) (length-lists sums.groups.items) lt);
      exact = λ g k gt kt.
          let table : g < length sums.groups.items = subst (λ n. g < n) (length-lists sums.groups.items) gt in
          (counts.groups g (subst (λ n. g < n) counts.shape.group_count table) k (omega arith)
          (subst (λ n. k < n) (sym (counts.shape.groups g table)) kt)).0;
    }

pub same_limit : {T : Type 0} {m n : ℕ} → IsErrOf {T = T} (Err (SumLimit m)) (SumLimit n) → m ≡ n
same_limit is = cc
