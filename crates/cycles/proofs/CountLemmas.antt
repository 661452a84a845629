-- The sums once a row more was counted.
use Rattle.std.proofs.Common.{◌≡◌, ◌≢◌, ℕ, ◌+◌, ◌^◌, ◌<◌, ◌≤◌, ◌==◌, Bool, true, false, cond, not, ◌&&◌, List, []}
use Rattle.std.proofs.Common.{length, get_or, take, All, refl, sym, ap, subst, ◌∙◌, inl, inr, arith}
use Rattle.std.proofs.lemmas.Bool.{cases_eq, eqb-true, eq-eqb, and_parts, and_from}
use Rattle.std.proofs.lemmas.List.{get_or_default}
use Rattle.std.proofs.lemmas.List.Elements.{All-map}
use Rattle.std.proofs.lemmas.List.Sums.{sum_by_more, sum_by-take-le}
use Rattle.call_graph.specs.Groups.{Grouping, IsWithin, is_member}
use Rattle.call_graph.specs.declared.arc.CallArc.{CallArc}
use Rattle.call_graph.proofs.GroupLemmas.{and_false, is_group, member_from, not_member}
use Rattle.call_graph.proofs.RowLemmas.{arc_is}
use Rattle.cg_read.specs.Profiles.{Contents, IsProfile, FitsCall}
use Rattle.cg_read.specs.Totals.{column_sum, total}
use Rattle.cg_read.specs.declared.rows.CallRow.{CallRow}
use Rattle.cg_read.specs.declared.rows.SelfRow.{SelfRow}
use Rattle.cycles.specs.Costs.{IsGroupsOf, arc_of, call_arcs, inclusive_cost, is_leaving, leaving_cost, self_cost}
use Rattle.cycles.specs.Limits.{IsOver, is_pair, of_calls, of_group, of_pair, of_total, pair_calls, pair_cost}
use Rattle.cycles.specs.inner.Counting.{AddsCalls, AddsToGroup, AddsToPair, AddsToTotals, Counts, HasShape, call_sum}
use Rattle.cycles.specs.inner.Counting.{group_sum, pair_sum}
use Rattle.cycles.specs.inner.Pairs.{IsPairs, arc_at}
use Rattle.cycles.specs.declared.sums.Sums.{Sums}
use Rattle.cycles.proofs.HoldsLemmas.{at, calls_added, group_added, group_shape, holds_by, pair_added, totals_added}
use Rattle.cycles.proofs.HoldsLemmas.{totals_shape}

-- a row's share of a sum, by the test
share_yes : {b : Bool} (n : ℕ) → b ≡ true → cond b n 0 ≡ n
share_yes n is = ap (λ b. cond b n 0) is

share_no : {b : Bool} (n : ℕ) → b ≡ false → cond b n 0 ≡ 0
share_no n is = ap (λ b. cond b n 0) is

-- the row that a loop reads, from the list that it goes over
pub row_is : {R : Type 0} (read rows : List R) (i : ℕ) (row : R) → read ≡ rows → i < length read
    → row ≡ get_or read i row → (i < length rows) × ((d : R) → get_or rows i d ≡ row)
row_is {R = R} read rows i row same lt is = (
  subst (λ (l : List R). i < length l) same lt,
  λ d. subst (λ (l : List R). get_or l i d ≡ row) same
      (get_or_default read i d row lt ∙ sym is),
)

pub arcs_within : (p : Contents) → IsProfile p → All (IsWithin (length p.functions)) (call_arcs p)
arcs_within p profile = All-map (IsWithin (length p.functions)) arc_of p.call_rows
    (λ k d lt. let fits = profile.call_rows_fit k d lt in record { caller = fits.caller; callee = fits.callee })

module _ (p : Contents) (groups : Grouping) (profile : IsProfile p) (of_profile : IsGroupsOf p groups) where
  -- an inclusive cost that is too large
  group_over : (g k sum : ℕ) → k < length p.events → 2 ^ 64 ≤ sum → sum ≤ inclusive_cost (is_member groups g) p k
      → IsOver p k
  group_over g k sum lt big le = record {
    sum = inclusive_cost (is_member groups g) p k;
    of_profile = of_group k (is_member groups g) lt (is_group of_profile (arcs_within p profile) g);
    too_large = omega (arith, big, le);
  }

  -- A self row is counted.
  module _ (arcs : List CallArc) (i : ℕ) (row : SelfRow) (lt : i < length p.self_rows)
      (is : (d : SelfRow) → get_or p.self_rows i d ≡ row) (old middle new : Sums) where
    abbrev before : List SelfRow
    before = take i p.self_rows

    abbrev after : List SelfRow
    after = take (i + 1) p.self_rows

    func_within : row.func < length groups.number
    func_within =
        subst (λ r. r.func < length groups.number) (is row)
        (subst (λ n. (get_or p.self_rows i row).func < n) (sym of_profile.numbered.size)
        (profile.self_rows_fit i row lt).function)

    column_more : (k : ℕ) → column_sum after k ≡ column_sum before k + at row.cost k
    column_more k = sum_by_more (λ (r : SelfRow). at r.cost k) p.self_rows i row lt
        ∙ ap (λ (r : SelfRow). column_sum before k + at r.cost k) (is row)

    self_more : (m : ℕ → Bool) (k : ℕ)
        → self_cost m after k ≡ self_cost m before k + cond (m row.func) (at row.cost k) 0
    self_more m k = sum_by_more (λ (r : SelfRow). cond (m r.func) (at r.cost k) 0) p.self_rows i row lt
        ∙ ap (λ (r : SelfRow). self_cost m before k + cond (m r.func) (at r.cost k) 0) (is row)

    number_within : at groups.number row.func < length groups.cyclic
    number_within = of_profile.numbered.below row.func (subst (λ n. row.func < n) of_profile.numbered.size func_within)

    pub self_row_shape : {pairs : ℕ} → HasShape (length p.events) (length groups.cyclic) pairs old
        → AddsToTotals old row.cost middle → AddsToGroup middle (at groups.number row.func) row.cost new
        → HasShape (length p.events) (length groups.cyclic) pairs new
    self_row_shape shape totals adds = group_shape (totals_shape shape totals) adds number_within

    pub self_row_counted : Counts p groups arcs before [] old → AddsToTotals old row.cost middle
        → AddsToGroup middle (at groups.number row.func) row.cost new → Counts p groups arcs after [] new
    self_row_counted counts totals adds =
        let one = totals_added counts (column_sum after) totals (λ k kt. column_more k)
        (λ k kt big. record {
          sum = total p k;
          of_profile = of_total k kt;
          too_large = omega (arith, big, sum_by-take-le (λ (r : SelfRow). at r.cost k) p.self_rows (i + 1));
        }) in
        let number : ℕ = at groups.number row.func in
        group_added one (group_sum groups after []) adds number_within
        (λ k kt. omega (
          arith,
          self_more (is_member groups number) k,
          share_yes (at row.cost k) (member_from groups number row.func func_within refl),
        ))
        (λ g k gt kt ne. omega (
          arith,
          self_more (is_member groups g) k,
          share_no (at row.cost k) (not_member groups g row.func (λ e. ne (sym e))),
        ))
        (λ k kt big. group_over number k (group_sum groups after [] number k) kt big
        (omega (
          arith,
          sum_by-take-le (λ (r : SelfRow). cond (is_member groups number r.func) (at r.cost k) 0) p.self_rows (i + 1),
        )))

  -- A call row is counted.
  module _ (arcs : List CallArc) (numbers : List ℕ) (pairs : IsPairs p.call_rows arcs numbers) (i : ℕ) (row : CallRow)
      (lt : i < length p.call_rows) (is : (d : CallRow) → get_or p.call_rows i d ≡ row) where
    abbrev earlier : List CallRow
    earlier = take i p.call_rows

    abbrev later : List CallRow
    later = take (i + 1) p.call_rows

    abbrev pair : ℕ
    pair = at numbers i

    pub pair_within : pair < length arcs
    pair_within = pairs.within i lt

    pair_is : arc_at arcs pair ≡ arc_of row
    pair_is = pairs.each i row lt ∙ ap arc_of (is row)

    fits : FitsCall (length p.events) (length p.functions) (length p.files) row
    fits = subst (FitsCall (length p.events) (length p.functions) (length p.files)) (is row)
        (profile.call_rows_fit i row lt)

    pub caller_in : row.caller < length groups.number
    caller_in = subst (λ n. row.caller < n) (sym of_profile.numbered.size) fits.caller

    pub callee_in : row.callee < length groups.number
    callee_in = subst (λ n. row.callee < n) (sym of_profile.numbered.size) fits.callee

    pub left_in : at groups.number row.caller < length groups.cyclic
    left_in = of_profile.numbered.below row.caller fits.caller

    here : is_pair (arc_at arcs pair).caller (arc_at arcs pair).callee row ≡ true
    here = and_from (row.caller == (arc_at arcs pair).caller) (row.callee == (arc_at arcs pair).callee)
        (eq-eqb row.caller (arc_at arcs pair).caller (sym (ap (λ a. a.caller) pair_is)))
        (eq-eqb row.callee (arc_at arcs pair).callee (sym (ap (λ a. a.callee) pair_is)))

    elsewhere : (m : ℕ) → m < length arcs → m ≢ pair → is_pair (arc_at arcs m).caller (arc_at arcs m).callee row ≡ false
    elsewhere m mt differ =
        and_false (row.caller == (arc_at arcs m).caller) (row.callee == (arc_at arcs m).callee) (λ both.
        let parts = and_parts (row.caller == (arc_at arcs m).caller) (row.callee == (arc_at arcs m).callee) both in
        let same : arc_of row ≡ arc_at arcs m
        = arc_is (arc_of row) (eqb-true row.caller (arc_at arcs m).caller parts.0)
        (eqb-true row.callee (arc_at arcs m).callee parts.1) in
        differ (pairs.apart m pair mt pair_within (sym same ∙ sym pair_is)))

    pair_more : (m k : ℕ) → pair_sum arcs later m k
        ≡ pair_sum arcs earlier m k + cond (is_pair (arc_at arcs m).caller (arc_at arcs m).callee row) (at row.cost k) 0
    pair_more m k =
        sum_by_more
        (λ (r : CallRow). cond (is_pair (arc_at arcs m).caller (arc_at arcs m).callee r)
        (at r.cost k) 0) p.call_rows i row lt
        ∙ ap (λ (r : CallRow). pair_sum arcs earlier m k
        + cond (is_pair (arc_at arcs m).caller (arc_at arcs m).callee r) (at r.cost k) 0) (is row)

    call_more : (m : ℕ)
        → call_sum arcs later m
        ≡ call_sum arcs earlier m + cond (is_pair (arc_at arcs m).caller (arc_at arcs m).callee row) row.calls 0
    call_more m =
        sum_by_more
        (λ (r : CallRow). cond
        (is_pair (arc_at arcs m).caller (arc_at arcs m).callee r) r.calls 0) p.call_rows i row lt
        ∙ ap (λ (r : CallRow). call_sum arcs earlier m
        + cond (is_pair (arc_at arcs m).caller (arc_at arcs m).callee r) r.calls 0) (is row)

    leaving_more : (m : ℕ → Bool) (k : ℕ)
        → leaving_cost m later k ≡ leaving_cost m earlier k + cond (is_leaving m row) (at row.cost k) 0
    leaving_more m k =
        sum_by_more (λ (r : CallRow). cond (is_leaving m r) (at r.cost k) 0) p.call_rows i row lt
        ∙ ap (λ (r : CallRow). leaving_cost m earlier k + cond (is_leaving m r) (at r.cost k) 0) (is row)

    -- the call leaves the caller's group alone, if any
    leaves : at groups.number row.callee ≢ at groups.number row.caller
        → is_leaving (is_member groups (at groups.number row.caller)) row ≡ true
    leaves differ =
        let g : ℕ = at groups.number row.caller in
        and_from (is_member groups g row.caller) (not (is_member groups g row.callee))
        (member_from groups g row.caller caller_in refl) (ap not (not_member groups g row.callee differ))

    leaves_no_other : (g : ℕ) → g ≢ at groups.number row.caller → is_leaving (is_member groups g) row ≡ false
    leaves_no_other g differ =
        ap (λ b. b && not (is_member groups g row.callee)) (not_member groups g row.caller (λ e. differ (sym e)))

    stays : at groups.number row.callee ≡ at groups.number row.caller
        → is_leaving (is_member groups (at groups.number row.caller)) row ≡ false
    stays same =
        let g : ℕ = at groups.number row.caller in
        and_false (is_member groups g row.caller) (not (is_member groups g row.callee)) (λ both.
        let out = (and_parts (is_member groups g row.caller) (not (is_member groups g row.callee)) both).1 in
        absurd (cc (ap not (member_from groups g row.callee callee_in same), out)))

    pub call_row_counted : (old one two new : Sums) → Counts p groups arcs p.self_rows earlier old
        → AddsToPair old pair row.cost one → AddsCalls one pair row.calls two
        → (at groups.number row.callee ≢ at groups.number row.caller
        → AddsToGroup two (at groups.number row.caller) row.cost new)
        → (at groups.number row.callee ≡ at groups.number row.caller → new ≡ two)
        → Counts p groups arcs p.self_rows later new
    call_row_counted old one two new counts costs calls leaving staying =
        let caller : ℕ = (arc_at arcs pair).caller in
        let callee : ℕ = (arc_at arcs pair).callee in
        let first = pair_added counts (pair_sum arcs later) costs pair_within
        (λ k kt. omega (arith, pair_more pair k, share_yes (at row.cost k) here))
        (λ m k mt kt ne. omega (arith, pair_more m k, share_no (at row.cost k) (elsewhere m mt ne)))
        (λ k kt big. record {
          sum = pair_cost caller callee p.call_rows k;
          of_profile = of_pair k caller callee kt;
          too_large =
              omega (
                arith,
                big,
                sum_by-take-le (λ (r : CallRow). cond (is_pair caller callee r) (at r.cost k) 0) p.call_rows (i + 1),
              );
        }) in
        let second = calls_added first (call_sum arcs later) calls pair_within
        (omega (arith, call_more pair, share_yes row.calls here))
        (λ m mt ne. omega (arith, call_more m, share_no row.calls (elsewhere m mt ne)))
        (λ big. record {
          sum = pair_calls caller callee p.call_rows;
          of_profile = of_calls caller callee;
          too_large =
              omega (
                arith,
                big,
                sum_by-take-le (λ (r : CallRow). cond (is_pair caller callee r) r.calls 0) p.call_rows (i + 1),
              );
        }) in
        let g : ℕ = at groups.number row.caller in
        elim (cases_eq (at groups.number row.callee) (at groups.number row.caller)) [
          | inl same ↦ subst (Counts p groups arcs p.self_rows later) (sym (staying same))
              (holds_by (λ k kt. refl) (λ h k ht kt. elim (cases_eq h g) [
                | inl e ↦ omega (
                  arith,
                  leaving_more (is_member groups h) k,
                  share_no (at row.cost k)
                      (subst (λ x. is_leaving (is_member groups x) row ≡ false) (sym e) (stays same)),
                )
                | inr ne ↦ omega
                    (arith, leaving_more (is_member groups h) k, share_no (at row.cost k) (leaves_no_other h ne))
              ]) (λ m k mt kt. refl) (λ m mt. refl) second)
          | inr differ ↦ group_added second (group_sum groups p.self_rows later) (leaving differ) left_in
              (λ k kt. omega (arith, leaving_more (is_member groups g) k, share_yes (at row.cost k) (leaves differ)))
              (λ h k ht kt ne. omega
              (arith, leaving_more (is_member groups h) k, share_no (at row.cost k) (leaves_no_other h ne)))
              (λ k kt big. group_over g k (group_sum groups p.self_rows later g k) kt big
              (omega (
                arith,
                sum_by-take-le
                    (λ (r : CallRow). cond (is_leaving (is_member groups g) r) (at r.cost k) 0) p.call_rows (i + 1),
              )))
        ]
