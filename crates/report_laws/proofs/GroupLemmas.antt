-- Groups and sums of a profile in which rows are replaced by others with equal sums.
use Rattle.std.proofs.Common.{◌≡◌, ◌==◌, ◌||◌, ℕ, Bool, true, false, List, [], ◌∷◌, Contains, length, map}
use Rattle.std.proofs.Common.{refl, sym, ap, subst, ◌∙◌, arith, inl, inr, ⊎_elim}
use Rattle.std.specs.List.{list_any}
use Rattle.std.proofs.lemmas.Bool.{eq-eqb, eqb-true, and_from, and_parts}
pub use Rattle.sym_map.proofs.Members.{Contains-cons, Contains-first, Contains-map, first_or_rest}
use Rattle.call_graph.specs.Groups.{Grouping, IsCycle}
use Rattle.call_graph.specs.Reach.{Reach, SameGroup, Steps, more, one}
use Rattle.call_graph.specs.declared.arc.CallArc.{CallArc}
use Rattle.cg_read.specs.Profiles.{Contents}
use Rattle.cg_read.specs.declared.rows.CallRow.{CallRow}
use Rattle.cg_read.specs.declared.rows.SelfRow.{SelfRow}
use Rattle.cycles.specs.Costs.{IsGroupsOf, IsInclusive, arc_of, call_arcs}
use Rattle.cycles.specs.Limits.{AreAllWithin, IsSum, is_pair, of_calls, of_group, of_pair, of_total}
use Rattle.annotate.specs.Report.{IsReportOf, SourceTexts}
use Rattle.report_rows.specs.declared.options.ReportOptions.{ReportOptions}
use Rattle.report_laws.proofs.TextLemmas.{SumAlike, inclusive_same, is_call_same, pair_calls_same, pair_same}
use Rattle.report_laws.proofs.TextLemmas.{report_same, total_same, with_rows}

-- ---- steps

abbrev arc : ℕ → ℕ → CallArc
arc a b = record { caller = a; callee = b }

to_any : (a b : ℕ) (rows : List CallRow) → Contains (map arc_of rows) (arc a b) → list_any (is_pair a b) rows ≡ true
to_any a b [] there = absurd (omega (arith, there.1))
to_any a b (row ∷ rows) there =
    ⊎_elim (λ (e : arc_of row ≡ arc a b).
    let pair : is_pair a b row ≡ true
    = and_from (row.caller == a) (row.callee == b) (eq-eqb row.caller a (ap (λ (c : CallArc). c.caller) e))
    (eq-eqb row.callee b (ap (λ (c : CallArc). c.callee) e)) in
    ap (λ c. c || list_any (is_pair a b) rows) pair)
    (λ later. or_later (is_pair a b row) (list_any (is_pair a b) rows) (to_any a b rows later))
    (first_or_rest (arc_of row) (map arc_of rows) (arc a b) there)
  where
    or_later : (x y : Bool) → y ≡ true → (x || y) ≡ true
    or_later true y is = refl
    or_later false y is = is

from_any : (a b : ℕ) (rows : List CallRow) → list_any (is_pair a b) rows ≡ true → Contains (map arc_of rows) (arc a b)
from_any a b [] is = absurd (cc)
from_any a b (row ∷ rows) is = by (is_pair a b row) refl is (from_any a b rows)
  where
    by : (c : Bool) → is_pair a b row ≡ c → (c || list_any (is_pair a b) rows) ≡ true
        → (list_any (is_pair a b) rows ≡ true → Contains (map arc_of rows) (arc a b))
        → Contains (map arc_of (row ∷ rows)) (arc a b)
    by true here is later =
        let parts = and_parts (row.caller == a) (row.callee == b) here in
        let same : arc_of row ≡ arc a b =
        λ i. arc (eqb-true row.caller a parts.0 i) (eqb-true row.callee b parts.1 i) in
        subst (Contains (map arc_of (row ∷ rows))) same (Contains-first (arc_of row) (map arc_of rows))
    by false here is later = Contains-cons (arc_of row) (map arc_of rows) (arc a b) (later is)

-- ---- steps that are the same

module _ {S T : ℕ → ℕ → Type 0} (to : (f g : ℕ) → S f g → T f g) where
  reach_over : {f g : ℕ} → Reach S f g → Reach T f g
  reach_over {f = f} {g = g} (one s) = one (to f g s)
  reach_over {f = f} (more {g = h} s r) = more (to f h s) (reach_over r)

  group_over : {f g : ℕ} → SameGroup S f g → SameGroup T f g
  group_over (inl e) = inl e
  group_over (inr r) = inr (reach_over r.0, reach_over r.1)

  cycle_over : (number : List ℕ) (c : ℕ) → IsCycle S number c → IsCycle T number c
  cycle_over number c (inl two) = inl two
  cycle_over number c (inr own) = inr (own.0, own.1, to own.0 own.0 own.2)

module _ (q : Contents) (selfs : List SelfRow) (calls : List CallRow) (alike : SumAlike q selfs calls) where
  abbrev p : Contents
  p = with_rows q selfs calls

  to_q : (f g : ℕ) → Steps (call_arcs p) f g → Steps (call_arcs q) f g
  to_q f g step = from_any f g q.call_rows (sym (is_call_same q selfs calls alike f g) ∙ to_any f g calls step)

  to_p : (f g : ℕ) → Steps (call_arcs q) f g → Steps (call_arcs p) f g
  to_p f g step = from_any f g calls (is_call_same q selfs calls alike f g ∙ to_any f g q.call_rows step)

  groups_same : (groups : Grouping) → IsGroupsOf q groups → IsGroupsOf p groups
  groups_same groups are = record {
    numbered = record {
      size = are.numbered.size;
      same = λ f g in_f in_g.
          let is = are.numbered.same f g in_f in_g in
          ((λ e. group_over to_p (is.0 e)), (λ r. is.1 (group_over to_q r)));
      below = are.numbered.below;
      used = are.numbered.used;
    };
    cycles = record {
      exact = λ c within.
          let is = are.cycles.exact c within in
          ((λ e. cycle_over to_p groups.number c (is.0 e)), (λ r. is.1 (cycle_over to_q groups.number c r)));
    };
  }

  inclusive_costs : (groups : Grouping) (costs : List (List ℕ)) → IsInclusive q groups costs
      → IsInclusive p groups costs
  inclusive_costs groups costs are = record {
    count = are.count;
    width = are.width;
    exact = λ group event within shown.
        are.exact group event within shown ∙ sym (inclusive_same q selfs calls alike _ event);
  }

  pub report_over : (options : ReportOptions) (texts : SourceTexts) (text : List ℕ) → IsReportOf q options texts text
      → IsReportOf p options texts text
  report_over options texts text is = record {
    groups = is.groups;
    grouped = groups_same is.groups is.grouped;
    costs = is.costs;
    inclusive = inclusive_costs is.groups is.costs is.inclusive;
    report = report_same q selfs calls alike is.groups is.costs options texts text is.report;
  }

  sum_over : {position sum : ℕ} → IsSum q position sum → IsSum p position sum
  sum_over (of_total event within) =
      subst (IsSum p event) (λ i. total_same q selfs calls alike i event) (of_total event within)
  sum_over (of_pair event caller callee within) =
      subst (IsSum p event) (λ i. pair_same q selfs calls alike caller callee i event)
      (of_pair event caller callee within)
  sum_over (of_group event member within group) =
      subst (IsSum p event) (inclusive_same q selfs calls alike member event)
      (of_group event member within
      (λ f g at. let is = group f g at in ((λ e. group_over to_p (is.0 e)), (λ r. is.1 (group_over to_q r)))))
  sum_over (of_calls caller callee) =
      subst (IsSum p (length q.events)) (pair_calls_same q selfs calls alike caller callee) (of_calls caller callee)

  pub within_over : AreAllWithin p → AreAllWithin q
  within_over all position sum is = all position sum (sum_over is)
