-- The test of a group's functions.
use Rattle.std.proofs.Common.{◌≡◌, ◌≢◌, ℕ, ◌<◌, ◌==◌, Bool, true, false, ◌&&◌, List, length, get_or, All, refl, sym}
use Rattle.std.proofs.Common.{subst, ◌∙◌, inl, inr, arith, nat_lt}
use Rattle.std.proofs.lemmas.Bool.{eqb-true, eq-eqb, and_parts, and_from}
use Rattle.std.proofs.lemmas.Bool.Decides.{nat_tests}
use Rattle.std.proofs.lemmas.List.Elements.{All-contains}
use Rattle.call_graph.specs.Groups.{Grouping, IsGrouping, IsWithin, is_member}
use Rattle.call_graph.specs.Reach.{IsGroup, Reach, SameGroup, Steps, one, more}
use Rattle.call_graph.specs.declared.arc.CallArc.{CallArc}
use Rattle.call_graph.proofs.RowLemmas.{arc_from}

pub and_false : (a b : Bool) → (a && b ≡ true → ⊥) → a && b ≡ false
and_false true true h = absurd (h refl)
and_false true false h = refl
and_false false b h = refl

pub test_below : (f n : ℕ) → f < n → nat_lt f n ≡ true
test_below f n lt = grind (arith, nat_tests)

below_test : (f n : ℕ) → nat_lt f n ≡ true → f < n
below_test f n is = grind (arith, nat_tests)

module _ (groups : Grouping) (c f : ℕ) where
  pub member_from : f < length groups.number → get_or groups.number f 0 ≡ c → is_member groups c f ≡ true
  member_from lt is = and_from (nat_lt f (length groups.number)) (get_or groups.number f 0 == c)
      (test_below f (length groups.number) lt) (eq-eqb (get_or groups.number f 0) c is)

  pub member_parts : is_member groups c f ≡ true → (f < length groups.number) × (get_or groups.number f 0 ≡ c)
  member_parts is =
      let parts = and_parts (nat_lt f (length groups.number)) (get_or groups.number f 0 == c) is in
      (below_test f (length groups.number) parts.0, eqb-true (get_or groups.number f 0) c parts.1)

  pub not_member : get_or groups.number f 0 ≢ c → is_member groups c f ≡ false
  not_member differ =
      and_false (nat_lt f (length groups.number)) (get_or groups.number f 0 == c) (λ is. differ (member_parts is).1)

-- only functions within have steps
pub caller_within : (n : ℕ) (arcs : List CallArc) → All (IsWithin n) arcs → {f g : ℕ} → Reach (Steps arcs) f g → f < n
caller_within n arcs within {f = f} {g = g} (one step) =
    (All-contains (IsWithin n) arcs (arc_from f g) within step).caller
caller_within n arcs within {f = f} (more {g = g} step way) =
    (All-contains (IsWithin n) arcs (arc_from f g) within step).caller

-- the test of each number is that of a group
pub is_group : {n : ℕ} {arcs : List CallArc} {groups : Grouping} → IsGrouping n arcs groups → All (IsWithin n) arcs
    → (c : ℕ) → IsGroup (Steps arcs) (is_member groups c)
is_group {n = n} {arcs = arcs} {groups = groups} grouping within c f g is =
    let parts = member_parts groups c f is in
    let size = grouping.numbered.size in
    let lt : f < n = subst (λ k. f < k) size parts.0 in
    let forth : is_member groups c g ≡ true → SameGroup (Steps arcs) f g = λ also.
    let others = member_parts groups c g also in
    (grouping.numbered.same f g lt (subst (λ k. g < k) size others.0)).0 (parts.1 ∙ sym others.1) in
    let back : SameGroup (Steps arcs) f g → is_member groups c g ≡ true = λ same.
    let gt : g < n = in_group same lt in
    member_from groups c g (subst (λ k. g < k) (sym size) gt)
    (sym ((grouping.numbered.same f g lt gt).1 same) ∙ parts.1) in
    (forth, back)
  where
    in_group : {x y : ℕ} → SameGroup (Steps arcs) x y → x < n → y < n
    in_group (inl e) xt = subst (λ k. k < n) e xt
    in_group (inr both) xt = caller_within n arcs within both.1
