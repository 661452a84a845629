-- A group is a cycle where an arc leads from one of its functions to one of its functions.
use Rattle.std.proofs.Common.{◌≡◌, ◌≢◌, ◌↔◌, ℕ, ◌<◌, Bool, true, false, List, [], ◌∷◌, ◌++◌, length, get_or, set}
use Rattle.std.proofs.Common.{All, Contains, refl, sym, ap, subst, ◌∙◌, inl, inr}
use Rattle.std.proofs.lemmas.List.{get_or-set_same, get_or-set_other, length-set}
use Rattle.std.proofs.lemmas.List.Elements.{All-contains, Contains-append_left, Contains-push, Contains-push_cases}
use Rattle.std.proofs.lemmas.Bool.{cases_eq}
use Rattle.call_graph.specs.Groups.{IsCycle, IsMember, IsNumbering, IsWithin, TellCycles}
use Rattle.call_graph.specs.Reach.{Reach, one, more, Steps}
use Rattle.call_graph.specs.declared.arc.CallArc.{CallArc}
use Rattle.call_graph.proofs.PassLemmas.{at}
use Rattle.call_graph.proofs.ReachLemmas.{reach_after}
use Rattle.call_graph.proofs.RowLemmas.{arc_is}

-- an arc leads from a function of the group to one of it
pub record HasInside (arcs : List CallArc) (number : List ℕ) (c : ℕ) : Type 0 where
  pub arc : CallArc
  pub there : Contains arcs arc
  pub from : at number arc.caller ≡ c
  pub to : at number arc.callee ≡ c

pub record MarkInside (arcs : List CallArc) (number : List ℕ) (cyclic : List Bool) : Type 0 where
  pub exact : (c : ℕ) → c < length cyclic → (get_or cyclic c false ≡ true) ↔ HasInside arcs number c

keep_inside : {arcs : List CallArc} {number : List ℕ} {c : ℕ} (arc : CallArc) → HasInside arcs number c
    → HasInside (arcs ++ arc ∷ []) number c
keep_inside {arcs = arcs} arc inside = record {
  arc = inside.arc;
  there = Contains-append_left arcs (arc ∷ []) inside.arc inside.there;
  from = inside.from;
  to = inside.to;
}

-- an arc inside a group makes it a cycle, and no other
pub mark_more : (arcs : List CallArc) (arc : CallArc) (number : List ℕ) (cyclic : List Bool)
    → at number arc.caller < length cyclic → at number arc.callee ≡ at number arc.caller
    → MarkInside arcs number cyclic → MarkInside (arcs ++ arc ∷ []) number (set cyclic (at number arc.caller) true)
mark_more arcs arc number cyclic lt same before = record {
  exact = λ c ct. (to_inside c (subst (λ k. c < k) size ct), to_mark c (subst (λ k. c < k) size ct));
}
  where
    size : length (set cyclic (at number arc.caller) true) ≡ length cyclic
    size = length-set cyclic (at number arc.caller) true

    here : (c : ℕ) → c ≡ at number arc.caller → get_or (set cyclic (at number arc.caller) true) c false ≡ true
    here c e = ap (λ k. get_or (set cyclic (at number arc.caller) true) k false) e
        ∙ get_or-set_same cyclic (at number arc.caller) true false lt

    other : (c : ℕ) → c ≢ at number arc.caller
        → get_or (set cyclic (at number arc.caller) true) c false ≡ get_or cyclic c false
    other c ne = get_or-set_other cyclic (at number arc.caller) c true false ne

    to_inside : (c : ℕ) → c < length cyclic → get_or (set cyclic (at number arc.caller) true) c false ≡ true
        → HasInside (arcs ++ arc ∷ []) number c
    to_inside c ct is = elim (cases_eq c (at number arc.caller)) [
      | inl e ↦ record { arc = arc; there = Contains-push arcs arc; from = sym e; to = same ∙ sym e }
      | inr ne ↦ keep_inside arc ((before.exact c ct).0 (sym (other c ne) ∙ is))
    ]

    to_mark : (c : ℕ) → c < length cyclic → HasInside (arcs ++ arc ∷ []) number c
        → get_or (set cyclic (at number arc.caller) true) c false ≡ true
    to_mark c ct inside = elim (cases_eq c (at number arc.caller)) [
      | inl e ↦ here c e
      | inr ne ↦ other c ne ∙ elim (Contains-push_cases arcs arc inside.arc inside.there) [
        | inl old ↦ (before.exact c ct).1 (record { arc = inside.arc; there = old; from = inside.from; to = inside.to })
        | inr new ↦ absurd (ne (sym inside.from ∙ ap (λ a. at number a.caller) (sym new)))
      ]
    ]

-- an arc between two groups makes none
pub mark_other : (arcs : List CallArc) (arc : CallArc) (number : List ℕ) (cyclic : List Bool)
    → at number arc.callee ≢ at number arc.caller
    → MarkInside arcs number cyclic → MarkInside (arcs ++ arc ∷ []) number cyclic
mark_other arcs arc number cyclic differ before = record {
  exact = λ c ct. (
    λ is. keep_inside arc ((before.exact c ct).0 is),
    λ inside. elim (Contains-push_cases arcs arc inside.arc inside.there) [
      | inl old ↦ (before.exact c ct).1 (record { arc = inside.arc; there = old; from = inside.from; to = inside.to })
      | inr new ↦ absurd
          (differ
          (ap (λ a. at number a.callee) new ∙ inside.to ∙ sym inside.from ∙ ap (λ a. at number a.caller) (sym new)))
    ],
  );
}

-- An arc inside and a cycle are the same.
module _ (arcs : List CallArc) (number : List ℕ) (count : ℕ) (within : All (IsWithin (length number)) arcs)
    (numbered : IsNumbering (length number) (Steps arcs) number count) where
  step_within : (f g : ℕ) → Steps arcs f g → (f < length number) × (g < length number)
  step_within f g step =
      let both = All-contains (IsWithin (length number)) arcs (record { caller = f; callee = g }) within step in
      (both.caller, both.callee)

  -- of the way from a function to another of its group the first arc is inside
  first_inside : (c f g : ℕ) → IsMember number c f → Reach (Steps arcs) f g → Reach (Steps arcs) g f
      → HasInside arcs number c
  first_inside c f g member (one step) back = record {
    arc = record { caller = f; callee = g };
    there = step;
    from = member.1;
    to = sym ((numbered.same f g member.0 (step_within f g step).1).1 (inr (one step, back))) ∙ member.1;
  }
  first_inside c f g member (more {g = h} step way) back = record {
    arc = record { caller = f; callee = h };
    there = step;
    from = member.1;
    to = sym ((numbered.same f h member.0 (step_within f h step).1).1 (inr (one step, reach_after way back)))
        ∙ member.1;
  }

  inside_from_cycle : (c : ℕ) → IsCycle (Steps arcs) number c → HasInside arcs number c
  inside_from_cycle c (inl (f, g, differ, fm, gm)) = elim ((numbered.same f g fm.0 gm.0).0 (fm.1 ∙ sym gm.1)) [
    | inl e ↦ absurd (differ e)
    | inr both ↦ first_inside c f g fm both.0 both.1
  ]
  inside_from_cycle c (inr (f, fm, step)) = record {
    arc = record { caller = f; callee = f };
    there = step;
    from = fm.1;
    to = fm.1;
  }

  cycle_from_inside : (c : ℕ) → HasInside arcs number c → IsCycle (Steps arcs) number c
  cycle_from_inside c inside =
      let both = All-contains (IsWithin (length number)) arcs inside.arc within inside.there in
      elim (cases_eq inside.arc.caller inside.arc.callee) [
        | inl e ↦ inr (
          inside.arc.caller,
          (both.caller, inside.from),
          subst (Contains arcs) (arc_is inside.arc refl (sym e)) inside.there,
        )
        | inr ne ↦ inl (inside.arc.caller, inside.arc.callee, ne, (both.caller, inside.from), (both.callee, inside.to))
      ]

  pub tell_cycles : (cyclic : List Bool) → MarkInside arcs number cyclic → TellCycles (Steps arcs) number cyclic
  tell_cycles cyclic marks = record {
    exact =
        λ c lt. (
          λ is. cycle_from_inside c ((marks.exact c lt).0 is),
          λ cycle. (marks.exact c lt).1 (inside_from_cycle c cycle),
        );
  }
