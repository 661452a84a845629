-- One arc more among the callees.
use Rattle.std.proofs.Common.{◌≡◌, ◌≢◌, ℕ, ◌<◌, List, [], ◌∷◌, ◌++◌, length, get_or, set, Vec, Contains, sym, ap, subst}
use Rattle.std.proofs.Common.{◌∙◌, inl, inr, arith}
use Rattle.std.specs.declared.alloc.Global.{Global}
use Rattle.std.proofs.lemmas.List.{length-map, length-set, get_or-map, map-set, get_or-set_same, get_or-set_other}
use Rattle.std.proofs.lemmas.List.Elements.{Contains-append_left, Contains-push, Contains-push_cases}
use Rattle.std.proofs.lemmas.Bool.{cases_eq}
use Rattle.call_graph.specs.Reach.{Steps}
use Rattle.call_graph.specs.inner.Rows.{Calls, IsRows, lists}
use Rattle.call_graph.specs.declared.arc.CallArc.{CallArc}

abbrev pub arc_from : ℕ → ℕ → CallArc
arc_from f g = record { caller = f; callee = g }

pub arc_is : {f g : ℕ} (arc : CallArc) → arc.caller ≡ f → arc.callee ≡ g → arc ≡ arc_from f g
arc_is {f = f} arc e h = ap {B = CallArc} (λ k. arc_from k arc.callee) e ∙ ap {B = CallArc} (λ k. arc_from f k) h

pub length-lists : (rows : List (Vec ℕ Global)) → length (lists rows) ≡ length rows
length-lists rows = length-map rows (λ v. v.items)

-- the callees of a function, as the code reads them
pub row_at : (rows : List (Vec ℕ Global)) (f : ℕ) (row : Vec ℕ Global) → f < length (lists rows)
    → row ≡ get_or rows f row → row.items ≡ get_or (lists rows) f []
row_at rows f row lt is = ap (λ v. v.items) is
    ∙ sym (get_or-map (λ v. v.items) rows f row [] (omega (arith, lt, length-map rows (λ v. v.items))))

module _ {n : ℕ} {arcs : List CallArc} {rows : List (List ℕ)} (before : IsRows n arcs rows) (arc : CallArc)
    (within : arc.caller < n) where
  abbrev row : List ℕ
  row = get_or rows arc.caller []

  abbrev rows' : List (List ℕ)
  rows' = set rows arc.caller (row ++ arc.callee ∷ [])

  at_caller : (f : ℕ) → f ≡ arc.caller → get_or rows' f [] ≡ row ++ arc.callee ∷ []
  at_caller f e = ap (λ k. get_or rows' k []) e
      ∙ get_or-set_same rows arc.caller (row ++ arc.callee ∷ []) []
      (subst (λ k. arc.caller < k) (sym before.size) within)

  at_other : (f : ℕ) → f ≢ arc.caller → get_or rows' f [] ≡ get_or rows f []
  at_other f ne = get_or-set_other rows arc.caller f (row ++ arc.callee ∷ []) [] ne

  to_arcs : (f g : ℕ) → Calls rows' f g → Steps (arcs ++ arc ∷ []) f g
  to_arcs f g calls = elim (cases_eq f arc.caller) [
    | inl e ↦ elim (Contains-push_cases row arc.callee g (subst (λ r. Contains r g) (at_caller f e) calls)) [
      | inl old ↦ Contains-append_left arcs (arc ∷ []) (arc_from f g)
          ((before.exact f g).0 (subst (λ k. Contains (get_or rows k []) g) (sym e) old))
      | inr new ↦ subst (Contains (arcs ++ arc ∷ [])) (arc_is arc (sym e) new) (Contains-push arcs arc)
    ]
    | inr ne ↦ Contains-append_left arcs (arc ∷ []) (arc_from f g)
        ((before.exact f g).0 (subst (λ r. Contains r g) (at_other f ne) calls))
  ]

  to_rows : (f g : ℕ) → Steps (arcs ++ arc ∷ []) f g → Calls rows' f g
  to_rows f g steps = elim (Contains-push_cases arcs arc (arc_from f g) steps) [
    | inl old ↦
        let calls : Contains (get_or rows f []) g = (before.exact f g).1 old in
        elim (cases_eq f arc.caller) [
          | inl e ↦ subst (λ r. Contains r g) (sym (at_caller f e))
              (Contains-append_left row (arc.callee ∷ []) g (subst (λ k. Contains (get_or rows k []) g) e calls))
          | inr ne ↦ subst (λ r. Contains r g) (sym (at_other f ne)) calls
        ]
    | inr new ↦
        subst (λ r. Contains r g) (sym (at_caller f (sym (ap (λ a. a.caller) new))))
        (subst (Contains (row ++ arc.callee ∷ [])) (ap (λ a. a.callee) new) (Contains-push row arc.callee))
  ]

  pub row_more : IsRows n (arcs ++ arc ∷ []) rows'
  row_more = record {
    size = length-set rows arc.caller (row ++ arc.callee ∷ []) ∙ before.size;
    exact = λ f g. (to_arcs f g, to_rows f g);
  }

pub lists-set : (rows : List (Vec ℕ Global)) (f : ℕ) (v : Vec ℕ Global)
    → lists (set rows f v) ≡ set (lists rows) f v.items
lists-set rows f v = map-set (λ r. r.items) rows f v
