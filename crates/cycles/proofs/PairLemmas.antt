-- Pairs of functions that are numbered in the order in which they came.
use Rattle.std.proofs.Common.{◌≡◌, ℕ, ◌+◌, ◌<◌, ◌==◌, Bool, true, false, cond, ◌&&◌, List, [], ◌∷◌, ◌++◌}
use Rattle.std.proofs.Common.{length, get_or, take, None, Some, refl, sym, ap, subst, ◌∙◌, inl, inr, arith, rules}
use Rattle.std.specs.BTreeMap.{BTreeMap, get, is_at}
use Rattle.std.specs.Cmp.{tied_then}
use Rattle.std.specs.Ordering.{is_eq, nat_cmp}
use Rattle.std.proofs.lemmas.Bool.{cases_lt, eqb-true, eq-eqb, and_parts}
use Rattle.std.proofs.lemmas.List.{get_or_append_left, get_or_push, get_or-take, get_or_default, length_push}
use Rattle.std.proofs.lemmas.List.{length-take-le}
use Rattle.call_graph.specs.declared.arc.CallArc.{CallArc}
use Rattle.call_graph.proofs.RowLemmas.{arc_from, arc_is}
use Rattle.cg_read.specs.declared.rows.CallRow.{CallRow}
use Rattle.cycles.specs.Costs.{arc_of}
use Rattle.cycles.specs.inner.Pairs.{AreFound, IsPairs, Keeps, arc_at, ends, ends_order}

tied : (x y : ℕ) → (x == y) ≡ is_eq (nat_cmp x y)
tied x y = search rules

-- ends that are equal in the order are the same
exact : (x y : CallArc) → is_eq (ends_order (ends x) (ends y)) ≡ true → x ≡ y
exact x y e =
    let both = and_parts (is_eq (nat_cmp x.caller y.caller)) (is_eq (nat_cmp x.callee y.callee))
    (tied_then (nat_cmp x.caller y.caller) (nat_cmp x.callee y.callee) ∙ e) in
    arc_is x (eqb-true x.caller y.caller (tied x.caller y.caller ∙ both.0))
    (eqb-true x.callee y.callee (tied x.callee y.callee ∙ both.1))

itself : (x : CallArc) → is_eq (ends_order (ends x) (ends x)) ≡ true
itself x =
    sym (tied_then (nat_cmp x.caller x.caller) (nat_cmp x.callee x.callee))
    ∙ ap (λ b. b && is_eq (nat_cmp x.callee x.callee)) (sym (tied x.caller x.caller) ∙ eq-eqb x.caller x.caller refl)
    ∙ sym (tied x.callee x.callee) ∙ eq-eqb x.callee x.callee refl

-- an arc that wasn't found is added
module _ (arcs : List CallArc) (arc : CallArc) (old new : BTreeMap (ℕ × ℕ) ℕ) (before : AreFound arcs old)
    (none : get ends_order old (ends arc) ≡ None)
    (updates : (q : ℕ × ℕ) → get ends_order new q
    ≡ cond (is_at (ends_order (ends arc)) q) (Some (length arcs)) (get ends_order old q)) where
  size : length (arcs ++ arc ∷ []) ≡ length arcs + 1
  size = length_push arcs arc

  last : arc_at (arcs ++ arc ∷ []) (length arcs) ≡ arc
  last = get_or_push arcs arc (arc_from 0 0) (length arcs) refl

  first : (n : ℕ) → n < length arcs → arc_at (arcs ++ arc ∷ []) n ≡ arc_at arcs n
  first n lt = get_or_append_left arcs (arc ∷ []) (arc_from 0 0) n lt

  now : (x : CallArc) (b : Bool) → is_at (ends_order (ends arc)) (ends x) ≡ b
      → get ends_order new (ends x) ≡ cond b (Some (length arcs)) (get ends_order old (ends x))
  now x b e = updates (ends x) ∙ ap (λ t. cond t (Some (length arcs)) (get ends_order old (ends x))) e

  there : (n : ℕ) (x : CallArc) → get ends_order new (ends x) ≡ Some n → (b : Bool)
      → is_at (ends_order (ends arc)) (ends x) ≡ b
      → (n < length (arcs ++ arc ∷ [])) × (arc_at (arcs ++ arc ∷ []) n ≡ x)
  there n x at true e =
      let own : Some (length arcs) ≡ Some n = sym (now x true e) ∙ at in
      let number : length arcs ≡ n = cc in
      (omega (arith, number, size), ap (arc_at (arcs ++ arc ∷ [])) (sym number) ∙ last ∙ exact arc x e)
  there n x at false e =
      let was = before.there n x (sym (now x false e) ∙ at) in
      (omega (arith, was.0, size), first n was.0 ∙ was.1)

  was : (n : ℕ) → n < length arcs → (b : Bool) → is_at (ends_order (ends arc)) (ends (arc_at arcs n)) ≡ b
      → get ends_order new (ends (arc_at arcs n)) ≡ Some n
  was n lt true e =
      let there : get ends_order old (ends arc) ≡ Some n
      = ap (λ a. get ends_order old (ends a)) (exact arc (arc_at arcs n) e) ∙ before.found n lt in
      absurd (cc)
  was n lt false e = now (arc_at arcs n) false e ∙ before.found n lt

  pub found_more : AreFound (arcs ++ arc ∷ []) new
  found_more = record {
    there = λ n x at. there n x at (is_at (ends_order (ends arc)) (ends x)) refl;
    found = λ n lt. elim (cases_lt n (length arcs)) [
      | inl less ↦ ap (λ a. get ends_order new (ends a)) (first n less)
          ∙ was n less (is_at (ends_order (ends arc)) (ends (arc_at arcs n))) refl
      | inr past ↦ let e : n ≡ length arcs = omega (arith, lt, size) in
          ap (λ m. get ends_order new (ends (arc_at (arcs ++ arc ∷ []) m))) e
          ∙ ap (λ a. get ends_order new (ends a)) last ∙ now arc true (itself arc) ∙ ap Some (sym e)
    ];
  }

module _ (rows : List CallRow) (i : ℕ) (row : CallRow) (arcs new_arcs : List CallArc) (numbers : List ℕ) (n : ℕ)
    (arc : CallArc) (places : BTreeMap (ℕ × ℕ) ℕ)
    (lt : i < length rows) (is : row ≡ get_or rows i row) (from_row : arc ≡ arc_of row)
    (before : IsPairs (take i rows) arcs numbers) (kept : Keeps arcs new_arcs)
    (here : (n < length new_arcs) × (arc_at new_arcs n ≡ arc)) (all : AreFound new_arcs places) where
  short : length (take i rows) ≡ i
  short = length-take-le i rows (omega arith)

  longer : length (take (i + 1) rows) ≡ i + 1
  longer = length-take-le (i + 1) rows (omega arith)

  old_number : (j : ℕ) → j < i → get_or (numbers ++ n ∷ []) j 0 ≡ get_or numbers j 0
  old_number j jt = get_or_append_left numbers (n ∷ []) 0 j (omega (arith, before.count, short))

  new_number : (j : ℕ) → j ≡ i → get_or (numbers ++ n ∷ []) j 0 ≡ n
  new_number j e = get_or_push numbers n 0 j (omega (arith, before.count, short))

  row_kept : (j : ℕ) (d : CallRow) → j < i → get_or (take (i + 1) rows) j d ≡ get_or (take i rows) j d
  row_kept j d jt = get_or-take (i + 1) rows j d (omega arith) ∙ sym (get_or-take i rows j d jt)

  row_now : (j : ℕ) (d : CallRow) → j ≡ i → get_or (take (i + 1) rows) j d ≡ row
  row_now j d e = get_or-take (i + 1) rows j d (omega arith) ∙ ap (λ k. get_or rows k d) e
      ∙ get_or_default rows i d row lt ∙ sym is

  pub pairs_more : IsPairs (take (i + 1) rows) new_arcs (numbers ++ n ∷ [])
  pairs_more = record {
    count = omega (arith, length_push numbers n, before.count, short, longer);
    within = λ j jt. elim (cases_lt j i) [
      | inl less ↦ subst (λ k. k < length new_arcs) (sym (old_number j less))
          (kept (get_or numbers j 0) (before.within j (omega (arith, short)))).0
      | inr past ↦ subst (λ k. k < length new_arcs) (sym (new_number j (omega (arith, longer)))) here.0
    ];
    each = λ j d jt. elim (cases_lt j i) [
      | inl less ↦ ap (arc_at new_arcs) (old_number j less)
          ∙ (kept (get_or numbers j 0) (before.within j (omega (arith, short)))).1
          ∙ before.each j d (omega (arith, short)) ∙ ap arc_of (sym (row_kept j d less))
      | inr past ↦ let e : j ≡ i = omega (arith, longer) in
          ap (arc_at new_arcs) (new_number j e) ∙ here.1 ∙ from_row ∙ ap arc_of (sym (row_now j d e))
    ];
    apart = λ m k mt kt e.
        let one : Some m ≡ Some k
        = sym (all.found m mt) ∙ ap (λ a. get ends_order places (ends a)) e ∙ all.found k kt in
        cc;
  }
