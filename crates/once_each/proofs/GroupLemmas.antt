-- The groups over the rows are those of the graph.
use Rattle.std.proofs.Common.{◌≡◌, ℕ, ◌↔◌, List, map, refl, sym, ap, subst, ◌∙◌, Contains, inl, inr}
use Rattle.sym_map.specs.SymbolMap.{SymbolMap}
use Rattle.once_each.proofs.Others.{Contains-from_map, Contains-map, leads_from_same, same_back, same_by}
use Rattle.once_each.proofs.Others.{same_from_leads}
use Rattle.shadow_stack.specs.Traces.{CountedEvent}
use Rattle.arc_costs.specs.Rows.{ArcRow}
use Rattle.call_graph.specs.Reach.{Reach, SameGroup, Steps, one, more}
use Rattle.call_graph.specs.declared.arc.CallArc.{CallArc}
use Rattle.cg_read.specs.Profiles.{Contents}
use Rattle.cg_read.specs.declared.rows.CallRow.{CallRow}
use Rattle.cycles.specs.Costs.{arc_of, call_arcs}
use Rattle.once_each.specs.Graphs.{TakesPart, between, graph}
use Rattle.once_each.specs.Parts.{ThreadRows, ArePartsOfTrace, all_arcs, row_arcs}
use Rattle.once_each.specs.Profiles.{IsProfileOf, Numbering, call_row}
use Rattle.once_each.proofs.GraphLemmas.{from_row, to_row}
use Rattle.once_each.proofs.LawLemmas.{graph_to, leads_to}

module _ (syms : SymbolMap) (trace : List CountedEvent) (parts : List (List ThreadRows))
    (are : ArePartsOfTrace syms trace parts) where
  to_rows : (f g : ℕ) → Steps (graph syms trace) f g → Steps (row_arcs parts) f g
  to_rows f g step =
      let row = to_row syms trace parts are f g step in
      let arc : between row.item.arc ≡ record { caller = f; callee = g } =
      ap (λ h. record { caller = h; callee = row.item.arc.callee.0 }) row.has.0
      ∙ ap (λ h. record { caller = f; callee = h }) row.has.1 in
      subst (λ (c : CallArc). Contains (row_arcs parts) c) arc
      (Contains-map (λ (r : ArcRow). between r.arc) (all_arcs parts) row.item row.among)

  from_rows : (f g : ℕ) → Steps (row_arcs parts) f g → Steps (graph syms trace) f g
  from_rows f g step =
      let row = Contains-from_map (λ (r : ArcRow). between r.arc) (all_arcs parts)
      (record { caller = f; callee = g }) step in
      subst (λ (c : CallArc). Contains (graph syms trace) c) row.2 (from_row syms trace parts are row.0 row.1)

  pub same_steps : (f g : ℕ) → Steps (graph syms trace) f g ↔ Steps (row_arcs parts) f g
  same_steps f g = (to_rows f g, from_rows f g)

  pub same_groups : (f g : ℕ) → SameGroup (Steps (graph syms trace)) f g ↔ SameGroup (Steps (row_arcs parts)) f g
  same_groups f g = (same_by to_rows, same_by from_rows)

-- Back from the numbers of a profile. Those who take part are among these functions, and no other of these has a number
-- of theirs.
module _ (syms : SymbolMap) (trace : List CountedEvent) (n : Numbering) (p : Contents) (is : IsProfileOf syms trace n p)
    (Is : ℕ → Type 0) (takes : (f : ℕ) → TakesPart (graph syms trace) f → Is f)
    (own : (f g : ℕ) → TakesPart (graph syms trace) f → Is g → n.func g ≡ n.func f → g ≡ f) where
  -- a step of the profile is one of the graph
  record IsStep (a b : ℕ) : Type 0 where
    from : ℕ
    to : ℕ
    from_is : n.func from ≡ a
    to_is : n.func to ≡ b
    step : Steps (graph syms trace) from to

  step_back : (a b : ℕ) → Steps (call_arcs p) a b → IsStep a b
  step_back a b step =
      let rows : Contains (map arc_of (map (call_row n) (all_arcs is.parts))) (record { caller = a; callee = b }) =
      subst (λ (rs : List CallRow). Contains (map arc_of rs) (record { caller = a; callee = b })) is.call_rows step in
      let call =
      Contains-from_map arc_of (map (call_row n) (all_arcs is.parts)) (record { caller = a; callee = b }) rows in
      let row = Contains-from_map (call_row n) (all_arcs is.parts) call.0 call.1 in
      let arc : arc_of (call_row n row.0) ≡ record { caller = a; callee = b } = ap arc_of row.2 ∙ call.2 in
      record {
        from = row.0.arc.caller.0;
        to = row.0.arc.callee.0;
        from_is = ap (λ (c : CallArc). c.caller) arc;
        to_is = ap (λ (c : CallArc). c.callee) arc;
        step = from_row syms trace is.parts is.exact row.0 row.1;
      }

  reach_back : {a b : ℕ} → Reach (Steps (call_arcs p)) a b → (f g : ℕ) → Is f → Is g → n.func f ≡ a → n.func g ≡ b
      → Reach (Steps (graph syms trace)) f g
  reach_back {a = a} {b = b} (one s) f g is_f is_g f_is g_is =
      let back = step_back a b s in
      let from = own back.from f (back.to, inl back.step) is_f (f_is ∙ sym back.from_is) in
      let to = own back.to g (back.from, inr back.step) is_g (g_is ∙ sym back.to_is) in
      one (subst (λ h. Steps (graph syms trace) h g) (sym from)
      (subst (λ h. Steps (graph syms trace) back.from h) (sym to) back.step))
  reach_back {a = a} (more {g = c} s r) f g is_f is_g f_is g_is =
      let back = step_back a c s in
      let from = own back.from f (back.to, inl back.step) is_f (f_is ∙ sym back.from_is) in
      more (subst (λ h. Steps (graph syms trace) h back.to) (sym from) back.step)
      (reach_back r back.to g (takes back.to (back.from, inr back.step)) is_g back.to_is g_is)

  pub groups_numbered : (f g : ℕ) → Is f → Is g → (n.func f ≡ n.func g → f ≡ g)
      → SameGroup (Steps (graph syms trace)) f g ↔ SameGroup (Steps (call_arcs p)) (n.func f) (n.func g)
  groups_numbered f g is_f is_g apart = (forth, back)
    where
      forth : SameGroup (Steps (graph syms trace)) f g → SameGroup (Steps (call_arcs p)) (n.func f) (n.func g)
      forth same =
          same_from_leads (leads_to n.func (graph_to syms trace n p is) (leads_from_same same))
          (leads_to n.func (graph_to syms trace n p is) (leads_from_same (same_back same)))

      back : SameGroup (Steps (call_arcs p)) (n.func f) (n.func g) → SameGroup (Steps (graph syms trace)) f g
      back (inl e) = inl (apart e)
      back (inr r) = inr (reach_back r.0 f g is_f is_g refl refl, reach_back r.1 g f is_g is_f refl refl)
