-- The arcs of the rows are those of the graph.
use Rattle.std.proofs.Common.{◌≡◌, ℕ, zero, suc, ◌+◌, ◌*◌, ◌==◌, ◌<◌, Bool, true, false, not, ◌||◌, List, [], ◌∷◌}
use Rattle.std.proofs.Common.{get_or, Option, None, Some, refl, sym, ap, subst, ◌∙◌, arith, if◌then◌else◌, sum_by}
use Rattle.std.proofs.Common.{count_by, flat_map, Contains, ⊎_elim}
use Rattle.std.specs.Option.{option_map_or}
use Rattle.std.proofs.lemmas.List.Elements.{All-contains}
use Rattle.event_costs.specs.Keys.{ArcKey}
use Rattle.sym_map.specs.SymbolMap.{SymbolMap}
use Rattle.once_each.proofs.Others.{first_or_rest}
use Rattle.shadow_stack.specs.Changes.{change}
use Rattle.shadow_stack.specs.Stacks.{Activation, Stack}
use Rattle.shadow_stack.specs.Traces.{CountedEvent, EventOnStack, events_on_stacks}
use Rattle.arc_costs.specs.Arcs.{is_some_arc}
use Rattle.event_costs.specs.Order.{same_arc}
use Rattle.arc_costs.specs.Totals.{is_some_cost}
use Rattle.arc_costs.specs.Rows.{ArcRow}
use Rattle.recorder.specs.Standing.{AreRowsOf}
use Rattle.recorder.specs.Sums.{of_thread}
use Rattle.call_graph.specs.Reach.{Steps}
use Rattle.call_graph.specs.declared.arc.CallArc.{CallArc}
use Rattle.once_each.specs.Graphs.{arcs_of, arcs_pushed, between, graph}
use Rattle.once_each.specs.Parts.{ThreadRows, ArePartsOf, ArePartsOfTrace, all_arcs}
use Rattle.once_each.proofs.Others.{arc_alike, arc_itself}
use Rattle.once_each.proofs.MemberLemmas.{Contains-flat_map, Some_of, count-some, each_at, from_filter, from_flat_map}
use Rattle.once_each.proofs.MemberLemmas.{le-sum, sum-some, zip_right}
use Rattle.once_each.proofs.PartLemmas.{all_arcs_where, all_calls_where, cost_of, pushed_by, pushed_stack}
use Rattle.once_each.proofs.SeenLemmas.{chains, arcs_has}
use Rattle.once_each.proofs.StackLemmas.{IsChain, IsOn, count-cons, number_of, on_arc}

some_same : {A : Type 0} (a b : A) → Some a ≡ Some b → a ≡ b
some_same a b is = cc

-- the arc of a frame in a chain is a step
chain_step : (Step : ℕ → ℕ → Type 0) (s : Stack) (a : Activation) (arc : ArcKey) → IsChain Step s → Contains s a
    → a.arc ≡ Some arc → Step arc.caller.0 arc.callee.0
chain_step Step [] a arc chain in' is = absurd (omega (arith, in'.1))
chain_step Step (b ∷ s) a arc chain in' is =
    ⊎_elim (λ e. here s chain.0 (ap (λ (c : Activation). c.arc) e ∙ is))
    (λ later. chain_step Step s a arc chain.1 later is) (first_or_rest b s a in')
  where
    here : (s : Stack) → IsOn Step s b → b.arc ≡ Some arc → Step arc.caller.0 arc.callee.0
    here [] none some = absurd (cc)
    here (c ∷ t) on some =
        let same : on.arc ≡ arc = some_same on.arc arc (sym on.is ∙ some) in
        let caller : c.func.0 ≡ arc.caller.0 = sym on.caller ∙ ap (λ (k : ArcKey). k.caller.0) same in
        let callee : b.func.0 ≡ arc.callee.0 = sym on.callee ∙ ap (λ (k : ArcKey). k.callee.0) same in
        subst (λ f. Step f arc.callee.0) caller (subst (λ g. Step c.func.0 g) callee on.step)

-- an activation whose arc is this one
record IsBy (arc : ArcKey) (a : Activation) : Type 0 where
  is : a.arc ≡ Some arc

by_arc : (arc : ArcKey) (a : Activation) → on_arc (same_arc arc) a ≡ true → IsBy arc a
by_arc arc a is = by a.arc refl is
  where
    by : (o : Option ArcKey) → a.arc ≡ o → option_map_or (same_arc arc) o false ≡ true → IsBy arc a
    by None from is = absurd (cc)
    by (Some b) from same = record { is = from ∙ ap Some (sym (arc_alike arc b same)) }

-- some event pushes an arc that isn't called in vain
called : (syms : SymbolMap) (trace : List CountedEvent) (arc : ArcKey)
    → 0 < sum_by (λ x. count_by (on_arc (same_arc arc)) (pushed_by syms x)) (events_on_stacks syms trace)
    → Steps (graph syms trace) arc.caller.0 arc.callee.0
called syms trace arc more =
    let found = sum-some (λ x. count_by (on_arc (same_arc arc)) (pushed_by syms x)) (events_on_stacks syms trace) more in
    Contains-flat_map (arcs_pushed syms) (events_on_stacks syms trace) found.item (between arc) found.among
    (by (change syms found.item.event found.item.stack).pushed found.has)
  where
    by : (o : Option Activation) → 0 < count_by (on_arc (same_arc arc)) (pushed_stack o)
        → Contains (arcs_of o) (between arc)
    by None more = absurd (omega (arith, more))
    by (Some a) more =
        let frame = count-some (on_arc (same_arc arc)) (a ∷ []) more in
        let here : a ≡ frame.item
        = ⊎_elim (λ e. e) (λ later. absurd (omega (arith, later.1))) (first_or_rest a [] frame.item frame.among) in
        arcs_has (Some a) a arc refl (ap (λ (b : Activation). b.arc) here ∙ (by_arc arc frame.item frame.has).is)

-- some event ran above an arc that has a cost
ran : (syms : SymbolMap) (trace : List CountedEvent) (kind : ℕ) (arc : ArcKey)
    → 0 < sum_by (λ x. cost_of kind x * count_by (on_arc (same_arc arc)) x.stack) (events_on_stacks syms trace)
    → Steps (graph syms trace) arc.caller.0 arc.callee.0
ran syms trace kind arc more =
    let found = sum-some (λ x. cost_of kind x * count_by (on_arc (same_arc arc)) x.stack) (events_on_stacks syms trace) more in
    let frame = count-some (on_arc (same_arc arc)) found.item.stack
    (factor (cost_of kind found.item) (count_by (on_arc (same_arc arc)) found.item.stack) found.has) in
    let chain = each_at (λ (x : EventOnStack). IsChain (Steps (graph syms trace)) x.stack) (events_on_stacks syms trace)
    (chains (Steps (graph syms trace)) syms trace (λ f g s. s)) found.item found.among in
    chain_step (Steps (graph syms trace)) found.item.stack frame.item arc chain frame.among
    (by_arc arc frame.item frame.has).is
  where
    factor : (n m : ℕ) → 0 < n * m → 0 < m
    factor n zero more = absurd (let none : n * 0 ≡ 0 = omega arith in omega (arith, more, none))
    factor n (suc m) more = omega arith

-- an activation with this arc counts once
one_frame : (arc : ArcKey) (a : Activation) → a.arc ≡ Some arc → count_by (on_arc (same_arc arc)) (a ∷ []) ≡ 1
one_frame arc a is =
    by (on_arc (same_arc arc) a) (ap (λ (o : Option ArcKey). option_map_or (same_arc arc) o false) is ∙ arc_itself arc)
    (count-cons (on_arc (same_arc arc)) a [])
  where
    by : (b : Bool) → b ≡ true → count_by (on_arc (same_arc arc)) (a ∷ []) ≡ number_of b + 0
        → count_by (on_arc (same_arc arc)) (a ∷ []) ≡ 1
    by true is count = omega (arith, count)
    by false is count = absurd (cc)

passes : (b : Bool) (n : ℕ) → 0 < (if b then n else 0) → b ≡ true
passes true n more = refl
passes false n more = absurd (omega (arith, more))

-- a number of a cost that isn't 0
record IsSome (cost : List ℕ) : Type 0 where
  kind : ℕ
  more : 0 < get_or cost kind 0

some_of_cost : (cost : List ℕ) → is_some_cost cost ≡ true → IsSome cost
some_of_cost [] is = absurd (cc)
some_of_cost (n ∷ cost) is = by n is (some_of_cost cost)
  where
    by : (n : ℕ) → (not (n == 0) || is_some_cost cost) ≡ true → (is_some_cost cost ≡ true → IsSome cost)
        → IsSome (n ∷ cost)
    by zero is rest = let later = rest is in record { kind = suc later.kind; more = later.more }
    by (suc n) is rest = record { kind = 0; more = omega arith }

module _ (syms : SymbolMap) (trace : List CountedEvent) (parts : List (List ThreadRows))
    (are : ArePartsOfTrace syms trace parts) where
  -- a row isn't all 0
  row_some : (row : ArcRow) → Contains (all_arcs parts) row → is_some_arc row ≡ true
  row_some row in' =
      let segment = from_flat_map (λ ps. flat_map (λ (part : ThreadRows). part.rows.arcs) ps) parts row in' in
      let part = from_flat_map (λ (part : ThreadRows). part.rows.arcs) segment.item row segment.has in
      let events = zip_right (ArePartsOf syms) are.segments parts are.exact segment.item segment.among in
      let rows =
      All-contains
      (λ p. AreRowsOf syms (of_thread p.thread events.item) p.rows) segment.item part.item events.has.exact
      part.among in
      (from_filter is_some_arc part.item.rows.arcs row
      (subst (λ (rs : List ArcRow). Contains rs row) (sym rows.some_arcs) part.has)).1

  pub from_row : (row : ArcRow) → Contains (all_arcs parts) row
      → Steps (graph syms trace) row.arc.caller.0 row.arc.callee.0
  from_row row in' = by row.calls refl (row_some row in')
    where
      by : (calls : ℕ) → row.calls ≡ calls → (not (calls == 0) || is_some_cost row.cost) ≡ true
          → Steps (graph syms trace) row.arc.caller.0 row.arc.callee.0
      by (suc calls) is some =
          let mine : row.calls ≡ (if same_arc row.arc row.arc then row.calls else 0)
          = sym (ap (λ b. if b then row.calls else 0) (arc_itself row.arc)) in
          let part = le-sum (λ (r : ArcRow). if same_arc row.arc r.arc then r.calls else 0) (all_arcs parts) row in' in
          called syms trace row.arc
          (omega (arith, is, mine, part, all_calls_where syms trace parts are (same_arc row.arc)))
      by zero is some =
          let cost = some_of_cost row.cost some in
          let mine : get_or row.cost cost.kind 0 ≡ (if same_arc row.arc row.arc then get_or row.cost cost.kind 0 else 0)
          = sym (ap (λ b. if b then get_or row.cost cost.kind 0 else 0) (arc_itself row.arc)) in
          let part = le-sum (λ (r : ArcRow). if same_arc row.arc r.arc then get_or r.cost cost.kind 0 else 0)
          (all_arcs parts) row in' in
          let more = cost.more in
          ran syms trace cost.kind row.arc
          (omega (arith, more, mine, part, all_arcs_where syms trace parts are (same_arc row.arc) cost.kind))

  pub to_row : (f g : ℕ) → Steps (graph syms trace) f g
      → Some_of (λ (row : ArcRow). (row.arc.caller.0 ≡ f) × (row.arc.callee.0 ≡ g)) (all_arcs parts)
  to_row f g step =
      let event = from_flat_map (arcs_pushed syms) (events_on_stacks syms trace) (record { caller = f; callee = g }) step in
      by event.item event.among (change syms event.item.event event.item.stack).pushed refl event.has
    where
      with_arc : (x : EventOnStack) → Contains (events_on_stacks syms trace) x → (a : Activation) (o : Option ArcKey)
          → (change syms x.event x.stack).pushed ≡ Some a → a.arc ≡ o
          → Contains (option_map_or (λ arc. between arc ∷ []) o []) (record { caller = f; callee = g })
          → Some_of (λ (row : ArcRow). (row.arc.caller.0 ≡ f) × (row.arc.callee.0 ≡ g)) (all_arcs parts)
      with_arc x in' a None pushed from has = absurd (let none = has.1 in omega (arith, none))
      with_arc x in' a (Some arc) pushed from has =
          let same : between arc ≡ record { caller = f; callee = g }
          = ⊎_elim (λ e. e) (λ later. absurd (omega (arith, later.1)))
          (first_or_rest (between arc) [] (record { caller = f; callee = g }) has) in
          let count = ap (λ o. count_by (on_arc (same_arc arc)) (pushed_stack o)) pushed in
          let once = one_frame arc a from in
          let part = le-sum (λ y. count_by (on_arc (same_arc arc)) (pushed_by syms y)) (events_on_stacks syms trace) x in' in
          let found = sum-some (λ (r : ArcRow). if same_arc arc r.arc then r.calls else 0) (all_arcs parts)
          (omega (arith, count, once, part, all_calls_where syms trace parts are (same_arc arc))) in
          let key = arc_alike arc found.item.arc (passes (same_arc arc found.item.arc) found.item.calls found.has) in
          record {
            item = found.item;
            among = found.among;
            has = (
              ap (λ (k : ArcKey). k.caller.0) (sym key) ∙ ap (λ (c : CallArc). c.caller) same,
              ap (λ (k : ArcKey). k.callee.0) (sym key) ∙ ap (λ (c : CallArc). c.callee) same,
            );
          }

      by : (x : EventOnStack) → Contains (events_on_stacks syms trace) x → (o : Option Activation)
          → (change syms x.event x.stack).pushed ≡ o → Contains (arcs_of o) (record { caller = f; callee = g })
          → Some_of (λ (row : ArcRow). (row.arc.caller.0 ≡ f) × (row.arc.callee.0 ≡ g)) (all_arcs parts)
      by x in' None pushed has = absurd (let none = has.1 in omega (arith, none))
      by x in' (Some a) pushed has = with_arc x in' a a.arc pushed refl has
