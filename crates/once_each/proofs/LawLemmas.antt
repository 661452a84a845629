-- The laws of inclusive costs, of pairs and of the graph.
use Rattle.std.proofs.Common.{◌≡◌, ℕ, zero, suc, ◌+◌, ◌*◌, ◌==◌, ◌<◌, ◌≤◌, Bool, true, false, not, ◌&&◌, ◌||◌, List, []}
use Rattle.std.proofs.Common.{◌∷◌, get_or, length, take, Some, refl, sym, ap, subst, ◌∙◌, arith, if◌then◌else◌, sum_by}
use Rattle.std.proofs.Common.{count_by, map, Contains, inl, inr}
use Rattle.std.specs.List.{AllByRecursion}
use Rattle.std.proofs.lemmas.Bool.{eqb-true}
use Rattle.std.proofs.lemmas.List.{get_or-take}
use Rattle.std.proofs.lemmas.List.Elements.{All-contains}
use Rattle.event_costs.specs.Costs.{event_names, events_shown}
use Rattle.event_costs.specs.declared.numbers.FuncId.{FuncId}
use Rattle.sym_map.specs.SymbolMap.{SymbolMap, place_of}
use Rattle.once_each.proofs.Others.{Contains-map, leads_after, leads_from_same, same_back, same_from_leads}
use Rattle.shadow_stack.specs.Stacks.{Stack, top_of}
use Rattle.shadow_stack.specs.Traces.{CountedEvent, EventOnStack, events_on_stacks}
use Rattle.arc_costs.specs.Rows.{ArcRow, LineRow}
use Rattle.call_graph.specs.Reach.{IsGroup, Reach, SameGroup, Steps, one, more}
use Rattle.call_graph.specs.inner.Pass.{Leads}
use Rattle.call_graph.specs.declared.arc.CallArc.{CallArc}
use Rattle.cg_read.specs.Profiles.{Contents}
use Rattle.cg_read.specs.declared.rows.CallRow.{CallRow}
use Rattle.cg_read.specs.declared.rows.SelfRow.{SelfRow}
use Rattle.cycles.specs.Costs.{arc_of, call_arcs, inclusive_cost, leaving_cost, self_cost}
use Rattle.cycles.specs.Limits.{pair_cost}
use Rattle.once_each.specs.Graphs.{graph}
use Rattle.once_each.specs.Once.{once, once_pair, stands, stands_on}
use Rattle.once_each.specs.Orderly.{FitsTop, FitTops}
use Rattle.once_each.specs.Parts.{all_arcs, all_lines}
use Rattle.once_each.specs.Profiles.{IsProfileOf, Numbering, call_row, self_row}
use Rattle.once_each.proofs.GraphLemmas.{to_row}
use Rattle.once_each.proofs.MemberLemmas.{each_at, each_from}
use Rattle.once_each.proofs.PartLemmas.{all_arcs_where, all_lines_where, cost_of}
use Rattle.once_each.proofs.SeenLemmas.{chains}
use Rattle.once_each.proofs.StackLemmas.{IsChain, IsClosed, IsOneWay, leaves, links, number_of, on_arc, one_leaves}
use Rattle.once_each.proofs.StackLemmas.{one_links}
use Rattle.once_each.proofs.SumLemmas.{sum_by-each, sum_by-map, sum_by-plus, sum_by-same}

-- Way upon way under other numbers

reach_to : {Step Other : ℕ → ℕ → Type 0} (number : ℕ → ℕ) → ((f g : ℕ) → Step f g → Other (number f) (number g))
    → {f g : ℕ} → Reach Step f g → Reach Other (number f) (number g)
reach_to number to {f = f} {g = g} (one s) = one (to f g s)
reach_to number to {f = f} (more {g = h} s r) = more (to f h s) (reach_to number to r)

pub leads_to : {Step Other : ℕ → ℕ → Type 0} (number : ℕ → ℕ) → ((f g : ℕ) → Step f g → Other (number f) (number g))
    → {f g : ℕ} → Leads Step f g → Leads Other (number f) (number g)
leads_to number to (inl e) = inl (ap number e)
leads_to number to (inr r) = inr (reach_to number to r)

-- a group is closed, and so it is under other numbers
group_closed : (Step Other : ℕ → ℕ → Type 0) (number : ℕ → ℕ) (member : ℕ → Bool)
    → ((f g : ℕ) → Step f g → Other (number f) (number g)) → IsGroup Other member
    → IsClosed Step (λ f. member (number f))
group_closed Step Other number member to group f g h at_f at_h leads reach =
    let same = (group (number f) (number h) at_f).0 at_h in
    let forth = leads_to number to leads in
    let back = leads_after (inr (reach_to number to reach)) (leads_from_same (same_back same)) in
    (group (number f) (number g) at_f).1 (same_from_leads forth back)

-- One event's share: its cost counts once where a member stands.
share : (cost leaving : ℕ) (m s : Bool) → number_of m + leaving ≡ number_of s
    → (if m then cost else 0) + cost * leaving ≡ (if s then cost else 0)
share cost leaving true true sum = let none : leaving ≡ 0 = omega (arith, sum) in
    let product : cost * leaving ≡ cost * 0 = ap (λ n. cost * n) none in omega (arith, product)
share cost leaving true false sum = absurd (omega (arith, sum))
share cost leaving false true sum = let single : leaving ≡ 1 = omega (arith, sum) in
    let product : cost * leaving ≡ cost * 1 = ap (λ n. cost * n) single in omega (arith, product)
share cost leaving false false sum = let none : leaving ≡ 0 = omega (arith, sum) in
    let product : cost * leaving ≡ cost * 0 = ap (λ n. cost * n) none in omega (arith, product)

module _ (syms : SymbolMap) (trace : List CountedEvent) (Step : ℕ → ℕ → Type 0)
    (to : (f g : ℕ) → Steps (graph syms trace) f g → Step f g) where
  stacks : AllByRecursion (λ (x : EventOnStack). IsChain Step x.stack) (events_on_stacks syms trace)
  stacks = chains Step syms trace to

  event_once : (member : ℕ → Bool) (kind : ℕ) → IsClosed Step member → (x : EventOnStack) → FitsTop syms x
      → IsChain Step x.stack
      → (if member (place_of syms x.event.done.pc).func.0 then cost_of kind x else 0) + cost_of kind x * count_by
      (on_arc (leaves member)) x.stack
      ≡ (if stands member x.stack then cost_of kind x else 0)
  event_once member kind closed x top chain = by x.stack top chain
    where
      by : (s : Stack) → top_of s ≡ Some (place_of syms x.event.done.pc).func → IsChain Step s
          → (if member (place_of syms x.event.done.pc).func.0 then cost_of kind x else 0) + cost_of kind x * count_by
          (on_arc (leaves member)) s
          ≡ (if stands member s then cost_of kind x else 0)
      by [] top chain = absurd (cc)
      by (a ∷ s) top chain =
          let func : a.func ≡ (place_of syms x.event.done.pc).func = cc in
          share (cost_of kind x) (count_by (on_arc (leaves member)) (a ∷ s))
          (member (place_of syms x.event.done.pc).func.0) (stands member (a ∷ s))
          (ap (λ (f : FuncId). number_of (member f.0) + count_by (on_arc (leaves member)) (a ∷ s)) (sym func)
          ∙ one_leaves Step member a s closed chain)

  events_once : (member : ℕ → Bool) (kind : ℕ) → IsClosed Step member → FitTops syms trace
      → sum_by (λ x. if member (place_of syms x.event.done.pc).func.0 then cost_of kind x else 0) (events_on_stacks syms trace)
      + sum_by (λ x. cost_of kind x * count_by (on_arc (leaves member)) x.stack) (events_on_stacks syms trace)
      ≡ once member kind (events_on_stacks syms trace)
  events_once member kind closed tops =
      sym (sum_by-plus (λ x. if member (place_of syms x.event.done.pc).func.0 then cost_of kind x else 0)
      (λ x. cost_of kind x * count_by (on_arc (leaves member)) x.stack) (events_on_stacks syms trace))
      ∙ sum_by-each
      (λ x. (if member (place_of syms x.event.done.pc).func.0 then cost_of kind x else 0)
      + cost_of kind x * count_by (on_arc (leaves member)) x.stack)
      (λ x. if stands member x.stack then cost_of kind x else 0) (events_on_stacks syms trace)
      (each_from
      (λ x. (if member (place_of syms x.event.done.pc).func.0 then cost_of kind x else 0)
      + cost_of kind x * count_by (on_arc (leaves member)) x.stack
      ≡ (if stands member x.stack then cost_of kind x else 0))
      (events_on_stacks syms trace)
      (λ x in'. event_once member kind closed x (All-contains (FitsTop syms) (events_on_stacks syms trace) x tops in')
      (each_at (λ (y : EventOnStack). IsChain Step y.stack) (events_on_stacks syms trace) stacks x in')))

  pairs_once : (caller callee : ℕ → Bool) (kind : ℕ) → IsOneWay Step caller callee
      → sum_by (λ x. cost_of kind x * count_by (on_arc (links caller callee)) x.stack) (events_on_stacks syms trace)
      ≡ once_pair caller callee kind (events_on_stacks syms trace)
  pairs_once caller callee kind way =
      sum_by-each (λ x. cost_of kind x * count_by (on_arc (links caller callee)) x.stack)
      (λ x. if stands_on caller callee x.stack then cost_of kind x else 0) (events_on_stacks syms trace)
      (each_from
      (λ x. cost_of kind x * count_by (on_arc (links caller callee)) x.stack
      ≡ (if stands_on caller callee x.stack then cost_of kind x else 0)) (events_on_stacks syms trace)
      (λ x in'.
      let count = one_links Step caller callee x.stack way
      (each_at (λ (y : EventOnStack). IsChain Step y.stack) (events_on_stacks syms trace) stacks x in') in
      ap (λ n. cost_of kind x * n) count ∙ bit (cost_of kind x) (stands_on caller callee x.stack)))
    where
      bit : (n : ℕ) (b : Bool) → n * number_of b ≡ (if b then n else 0)
      bit n true = omega arith
      bit n false = omega arith

-- The rows of a profile

length-take-le : {X : Type 0} (n : ℕ) (xs : List X) → length (take n xs) ≤ n
length-take-le zero xs = omega arith
length-take-le (suc n) [] = omega arith
length-take-le (suc n) (x ∷ xs) = let rest = length-take-le n xs in omega (arith, rest)

shown : (branches : Bool) (names : List (List ℕ)) (cost : List ℕ) (kind : ℕ)
    → kind < length (events_shown branches names) → get_or (events_shown branches cost) kind 0 ≡ get_or cost kind 0
shown true names cost kind within = refl
shown false names cost kind within =
    get_or-take 9 cost kind 0 (let few = length-take-le 9 names in omega (arith, few, within))

module _ (syms : SymbolMap) (trace : List CountedEvent) (n : Numbering) (p : Contents)
    (is : IsProfileOf syms trace n p) where
  -- a step of the graph is one of the profile's
  pub graph_to : (f g : ℕ) → Steps (graph syms trace) f g → Steps (call_arcs p) (n.func f) (n.func g)
  graph_to f g step =
      let row = to_row syms trace is.parts is.exact f g step in
      let arc : arc_of (call_row n row.item) ≡ record { caller = n.func f; callee = n.func g } =
      ap (λ h. record { caller = n.func h; callee = n.func row.item.arc.callee.0 }) row.has.0
      ∙ ap (λ h. record { caller = n.func f; callee = n.func h }) row.has.1 in
      let there = Contains-map arc_of (map (call_row n) (all_arcs is.parts)) (call_row n row.item)
      (Contains-map (call_row n) (all_arcs is.parts) row.item row.among) in
      subst (λ (rows : List CallRow). Contains (map arc_of rows) (record { caller = n.func f; callee = n.func g }))
      (sym is.call_rows)
      (subst (λ (c : CallArc). Contains (map arc_of (map (call_row n) (all_arcs is.parts))) c) arc there)

  pub self_sum : (member : ℕ → Bool) (kind : ℕ) → kind < length p.events
      → self_cost member p.self_rows kind
      ≡ sum_by (λ x. if member (n.func (place_of syms x.event.done.pc).func.0) then cost_of kind x else 0)
      (events_on_stacks syms trace)
  self_sum member kind within =
      ap (λ (rows : List SelfRow). self_cost member rows kind) is.self_rows
      ∙ sum_by-map (λ (row : SelfRow). if member row.func then get_or row.cost kind 0 else 0) (self_row n)
      (all_lines is.parts)
      ∙ sum_by-same
      (λ (row : LineRow). if member (n.func row.place.func.0)
      then get_or (events_shown n.branches row.cost) kind 0 else 0)
      (λ (row : LineRow). if member (n.func row.place.func.0) then get_or row.cost kind 0 else 0)
      (λ row. ap (λ m. if member (n.func row.place.func.0) then m else 0)
      (shown n.branches event_names row.cost kind
      (subst (λ (names : List (List ℕ)). kind < length names) is.events within)))
      (all_lines is.parts)
      ∙ all_lines_where syms trace is.parts is.exact (λ place. member (n.func place.func.0)) kind

  pub call_sum : (test : ℕ → ℕ → Bool) (kind : ℕ) → kind < length p.events
      → sum_by (λ (row : CallRow). if test row.caller row.callee then get_or row.cost kind 0 else 0) p.call_rows
      ≡ sum_by
      (λ x. cost_of kind x * count_by (on_arc (λ arc. test (n.func arc.caller.0) (n.func arc.callee.0))) x.stack)
      (events_on_stacks syms trace)
  call_sum test kind within =
      ap (sum_by (λ (row : CallRow). if test row.caller row.callee then get_or row.cost kind 0 else 0)) is.call_rows
      ∙ sum_by-map (λ (row : CallRow). if test row.caller row.callee then get_or row.cost kind 0 else 0) (call_row n)
      (all_arcs is.parts)
      ∙ sum_by-same
      (λ (row : ArcRow). if test (n.func row.arc.caller.0) (n.func row.arc.callee.0)
      then get_or (events_shown n.branches row.cost) kind 0 else 0)
      (λ (row : ArcRow). if test (n.func row.arc.caller.0) (n.func row.arc.callee.0) then get_or row.cost kind 0 else 0)
      (λ row. ap (λ m. if test (n.func row.arc.caller.0) (n.func row.arc.callee.0) then m else 0)
      (shown n.branches event_names row.cost kind
      (subst (λ (names : List (List ℕ)). kind < length names) is.events within)))
      (all_arcs is.parts)
      ∙ all_arcs_where syms trace is.parts is.exact (λ arc. test (n.func arc.caller.0) (n.func arc.callee.0)) kind

  -- what is closed under the numbers of the profile
  inclusive_once : (member : ℕ → Bool) (Step : ℕ → ℕ → Type 0) (kind : ℕ) → kind < length p.events → FitTops syms trace
      → ((f g : ℕ) → Steps (graph syms trace) f g → Step f g) → IsClosed Step (λ f. member (n.func f))
      → inclusive_cost member p kind ≡ once (λ f. member (n.func f)) kind (events_on_stacks syms trace)
  inclusive_once member Step kind within tops to closed =
      ap (λ m. m + leaving_cost member p.call_rows kind) (self_sum member kind within)
      ∙ ap (λ m. sum_by (λ x. if member (n.func (place_of syms x.event.done.pc).func.0) then cost_of kind x else 0)
      (events_on_stacks syms trace) + m)
      (call_sum (λ f g. member f && not (member g)) kind within)
      ∙ events_once syms trace Step to (λ f. member (n.func f)) kind closed tops

  pub group_once : (member : ℕ → Bool) (kind : ℕ) → FitTops syms trace → kind < length p.events
      → IsGroup (Steps (call_arcs p)) member
      → inclusive_cost member p kind ≡ once (λ f. member (n.func f)) kind (events_on_stacks syms trace)
  group_once member kind tops within group =
      inclusive_once member (Steps (graph syms trace)) kind within tops (λ f g s. s)
      (group_closed (Steps (graph syms trace)) (Steps (call_arcs p)) n.func member graph_to group)

  pub trace_group_once : (group member : ℕ → Bool) (kind : ℕ) → FitTops syms trace → kind < length p.events
      → IsGroup (Steps (graph syms trace)) group
      → ((f : ℕ) → member (n.func f) ≡ group f) → inclusive_cost member p kind ≡ once group kind (events_on_stacks syms trace)
  trace_group_once group member kind tops within is_group same =
      inclusive_once member (Steps (graph syms trace)) kind within tops (λ f g s. s) closed
      ∙ sum_by-same (λ x. if stands (λ f. member (n.func f)) x.stack then cost_of kind x else 0)
      (λ x. if stands group x.stack then cost_of kind x else 0)
      (λ x. ap (λ b. if b then cost_of kind x else 0) (stands-same x.stack)) (events_on_stacks syms trace)
    where
      closed : IsClosed (Steps (graph syms trace)) (λ f. member (n.func f))
      closed f g h at_f at_h leads reach =
          same g ∙ group_closed (Steps (graph syms trace)) (Steps (graph syms trace)) (λ k. k) group
          (λ j k s. s) is_group f g h (sym (same f) ∙ at_f) (sym (same h) ∙ at_h) leads reach

      stands-same : (s : Stack) → stands (λ f. member (n.func f)) s ≡ stands group s
      stands-same [] = refl
      stands-same (a ∷ s) = ap (λ b. b || stands (λ f. member (n.func f)) s) (same a.func.0)
          ∙ ap (λ b. group a.func.0 || b) (stands-same s)

  pub pair_once : (caller callee kind : ℕ) → kind < length p.events
      → (SameGroup (Steps (call_arcs p)) caller callee → ⊥)
      → pair_cost caller callee p.call_rows kind ≡ once_pair (λ f. n.func f == caller) (λ f. n.func f == callee) kind
      (events_on_stacks syms trace)
  pair_once caller callee kind within apart =
      call_sum (λ f g. f == caller && g == callee) kind within
      ∙ pairs_once syms trace (Steps (graph syms trace)) (λ f g s. s) (λ f. n.func f == caller)
      (λ f. n.func f == callee) kind way
    where
      way : IsOneWay (Steps (graph syms trace)) (λ f. n.func f == caller) (λ f. n.func f == callee)
      way f g h from to step there leads =
          let from' = eqb-true (n.func f) caller from in
          let to' = eqb-true (n.func g) callee to in
          let there' = eqb-true (n.func h) callee there in
          let forth = subst (λ k. Steps (call_arcs p) k callee) from'
          (subst (λ k. Steps (call_arcs p) (n.func f) k) to' (graph_to f g step)) in
          let back = subst (λ k. Leads (Steps (call_arcs p)) k caller) there'
          (subst (λ k. Leads (Steps (call_arcs p)) (n.func h) k) from' (leads_to n.func graph_to leads)) in
          apart (same_from_leads (inr (one forth)) back)
