-- No sum over the events of a run passes 2^62.
use Rattle.std.proofs.Common.{◌≡◌, ℕ, zero, suc, ◌+◌, ◌*◌, ◌^◌, ◌==◌, ◌<◌, ◌≤◌, Bool, true, false, not, ◌&&◌, List, []}
use Rattle.std.proofs.Common.{◌∷◌, get_or, length, Option, None, Some, ap, arith, if◌then◌else◌, sum_by, count_by, map}
use Rattle.std.proofs.Common.{All, Contains}
use Rattle.std.proofs.lemmas.List.Elements.{All-contains, All-head, All-tail}
use Rattle.event_costs.specs.Keys.{ArcKey, Place}
use Rattle.sym_map.specs.SymbolMap.{SymbolMap, place_of}
use Rattle.shadow_stack.specs.Changes.{change}
use Rattle.shadow_stack.specs.Kinds.{is_root}
use Rattle.shadow_stack.specs.Stacks.{Activation}
use Rattle.shadow_stack.specs.Traces.{CountedEvent, EventOnStack, events_on_stacks}
use Rattle.event_costs.specs.Order.{same_arc, same_place}
use Rattle.recorder.specs.Sums.{arc_calls, arc_cost, pushes}
use Rattle.recorder.specs.Sums as sums
use Rattle.call_graph.specs.Reach.{Steps}
use Rattle.cg_read.specs.Profiles.{Contents}
use Rattle.cg_read.specs.declared.rows.CallRow.{CallRow}
use Rattle.cycles.specs.Limits.{IsSum, of_total, of_pair, of_group, of_calls, pair_calls}
use Rattle.once_each.specs.Graphs.{graph}
use Rattle.once_each.specs.Orderly.{IsRunSized, IsSmall}
use Rattle.once_each.specs.Parts.{all_arcs}
use Rattle.once_each.specs.Profiles.{IsProfileOf, Numbering, call_row}
use Rattle.once_each.proofs.LawLemmas.{call_sum, self_sum}
use Rattle.once_each.proofs.MemberLemmas.{each_at, each_from}
use Rattle.once_each.proofs.PartLemmas.{all_calls_where, cost_of, pushed_by, pushed_stack}
use Rattle.once_each.proofs.SeenLemmas.{chains}
use Rattle.once_each.proofs.StackLemmas.{IsChain, count-cons, no_roots, number_of, on_arc}
use Rattle.once_each.proofs.SumLemmas.{sum_by-map, sum_by-most}
use Rattle.recorder.proofs.BoundLemmas.{pushes_one}

one_at : (cost : List ℕ) (kind : ℕ) → All (λ n. n ≤ 1) cost → get_or cost kind 0 ≤ 1
one_at [] kind ones = omega arith
one_at (n ∷ cost) zero ones = All-head (λ n. n ≤ 1) n cost ones
one_at (n ∷ cost) (suc kind) ones = one_at cost kind (All-tail (λ n. n ≤ 1) n cost ones)

where_most : (b : Bool) (n : ℕ) → n ≤ 1 → (if b then n else 0) ≤ 1
where_most true n few = few
where_most false n few = omega arith

product_most : (n m : ℕ) → n ≤ 1 → m ≤ 4194304 → n * m ≤ 4194304
product_most zero m one few = let none : 0 * m ≡ 0 = omega arith in omega (arith, none)
product_most (suc zero) m one few = let same : 1 * m ≡ m = omega arith in omega (arith, same, few)
product_most (suc (suc n)) m one few = absurd (omega (arith, one))

-- Over any events, of which there are no more than a run has
module _ (xs : List EventOnStack) (run : IsRunSized xs) where
  small : (x : EventOnStack) → Contains xs x → IsSmall x
  small x in' = All-contains IsSmall xs x run.small in'

  pub ones_most : (test : EventOnStack → Bool) (kind : ℕ) → sum_by (λ x. if test x then cost_of kind x else 0) xs ≤ 10 ^ 12
  ones_most test kind =
      let most = sum_by-most (λ x. if test x then cost_of kind x else 0) 1 xs
      (each_from (λ x. (if test x then cost_of kind x else 0) ≤ 1) xs
      (λ x in'. where_most (test x) (cost_of kind x) (one_at x.cost kind (small x in').ones))) in
      omega (arith, most, run.events)

  pub frames_most : (test : ArcKey → Bool) (kind : ℕ)
      → ((x : EventOnStack) → Contains xs x → count_by (on_arc test) x.stack ≤ count_by (λ a. not (is_root a.kind)) x.stack)
      → sum_by (λ x. cost_of kind x * count_by (on_arc test) x.stack) xs ≤ 10 ^ 12 * 4194304
  frames_most test kind no_root =
      let most = sum_by-most (λ x. cost_of kind x * count_by (on_arc test) x.stack) 4194304 xs
      (each_from (λ x. cost_of kind x * count_by (on_arc test) x.stack ≤ 4194304) xs
      (λ x in'.
      let frames = (small x in').frames in
      let few = no_root x in' in
      product_most (cost_of kind x) (count_by (on_arc test) x.stack) (one_at x.cost kind (small x in').ones)
      (omega (arith, frames, few)))) in
      omega (arith, most, run.events)

  pub pushes_most : (f : EventOnStack → ℕ) → ((x : EventOnStack) → f x ≤ 1) → sum_by f xs ≤ 10 ^ 12
  pushes_most f one =
      let most = sum_by-most f 1 xs (each_from (λ x. f x ≤ 1) xs (λ x in'. one x)) in
      omega (arith, most, run.events)

frame-one : (test : ArcKey → Bool) (o : Option Activation) → count_by (on_arc test) (pushed_stack o) ≤ 1
frame-one test None = omega arith
frame-one test (Some a) = by (on_arc test a) (count-cons (on_arc test) a [])
  where
    by : (b : Bool) → count_by (on_arc test) (a ∷ []) ≡ number_of b + 0 → count_by (on_arc test) (a ∷ []) ≤ 1
    by true count = omega (arith, count)
    by false count = omega (arith, count)

-- frames that were entered by an arc are no roots, on the stacks of a trace
no_roots_of : (syms : SymbolMap) (trace : List CountedEvent) (test : ArcKey → Bool) (x : EventOnStack) → Contains (events_on_stacks syms trace) x
    → count_by (on_arc test) x.stack ≤ count_by (λ a. not (is_root a.kind)) x.stack
no_roots_of syms trace test x in' =
    no_roots (Steps (graph syms trace)) test x.stack
    (each_at (λ (y : EventOnStack). IsChain (Steps (graph syms trace)) y.stack) (events_on_stacks syms trace)
    (chains (Steps (graph syms trace)) syms trace (λ f g s. s)) x in')

pub self_most : (syms : SymbolMap) (xs : List EventOnStack) (kind : ℕ) (place : Place) → IsRunSized xs
    → sums.self_cost syms kind place xs < 2 ^ 62
self_most syms xs kind place run =
    let most = ones_most xs run (λ x. same_place place (place_of syms x.event.done.pc)) kind in
    omega (arith, most)

pub arc_most : (syms : SymbolMap) (trace : List CountedEvent) (xs : List EventOnStack) (kind : ℕ) (arc : ArcKey)
    → All (Contains (events_on_stacks syms trace)) xs → IsRunSized xs
    → arc_cost kind arc xs < 2 ^ 62
arc_most syms trace xs kind arc of_trace run =
    let most =
    frames_most xs run (same_arc arc) kind
    (λ x in'. no_roots_of syms trace (same_arc arc) x
    (All-contains (Contains (events_on_stacks syms trace)) xs x of_trace in')) in
    omega (arith, most)

pub calls_most : (syms : SymbolMap) (xs : List EventOnStack) (arc : ArcKey) → IsRunSized xs → arc_calls syms arc xs < 2 ^ 62
calls_most syms xs arc run =
    let most = pushes_most xs run (λ x. pushes arc (change syms x.event x.stack).pushed)
    (λ x. pushes_one arc (change syms x.event x.stack).pushed) in
    omega (arith, most)

-- The sums of a profile
module _ (syms : SymbolMap) (trace : List CountedEvent) (n : Numbering) (p : Contents) (is : IsProfileOf syms trace n p)
    (run : IsRunSized (events_on_stacks syms trace)) where
  call_most : (test : ℕ → ℕ → Bool) (kind : ℕ) → kind < length p.events
      → sum_by (λ (row : CallRow). if test row.caller row.callee then get_or row.cost kind 0 else 0) p.call_rows
      ≤ 10 ^ 12 * 4194304
  call_most test kind within =
      let most = frames_most (events_on_stacks syms trace) run (λ arc. test (n.func arc.caller.0) (n.func arc.callee.0)) kind
      (λ x in'. no_roots_of syms trace (λ arc. test (n.func arc.caller.0) (n.func arc.callee.0)) x in') in
      omega (arith, most, call_sum syms trace n p is test kind within)

  pair_calls_most : (caller callee : ℕ) → pair_calls caller callee p.call_rows ≤ 10 ^ 12
  pair_calls_most caller callee =
      let rows : pair_calls caller callee p.call_rows ≡ pair_calls caller callee (map (call_row n) (all_arcs is.parts))
      = ap (pair_calls caller callee) is.call_rows in
      let mapped = sum_by-map (λ (row : CallRow). if row.caller == caller && row.callee == callee then row.calls else 0)
      (call_row n) (all_arcs is.parts) in
      let events = all_calls_where syms trace is.parts is.exact
      (λ arc. n.func arc.caller.0 == caller && n.func arc.callee.0 == callee) in
      let most =
      pushes_most (events_on_stacks syms trace) run
      (λ x. count_by (on_arc (λ arc. n.func arc.caller.0 == caller && n.func arc.callee.0 == callee))
      (pushed_by syms x))
      (λ x. frame-one (λ arc. n.func arc.caller.0 == caller && n.func arc.callee.0 == callee)
      (change syms x.event x.stack).pushed) in
      omega (arith, rows, mapped, events, most)

  pub sum_most : (position sum : ℕ) → IsSum p position sum → sum < 2 ^ 62
  sum_most position sum (of_total kind within) =
      let self = self_sum syms trace n p is (λ f. true) kind within in
      let most = ones_most (events_on_stacks syms trace) run (λ x. true) kind in
      omega (arith, self, most)
  sum_most position sum (of_pair kind caller callee within) =
      let most = call_most (λ f g. f == caller && g == callee) kind within in
      omega (arith, most)
  sum_most position sum (of_group kind member within group) =
      let self = self_sum syms trace n p is member kind within in
      let most = ones_most (events_on_stacks syms trace) run (λ x. member (n.func (place_of syms x.event.done.pc).func.0)) kind in
      let leaving = call_most (λ f g. member f && not (member g)) kind within in
      omega (arith, self, most, leaving)
  sum_most position sum (of_calls caller callee) =
      let most = pair_calls_most caller callee in
      omega (arith, most)
