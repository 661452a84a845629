-- The sums over the rows of all parts are sums over the events.
use Rattle.std.proofs.Common.{◌≡◌, ℕ, ◌*◌, ◌==◌, Bool, true, false, List, [], ◌∷◌, get_or, Option, None, Some, refl}
use Rattle.std.proofs.Common.{sym, ap, ◌∙◌, arith, if◌then◌else◌, sum_by, count_by, flat_map, All}
use Rattle.std.specs.Option.{option_map_or}
use Rattle.std.proofs.lemmas.List.Elements.{All-contains}
use Rattle.std.proofs.lemmas.List.Sums.{sum_by-cons}
use Rattle.event_costs.specs.Keys.{ArcKey, Place}
use Rattle.sym_map.specs.SymbolMap.{SymbolMap, place_of}
use Rattle.shadow_stack.specs.Changes.{change}
use Rattle.shadow_stack.specs.Stacks.{Activation, Stack}
use Rattle.shadow_stack.specs.Traces.{CountedEvent, EventOnStack, events_on_stacks}
use Rattle.arc_costs.specs.Contents.{Listed}
use Rattle.event_costs.specs.Order.{same_arc, same_place}
use Rattle.arc_costs.specs.Rows.{ArcRow, LineRow}
use Rattle.recorder.specs.Standing.{AreRowsOf}
use Rattle.recorder.specs.Sums.{of_thread, pushes}
use Rattle.once_each.specs.Parts.{ThreadRows, ArePartsOf, ArePartsOfTrace, all_arcs, all_lines, is_by}
use Rattle.once_each.proofs.ExchangeLemmas.{exchange, sum_where}
use Rattle.once_each.proofs.Others.{arc_alike, arc_itself}
use Rattle.once_each.proofs.Others.{place_alike, place_itself}
use Rattle.once_each.proofs.MemberLemmas.{each_from, zip_sums}
use Rattle.once_each.proofs.StackLemmas.{on_arc}
use Rattle.once_each.proofs.SumLemmas.{sum_by-each, sum_by-filter, sum_by-flat_map, sum_by-same, sum_by-swap}
use Rattle.once_each.proofs.SumLemmas.{sum_by-times}

abbrev pub cost_of : ℕ → EventOnStack → ℕ
cost_of kind x = get_or x.cost kind 0

-- as often as it counts
pub sum_by-count : {X : Type 0} (test : X → Bool) (n : ℕ) (xs : List X)
    → sum_by (λ x. if test x then n else 0) xs ≡ n * count_by test xs
sum_by-count test n xs = sum_by-same (λ x. if test x then n else 0) (λ x. n * (if test x then 1 else 0))
    (λ x. by (test x)) xs ∙ sum_by-times n (λ x. if test x then 1 else 0) xs
  where
    by : (b : Bool) → (if b then n else 0) ≡ n * (if b then 1 else 0)
    by true = omega arith
    by false = omega arith

-- what an event and an arc of its stack have, one for each such frame
record Share : Type 0 where
  arc : ArcKey
  number : ℕ

-- such frames of a stack
abbrev shares_of : ℕ → Stack → List Share
shares_of n s = flat_map (λ a. option_map_or (λ arc. record { arc = arc; number = n } ∷ []) a.arc []) s

abbrev share_arc : Share → ArcKey
share_arc s = s.arc

abbrev share_number : Share → ℕ
share_number s = s.number

shares-sum : (test : ArcKey → Bool) (n : ℕ) (s : Stack)
    → sum_where share_arc share_number test (shares_of n s) ≡ n * count_by (on_arc test) s
shares-sum test n s =
    sum_by-flat_map (λ (e : Share). if test e.arc then e.number else 0)
    (λ (a : Activation). option_map_or (λ arc. record { arc = arc; number = n } ∷ []) a.arc []) s
    ∙ sum_by-same
    (λ (a : Activation). sum_where share_arc share_number test
    (option_map_or (λ arc. record { arc = arc; number = n } ∷ []) a.arc []))
    (λ a. if on_arc test a then n else 0) (λ a. by a.arc) s
    ∙ sum_by-count (on_arc test) n s
  where
    by : (o : Option ArcKey)
        → sum_where share_arc share_number test (option_map_or (λ arc. record { arc = arc; number = n } ∷ []) o [])
        ≡ (if option_map_or test o false then n else 0)
    by None = refl
    by (Some arc) =
        sum_by-cons (λ (e : Share). if test e.arc then e.number else 0) (record { arc = arc; number = n }) []
        ∙ (omega arith)

abbrev cost_shares : ℕ → List EventOnStack → List Share
cost_shares kind xs = flat_map (λ x. shares_of (cost_of kind x) x.stack) xs

cost_shares-sum : (test : ArcKey → Bool) (kind : ℕ) (xs : List EventOnStack)
    → sum_where share_arc share_number test (cost_shares kind xs)
    ≡ sum_by (λ x. cost_of kind x * count_by (on_arc test) x.stack) xs
cost_shares-sum test kind xs =
    sum_by-flat_map (λ (e : Share). if test e.arc then e.number else 0) (λ x. shares_of (cost_of kind x) x.stack) xs
    ∙ sum_by-same (λ x. sum_where share_arc share_number test (shares_of (cost_of kind x) x.stack))
    (λ x. cost_of kind x * count_by (on_arc test) x.stack)
    (λ x. shares-sum test (cost_of kind x) x.stack) xs

-- the frames that events push
abbrev pub pushed_stack : Option Activation → Stack
pushed_stack None = []
pushed_stack (Some a) = a ∷ []

abbrev pub pushed_by : SymbolMap → EventOnStack → Stack
pushed_by syms x = pushed_stack (change syms x.event x.stack).pushed

abbrev call_shares : SymbolMap → List EventOnStack → List Share
call_shares syms xs = flat_map (λ x. shares_of 1 (pushed_by syms x)) xs

call_shares-sum : (syms : SymbolMap) (test : ArcKey → Bool) (xs : List EventOnStack)
    → sum_where share_arc share_number test (call_shares syms xs)
    ≡ sum_by (λ x. count_by (on_arc test) (pushed_by syms x)) xs
call_shares-sum syms test xs =
    sum_by-flat_map (λ (e : Share). if test e.arc then e.number else 0) (λ x. shares_of 1 (pushed_by syms x)) xs
    ∙ sum_by-same (λ x. sum_where share_arc share_number test (shares_of 1 (pushed_by syms x)))
    (λ x. count_by (on_arc test) (pushed_by syms x))
    (λ x. let one = shares-sum test 1 (pushed_by syms x) in omega (arith, one)) xs

pushes-count : (arc : ArcKey) (o : Option Activation) → pushes arc o ≡ count_by (on_arc (same_arc arc)) (pushed_stack o)
pushes-count arc None = refl
pushes-count arc (Some a) =
    sym (sum_by-cons (λ (b : Activation). if on_arc (same_arc arc) b then 1 else 0) a [] ∙ (omega arith))

-- Sums over the rows of some events, over any keys.
module _ (syms : SymbolMap) (xs : List EventOnStack) (rows : Listed) (are : AreRowsOf syms xs rows) where
  pub lines_where : (test : Place → Bool) (kind : ℕ)
      → sum_by (λ row. if test row.place then get_or row.cost kind 0 else 0) rows.lines
      ≡ sum_by (λ x. if test (place_of syms x.event.done.pc) then cost_of kind x else 0) xs
  lines_where test kind =
      exchange same_place place_alike place_itself (λ (row : LineRow). row.place) (λ row. get_or row.cost kind 0)
      (λ (x : EventOnStack). place_of syms x.event.done.pc) (cost_of kind) test rows.lines xs (λ place. are.lines kind place)

  pub arcs_where : (test : ArcKey → Bool) (kind : ℕ)
      → sum_by (λ row. if test row.arc then get_or row.cost kind 0 else 0) rows.arcs
      ≡ sum_by (λ x. cost_of kind x * count_by (on_arc test) x.stack) xs
  arcs_where test kind =
      exchange same_arc arc_alike arc_itself (λ (row : ArcRow). row.arc)
      (λ row. get_or row.cost kind 0) share_arc share_number test rows.arcs (cost_shares kind xs)
      (λ arc. are.arcs kind arc ∙ sym (cost_shares-sum (same_arc arc) kind xs))
      ∙ cost_shares-sum test kind xs

  pub calls_where : (test : ArcKey → Bool)
      → sum_by (λ row. if test row.arc then row.calls else 0) rows.arcs
      ≡ sum_by (λ x. count_by (on_arc test) (pushed_by syms x)) xs
  calls_where test =
      exchange same_arc arc_alike arc_itself (λ (row : ArcRow). row.arc)
      (λ row. row.calls) share_arc share_number test rows.arcs (call_shares syms xs)
      (λ arc. are.calls arc
      ∙ sum_by-same (λ x. pushes arc (change syms x.event x.stack).pushed)
      (λ x. count_by (on_arc (same_arc arc)) (pushed_by syms x))
      (λ x. pushes-count arc (change syms x.event x.stack).pushed) xs
      ∙ sym (call_shares-sum syms (same_arc arc) xs))
      ∙ call_shares-sum syms test xs

-- a sum over a segment, thread by thread
by_threads : (f : EventOnStack → ℕ) (segment : List EventOnStack) (parts : List ThreadRows)
    → All (λ x. count_by (is_by x) parts ≡ 1) segment
    → sum_by (λ part. sum_by f (of_thread part.thread segment)) parts ≡ sum_by f segment
by_threads f segment parts whole =
    sum_by-same (λ part. sum_by f (of_thread part.thread segment))
    (λ part. sum_by (λ x. if is_by x part then f x else 0) segment)
    (λ part. sum_by-filter (λ (x : EventOnStack). x.event.thread.0 == part.thread.0) f segment) parts
    ∙ sum_by-swap (λ part x. if is_by x part then f x else 0) parts segment
    ∙ sum_by-each (λ x. sum_by (λ part. if is_by x part then f x else 0) parts) f segment
    (each_from (λ x. sum_by (λ part. if is_by x part then f x else 0) parts ≡ f x) segment
    (λ x in'. let one = All-contains (λ y. count_by (is_by y) parts ≡ 1) segment x whole in' in
    sum_by-count (is_by x) (f x) parts ∙ ap (λ n. f x * n) one ∙ (omega arith)))

-- sums over rows that are sums over events for each thread's, are so for all parts
module _ (syms : SymbolMap) (trace : List CountedEvent) (parts : List (List ThreadRows))
    (are : ArePartsOfTrace syms trace parts) where
  all_parts : {R : Type 0} (rows : Listed → List R) (g : R → ℕ) (f : EventOnStack → ℕ)
      → ((xs : List EventOnStack) (listed : Listed) → AreRowsOf syms xs listed → sum_by g (rows listed) ≡ sum_by f xs)
      → sum_by g (flat_map (λ segment. flat_map (λ (part : ThreadRows). rows part.rows) segment) parts)
      ≡ sum_by f (events_on_stacks syms trace)
  all_parts rows g f same =
      sum_by-flat_map g (λ segment. flat_map (λ (part : ThreadRows). rows part.rows) segment) parts
      ∙ zip_sums (ArePartsOf syms) (sum_by f)
      (λ segment. sum_by g
      (flat_map (λ (part : ThreadRows). rows part.rows) segment)) of_segment are.segments parts are.exact
      ∙ sym (sum_by-flat_map f (λ segment. segment) are.segments) ∙ ap (sum_by f) are.whole
    where
      of_segment : (segment : List EventOnStack) (ps : List ThreadRows) → ArePartsOf syms segment ps
          → sum_by g (flat_map (λ (part : ThreadRows). rows part.rows) ps) ≡ sum_by f segment
      of_segment segment ps parts_of =
          sum_by-flat_map g (λ (part : ThreadRows). rows part.rows) ps
          ∙ sum_by-each (λ part. sum_by g (rows part.rows)) (λ part. sum_by f (of_thread part.thread segment)) ps
          (each_from (λ part. sum_by g (rows part.rows) ≡ sum_by f (of_thread part.thread segment)) ps
          (λ part in'. same (of_thread part.thread segment) part.rows
          (All-contains (λ p. AreRowsOf syms (of_thread p.thread segment) p.rows) ps part parts_of.exact in')))
          ∙ by_threads f segment ps parts_of.whole

  pub all_lines_where : (test : Place → Bool) (kind : ℕ)
      → sum_by (λ row. if test row.place then get_or row.cost kind 0 else 0) (all_lines parts)
      ≡ sum_by (λ x. if test (place_of syms x.event.done.pc) then cost_of kind x else 0) (events_on_stacks syms trace)
  all_lines_where test kind =
      all_parts (λ listed. listed.lines) (λ (row : LineRow). if test row.place then get_or row.cost kind 0 else 0)
      (λ x. if test (place_of syms x.event.done.pc) then cost_of kind x else 0)
      (λ xs listed rows. lines_where syms xs listed rows test kind)

  pub all_arcs_where : (test : ArcKey → Bool) (kind : ℕ)
      → sum_by (λ row. if test row.arc then get_or row.cost kind 0 else 0) (all_arcs parts)
      ≡ sum_by (λ x. cost_of kind x * count_by (on_arc test) x.stack) (events_on_stacks syms trace)
  all_arcs_where test kind =
      all_parts (λ listed. listed.arcs) (λ (row : ArcRow). if test row.arc then get_or row.cost kind 0 else 0)
      (λ x. cost_of kind x * count_by (on_arc test) x.stack)
      (λ xs listed rows. arcs_where syms xs listed rows test kind)

  pub all_calls_where : (test : ArcKey → Bool)
      → sum_by (λ row. if test row.arc then row.calls else 0) (all_arcs parts)
      ≡ sum_by (λ x. count_by (on_arc test) (pushed_by syms x)) (events_on_stacks syms trace)
  all_calls_where test =
      all_parts (λ listed. listed.arcs) (λ (row : ArcRow). if test row.arc then row.calls else 0)
      (λ x. count_by (on_arc test) (pushed_by syms x)) (λ xs listed rows. calls_where syms xs listed rows test)
