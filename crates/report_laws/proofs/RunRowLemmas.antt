-- The rows by address of a run can be written, and have the sums of its plain rows.
use Rattle.std.proofs.Common.{◌≡◌, inl, inr, ℕ, zero, suc, ◌<◌, ◌≤◌, ◌^◌, Bool, true}
use Rattle.std.proofs.Common.{false, cond, List, [], ◌∷◌, ◌++◌, ◌==◌, flat_map, length}
use Rattle.std.proofs.Common.{All, filter, get_or, map, sum_by, refl, sym, ap}
use Rattle.std.proofs.Common.{subst, arith, if◌then◌else◌, Ordering}
use Rattle.std.specs.List.{AllByRecursion}
use Rattle.std.specs.List.Sorted.{IsNonDecreasingBy, IsStrictlySortedBy}
use Rattle.std.specs.Option.{option_to_list}
use Rattle.std.proofs.lemmas.Bool.Decides.{nat_tests}
use Rattle.std.specs.Ordering.{nat_cmp, ordering_then}
use Rattle.std.specs.declared.cmp.Ordering.TheVariants.{Less}
use Rattle.std.proofs.lemmas.List.{get_or_default}
use Rattle.std.proofs.lemmas.List.Elements.{All-from_recursion, recursion_from_All}
use Rattle.std.proofs.lemmas.List.FromFn.{length-map-range_with_len}
use Rattle.std.proofs.lemmas.List.Sums.{sum_by-cons}
use Rattle.event_costs.specs.Costs.{IsWhole, event_kinds}
use Rattle.event_costs.specs.declared.event.Event.{Event}
use Rattle.event_costs.specs.Keys.{ArcKey, Place}
use Rattle.sym_map.specs.SymbolMap.{IsSound, SymbolMap, place_of}
use Rattle.shadow_stack.specs.Changes.{change, new_activation}
use Rattle.shadow_stack.specs.Stacks.{Activation, Stack, root}
use Rattle.shadow_stack.specs.declared.frame.Kind.{Kind}
use Rattle.shadow_stack.specs.Traces.{EventOnStack}
use Rattle.arc_costs.specs.Arcs.{is_some_arc}
use Rattle.arc_costs.specs.Contents.{Listed}
use Rattle.arc_costs.specs.Keys.{by_kind}
use Rattle.arc_costs.specs.Lines.{is_some_line}
use Rattle.event_costs.specs.Order.{arc_order, place_order, same_arc, same_place}
use Rattle.arc_costs.specs.Rows.{ArcRow, LineRow}
use Rattle.arc_costs.proofs.RiseLemmas as rise
use Rattle.recorder.specs.Laws.{IsIn}
use Rattle.part_dump.specs.Steps.{Step, event_of, steps_of_thread, events_of_thread, events_on_stack_of, thread_of, IsPiece}
use Rattle.profile_run.specs.Program.{Program, CanRun}
use Rattle.recorder.specs.Rows.{arc_at, arcs, arcs_at, arcs_of, line_at, places, rows_of}
use Rattle.recorder.specs.Sums as event_sums
use Rattle.recorder.specs.Sums.{self_cost}
use Rattle.recorder.proofs.StackLemmas.{Each, pushed_each, stack_each}
use Rattle.profile_run.specs.Trace.{Makes, RunStep, steps_of}
use Rattle.report_laws.proofs.Others.{arc_only, arc_total, place_only, place_total}
use Rattle.report_laws.proofs.Others.{all_of, from_append, from_flat, from_map, in_filter, of_all, arc_itself}
use Rattle.report_laws.proofs.Others.{place_itself, first_less}
use Rattle.ctx_rows.proofs.HoldsLemmas.{IsReached}
use Rattle.addr_rows.specs.Known.{AreKnown}
use Rattle.addr_rows.specs.Plain.{plain, plain_arc, plain_line}
use Rattle.addr_rows.specs.Rows.{AddrListed}
use Rattle.addr_rows.specs.declared.rows.AddrArc.{AddrArc}
use Rattle.addr_rows.specs.declared.rows.AddrLine.{AddrLine}
use Rattle.sym_map.specs.AddressMap.{address_map}
use Rattle.sym_map.specs.AddressMap.{address_line}
use Rattle.addr_rows.specs.EventRows.{addr_rows_of, located_rows, located_arc, located_line}
use Rattle.addr_rows.specs.Files.{addr_rows_in}
use Rattle.addr_rows.specs.Stacked.{with_stacks_of}
use Rattle.report_laws.proofs.Others.{address_place}
use Rattle.addr_rows.proofs.KnownRowLemmas.{rows_known}
use Rattle.run_laws.specs.Addresses.{MayBeFolded}
use Rattle.run_laws.proofs.AddrFoldableLemmas as foldable
use Rattle.reads_back.specs.Rows.{FitsArc, FitsLine}
use Rattle.report_laws.specs.Sums.{AreCounted, HaveEqualSums}
use Rattle.report_laws.specs.Rows.{AreWritable}
use Rattle.report_laws.proofs.AddrPartLemmas.{each_filtered, each_mapped}

-- ---- lists whose numbers don't fall

abbrev NotFalling : {X : Type 0} → (X → ℕ) → List X → Type 0
NotFalling f [] = Unit {0}
NotFalling f (x ∷ xs) = AllByRecursion (λ y. f x ≤ f y) xs × NotFalling f xs

falling_index : {X : Type 0} (f : X → ℕ) (xs : List X) → NotFalling f xs → IsNonDecreasingBy f xs
falling_index f [] all i j d le lt = absurd (omega arith)
falling_index f (x ∷ xs) all zero zero d le lt = omega arith
falling_index f (x ∷ xs) all zero (suc j) d le lt = All-from_recursion (λ y. f x ≤ f y) xs all.0 j d (omega arith)
falling_index f (x ∷ xs) all (suc i) zero d le lt = absurd (omega arith)
falling_index f (x ∷ xs) all (suc i) (suc j) d le lt = falling_index f xs all.1 i j d (omega arith) (omega arith)

falling_filter : {X : Type 0} (f : X → ℕ) (p : X → Bool) (xs : List X) → NotFalling f xs → NotFalling f (filter p xs)
falling_filter f p [] all = tt
falling_filter f p (x ∷ xs) all = go (p x) (falling_filter f p xs all.1)
  where
    go : (b : Bool) → NotFalling f (filter p xs) → NotFalling f (cond b (x ∷ filter p xs) (filter p xs))
    go true rest = (each_filtered (λ y. f x ≤ f y) p xs all.0, rest)
    go false rest = rest

falling_map : {X Y : Type 0} (g : X → Y) (f : Y → ℕ) (xs : List X) → NotFalling (λ x. f (g x)) xs
    → NotFalling f (map g xs)
falling_map g f [] all = tt
falling_map g f (x ∷ xs) all =
    (each_mapped (λ y. f (g x) ≤ f (g y)) (λ y. f (g x) ≤ f y) g (λ y le. le) xs all.0, falling_map g f xs all.1)

falling_as : {X : Type 0} (f g : X → ℕ) (xs : List X) → AllByRecursion (λ x. f x ≡ g x) xs → NotFalling g xs
    → NotFalling f xs
falling_as f g [] same all = tt
falling_as {X} f g (x ∷ xs) same all = (moved xs same.1 all.0, falling_as f g xs same.1 all.1)
  where
    moved : (ys : List X) → AllByRecursion (λ y. f y ≡ g y) ys → AllByRecursion (λ y. g x ≤ g y) ys
        → AllByRecursion (λ y. f x ≤ f y) ys
    moved [] same_ all_ = tt
    moved (y ∷ ys) same_ all_ =
        let here = same.0 in
        let there = same_.0 in
        let le = all_.0 in
        (omega (arith, here, there, le), moved ys same_.1 all_.1)

falling_sorted : {K : Type 0} (order : K → K → Ordering) (f : K → ℕ) → ((a b : K) → order a b ≡ Less → f a ≤ f b)
    → (ks : List K) → IsStrictlySortedBy order ks → NotFalling f ks
unfolding IsStrictlySortedBy
falling_sorted order f up [] sorted = tt
falling_sorted {K} order f up (k ∷ ks) sorted = (each ks sorted.0, falling_sorted order f up ks sorted.1)
  where
    each : (qs : List K) → AllByRecursion (λ q. order k q ≡ Less) qs → AllByRecursion (λ q. f k ≤ f q) qs
    each [] all = tt
    each (q ∷ qs) all = (up k q all.0, each qs all.1)

in_sum : {X : Type 0} (f : X → ℕ) (xs : List X) (x : X) → IsIn xs x → f x ≤ sum_by f xs
in_sum f [] x there = elim there [ ]
in_sum f (y ∷ xs) x (inl is) = let sum = sum_by-cons f y xs in let same = ap f is in omega (arith, sum, same)
in_sum f (y ∷ xs) x (inr later) =
    let sum = sum_by-cons f y xs in let rest = in_sum f xs x later in omega (arith, sum, rest)

yes_if : (b : Bool) (n : ℕ) → b ≡ true → (if b then n else 0) ≡ n
yes_if b n e = ap (λ c. if c then n else 0) e

-- ---- the arcs of events by the map of addresses

-- a frame's arc has an address
abbrev IsSmall : Activation → Type 0
IsSmall a = (k : ArcKey) → IsIn (option_to_list a.arc) k → k.line < 2 ^ 32

module _ (m : SymbolMap) where
  abbrev am : SymbolMap
  am = address_map m

  line_small : (pc : ℕ) → (place_of am pc).line < 2 ^ 32
  line_small pc =
      subst (λ (p : Place). p.line < 2 ^ 32) (sym (address_place m pc)) (least pc)
    where
      least : (n : ℕ) → address_line n < 2 ^ 32
      least n = omega arith

  root_small : (pc : ℕ) → Each IsSmall (root am pc)
  root_small pc a (inl is) = subst IsSmall is (λ k there. elim there [ ])
  root_small pc a (inr there) = elim there [ ]

  entered_small : (e : Event) (kind : Kind) (s : Stack) → IsSmall (new_activation am e kind s)
  entered_small e kind [] k there = elim there [ ]
  entered_small e kind (a ∷ s) k there = elim there as (λ _. k.line < 2 ^ 32) [
    | inl is ↦ subst (λ (q : ArcKey). q.line < 2 ^ 32) is (line_small e.done.pc)
    | inr none ↦ elim none [ ]
  ]

  in_frames : (s : Stack) → Each IsSmall s → (k : ArcKey) → IsIn (arcs_of s) k → k.line < 2 ^ 32
  in_frames s all k there =
      let a = from_flat (λ (b : Activation). option_to_list b.arc) s k there in all a.0 a.1 k a.2

  at_event : (x : EventOnStack) → IsReached am x → (k : ArcKey) → IsIn (arcs_at am x) k → k.line < 2 ^ 32
  at_event x is k there =
      let stack : Each IsSmall x.stack
      = subst (Each IsSmall) (sym is.is)
      (stack_each am IsSmall root_small (λ e kind s other each. entered_small e kind s) is.events is.first) in
      let new = option_to_list (change am x.event x.stack).pushed in
      elim (from_append (arcs_of x.stack) (arcs_of new) k there) as (λ _. k.line < 2 ^ 32) [
        | inl old ↦ in_frames x.stack stack k old
        | inr comes ↦
            in_frames new
            (pushed_each am IsSmall root_small (λ e kind s other each. entered_small e kind s) x.event x.stack stack)
            k comes
      ]

-- an event by the map of addresses whose stack and pc are those of a run
abbrev pub IsGood : SymbolMap → EventOnStack → Type 0
IsGood m x = IsReached (address_map m) x × (x.event.done.pc < 2 ^ 32)

-- ---- the rows of such events

whole_kinds : (f : ℕ → ℕ) → length (by_kind f) ≡ event_kinds
whole_kinds f = length-map-range_with_len f 0 event_kinds

-- what is known of a row that is summed up
pub record IsLineOf (m : SymbolMap) (q : LineRow) : Type 0 where
  pub small : q.place.line < 2 ^ 32
  function : q.place.func ≡ (place_of m q.place.line).func
  whole : IsWhole q.cost
  some : is_some_line q ≡ true

pub record IsArcOf (q : ArcRow) : Type 0 where
  pub small : q.arc.line < 2 ^ 32
  whole : IsWhole q.cost
  some : is_some_arc q ≡ true

module _ (m : SymbolMap) (sound : IsSound m) (ys : List EventOnStack) (good : AllByRecursion (IsGood m) ys) where
  abbrev n : SymbolMap
  n = address_map m

  abbrev pub sums : Listed
  sums = record {
    lines = filter is_some_line (map (line_at n ys) (places n ys));
    arcs = filter is_some_arc (map (arc_at n ys) (arcs n ys));
  }

  abbrev IsAddress : Place → Type 0
  IsAddress p = (p.line < 2 ^ 32) × (p.func ≡ (place_of m p.line).func)

  place_is : (y : EventOnStack) → y.event.done.pc < 2 ^ 32 → IsAddress (place_of n y.event.done.pc)
  place_is y small =
      subst IsAddress (sym (address_place m y.event.done.pc))
      (let least : address_line y.event.done.pc ≡ y.event.done.pc = grind (arith, nat_tests) in
      (omega (arith, least, small), ap (λ (pc : ℕ). (place_of m pc).func) (sym least)))

  pub line_of_sum : (q : LineRow) → IsIn sums.lines q → IsLineOf m q
  line_of_sum q there =
      let passed = in_filter is_some_line (map (line_at n ys) (places n ys)) q there in
      let key = from_map (line_at n ys) (places n ys) q passed.0 in
      let old = from_map (λ (y : EventOnStack). place_of n y.event.done.pc) ys key.0
      (rise.risen_in place_order place_total place_only (map (λ (y : EventOnStack). place_of n y.event.done.pc) ys)
      key.0 key.1) in
      let at : IsAddress key.0 = subst IsAddress old.2 (place_is old.0 (of_all (IsGood m) ys good old.0 old.1).1) in
      let here : IsAddress q.place = subst (λ (r : LineRow). IsAddress r.place) key.2 at in
      record {
        small = here.0;
        function = here.1;
        whole = subst (λ (r : LineRow). IsWhole r.cost) key.2
            (whole_kinds (λ kind. self_cost n kind key.0 ys));
        some = passed.1;
      }

  pub arc_of_sum : (q : ArcRow) → IsIn sums.arcs q → IsArcOf q
  arc_of_sum q there =
      let passed = in_filter is_some_arc (map (arc_at n ys) (arcs n ys)) q there in
      let key = from_map (arc_at n ys) (arcs n ys) q passed.0 in
      let old = from_flat (arcs_at n) ys key.0
      (rise.risen_in arc_order arc_total arc_only (flat_map (arcs_at n) ys) key.0 key.1) in
      let is = at_event m old.0 (of_all (IsGood m) ys good old.0 old.1).0 key.0 old.2 in
      record {
        small = subst (λ (r : ArcRow). r.arc.line < 2 ^ 32) key.2 is;
        whole = subst (λ (r : ArcRow). IsWhole r.cost) key.2
            (whole_kinds (λ kind. event_sums.arc_cost kind key.0 ys));
        some = passed.1;
      }

  abbrev rows : AddrListed
  rows = located_rows m sums

  lines_fall : NotFalling (λ (r : AddrLine). r.place.func.0) rows.lines
  lines_fall =
      let ks = places n ys in
      falling_map (located_line m) (λ (r : AddrLine). r.place.func.0) sums.lines
      (falling_as (λ (q : LineRow). (place_of m q.place.line).func.0) (λ (q : LineRow). q.place.func.0) sums.lines
      (all_of (λ (q : LineRow). (place_of m q.place.line).func.0 ≡ q.place.func.0) sums.lines
      (λ q there. let is = line_of_sum q there in λ i. (sym is.function i).0))
      (falling_filter (λ (q : LineRow). q.place.func.0) is_some_line (map (line_at n ys) ks)
      (falling_map (line_at n ys) (λ (q : LineRow). q.place.func.0) ks
      (falling_sorted place_order (λ (p : Place). p.func.0)
      (λ a b less. first_less a.func.0 b.func.0
      (ordering_then (nat_cmp a.file.0 b.file.0) (nat_cmp a.line b.line)) less) ks
      (rise.sorted_from place_order place_total place_only ks
      (rise.risen_rises place_order place_total place_only (map (λ (y : EventOnStack). place_of n y.event.done.pc) ys)))))))

  arcs_fall : NotFalling (λ (r : AddrArc). r.arc.caller.0) rows.arcs
  arcs_fall =
      let ks = arcs n ys in
      falling_map (located_arc m) (λ (r : AddrArc). r.arc.caller.0) sums.arcs
      (falling_filter (λ (q : ArcRow). q.arc.caller.0) is_some_arc (map (arc_at n ys) ks)
      (falling_map (arc_at n ys) (λ (q : ArcRow). q.arc.caller.0) ks
      (falling_sorted arc_order (λ (k : ArcKey). k.caller.0)
      (λ a b less. first_less a.caller.0 b.caller.0
      (ordering_then (nat_cmp a.file.0 b.file.0)
      (ordering_then (nat_cmp a.line b.line) (nat_cmp a.callee.0 b.callee.0))) less) ks
      (rise.sorted_from arc_order arc_total arc_only ks
      (rise.risen_rises arc_order arc_total arc_only (flat_map (arcs_at n) ys))))))

  all_lines : (P : AddrLine → Type 0)
      → ((q : LineRow) → IsIn rows.lines (located_line m q) → IsLineOf m q → P (located_line m q)) → All P rows.lines
  all_lines P each =
      All-from_recursion P rows.lines
      (all_of P rows.lines
      (λ r there.
      (let q = from_map (located_line m) sums.lines r there in
      subst P q.2 (each q.0 (subst (IsIn rows.lines) (sym q.2) there) (line_of_sum q.0 q.1)))))

  all_arcs : (P : AddrArc → Type 0)
      → ((q : ArcRow) → IsIn rows.arcs (located_arc m q) → IsArcOf q → P (located_arc m q)) → All P rows.arcs
  all_arcs P each =
      All-from_recursion P rows.arcs
      (all_of P rows.arcs
      (λ r there.
      (let q = from_map (located_arc m) sums.arcs r there in
      subst P q.2 (each q.0 (subst (IsIn rows.arcs) (sym q.2) there) (arc_of_sum q.0 q.1)))))

  plain_lines : (P : LineRow → Type 0) → All (λ (r : AddrLine). P (plain_line r)) rows.lines → All P (plain rows).lines
  plain_lines P each =
      All-from_recursion P (plain rows).lines
      (all_of P (plain rows).lines
      (λ r there.
      (let q = from_map plain_line rows.lines r there in
      subst P q.2 (of_all (λ (a : AddrLine). P (plain_line a)) rows.lines
      (recursion_from_All (λ (a : AddrLine). P (plain_line a)) rows.lines each) q.0 q.1))))

  plain_arcs : (P : ArcRow → Type 0) → All (λ (r : AddrArc). P (plain_arc r)) rows.arcs → All P (plain rows).arcs
  plain_arcs P each =
      All-from_recursion P (plain rows).arcs
      (all_of P (plain rows).arcs
      (λ r there.
      (let q = from_map plain_arc rows.arcs r there in
      subst P q.2 (of_all (λ (a : AddrArc). P (plain_arc a)) rows.arcs
      (recursion_from_All (λ (a : AddrArc). P (plain_arc a)) rows.arcs each) q.0 q.1))))

  counted : AreCounted (plain rows)
  counted = record {
    lines = plain_lines (λ (r : LineRow). is_some_line r ≡ true)
        (all_lines (λ (r : AddrLine). is_some_line (plain_line r) ≡ true) (λ q there is. is.some));
    arcs = plain_arcs (λ (r : ArcRow). is_some_arc r ≡ true)
        (all_arcs (λ (r : AddrArc). is_some_arc (plain_arc r) ≡ true) (λ q there is. is.some));
    whole = record {
      lines = plain_lines (λ (r : LineRow). IsWhole r.cost)
          (all_lines (λ (r : AddrLine). IsWhole r.cost) (λ q there is. is.whole));
      arcs = plain_arcs (λ (r : ArcRow). IsWhole r.cost)
          (all_arcs (λ (r : AddrArc). IsWhole r.cost) (λ q there is. is.whole));
    };
  }

  module _ (may : MayBeFolded rows) where
    line_cost : (r : AddrLine) → IsIn rows.lines r → All (λ n. n < 2 ^ 64) r.cost
    line_cost r there k d lt =
        let most = may.lines k r.place in
        let share = in_sum (λ (q : LineRow). if same_place r.place q.place then get_or q.cost k 0 else 0)
        (plain rows).lines (plain_line r) (rise.in-map plain_line rows.lines r there) in
        let steps_of_thread = yes_if (same_place r.place r.place) (get_or r.cost k 0) (place_itself r.place) in
        let same : get_or r.cost k d ≡ get_or r.cost k 0 = get_or_default r.cost k d 0 lt in
        omega (arith, most, share, steps_of_thread, same)

    arc_cost : (r : AddrArc) → IsIn rows.arcs r → All (λ n. n < 2 ^ 64) r.cost
    arc_cost r there k d lt =
        let most = may.arcs k r.arc in
        let share = in_sum (λ (q : ArcRow). if same_arc r.arc q.arc then get_or q.cost k 0 else 0) (plain rows).arcs
        (plain_arc r) (rise.in-map plain_arc rows.arcs r there) in
        let steps_of_thread = yes_if (same_arc r.arc r.arc) (get_or r.cost k 0) (arc_itself r.arc) in
        let same : get_or r.cost k d ≡ get_or r.cost k 0 = get_or_default r.cost k d 0 lt in
        omega (arith, most, share, steps_of_thread, same)

    arc_calls : (r : AddrArc) → IsIn rows.arcs r → r.calls < 2 ^ 64
    arc_calls r there =
        let most = may.calls r.arc in
        let share = in_sum (λ (q : ArcRow). if same_arc r.arc q.arc then q.calls else 0) (plain rows).arcs (plain_arc r)
        (rise.in-map plain_arc rows.arcs r there) in
        let steps_of_thread = yes_if (same_arc r.arc r.arc) r.calls (arc_itself r.arc) in
        omega (arith, most, share, steps_of_thread)

    writable : AreKnown m rows → AreWritable m rows
    writable known = record {
      of_map = known;
      lines_fit = all_lines (λ (r : AddrLine). FitsLine (plain_line r))
          (λ q there is.
          (let small = sound.place_lines q.place.line in
          record { line = omega (arith, small); whole = is.whole; cost = line_cost (located_line m q) there }));
      arcs_fit = all_arcs (λ (r : AddrArc). FitsArc (plain_arc r))
          (λ q there is.
          (let small = sound.place_lines q.arc.line in
          record {
            line = omega (arith, small);
            calls = arc_calls (located_arc m q) there;
            whole = is.whole;
            cost = arc_cost (located_arc m q) there;
          }));
      line_addresses = all_lines (λ (r : AddrLine). r.addr < 2 ^ 64)
          (λ q there is. (let small = is.small in omega (arith, small)));
      arc_addresses = all_arcs (λ (r : AddrArc). r.addr < 2 ^ 64)
          (λ q there is. (let small = is.small in omega (arith, small)));
      lines_rise = falling_index (λ (r : AddrLine). r.place.func.0) rows.lines lines_fall;
      arcs_rise = falling_index (λ (r : AddrArc). r.arc.caller.0) rows.arcs arcs_fall;
    }

-- ---- the rows of a thread in a piece of a run

module _ (guest : Program) (past : List RunStep) (thread : ℕ) (segment : List Step) (can : CanRun guest)
    (makes : Makes guest past) (piece : IsPiece (steps_of past) segment) where
  abbrev events : List EventOnStack
  events = events_on_stack_of thread (with_stacks_of (address_map guest.syms) piece.before segment)

  -- each step of these is one by the map of addresses, of a step of the run
  each_good : (earlier xs : List Step) → AllByRecursion foldable.IsSmallStep xs
      → AllByRecursion (λ (x : Step). IsGood guest.syms x.on_stack) (with_stacks_of (address_map guest.syms) earlier xs)
  each_good earlier [] small = tt
  each_good earlier (x ∷ xs) small = (
    (record { events = events_of_thread (thread_of x) earlier; first = (event_of x).done.pc; is = refl }, small.0),
    each_good (earlier ++ x ∷ []) xs small.1,
  )

  pub good : AllByRecursion (IsGood guest.syms) events
  good =
      each_mapped (λ (x : Step). IsGood guest.syms x.on_stack) (IsGood guest.syms) (λ (x : Step). x.on_stack) (λ x is. is)
      (steps_of_thread thread (with_stacks_of (address_map guest.syms) piece.before segment))
      (each_filtered (λ (x : Step). IsGood guest.syms x.on_stack) (λ x. thread_of x == thread)
      (with_stacks_of (address_map guest.syms) piece.before segment)
      (each_good piece.before segment (foldable.of_run guest past thread segment can makes piece foldable.IsSmallStep
      (foldable.pcs_small guest can past makes)).1))

  all_reached : (ys : List EventOnStack) → AllByRecursion (IsGood guest.syms) ys
      → AllByRecursion (IsReached (address_map guest.syms)) ys
  all_reached [] all = tt
  all_reached (y ∷ ys) all = (all.0.0, all_reached ys all.1)

  pub rows_writable : AreWritable guest.syms (addr_rows_in guest.syms thread piece.before segment)
  unfolding addr_rows_of rows_of
  rows_writable =
      writable guest.syms can.sound events good (foldable.may_fold guest past thread segment can makes piece)
      (rows_known guest.syms can.sound events (all_reached events good))

  rows_counted : AreCounted (plain (addr_rows_in guest.syms thread piece.before segment))
  unfolding addr_rows_of rows_of
  rows_counted = counted guest.syms can.sound events good

  -- the plain rows have their sums
  pub rows_equal_sums : HaveEqualSums (rows_of guest.syms (events_on_stack_of thread segment))
      (plain (addr_rows_in guest.syms thread piece.before segment))
  rows_equal_sums =
      let are = foldable.plain_sums guest past thread segment can makes piece in
      record {
        lines = are.lines;
        arcs = are.arcs;
        counted = record {
          lines = passed is_some_line (rows_of guest.syms (events_on_stack_of thread segment)).lines are.some_lines;
          arcs = passed is_some_arc (rows_of guest.syms (events_on_stack_of thread segment)).arcs are.some_arcs;
          whole = record { lines = are.whole_lines; arcs = are.whole_arcs };
        };
        others_counted = rows_counted;
      }
    where
      passed : {X : Type 0} (p : X → Bool) (xs : List X) → filter p xs ≡ xs → All (λ x. p x ≡ true) xs
      passed p xs same =
          All-from_recursion (λ x. p x ≡ true) xs
          (all_of (λ x. p x ≡ true) xs
          (λ x there. (in_filter p xs x (subst (λ ys. IsIn ys x) (sym same) there)).1))
