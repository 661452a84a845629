-- Two maps that tell the same make the same stacks, cuts and rows of events whose pcs have 32 bits.
use Rattle.std.proofs.Common.{◌≡◌, ℕ, ◌+◌, ◌-◌, ◌<◌, ◌==◌, ◌^◌, ◌&&◌, ◌∙◌, Bool, true, false, not, List, [], ◌∷◌, ◌++◌}
use Rattle.std.proofs.Common.{Option, None, Some, ap, filter, flat_map, if◌then◌else◌, length, lit≤, map, refl, take}
use Rattle.std.specs.List.{AllByRecursion, list_any, slice_get, sum_by}
use Rattle.std.specs.Option.{option_map_or, option_or, option_to_list, unwrap_or}
use Rattle.std.specs.Prelude.{slice_index}
use Rattle.std.specs.Str.{bytes_eq}
use Rattle.event_costs.specs.Keys.{ArcKey, Place}
use Rattle.event_costs.specs.Order.{arc_order, place_order, same_place}
use Rattle.event_costs.specs.declared.event.Event.{Event}
use Rattle.event_costs.specs.declared.event.Flow.{Flow}
use Rattle.event_costs.specs.declared.event.Flow.TheVariants.{Call, Jump, Plain, Swap}
use Rattle.event_costs.specs.declared.numbers.FuncId.{FuncId}
use Rattle.arc_costs.specs.Arcs.{is_some_arc}
use Rattle.arc_costs.specs.Keys.{by_kind, risen}
use Rattle.arc_costs.specs.Lines.{is_some_line}
use Rattle.cache_lru.specs.Costs.{each_after}
use Rattle.cg_format.specs.declared.trigger.Trigger.TheVariants.{After, Before}
use Rattle.sym_map.specs.SymbolMap.{SymbolMap, place_of}
use Rattle.shadow_stack.specs.Changes.{Change, after, arc_from, beneath_call, change, change_by, cut, down_to}
use Rattle.shadow_stack.specs.Changes.{drop_groups, is_returned_from, is_under, next_func, push, remaining_groups}
use Rattle.shadow_stack.specs.Changes.{settle, settle_on, with_pushed}
use Rattle.shadow_stack.specs.Kinds.{call_of, is_level, jump, returns_by}
use Rattle.shadow_stack.specs.Stacks.{Group, Stack, groups, has_func, is_top, members, root, stack_of_groups}
use Rattle.shadow_stack.specs.Traces.{EventOnStack, stack_after, stack_of}
use Rattle.shadow_stack.specs.declared.frame.Kind.{Kind}
use Rattle.shadow_stack.specs.declared.frame.Kind.TheVariants.{Root}
use Rattle.part_dump.specs.Cuts.{DumpPoints, after_cut, before_cut, cut_after, cuts, every_cut, has_name}
use Rattle.part_dump.specs.Cuts.{marked_after, most_cuts, split}
use Rattle.part_dump.specs.Steps.{Step, event_of, events_of_thread, events_on_stack_of, frames_in, live, stack_at}
use Rattle.part_dump.specs.Steps.{steps_of_thread, thread_of, threads}
use Rattle.recorder.specs.Rows.{arcs_at, arcs_of, rows_of}
use Rattle.recorder.specs.Sums.{arc_calls, arc_cost, pushes, self_cost}
use Rattle.reads_back.proofs.Others.{each_weaker}
use Rattle.run_laws.proofs.Others.{sum_by-each}
use Rattle.run_laws.specs.Maps.{TellTheSame}

-- the pcs before and after an event have 32 bits
abbrev pub IsLow : Event → Type 0
IsLow e = (e.done.pc < 2 ^ 32) × (e.done.next < 2 ^ 32)

abbrev pub IsLowStep : Step → Type 0
IsLowStep x = IsLow (event_of x)

abbrev pub IsLowSeen : EventOnStack → Type 0
IsLowSeen x = IsLow x.event

abbrev pub AreLow : List Step → Type 0
AreLow = AllByRecursion IsLowStep

pub low_events : (thread : ℕ) (xs : List Step) → AreLow xs → AllByRecursion IsLow (events_of_thread thread xs)
low_events thread [] all = tt
low_events thread (x ∷ xs) all = by (thread_of x == thread) (low_events thread xs all.1)
  where
    by : (b : Bool) → AllByRecursion IsLow (events_of_thread thread xs)
        → AllByRecursion IsLow (map event_of (if b then x ∷ steps_of_thread thread xs else steps_of_thread thread xs))
    by true rest = (all.0, rest)
    by false rest = rest

pub low_seen : (thread : ℕ) (xs : List Step) → AreLow xs → AllByRecursion IsLowSeen (events_on_stack_of thread xs)
low_seen thread [] all = tt
low_seen thread (x ∷ xs) all = by (thread_of x == thread) (low_seen thread xs all.1)
  where
    by : (b : Bool) → AllByRecursion IsLowSeen (events_on_stack_of thread xs)
        → AllByRecursion IsLowSeen
        (map (λ (y : Step). y.on_stack) (if b then x ∷ steps_of_thread thread xs else steps_of_thread thread xs))
    by true rest = (all.0, rest)
    by false rest = rest

module _ (m n : SymbolMap) (same : TellTheSame m n) where
  -- ---- an event

  module _ (e : Event) (low : IsLow e) where
    next_same : next_func m e ≡ next_func n e
    next_same = ap (λ (p : Place). p.func) (same.places e.done.next low.1)

    returned_same : (gs : List Group) → is_returned_from m e gs ≡ is_returned_from n e gs
    returned_same [] = refl
    returned_same (g ∷ gs) = λ i.
        is_level e g.base.kind && not (same.entry_addresses e.done.next low.1 i)
        && not (has_func (next_same i) (members g)) && is_top (next_same i) (stack_of_groups gs)

    remaining_same : (gs : List Group) → remaining_groups m e gs ≡ remaining_groups n e gs
    remaining_same [] = refl
    remaining_same (g ∷ gs) = λ i.
        if returns_by e g.base.kind then gs
        else drop_groups (λ hs. returned_same hs i) (drop_groups (is_under e) (g ∷ gs))

    rest_same : (s : Stack) (o : Option Stack)
        → unwrap_or o (stack_of_groups (remaining_groups m e (groups s)))
        ≡ unwrap_or o (stack_of_groups (remaining_groups n e (groups s)))
    rest_same s (Some rest) = refl
    rest_same s None = λ i. stack_of_groups (remaining_same (groups s) i)

    cut_same : (s : Stack) → cut m e s ≡ cut n e s
    cut_same s = rest_same s (beneath_call e s)

    push_same : (kind : Kind) (s : Stack) → push m e kind s ≡ push n e kind s
    push_same kind s = λ i. record {
      rest = s;
      pushed = Some (record {
        func = next_same i;
        kind = kind;
        arc = arc_from (same.places e.done.pc low.0 i) (next_same i) s;
      });
    }

    settle_on_same : (s : Stack) (o : Option Stack) → settle_on m e s o ≡ settle_on n e s o
    settle_on_same s (Some rest) = refl
    settle_on_same s None = push_same jump s

    settle_same : (s : Stack) → settle m e s ≡ settle n e s
    settle_same s =
        ap (λ f. settle_on m e s (down_to f s)) next_same ∙ settle_on_same s (down_to (next_func n e) s)

    flow_same : (s : Stack) (flow : Flow) → change_by m e s flow ≡ change_by n e s flow
    flow_same s Plain = settle_same s
    flow_same s Call = push_same (call_of e) s
    flow_same s Jump = ap (settle m e) (cut_same s) ∙ settle_same (cut n e s)
    flow_same s Swap = ap (push m e (call_of e)) (cut_same s) ∙ push_same (call_of e) (cut n e s)

    pub change_same : (s : Stack) → change m e s ≡ change n e s
    change_same s = λ i. if e.ends then record { rest = []; pushed = None } else flow_same s e.done.flow i

    after_same : (s : Stack) → after m s e ≡ after n s e
    after_same s = ap (λ (c : Change). with_pushed c.pushed c.rest) (change_same s)

  -- ---- stacks

  after_all : (es : List Event) (s : Stack) → AllByRecursion IsLow es → stack_after m s es ≡ stack_after n s es
  after_all [] s all = refl
  after_all (e ∷ es) s all =
      ap (λ t. stack_after m t es) (after_same e all.0 s) ∙ after_all es (after n s e) all.1

  root_same : (pc : ℕ) → pc < 2 ^ 32 → root m pc ≡ root n pc
  root_same pc low = λ i. record { func = (same.places pc low i).func; kind = Root; arc = None } ∷ []

  stack_same : (es : List Event) (pc : ℕ) → pc < 2 ^ 32 → AllByRecursion IsLow es → stack_of m es pc ≡ stack_of n es pc
  stack_same [] pc low all = root_same pc low
  stack_same (e ∷ es) pc low all =
      ap (λ s. stack_after m s (e ∷ es)) (root_same e.done.pc all.0.0) ∙ after_all (e ∷ es) (root n e.done.pc) all

  pub at_same : (xs : List Step) (thread pc : ℕ) → pc < 2 ^ 32 → AreLow xs → stack_at m xs thread pc ≡ stack_at n xs thread pc
  at_same xs thread pc low all = stack_same (events_of_thread thread xs) pc low (low_events thread xs all)

  pub live_same : (xs : List Step) → AreLow xs → live m xs ≡ live n xs
  live_same xs all = λ i. sum_by (λ thread. frames_in (at_same xs thread 0 (lit≤ tt) all i)) (threads xs)

  -- ---- cuts

  name_same : (name : List ℕ) (func : FuncId) → has_name m name func ≡ has_name n name func
  name_same name func = λ i.
      option_map_or (λ text. bytes_eq text name) (slice_get (map (λ function. function.name) (same.functions i)) func.0) false

  module _ (x : EventOnStack) (low : IsLowSeen x) where
    before_same : (o : Option (List ℕ)) → before_cut m o x ≡ before_cut n o x
    before_same None = refl
    before_same (Some name) = λ i.
        if option_map_or (λ a. name_same name a.func i) (change_same x.event low x.stack i).pushed false
        then Some (Before name) else None

    left_same : (o : Option (List ℕ)) → after_cut m o x ≡ after_cut n o x
    left_same None = refl
    left_same (Some name) = λ i.
        if list_any (λ a. name_same name a.func i)
        (take (length x.stack - length (change_same x.event low x.stack i).rest) x.stack)
        then Some (After name) else None

    cut_after_same : (asked : DumpPoints) (steps : ℕ) → cut_after m asked steps x ≡ cut_after n asked steps x
    cut_after_same asked steps = λ i.
        option_or (every_cut asked.every steps) (option_or (before_same asked.before i) (left_same asked.after i))

  marked_same : (asked : DumpPoints) (earlier xs : List Step) → AreLow xs
      → each_after (marked_after m asked) earlier xs ≡ each_after (marked_after n asked) earlier xs
  marked_same asked earlier [] all = refl
  marked_same asked earlier (x ∷ xs) all = λ i.
      (x, cut_after_same x.on_stack all.0 asked (length earlier + 1) i)
      ∷ marked_same asked (earlier ++ x ∷ []) xs all.1 i

  pub cuts_same : (asked : DumpPoints) (xs : List Step) → AreLow xs → cuts m asked xs ≡ cuts n asked xs
  unfolding cuts
  cuts_same asked xs all = ap (split most_cuts) (marked_same asked [] xs all)

  -- ---- rows

  places_same : (xs : List EventOnStack) → AllByRecursion IsLowSeen xs
      → map (λ x. place_of m x.event.done.pc) xs ≡ map (λ x. place_of n x.event.done.pc) xs
  places_same [] all = refl
  places_same (x ∷ xs) all = λ i. same.places x.event.done.pc all.0.0 i ∷ places_same xs all.1 i

  arcs_same : (xs : List EventOnStack) → AllByRecursion IsLowSeen xs → flat_map (arcs_at m) xs ≡ flat_map (arcs_at n) xs
  arcs_same [] all = refl
  arcs_same (x ∷ xs) all = λ i.
      (arcs_of x.stack ++ arcs_of (option_to_list (change_same x.event all.0 x.stack i).pushed)) ++ arcs_same xs all.1 i

  self_same : (kind : ℕ) (place : Place) (xs : List EventOnStack) → AllByRecursion IsLowSeen xs
      → self_cost m kind place xs ≡ self_cost n kind place xs
  self_same kind place xs all =
      let cost = λ (syms : SymbolMap) (x : EventOnStack).
      if same_place place (place_of syms x.event.done.pc) then slice_index x.cost kind else 0 in
      sum_by-each (cost m) (cost n) xs
      (each_weaker IsLowSeen (λ x. cost m x ≡ cost n x)
      (λ x low i. if same_place place (same.places x.event.done.pc low.0 i) then slice_index x.cost kind else 0) xs all)

  calls_same : (arc : ArcKey) (xs : List EventOnStack) → AllByRecursion IsLowSeen xs
      → arc_calls m arc xs ≡ arc_calls n arc xs
  calls_same arc xs all =
      let calls = λ (syms : SymbolMap) (x : EventOnStack). pushes arc (change syms x.event x.stack).pushed in
      sum_by-each (calls m) (calls n) xs
      (each_weaker IsLowSeen (λ x. calls m x ≡ calls n x)
      (λ x low i. pushes arc (change_same x.event low x.stack i).pushed) xs all)

  pub rows_same : (xs : List EventOnStack) → AllByRecursion IsLowSeen xs → rows_of m xs ≡ rows_of n xs
  unfolding rows_of
  rows_same xs all = λ i. record {
    lines = filter is_some_line
        (map (λ place. record { place = place; cost = by_kind (λ kind. self_same kind place xs all i) })
        (risen place_order (places_same xs all i)));
    arcs = filter is_some_arc
        (map (λ arc. record {
          arc = arc;
          calls = calls_same arc xs all i;
          cost = by_kind (λ kind. arc_cost kind arc xs);
        }) (risen arc_order (arcs_same xs all i)));
  }
