-- The rows of events of a run can be written.
use Rattle.std.proofs.Common.{◌≡◌, ◌≢◌, ℕ, zero, suc, ◌*◌, ◌<◌, ◌≤◌, ◌^◌, Bool, true, false, not, ◌||◌, ◌==◌}
use Rattle.std.proofs.Common.{List, [], ◌∷◌, ◌++◌, length, get_or, sum_by, All, Contains, Some, None}
use Rattle.std.proofs.Common.{refl, sym, ap, subst, ◌∙◌, ◌⊎◌, inl, inr, arith, if◌then◌else◌}
use Rattle.std.proofs.lemmas.Bool.{eq-eqb}
use Rattle.std.proofs.lemmas.List.{get_or_default}
use Rattle.std.proofs.lemmas.List.Elements.{All-contains, Contains-get_or}
use Rattle.event_costs.specs.Costs.{IsWhole}
use Rattle.event_costs.specs.declared.event.Event.{Event}
use Rattle.event_costs.specs.Keys.{ArcKey, Place}
use Rattle.sym_map.specs.SymbolMap.{SymbolMap, IsFile, IsFunc, IsSound, place_of}
use Rattle.sym_map.proofs.Members.{Contains-cons, Contains-first}
use Rattle.shadow_stack.specs.declared.frame.Kind.{Kind}
use Rattle.shadow_stack.specs.Changes.{arc_from, change, new_activation, next_func}
use Rattle.shadow_stack.specs.Kinds.{is_root}
use Rattle.shadow_stack.specs.Stacks.{Activation, Stack}
use Rattle.shadow_stack.specs.Traces.{CountedEvent, EventOnStack, events_on_stacks}
use Rattle.shadow_stack.proofs.ChangeLemmas.{change-end}
use Rattle.arc_costs.specs.Arcs.{is_some_arc}
use Rattle.arc_costs.specs.Contents.{Listed}
use Rattle.arc_costs.specs.Lines.{is_some_line}
use Rattle.event_costs.specs.Order.{same_arc, same_place}
use Rattle.arc_costs.specs.Totals.{is_some_cost}
use Rattle.arc_costs.specs.Rows.{ArcRow, LineRow}
use Rattle.recorder.specs.Laws.{IsIn, IsPushed}
use Rattle.recorder.specs.Standing.{AreRowsOf}
use Rattle.recorder.specs.Sums.{arc_calls, arc_cost, entered_by, is_arc, of_thread, pushes, self_cost}
use Rattle.recorder.proofs.ArcLaws.{arc_pushed}
use Rattle.cg_format.specs.Part.{IsKnownLine}
use Rattle.once_each.specs.Orderly.{IsRunSized}
use Rattle.once_each.proofs.BoundLemmas.{arc_most, calls_most, self_most}
use Rattle.once_each.proofs.Others.{arc_alike, arc_itself, place_alike, place_itself}
use Rattle.once_each.proofs.KnownLemmas.{stacks_of_map}
use Rattle.once_each.proofs.MemberLemmas.{Contains-filter, from_filter, le-sum, sum-some}
use Rattle.once_each.proofs.SeenLemmas.{change-entered}
use Rattle.reads_back.specs.Joined.{AreWhole}
use Rattle.reads_back.specs.Rows.{AreWritable, FitsArc, FitsLine}

-- a cost that isn't all 0 has a number above 0
some_number : (cost : List ℕ) → is_some_cost cost ≡ true → (k : ℕ) × (0 < get_or cost k 0)
some_number [] some = absurd (cc)
some_number (n ∷ cost) some = go n (some_number cost) some
  where
    go : (n : ℕ) → (is_some_cost cost ≡ true → (k : ℕ) × (0 < get_or cost k 0))
        → (not (n == 0) || is_some_cost cost) ≡ true → (k : ℕ) × (0 < get_or (n ∷ cost) k 0)
    go zero rest some = let later = rest some in (suc later.0, later.1)
    go (suc n) rest some = (0, omega arith)

if_true : (b : Bool) (n : ℕ) → 0 < (if b then n else 0) → b ≡ true
if_true true n some = refl
if_true false n some = absurd (omega (arith, some))

yes_if : (b : Bool) (n : ℕ) → b ≡ true → (if b then n else 0) ≡ n
yes_if b n e = ap (λ c. if c then n else 0) e

not_zero : (n : ℕ) → 0 < n → n ≢ 0
not_zero n some none = absurd (omega (arith, some, none))

in_seen : {X : Type 0} (xs : List X) (x : X) → IsIn xs x → Contains xs x
in_seen [] x none = absurd none
in_seen (y ∷ ys) x (inl is) = subst (λ z. Contains (y ∷ ys) z) is (Contains-first y ys)
in_seen (y ∷ ys) x (inr later) = Contains-cons y ys x (in_seen ys x later)

all_small : (cost : List ℕ) → ((k : ℕ) → get_or cost k 0 < 2 ^ 62) → All (λ n. n < 2 ^ 64) cost
all_small cost each k d lt =
    let same : get_or cost k d ≡ get_or cost k 0 = get_or_default cost k d 0 lt in
    let small = each k in
    omega (arith, same, small)

-- what is known of an arc
record IsKnownKey (m : SymbolMap) (key : ArcKey) : Type 0 where
  caller : IsFunc m key.caller
  file : IsFile m key.file
  callee : IsFunc m key.callee
  line : key.line < 2 ^ 32

module _ (m : SymbolMap) (sound : IsSound m) (trace : List CountedEvent) where
  -- a frame that an event of the trace pushes was entered by an arc of the map
  entered_known : (e : Event) (kept : Stack) (key : ArcKey) → All (λ
      (a : Activation). a.func.0 < length m.functions) kept
      → is_arc key (arc_from (place_of m e.done.pc) (next_func m e) kept) ≡ true → IsKnownKey m key
  entered_known e [] key known is = absurd (cc)
  entered_known e (a ∷ kept) key known is =
      let arc : ArcKey = record {
        caller = a.func;
        file = (place_of m e.done.pc).file;
        line = (place_of m e.done.pc).line;
        callee = next_func m e;
      } in
      let same : key ≡ arc = arc_alike key arc is in
      subst (IsKnownKey m) (sym same) (record {
        caller = known 0 a (omega arith);
        file = sound.place_files e.done.pc;
        callee = sound.place_functions e.done.next;
        line = sound.place_lines e.done.pc;
      })

  known_end : (front kept : Stack) → All (λ (a : Activation). a.func.0 < length m.functions) (front ++ kept)
      → All (λ (a : Activation). a.func.0 < length m.functions) kept
  known_end [] kept known = known
  known_end (a ∷ front) kept known = known_end front kept (λ k d lt. known (suc k) d (omega arith))

  pushed_known : (key : ArcKey) → IsPushed m key (events_on_stacks m trace) → IsKnownKey m key
  pushed_known key p = go (change-entered m p.event.event p.event.stack)
    where
      stack_known : All (λ (a : Activation). a.func.0 < length m.functions) p.event.stack
      stack_known =
          All-contains (λ (x : EventOnStack). All (λ (a : Activation). a.func.0 < length m.functions) x.stack) (events_on_stacks m trace)
          p.event
          (stacks_of_map m trace
          (λ k d lt. (
            sound.place_functions (get_or trace k d).event.done.pc,
            sound.place_functions (get_or trace k d).event.done.next,
          ))) (in_seen (events_on_stacks m trace) p.event p.inside)

      kept_known : All (λ (a : Activation). a.func.0 < length m.functions)
          (change m p.event.event p.event.stack).rest
      kept_known =
          let ends = change-end m p.event.event p.event.stack in
          known_end ends.front (change m p.event.event p.event.stack).rest
          (subst (λ (s : Stack). All (λ (a : Activation). a.func.0 < length m.functions) s) ends.whole stack_known)

      go : ((change m p.event.event p.event.stack).pushed ≡ None)
          ⊎ ((kind : Kind) × (is_root kind ≡ false)
          × ((change m p.event.event p.event.stack).pushed
          ≡ Some (new_activation m p.event.event kind (change m p.event.event p.event.stack).rest)))
          → IsKnownKey m key
      go (inl none) = let some = p.pushed in absurd (cc)
      go (inr found) =
          let some : Some p.frame ≡ Some (new_activation m p.event.event found.0 (change m p.event.event p.event.stack).rest)
          = sym p.pushed ∙ found.2 in
          let same : p.frame ≡ new_activation m p.event.event found.0 (change m p.event.event p.event.stack).rest = cc in
          entered_known p.event.event (change m p.event.event p.event.stack).rest key kept_known
          (ap (λ (a : Activation). is_arc key a.arc) (sym same) ∙ p.entered)

  module _ (xs : List EventOnStack) (rows : Listed) (within : All (Contains (events_on_stacks m trace)) xs) (run : IsRunSized xs)
      (is : AreRowsOf m xs rows) (whole : AreWhole rows) where
    -- the events of a thread have what one of them has
    found_in_thread : (f : EventOnStack → ℕ) → 0 < sum_by f xs → (x : EventOnStack) × Contains xs x × (0 < sum_by f
        (of_thread x.event.thread (events_on_stacks m trace)))
    found_in_thread f some =
        let found = sum-some f xs some in
        let x : EventOnStack = found.item in
        let there : Contains (events_on_stacks m trace) x = All-contains (Contains (events_on_stacks m trace)) xs x within found.among in
        let own : Contains (of_thread x.event.thread (events_on_stacks m trace)) x =
        Contains-filter (λ (y : EventOnStack). y.event.thread.0 == x.event.thread.0) (events_on_stacks m trace) x there
        (eq-eqb x.event.thread.0 x.event.thread.0 refl) in
        let share = le-sum f (of_thread x.event.thread (events_on_stacks m trace)) x own in
        let more = found.has in
        (x, found.among, omega (arith, share, more))

    -- Lines

    line_share : (row : LineRow) (kind : ℕ) → Contains rows.lines row
        → get_or row.cost kind 0 ≤ self_cost m kind row.place xs
    line_share row kind there =
        let share = le-sum (λ (r : LineRow). if same_place row.place r.place then get_or r.cost kind 0 else 0)
        rows.lines row there in
        let own = yes_if (same_place row.place row.place) (get_or row.cost kind 0) (place_itself row.place) in
        let sums = is.lines kind row.place in
        omega (arith, share, own, sums)

    line_place : (row : LineRow) → Contains rows.lines row → (pc : ℕ) × (row.place ≡ place_of m pc)
    line_place row there =
        let passes = (from_filter is_some_line rows.lines row
        (subst (λ (rs : List LineRow). Contains rs row) (sym is.some_lines) there)).1 in
        let number = some_number row.cost passes in
        let share = line_share row number.0 there in
        let above = number.1 in
        let found = sum-some (λ (x : EventOnStack).
        if same_place row.place (place_of m x.event.done.pc) then get_or x.cost number.0 0 else 0) xs
        (omega (arith, share, above)) in (
          found.item.event.done.pc,
          place_alike row.place (place_of m found.item.event.done.pc)
              (if_true (same_place row.place (place_of m found.item.event.done.pc))
              (get_or found.item.cost number.0 0) found.has),
        )

    line_known : (row : LineRow) → Contains rows.lines row → IsKnownLine m row
    line_known row there =
        let at = line_place row there in
        record {
          function = subst (λ (p : Place). IsFunc m p.func) (sym at.1) (sound.place_functions at.0);
          file = subst (λ (p : Place). IsFile m p.file) (sym at.1) (sound.place_files at.0);
        }

    line_fits : (row : LineRow) → Contains rows.lines row → IsWhole row.cost → FitsLine row
    line_fits row there full =
        let at = line_place row there in
        let small : row.place.line < 2 ^ 32 =
        subst (λ (p : Place). p.line < 2 ^ 32) (sym at.1) (sound.place_lines at.0) in
        record {
          line = omega (arith, small);
          whole = full;
          cost = all_small row.cost
              (λ kind. let share = line_share row kind there in let most = self_most m xs kind row.place run in
              omega (arith, share, most));
        }

    -- Arcs

    arc_share : (row : ArcRow) (kind : ℕ) → Contains rows.arcs row → get_or row.cost kind 0 ≤ arc_cost kind row.arc xs
    arc_share row kind there =
        let share = le-sum (λ (r : ArcRow). if same_arc row.arc r.arc then get_or r.cost kind 0 else 0)
        rows.arcs row there in
        let own = yes_if (same_arc row.arc row.arc) (get_or row.cost kind 0) (arc_itself row.arc) in
        let sums = is.arcs kind row.arc in
        omega (arith, share, own, sums)

    call_share : (row : ArcRow) → Contains rows.arcs row → row.calls ≤ arc_calls m row.arc xs
    call_share row there =
        let share = le-sum (λ (r : ArcRow). if same_arc row.arc r.arc then r.calls else 0) rows.arcs row there in
        let own = yes_if (same_arc row.arc row.arc) row.calls (arc_itself row.arc) in
        let sums = is.calls row.arc in
        omega (arith, share, own, sums)

    called_known : (key : ArcKey) → 0 < arc_calls m key xs → IsKnownKey m key
    called_known key some =
        let found = found_in_thread (λ (x : EventOnStack). pushes key (change m x.event x.stack).pushed) some in
        pushed_known key (arc_pushed m trace [] (events_on_stacks m trace) found.0.event.thread key 0 (inl refl)
        (inl (not_zero (arc_calls m key (of_thread found.0.event.thread (events_on_stacks m trace))) found.2)))

    costing_known : (key : ArcKey) (kind : ℕ) → 0 < arc_cost kind key xs → IsKnownKey m key
    costing_known key kind some =
        let found = found_in_thread (λ (x : EventOnStack). get_or x.cost kind 0 * entered_by key x.stack) some in
        pushed_known key (arc_pushed m trace [] (events_on_stacks m trace) found.0.event.thread key kind (inl refl)
        (inr (not_zero (arc_cost kind key (of_thread found.0.event.thread (events_on_stacks m trace))) found.2)))

    arc_known : (row : ArcRow) → Contains rows.arcs row → IsKnownKey m row.arc
    arc_known row there =
        go row.calls refl
        ((from_filter is_some_arc rows.arcs row
        (subst (λ (rs : List ArcRow). Contains rs row) (sym is.some_arcs) there)).1)
      where
        go : (calls : ℕ) → row.calls ≡ calls → (not (calls == 0) || is_some_cost row.cost) ≡ true → IsKnownKey m row.arc
        go zero none some =
            let number = some_number row.cost some in
            let share = arc_share row number.0 there in
            let above = number.1 in
            costing_known row.arc number.0 (omega (arith, share, above))
        go (suc n) calls some =
            let share = call_share row there in
            called_known row.arc (omega (arith, share, calls))

    arc_fits : (row : ArcRow) → Contains rows.arcs row → IsWhole row.cost → FitsArc row
    arc_fits row there full =
        let known = arc_known row there in
        let line = known.line in
        let share = call_share row there in
        let most = calls_most m xs row.arc run in
        record {
          line = omega (arith, line);
          calls = omega (arith, share, most);
          whole = full;
          cost = all_small row.cost
              (λ kind. let share = arc_share row kind there in
              let most = arc_most m trace xs kind row.arc within run in
              omega (arith, share, most));
        }

    pub writable_rows : AreWritable m rows
    writable_rows = record {
      of_map = record {
        lines = λ k d lt. line_known (get_or rows.lines k d) (Contains-get_or rows.lines k d lt);
        arcs = λ k d lt.
            let known = arc_known (get_or rows.arcs k d) (Contains-get_or rows.arcs k d lt) in
            record { caller = known.caller; file = known.file; callee = known.callee };
      };
      lines_fit = λ k d lt. line_fits (get_or rows.lines k d) (Contains-get_or rows.lines k d lt) (whole.lines k d lt);
      arcs_fit = λ k d lt. arc_fits (get_or rows.arcs k d) (Contains-get_or rows.arcs k d lt) (whole.arcs k d lt);
      lines_rise = is.lines_rise;
      arcs_rise = is.arcs_rise;
    }
