-- A thread once its stack has changed.
use Rattle.std.proofs.Common.{◌≡◌, ◌⊎◌, inl, inr, ℕ, ◌+◌, ◌-◌, ◌<◌, ◌≤◌, ◌^◌, true, List, [], ◌∷◌, ◌++◌, Option, None, Some}
use Rattle.std.proofs.Common.{drop, is_some, length, map, reverse, slice_get, take, refl, sym, ap, subst, ◌∙◌, arith, if◌then◌else◌}
use Rattle.std.specs.Prelude.{vec_capacity}
use Rattle.std.proofs.lemmas.List.{append-nil, length-drop, length-map, length-reverse}
use Rattle.event_costs.specs.Arcs.{Pushed, Telling}
use Rattle.event_costs.specs.declared.event.Event.{Event}
use Rattle.event_costs.specs.Keys.{ArcKey, Place}
use Rattle.event_costs.specs.declared.numbers.FuncId.{FuncId}
use Rattle.sym_map.specs.SymbolMap.{SymbolMap, place_of}
use Rattle.shadow_stack.specs.Changes.{Change, after, change, drop_count, new_activation, next_func, no_change, with_pushed}
use Rattle.shadow_stack.specs.Frames.{StartWithin, activation, closings, frame_of, pushing, stack, with_frame}
use Rattle.shadow_stack.specs.Stacks.{Activation, Stack, is_rooted}
use Rattle.shadow_stack.specs.declared.frame.Frame.{Frame}
use Rattle.shadow_stack.specs.declared.frame.Kind.TheVariants.{Jump}
use Rattle.shadow_stack.proofs.StayLemmas as stay
use Rattle.recorder.proofs.EnteredLemmas as stacks
use Rattle.arc_costs.specs.Arcs.{call_sum}
use Rattle.recorder.specs.inner.Tellers.{RowsAfterTellings}
use Rattle.contexts.specs.Contexts.{Context, context, context_at, number, with_context}
use Rattle.ctx_rows.specs.States.{contexts_with, entered_frame, entering_arc, kept_track_frames, pushed_frame}
use Rattle.ctx_rows.specs.States.{top_number}
use Rattle.ctx_rows.specs.Tracks.{AreNumbered}
use Rattle.ctx_costs.specs.inner.Frames.{AreOpen, entry_arc, first_number, numbered_frames, pushed_entry}
use Rattle.ctx_costs.specs.declared.closing.Entry.{Entry}
use Rattle.ctx_costs.specs.inner.Tracks.{Book, IsChanged, IsEntered, IsFramed, IsLeft, closings_gone, context_entered, count_gone}
use Rattle.ctx_costs.specs.inner.Tracks.{frame_new, frames_of, numbers_of, track_of}
use Rattle.ctx_costs.proofs.NumberedLemmas.{drop_numbered, left_numbers, open_drop, open_many, some_any, top_numbered}
use Rattle.ctx_costs.proofs.Others.{IsPushed, change-end, closings_calls, closings_pushes, cut_again, end-le}
use Rattle.ctx_costs.proofs.Others.{none_told, numbered_kept, numbered_top, pushes_what, read_there}
use Rattle.ctx_costs.proofs.Others.{within_list}
use Rattle.ctx_costs.proofs.TellingLemmas.{told_on}

-- No frame goes where an event leaves the stack as it is.
pub none_left : (m : SymbolMap) (e : Event) (b : Book)
    → change m e (stack b.stack.frames) ≡ no_change (stack b.stack.frames) → StartWithin b.total b.stack.frames
    → IsLeft m e b b
none_left m e b stays starts =
    let none : drop_count m e (stack b.stack.frames) ≡ 0 = stay.none_gone m e b.stack.frames stays in
    record {
      frames = stay.same_frames m b.total e b.stack.frames stays;
      numbers = sym (ap (λ n. drop n (numbers_of b)) none);
      told =
          subst (λ (n : ℕ). RowsAfterTellings b.rows (closings b.total (take n (frames_of b))) b.rows) (sym none)
          (none_told b.rows);
      stacked = sym (ap (λ (h : Change). with_pushed h.pushed h.rest) stays);
      starts = starts;
      same = record { alloc = refl; thread = refl; total = refl };
      capacity = refl;
    }

-- how many numbers are kept
module _ (m : SymbolMap) (e : Event) (b : Book) (rooted : is_rooted (stack b.stack.frames) ≡ true) (framed : IsFramed b)
  where
    abbrev s : Stack
    s = stack b.stack.frames

    many : length b.numbers.items ≡ length (stack b.stack.frames)
    many =
        let all = open_many b.stack.frames (numbers_of b) framed.entered in
        let size = length-map b.stack.frames activation in
        let reversed = length-reverse b.numbers.items in
        omega (arith, all, size, reversed)

    pub numbers_kept : (kept depth : ℕ) (entry : Option Entry) (gs : List Frame)
        → kept ≡ depth - (if is_some entry then 1 else 0) → depth ≡ length gs → stack gs ≡ after m (stack b.stack.frames) e
        → entry ≡ pushed_entry (change m e (stack b.stack.frames)).pushed
        → reverse (take kept b.numbers.items) ≡ drop (count_gone m e b) (numbers_of b)
    numbers_kept kept depth entry gs is deep now pushed =
        let most = end-le (change m e s).rest s (change-end m e s) in
        let rest : kept ≡ length (change m e s).rest = by (pushes_what m e s rooted) in
        ap (λ n. reverse (take n b.numbers.items)) (omega (arith, rest, most, many))
        ∙ left_numbers (count_gone m e b) b.numbers.items (omega (arith, many))
      where
        size : depth ≡ length (after m s e)
        size = deep ∙ sym (length-map gs activation) ∙ ap (length {A = Activation}) now

        by : ((change m e s).pushed ≡ None) ⊎ IsPushed m e s → kept ≡ length (change m e s).rest
        by (inl none) =
            let one = is ∙ ap (λ (o : Option Entry). depth - (if is_some o then 1 else 0)) (pushed ∙ ap pushed_entry none) in
            let all = ap (λ (o : Option Activation). length (with_pushed o (change m e s).rest)) none in
            omega (arith, one, size, all)
        by (inr p) =
            let one = is ∙ ap (λ (o : Option Entry). depth - (if is_some o then 1 else 0)) (pushed ∙ ap pushed_entry p.pushed) in
            let all = ap (λ (o : Option Activation). length (with_pushed o (change m e s).rest)) p.pushed in
            omega (arith, one, size, all)

module _ (callers : ℕ) (cs : List Context) (syms : SymbolMap) (e : Event) (old left : Book) (framed : IsFramed old)
    (goes : IsLeft syms e old left) where
  abbrev made : Change
  made = change syms e (stack old.stack.frames)

  abbrev k : ℕ
  k = count_gone syms e old

  abbrev at : Place
  at = place_of syms e.done.pc

  abbrev kept : List Frame
  kept = kept_track_frames syms e (track_of old)

  abbrev beneath : List Frame
  beneath = drop k old.stack.frames

  abbrev ns : List FuncId
  ns = drop k (numbers_of old)

  open_beneath : AreOpen beneath ns
  open_beneath = open_drop k old.stack.frames (numbers_of old) framed.entered

  kept_is : numbered_frames beneath ns ≡ kept
  kept_is = sym (drop_numbered k old.stack.frames (numbers_of old))

  top_is : first_number ns ≡ top_number kept
  top_is = sym (top_numbered beneath ns open_beneath) ∙ ap top_number kept_is

  -- where no frame comes
  module _ (none : (change syms e (stack old.stack.frames)).pushed ≡ None) where
    not_fresh : frame_new callers cs syms e old ≡ None
    not_fresh = ap (λ (o : Option Activation). pushed_frame callers cs at kept (record { rest = made.rest; pushed = o })) none

    frames_are : left.stack.frames ≡ beneath
    frames_are = goes.frames ∙ ap (λ (o : Option Activation). with_frame old.total o beneath) none

    pub left_changed : IsChanged callers cs cs syms e old left
    left_changed = record {
      stacked = goes.stacked;
      frames = (λ i. numbered_frames (frames_are i) (goes.numbers i)) ∙ kept_is
          ∙ ap (λ (o : Option Activation). with_frame old.total o kept) (sym not_fresh);
      told =
          subst (λ (o : Option Activation). RowsAfterTellings old.rows (closings_gone syms e old ++ pushing o) left.rows)
          (sym not_fresh)
          (subst (λ (ts : List Telling). RowsAfterTellings old.rows ts left.rows)
          (sym (append-nil (closings_gone syms e old))) goes.told);
      contexts = sym (ap (λ (p : Option Activation). contexts_with callers cs p made.rest) none);
      framed = record {
        starts = subst (λ (sum : List ℕ). StartWithin sum left.stack.frames) (sym goes.same.total) goes.starts;
        entered =
            subst (λ (fs : List Frame). AreOpen fs (numbers_of left)) (sym frames_are)
            (subst (λ (ms : List FuncId). AreOpen beneath ms) (sym goes.numbers) open_beneath);
      };
      same = goes.same;
    }

  -- where a frame comes
  module _ (p : IsPushed syms e (stack old.stack.frames)) (entry : Entry)
      (entry_is : Some entry ≡ pushed_entry (change syms e (stack old.stack.frames)).pushed)
      (numbered : AreNumbered callers cs (frames_of old) (stack old.stack.frames)) where
    abbrev a : Activation
    a = new_activation syms e p.kind (p.caller ∷ p.under)

    abbrev own : Entry
    own = record { file = at.file; line = at.line; func = next_func syms e }

    entry_own : entry ≡ own
    entry_own = let same : Some entry ≡ Some own = entry_is ∙ ap pushed_entry p.pushed in cc

    some_rest : 0 < length made.rest
    some_rest = subst (λ (s : Stack). 0 < length s) (sym p.rest) (omega arith)

    some_numbers : 0 < length ns
    some_numbers =
        let size = open_many beneath ns open_beneath in
        let all = length-map beneath activation in
        let rest = ap (length {A = Activation}) (stay_stack) in
        omega (arith, size, all, rest, some_rest)
      where
        stay_stack : stack beneath ≡ made.rest
        stay_stack = stacks.kept_stack syms e old.stack.frames

    pub left_live : 0 < length left.numbers.items
    left_live =
        let now = ap (length {A = FuncId}) goes.numbers in
        let reversed = length-reverse left.numbers.items in
        omega (arith, now, reversed, some_numbers)

    pub left_room : length old.numbers.items < vec_capacity old.numbers
        → length left.numbers.items < vec_capacity left.numbers
    left_room room =
        let now = ap (length {A = FuncId}) goes.numbers in
        let size = length-drop k (numbers_of old) in
        let was = length-reverse old.numbers.items in
        let reversed = length-reverse left.numbers.items in
        omega (arith, now, size, was, reversed, room, goes.capacity)

    pub left_arc_room : 1 ≤ old.rows.arc_room → 1 ≤ left.rows.arc_room
    left_arc_room some =
        let none = closings_pushes old.total (take k (frames_of old)) in omega (arith, some, none, goes.told.arc_room)

    pub left_calls : ((key : ArcKey) → call_sum key old.rows.arcs + 1 < 2 ^ 64) → (key : ArcKey)
        → call_sum key left.rows.arcs + 1 < 2 ^ 64
    left_calls calls key =
        let none = closings_calls old.total key (take k (frames_of old)) in
        omega (arith, none, goes.told.calls key, calls key)

    top_there : slice_get cs (first_number (numbers_of left)).0 ≡ Some (context callers made.rest)
    top_there =
        ap (λ (n : FuncId). slice_get cs n.0) (ap first_number goes.numbers ∙ top_is)
        ∙ numbered_top callers cs kept made.rest (numbered_kept callers cs syms e (track_of old) numbered) some_rest

    pub left_known : (first_number (numbers_of left)).0 < length cs
    left_known = within_list cs (first_number (numbers_of left)).0 (context callers made.rest) top_there

    abbrev entered : Context
    entered = context callers (a ∷ made.rest)

    context_is : context_entered callers cs (first_number (numbers_of left)) entry ≡ entered
    context_is =
        let under = read_there cs (first_number (numbers_of left)).0 (context callers made.rest) top_there in
        (λ i. take (callers + 1) ((entry_own i).func.0 ∷ under i))
        ∙ cut_again callers (next_func syms e).0 (map (λ (b : Activation). b.func.0) made.rest)

    is_fresh : frame_new callers cs syms e old ≡ Some (entered_frame at kept (number cs entered))
    is_fresh =
        ap (λ (q : Option Activation). pushed_frame callers cs at kept (record { rest = made.rest; pushed = q })) p.pushed

    module _ (more : List Context) (new : Book) (comes : IsEntered callers entry cs more left new) where
      number_is : comes.number ≡ number cs entered
      number_is = comes.is ∙ ap (number cs) context_is

      stack_is : new.stack.frames ≡ frame_of old.total a ∷ beneath
      stack_is = ap (λ s. s.frames) comes.stack ∙ goes.frames
          ∙ ap (λ (o : Option Activation). with_frame old.total o beneath) p.pushed

      numbers_are : numbers_of new ≡ comes.number ∷ ns
      numbers_are = comes.numbers ∙ ap (λ (ms : List FuncId). comes.number ∷ ms) goes.numbers

      frames_new : frames_of new ≡ with_frame old.total (frame_new callers cs syms e old) kept
      frames_new =
          let by_numbers : frames_of new ≡ record {
            func = comes.number;
            from = Some (entering_arc at (first_number ns) comes.number);
            kind = Jump;
            start = old.total;
          } ∷ numbered_frames beneath ns
          = λ i. numbered_frames (stack_is i) (numbers_are i) in
          by_numbers
          ∙ (λ i. record {
            func = number_is i;
            from = Some (entering_arc at (top_is i) (number_is i));
            kind = Jump;
            start = old.total;
          } ∷ kept_is i)
          ∙ ap (λ (o : Option Activation). with_frame old.total o kept) (sym is_fresh)

      told_new : RowsAfterTellings old.rows (closings_gone syms e old ++ pushing (frame_new callers cs syms e old)) new.rows
      told_new =
          let one : RowsAfterTellings left.rows (Pushed (entering_arc at (top_number kept) (number cs entered)) ∷ []) new.rows
          = subst (λ (key : ArcKey). RowsAfterTellings left.rows (Pushed key ∷ []) new.rows)
          (λ i. entry_arc (entry_own i) ((ap first_number goes.numbers ∙ top_is) i) (number_is i)) comes.told in
          subst (λ (o : Option Activation). RowsAfterTellings old.rows (closings_gone syms e old ++ pushing o) new.rows)
          (sym is_fresh)
          (told_on old.rows left.rows new.rows (closings_gone syms e old)
          (Pushed (entering_arc at (top_number kept) (number cs entered)) ∷ []) goes.told one)

      pub new_changed : IsChanged callers cs more syms e old new
      new_changed = record {
        stacked = ap (λ s. stack s.frames) comes.stack ∙ goes.stacked;
        frames = frames_new;
        told = told_new;
        contexts = comes.contexts ∙ ap (with_context cs) context_is
            ∙ sym (ap (λ (q : Option Activation). contexts_with callers cs q made.rest) p.pushed);
        framed = record {
          starts =
              subst (λ (sum : List ℕ). StartWithin sum new.stack.frames) (sym (comes.same.total ∙ goes.same.total))
              (subst (λ s. StartWithin old.total s.frames) (sym comes.stack) goes.starts);
          entered =
              subst (λ (fs : List Frame). AreOpen fs (numbers_of new)) (sym stack_is)
              (subst (λ (ms : List FuncId). AreOpen (frame_of old.total a ∷ beneath) ms) (sym numbers_are)
              (some_any ns some_numbers, open_beneath));
        };
        same = record {
          alloc = comes.same.alloc ∙ goes.same.alloc;
          thread = comes.same.thread ∙ goes.same.thread;
          total = comes.same.total ∙ goes.same.total;
        };
      }

-- where an event leaves the stack as it is
pub still_changed : (callers : ℕ) (cs : List Context) (syms : SymbolMap) (e : Event) (b : Book) → IsFramed b
    → change syms e (stack b.stack.frames) ≡ no_change (stack b.stack.frames) → IsChanged callers cs cs syms e b b
still_changed callers cs syms e b framed stays =
    left_changed callers cs syms e b b framed (none_left syms e b stays framed.starts)
    (ap (λ (h : Change). h.pushed) stays)

-- whether a frame comes, by what was told
pub comes : (syms : SymbolMap) (e : Event) (fs : List Frame) (entry : Entry) → is_rooted (stack fs) ≡ true
    → Some entry ≡ pushed_entry (change syms e (stack fs)).pushed → IsPushed syms e (stack fs)
comes syms e fs entry rooted is = by (pushes_what syms e (stack fs) rooted)
  where
    by : ((change syms e (stack fs)).pushed ≡ None) ⊎ IsPushed syms e (stack fs) → IsPushed syms e (stack fs)
    by (inl none) = let never : Some entry ≡ None = is ∙ ap pushed_entry none in absurd (cc)
    by (inr p) = p

pub none_comes : (syms : SymbolMap) (e : Event) (fs : List Frame) → is_rooted (stack fs) ≡ true
    → None ≡ pushed_entry (change syms e (stack fs)).pushed → (change syms e (stack fs)).pushed ≡ None
none_comes syms e fs rooted is = by (pushes_what syms e (stack fs) rooted)
  where
    by : ((change syms e (stack fs)).pushed ≡ None) ⊎ IsPushed syms e (stack fs) → (change syms e (stack fs)).pushed ≡ None
    by (inl none) = none
    by (inr p) =
        let never : None ≡ pushed_entry (Some (new_activation syms e p.kind (p.caller ∷ p.under)))
        = is ∙ ap pushed_entry p.pushed in absurd (cc)

-- the context that is entered
pub entered_is : (callers : ℕ) (cs : List Context) (entry : Entry) (top first : FuncId) (under new : Context) → top ≡ first
    → under ≡ context_at cs top → new ≡ take (callers + 1) (entry.func.0 ∷ under)
    → new ≡ context_entered callers cs first entry
entered_is callers cs entry top first under new top_is under_is is =
    is ∙ ap (λ (c : Context). take (callers + 1) (entry.func.0 ∷ c)) (under_is ∙ ap (context_at cs) top_is)
