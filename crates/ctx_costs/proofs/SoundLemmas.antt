-- The contexts of a thread's frames and rows after a step.
use Rattle.std.proofs.Common.{◌≡◌, ◌⊎◌, inl, inr, ℕ, ◌<◌, true, false, ◌||◌, List, [], ◌∷◌}
use Rattle.std.proofs.Common.{◌++◌, Option, None, Some, IfSome, length, refl, sym, ap, subst, ◌∙◌, arith}
use Rattle.std.specs.Option.{option_map_or}
use Rattle.event_costs.specs.Costs.{difference_of_costs, sum_of_costs}
use Rattle.event_costs.specs.Arcs.{Closed}
use Rattle.event_costs.specs.declared.event.Event.{Event}
use Rattle.event_costs.specs.Keys.{ArcKey, Place}
use Rattle.event_costs.specs.declared.numbers.FuncId.{FuncId}
use Rattle.sym_map.specs.SymbolMap.{SymbolMap, place_of}
use Rattle.shadow_stack.specs.Changes.{after, change, new_activation, drop_count, with_pushed}
use Rattle.shadow_stack.specs.Frames.{closing, closings, pushing, with_frame}
use Rattle.shadow_stack.specs.Stacks.{Activation, Stack}
use Rattle.shadow_stack.specs.declared.frame.Frame.{Frame}
use Rattle.arc_costs.specs.Arcs.{has_arc}
use Rattle.arc_costs.specs.Contents.{Contents}
use Rattle.arc_costs.specs.Lines.{has_line, line}
use Rattle.event_costs.specs.Order.{same_arc, same_place}
use Rattle.arc_costs.specs.Rows.{ArcRow}
use Rattle.arc_costs.proofs.LineLemmas.{line_keys}
use Rattle.recorder.specs.Notes.{rows_of_tellings}
use Rattle.recorder.specs.inner.Books.{AreKeyed}
use Rattle.recorder.specs.inner.Tellers.{RowsAfterTellings}
use Rattle.recorder.specs.inner.TellerLaws.{rows_of_tellings-append}
use Rattle.ctx_costs.proofs.Others.{IsPushed, pushes_what, AreKeyed-take, arc_alike, place_alike, numbered_kept}
use Rattle.ctx_costs.proofs.Others.{numbered_more, numbered_top, with_context_more, within_list, number_is}
use Rattle.ctx_costs.proofs.Others.{true_of_or}
use Rattle.contexts.specs.Contexts.{Context, context, number, with_context}
use Rattle.ctx_rows.specs.States.{Track, contexts_after, contexts_with, dropped_track_frames, kept_track_frames, pushed_track_frame, pushed_frame, track_after_event}
use Rattle.ctx_rows.specs.States.{top_number}
use Rattle.ctx_costs.specs.inner.Tracks.{IsSound, IsSummed}
use Rattle.ctx_rows.specs.Tracks.{AreNumbered, IsArcOf, IsNumber}
use Rattle.ctx_costs.proofs.TellingLemmas.{has_arc-append}

true_is_false : true ≡ false → ⊥
true_is_false e = cc

-- contexts only become more
pub more_contexts : (callers : ℕ) (cs : List Context) (p : Option Activation) (s : Stack) (k : ℕ) → k < length cs
    → k < length (contexts_with callers cs p s)
more_contexts callers cs None s k less = less
more_contexts callers cs (Some a) s k less = with_context_more cs (context callers (a ∷ s)) k less

-- frames that are closed give to keys alone
closing_key : (arcs : List ArcRow) (total : List ℕ) (f : Frame) (from : Option ArcKey) (arc : ArcKey)
    → IfSome from (λ key. has_arc key arcs ≡ true)
    → has_arc arc (rows_of_tellings (option_map_or (λ key. Closed key (difference_of_costs total f.start) ∷ []) from []))
    ≡ true
    → (key : ArcKey) × (has_arc key arcs ≡ true) × (same_arc arc key ≡ true)
closing_key arcs total f None arc keyed there = absurd (cc)
closing_key arcs total f (Some key) arc keyed there = (
  key,
  keyed,
  elim (true_of_or (same_arc arc key) false there) as (λ _. same_arc arc key ≡ true) [
    | inl is ↦ is
    | inr never ↦ absurd (cc)
  ],
)

pub closings_key : (arcs : List ArcRow) (total : List ℕ) (fs : List Frame) (arc : ArcKey) → AreKeyed arcs fs
    → has_arc arc (rows_of_tellings (closings total fs)) ≡ true
    → (key : ArcKey) × (has_arc key arcs ≡ true) × (same_arc arc key ≡ true)
closings_key arcs total [] arc keyed there = absurd (cc)
closings_key arcs total (f ∷ fs) arc keyed there =
    elim (true_of_or (has_arc arc (rows_of_tellings (closing total f))) (has_arc arc (rows_of_tellings (closings total fs)))
    (sym (ap (has_arc arc) (rows_of_tellings-append (closing total f) (closings total fs))
    ∙ has_arc-append arc (rows_of_tellings (closing total f)) (rows_of_tellings (closings total fs))) ∙ there))
    as (λ _. (key : ArcKey) × (has_arc key arcs ≡ true) × (same_arc arc key ≡ true)) [
      | inl here ↦ closing_key arcs total f f.from arc keyed.0 here
      | inr later ↦ closings_key arcs total fs arc keyed.1 later
    ]

pub same_ends : (count : ℕ) (a b : ArcKey) → same_arc a b ≡ true → IsArcOf count b → IsArcOf count a
same_ends count a b is of = subst (IsArcOf count) (sym (arc_alike a b is)) of

module _ (callers : ℕ) (cs : List Context) (syms : SymbolMap) (e : Event) (cost : List ℕ) (t : Track)
    (old new : Contents)
    (sound : IsSound callers cs t) (live : 0 < length t.stack)
    (was : t.arcs ≡ old.arcs) (now : (track_after_event callers cs syms e cost t).arcs ≡ new.arcs)
    (told : RowsAfterTellings old (closings (sum_of_costs t.total cost) (dropped_track_frames syms e t)
    ++ pushing (pushed_track_frame callers cs syms e t)) new) (sums : IsSummed (track_after_event callers cs syms e cost t)) where
  abbrev u : Track
  u = track_after_event callers cs syms e cost t

  abbrev total : List ℕ
  total = sum_of_costs t.total cost

  abbrev fresh : Option Activation
  fresh = pushed_track_frame callers cs syms e t

  kept_numbered : AreNumbered callers cs (kept_track_frames syms e t) (change syms e t.stack).rest
  kept_numbered = numbered_kept callers cs syms e t sound.numbered

  -- the contexts of frames
  numbered_with : (p : Option Activation) → (change syms e t.stack).pushed ≡ p
      → AreNumbered callers (contexts_with callers cs p (change syms e t.stack).rest)
      (with_frame total (pushed_frame callers cs (place_of syms e.done.pc) (kept_track_frames syms e t)
      (record { rest = (change syms e t.stack).rest; pushed = p })) (kept_track_frames syms e t))
      (with_pushed p (change syms e t.stack).rest)
  numbered_with None none = kept_numbered
  numbered_with (Some a) some = (
    number_is cs (context callers (a ∷ (change syms e t.stack).rest)),
    numbered_more callers cs (context callers (a ∷ (change syms e t.stack).rest)) (kept_track_frames syms e t)
        (change syms e t.stack).rest kept_numbered,
  )

  numbered_after : AreNumbered callers (contexts_after callers cs (change syms e t.stack))
      (with_frame total fresh (kept_track_frames syms e t)) (after syms t.stack e)
  numbered_after = numbered_with (change syms e t.stack).pushed refl

  -- the numbers of rows
  top_there : (top_number t.frames).0 < length cs
  top_there = within_list cs (top_number t.frames).0 (context callers t.stack)
      (numbered_top callers cs t.frames t.stack sound.numbered live)

  later : (number : FuncId) → IsNumber (length cs) number
      → IsNumber (length (contexts_after callers cs (change syms e t.stack))) number
  later number less = more_contexts callers cs (change syms e t.stack).pushed (change syms e t.stack).rest number.0 less

  lines_after : (place : Place) → has_line place u.lines ≡ true
      → IsNumber (length (contexts_after callers cs (change syms e t.stack))) place.func
  lines_after place there =
      let at : Place = record {
        func = top_number t.frames;
        file = (place_of syms e.done.pc).file;
        line = (place_of syms e.done.pc).line;
      } in
      later place.func
      (elim (true_of_or (same_place place at) (has_line place t.lines)
      (sym (line_keys t.lines (line at cost) place) ∙ there)) as (λ _. IsNumber (length cs) place.func) [
        | inl same ↦ subst (λ (p : Place). IsNumber (length cs) p.func) (sym (place_alike place at same)) top_there
        | inr before ↦ sound.lines place before
      ])

  -- the number of the frame that comes, and that of the one beneath
  number_in : (p : Option Activation) → (change syms e t.stack).pushed ≡ p → (a : Activation) → p ≡ Some a
      → IsNumber (length (contexts_with callers cs p (change syms e t.stack).rest))
      (number cs (context callers (a ∷ (change syms e t.stack).rest)))
  number_in None pushed_ a some = absurd (cc)
  number_in (Some b) pushed_ a some =
      let same : b ≡ a = cc in
      subst (λ (d : Activation). IsNumber (length (contexts_with callers cs (Some b) (change syms e t.stack).rest))
      (number cs (context callers (d ∷ (change syms e t.stack).rest)))) same
      (within_list (with_context cs (context callers (b ∷ (change syms e t.stack).rest)))
      (number cs (context callers (b ∷ (change syms e t.stack).rest))).0
      (context callers (b ∷ (change syms e t.stack).rest))
      (number_is cs (context callers (b ∷ (change syms e t.stack).rest))))

  beneath_in : 0 < length (change syms e t.stack).rest → IsNumber (length cs) (top_number (kept_track_frames syms e t))
  beneath_in some =
      within_list cs (top_number (kept_track_frames syms e t)).0 (context callers (change syms e t.stack).rest)
      (numbered_top callers cs (kept_track_frames syms e t) (change syms e t.stack).rest kept_numbered some)

  abbrev count : ℕ
  count = length (contexts_after callers cs (change syms e t.stack))

  from_told : (arc : ArcKey) → has_arc arc (rows_of_tellings (pushing fresh)) ≡ true → IsArcOf count arc
  from_told arc there = by (pushes_what syms e t.stack (sound.sums.rooted live))
    where
      by : ((change syms e t.stack).pushed ≡ None) ⊎ IsPushed syms e t.stack → IsArcOf count arc
      by (inl none) =
          absurd (true_is_false (sym there
          ∙ ap (λ (p : Option Activation). has_arc arc (rows_of_tellings (pushing (pushed_frame callers cs
          (place_of syms e.done.pc) (kept_track_frames syms e t) (record { rest = (change syms e t.stack).rest; pushed = p })))))
          none))
      by (inr p) =
          let a : Activation = new_activation syms e p.kind (p.caller ∷ p.under) in
          let callee = number cs (context callers (a ∷ (change syms e t.stack).rest)) in
          let key : ArcKey = record {
            caller = top_number (kept_track_frames syms e t);
            file = (place_of syms e.done.pc).file;
            line = (place_of syms e.done.pc).line;
            callee = callee;
          } in
          let one : has_arc arc (rows_of_tellings (pushing fresh)) ≡ same_arc arc key || false
          = ap (λ (p : Option Activation). has_arc arc (rows_of_tellings (pushing (pushed_frame callers cs
          (place_of syms e.done.pc) (kept_track_frames syms e t) (record { rest = (change syms e t.stack).rest; pushed = p })))))
          p.pushed in
          let some : 0 < length (change syms e t.stack).rest
          = subst (λ (s : Stack). 0 < length s) (sym p.rest) (omega arith) in
          same_ends count arc key
          (elim (true_of_or (same_arc arc key) false (sym one ∙ there)) as (λ _. same_arc arc key ≡ true) [
            | inl same ↦ same
            | inr never ↦ absurd (true_is_false (sym never))
          ]) (
            later (top_number (kept_track_frames syms e t)) (beneath_in some),
            number_in (change syms e t.stack).pushed refl a p.pushed,
          )

  from_closed : (arc : ArcKey) → has_arc arc (rows_of_tellings (closings total (dropped_track_frames syms e t))) ≡ true
      → IsArcOf (length cs) arc
  from_closed arc there =
      let k =
      closings_key t.arcs total (dropped_track_frames syms e t) arc
      (AreKeyed-take t.arcs (drop_count syms e t.stack) t.frames sound.sums.keyed)
      there in
      same_ends (length cs) arc k.0 k.2 (sound.arcs k.0 k.1)

  grown : (arc : ArcKey) → IsArcOf (length cs) arc → IsArcOf count arc
  grown arc of = (later arc.caller of.0, later arc.callee of.1)

  arcs_after : (arc : ArcKey) → has_arc arc u.arcs ≡ true → IsArcOf count arc
  arcs_after arc there =
      elim (true_of_or (has_arc arc old.arcs)
      (has_arc arc (rows_of_tellings (closings total (dropped_track_frames syms e t) ++ pushing fresh)))
      (sym (ap (has_arc arc) now ∙ told.keys arc) ∙ there)) as (λ _. IsArcOf count arc) [
        | inl before ↦ grown arc (sound.arcs arc (ap (has_arc arc) was ∙ before))
        | inr new_one ↦
            elim (true_of_or (has_arc arc (rows_of_tellings (closings total (dropped_track_frames syms e t))))
            (has_arc arc (rows_of_tellings (pushing fresh)))
            (sym (ap (has_arc arc) (rows_of_tellings-append (closings total (dropped_track_frames syms e t)) (pushing fresh))
            ∙ has_arc-append arc (rows_of_tellings (closings total (dropped_track_frames syms e t))) (rows_of_tellings (pushing fresh)))
            ∙ new_one)) as (λ _. IsArcOf count arc) [
              | inl closed ↦ grown arc (from_closed arc closed)
              | inr comes ↦ from_told arc comes
            ]
      ]

  pub sound_after : IsSound callers (contexts_after callers cs (change syms e t.stack))
      (track_after_event callers cs syms e cost t)
  sound_after = record { sums = sums; numbered = numbered_after; lines = lines_after; arcs = arcs_after }
