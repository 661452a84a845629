-- What a thread has counted are the sums of its events, by context.
use Rattle.std.proofs.Common.{◌≡◌, ◌⊎◌, inl, inr, ℕ, zero, suc, ◌+◌, ◌-◌, ◌*◌, ◌<◌, ◌≤◌, true, List, [], ◌∷◌, ◌++◌}
use Rattle.std.proofs.Common.{Option, None, Some, IfSome, get_or, length, map, take}
use Rattle.std.proofs.Common.{drop, refl, ap, sym, subst, ◌∙◌, arith}
use Rattle.std.proofs.Common.{if◌then◌else◌}
use Rattle.std.specs.List.{AllByRecursion, AllZip}
use Rattle.std.specs.Option.{option_map_or}
use Rattle.std.proofs.lemmas.List.{drop-map}
use Rattle.event_costs.specs.Arcs.{Pushed, Closed, Telling}
use Rattle.event_costs.specs.Costs.{IsWhole, difference_of_costs, event_kinds, no_cost, sum_of_costs}
use Rattle.event_costs.specs.declared.event.Event.{Event}
use Rattle.event_costs.specs.Keys.{ArcKey, Place}
use Rattle.event_costs.specs.declared.numbers.ThreadNo.{ThreadNo}
use Rattle.sym_map.specs.SymbolMap.{SymbolMap, place_of}
use Rattle.shadow_stack.specs.Changes.{Change, change, new_activation, drop_count, with_pushed}
use Rattle.shadow_stack.specs.Frames.{StartWithin, closing, closings, pushing, restarted_frames, with_frame}
use Rattle.shadow_stack.specs.Stacks.{Activation, Stack, is_rooted, root}
use Rattle.shadow_stack.specs.Traces.{EventOnStack}
use Rattle.shadow_stack.specs.declared.frame.Frame.{Frame}
use Rattle.shadow_stack.specs.declared.frame.Kind.TheVariants.{Root}
use Rattle.ctx_rows.proofs.Others.{StartWithin-drop, StartWithin-restarted, StartWithin-tail, number_of_sum}
use Rattle.ctx_rows.proofs.Others.{sum_at_none, zero_replicate, StartWithin-take, starts_grown, whole_sum, IsPushed}
use Rattle.ctx_rows.proofs.Others.{pushes_what, arc_alike, place_alike}
use Rattle.arc_costs.specs.Arcs.{add_arcs, cleared_arcs, cost_of_arc, plus_arc}
use Rattle.arc_costs.specs.Arcs as arcs
use Rattle.arc_costs.specs.Lines.{add_line, cleared_lines, line, plus_line}
use Rattle.arc_costs.specs.Lines as lines
use Rattle.event_costs.specs.Order as order
use Rattle.arc_costs.specs.Rows.{ArcRow, LineRow}
use Rattle.recorder.specs.Notes.{row_of_telling, rows_of_tellings}
use Rattle.recorder.specs.inner.TellerLaws.{rows_of_tellings-append}
use Rattle.recorder.proofs.StandingLemmas.{one_more_sum}
use Rattle.contexts.specs.Contexts.{Context, context, context_at, number, with_context}
use Rattle.ctx_rows.specs.Rows.{arc_of, arc_sum, call_sum, line_sum, place_of as ctx_place_of}
use Rattle.ctx_rows.specs.Sums.{CtxArcKey, CtxPlace, arc_calls, arc_cost, counts_at, ctx_arc, ctx_arc_of, ctx_arcs}
use Rattle.ctx_rows.specs.Sums.{entered_by, is_arc, pushed_arc, same_arc, same_place, self_cost}
use Rattle.ctx_rows.specs.declared.rows.CtxArc.{CtxArc}
use Rattle.ctx_rows.specs.declared.rows.CtxLine.{CtxLine}
use Rattle.contexts.proofs.NumberLemmas.{number_is}
use Rattle.ctx_rows.specs.Telling.{named_arc, named_line}
use Rattle.ctx_rows.specs.States.{Track, first_track, contexts_after, contexts_with, track_after_cut, dropped_track_frames}
use Rattle.ctx_rows.specs.States.{kept_track_frames, pushed_track_frame, pushed_frame, track_after_event, top_number}
use Rattle.ctx_rows.specs.Tracks.{AreNumbered, IsArcOf, IsNumber}
use Rattle.ctx_rows.proofs.FrameLemmas.{kept_stack, numbered_kept, numbered_more, numbered_restarted}
use Rattle.ctx_rows.proofs.FrameLemmas.{numbered_top, read_there}
use Rattle.ctx_rows.proofs.FrameLemmas.{starts_with, within_list}
use Rattle.ctx_rows.proofs.NamedSums as sums
use Rattle.ctx_rows.proofs.NamingLemmas.{IsEnteredOf, arc_numbers_more, arcs_more, at_more}
use Rattle.ctx_rows.proofs.NamingLemmas.{at_number, frame_numbers_more}
use Rattle.ctx_rows.proofs.NamingLemmas.{from_more, from_of, froms_more, line_numbers_more, lines_more, named_key}
use Rattle.ctx_rows.proofs.NamingLemmas.{number_more}
use Rattle.ctx_rows.proofs.OpenSums as opened

-- A thread's rows, by the contexts of their numbers and with its open frames' costs counted in, have the sums of these
-- events.
pub record IsTracked (callers : ℕ) (cs : List Context) (syms : SymbolMap) (since : List EventOnStack) (t : Track) : Type 0 where
  pub whole : IsWhole t.total
  pub starts : StartWithin t.total t.frames
  pub whole_lines : AllByRecursion (λ (r : LineRow). IsWhole r.cost) t.lines
  pub whole_arcs : AllByRecursion (λ (r : ArcRow). IsWhole r.cost) t.arcs
  pub line_numbers : AllByRecursion (λ (r : LineRow). IsNumber (length cs) r.place.func) t.lines
  pub arc_numbers : AllByRecursion (λ (r : ArcRow). IsArcOf (length cs) r.arc) t.arcs
  pub frame_numbers : AllByRecursion (IsEnteredOf (length cs)) t.frames
  pub numbered : AreNumbered callers cs t.frames t.stack
  pub arced : map (from_of cs) t.frames ≡ ctx_arcs callers t.stack
  pub lines : (kind : ℕ) (p : CtxPlace) → line_sum kind p (map (named_line cs) t.lines)
      ≡ self_cost callers syms kind p since
  pub arcs : (kind : ℕ) (k : CtxArcKey)
      → arc_sum kind k (map (named_arc cs) t.arcs) + opened.open_named cs kind t.total k t.frames
      ≡ arc_cost callers kind k since
  pub calls : (k : CtxArcKey) → call_sum k (map (named_arc cs) t.arcs) ≡ arc_calls callers syms k since

-- ---- once more contexts have come up

open_more : (cs : List Context) (c : Context) (kind : ℕ) (total : List ℕ) (k : CtxArcKey) (fs : List Frame)
    → AllByRecursion (IsEnteredOf (length cs)) fs
    → opened.open_named (with_context cs c) kind total k fs ≡ opened.open_named cs kind total k fs
open_more cs c kind total k [] all = refl
open_more cs c kind total k (f ∷ fs) all =
    let left = opened.open-cons (with_context cs c) kind total k f fs in
    let right = opened.open-cons cs kind total k f fs in
    let here = ap (λ (o : Option CtxArcKey). if is_arc k o then get_or total kind 0 - get_or f.start kind 0 else 0)
    (from_more cs c f.from all.0) in
    let rest = open_more cs c kind total k fs all.1 in
    omega (arith, left, right, here, rest)

module _ (callers : ℕ) (cs : List Context) (syms : SymbolMap) (since : List EventOnStack) (t : Track) where
  pub tracked_more : (c : Context) → IsTracked callers cs syms since t
      → IsTracked callers (with_context cs c) syms since t
  tracked_more c old = record {
    whole = old.whole;
    starts = old.starts;
    whole_lines = old.whole_lines;
    whole_arcs = old.whole_arcs;
    line_numbers = line_numbers_more cs c t.lines old.line_numbers;
    arc_numbers = arc_numbers_more cs c t.arcs old.arc_numbers;
    frame_numbers = frame_numbers_more cs c t.frames old.frame_numbers;
    numbered = numbered_more callers cs c t.frames t.stack old.numbered;
    arced = froms_more cs c t.frames old.frame_numbers ∙ old.arced;
    lines = λ kind p. ap (line_sum kind p) (lines_more cs c t.lines old.line_numbers) ∙ old.lines kind p;
    arcs = λ kind k.
        let one = ap (arc_sum kind k) (arcs_more cs c t.arcs old.arc_numbers) in
        let two = open_more cs c kind t.total k t.frames old.frame_numbers in
        omega (arith, one, two, old.arcs kind k);
    calls = λ k. ap (call_sum k) (arcs_more cs c t.arcs old.arc_numbers) ∙ old.calls k;
  }

  pub tracked_with : (p : Option Activation) (s : Stack) → IsTracked callers cs syms since t
      → IsTracked callers (contexts_with callers cs p s) syms since t
  tracked_with None s old = old
  tracked_with (Some a) s old = tracked_more (context callers (a ∷ s)) old

-- ---- frames that go

all_drop : {X : Type 0} (P : X → Type 0) (n : ℕ) (xs : List X) → AllByRecursion P xs → AllByRecursion P (drop n xs)
all_drop P zero xs all = all
all_drop P (suc n) [] all = all
all_drop P (suc n) (x ∷ xs) all = all_drop P n xs all.1

all_take : {X : Type 0} (P : X → Type 0) (n : ℕ) (xs : List X) → AllByRecursion P xs → AllByRecursion P (take n xs)
all_take P zero xs all = tt
all_take P (suc n) [] all = tt
all_take P (suc n) (x ∷ xs) all = (all.0, all_take P n xs all.1)

pub all_append : {X : Type 0} (P : X → Type 0) (xs ys : List X) → AllByRecursion P xs → AllByRecursion P ys
    → AllByRecursion P (xs ++ ys)
all_append P [] ys all more = more
all_append P (x ∷ xs) ys all more = (all.0, all_append P xs ys all.1 more)

drop_arcs : (callers n : ℕ) (s : Stack) → drop n (ctx_arcs callers s) ≡ ctx_arcs callers (drop n s)
drop_arcs callers zero s = refl
drop_arcs callers (suc n) [] = refl
drop_arcs callers (suc n) (a ∷ s) = drop_arcs callers n s

difference_whole : (total start : List ℕ) → AllZip (λ t s. s ≤ t) total start
    → length (difference_of_costs total start) ≡ length total
difference_whole [] [] within = refl
difference_whole [] (y ∷ ys) within = absurd within
difference_whole (x ∷ xs) [] within = absurd within
difference_whole (x ∷ xs) (y ∷ ys) within = ap suc (difference_whole xs ys within.1)

-- what holds of each row that is told of frames that go and of one that comes
module _ (P : ArcRow → Type 0) (total : List ℕ) where
  told_one : (telling : ArcKey → Telling) (from : Option ArcKey) → IfSome from (λ key. P (row_of_telling (telling key)))
      → AllByRecursion P (rows_of_tellings (option_map_or (λ key. telling key ∷ []) from []))
  told_one telling None of = tt
  told_one telling (Some key) of = (of, tt)

  -- the frames have it, as they are told of
  abbrev AreClosed : List Frame → Type 0
  AreClosed fs =
      AllByRecursion (λ (f : Frame). IfSome f.from (λ key. P (cost_of_arc key (difference_of_costs total f.start)))) fs

  told_closings : (fs : List Frame) → AreClosed fs → AllByRecursion P (rows_of_tellings (closings total fs))
  told_closings [] all = tt
  told_closings (f ∷ fs) all =
      subst (AllByRecursion P) (sym (rows_of_tellings-append (closing total f) (closings total fs)))
      (all_append P (rows_of_tellings (closing total f)) (rows_of_tellings (closings total fs))
      (told_one (λ key. Closed key (difference_of_costs total f.start)) f.from all.0) (told_closings fs all.1))

  told : (fs : List Frame) (p : Option Activation) → AreClosed fs
      → IfSome p (λ a. IfSome a.arc (λ key. P (row_of_telling (Pushed key))))
      → AllByRecursion P (rows_of_tellings (closings total fs ++ pushing p))
  told fs p all of =
      subst (AllByRecursion P) (sym (rows_of_tellings-append (closings total fs) (pushing p)))
      (all_append P (rows_of_tellings (closings total fs)) (rows_of_tellings (pushing p)) (told_closings fs all)
      (comes p of))
    where
      comes : (q : Option Activation) → IfSome q (λ a. IfSome a.arc (λ key. P (row_of_telling (Pushed key))))
          → AllByRecursion P (rows_of_tellings (pushing q))
      comes None of_ = tt
      comes (Some a) of_ = told_one Pushed a.arc of_

if_any : {X : Type 0} (P : X → Type 0) (o : Option X) → ((x : X) → P x) → IfSome o P
if_any P None has = tt
if_any P (Some x) has = has x

closed_whole : (total : List ℕ) → IsWhole total → (fs : List Frame) → StartWithin total fs
    → AreClosed (λ (r : ArcRow). IsWhole r.cost) total fs
closed_whole total whole [] all = tt
closed_whole total whole (f ∷ fs) all = (
  if_any (λ (key : ArcKey). IsWhole (difference_of_costs total f.start)) f.from
      (λ key. difference_whole total f.start (all 0 f (omega arith)) ∙ whole),
  closed_whole total whole fs (StartWithin-tail total (f ∷ fs) fs f refl all),
)

entered_with : (count : ℕ) (total : List ℕ) (p : Option Activation) (fs : List Frame)
    → IfSome p (λ a. IfSome a.arc (IsArcOf count)) → AllByRecursion (IsEnteredOf count) fs
    → AllByRecursion (IsEnteredOf count) (with_frame total p fs)
entered_with count total None fs of all = all
entered_with count total (Some a) fs of all = (of, all)

-- ---- a step

module _ (callers : ℕ) (cs : List Context) (syms : SymbolMap) (since : List EventOnStack) (e : Event)
    (cost : List ℕ) (t : Track)
    (old : IsTracked callers cs syms since t) (live : 0 < length t.stack) (rooted : is_rooted t.stack ≡ true)
    (one : IsWhole cost) where
  abbrev made : Change
  made = change syms e t.stack

  abbrev total : List ℕ
  total = sum_of_costs t.total cost

  abbrev at : Place
  at = place_of syms e.done.pc

  abbrev stay : List Frame
  stay = kept_track_frames syms e t

  abbrev x : EventOnStack
  x = record { event = e; cost = cost; stack = t.stack }

  stay_numbered : AreNumbered callers cs stay made.rest
  stay_numbered = numbered_kept callers cs syms e t old.numbered

  stay_entered : AllByRecursion (IsEnteredOf (length cs)) stay
  stay_entered = all_drop (IsEnteredOf (length cs)) (drop_count syms e t.stack) t.frames old.frame_numbers

  stay_arced : map (from_of cs) stay ≡ ctx_arcs callers made.rest
  stay_arced =
      sym (drop-map (from_of cs) (drop_count syms e t.stack) t.frames) ∙ ap (drop (drop_count syms e t.stack)) old.arced
      ∙ drop_arcs callers (drop_count syms e t.stack) t.stack ∙ ap (ctx_arcs callers) (kept_stack syms e t.stack)

  -- what may be pushed, the contexts with it, and its frame
  abbrev contexts_of : Option Activation → List Context
  contexts_of p = contexts_with callers cs p made.rest

  abbrev frame_for : Option Activation → Option Activation
  frame_for p = pushed_frame callers cs at stay (record { rest = made.rest; pushed = p })

  record Comes (p : Option Activation) : Type 0 where
    arc : opened.arc_named (contexts_of p) (frame_for p) ≡ ctx_arc_of callers p made.rest
    range : IfSome (frame_for p) (λ a. IfSome a.arc (IsArcOf (length (contexts_of p))))
    numbered : AreNumbered callers (contexts_of p) (with_frame total (frame_for p) stay) (with_pushed p made.rest)
    froms : map (from_of (contexts_of p)) (with_frame total (frame_for p) stay)
        ≡ ctx_arcs callers (with_pushed p made.rest)

  comes_none : Comes None
  comes_none = record { arc = refl; range = tt; numbered = stay_numbered; froms = stay_arced }

  module _ (p : IsPushed syms e t.stack) where
    abbrev a : Activation
    a = new_activation syms e p.kind (p.caller ∷ p.under)

    abbrev c : Context
    c = context callers (a ∷ made.rest)

    some_stay : 0 < length made.rest
    some_stay = subst (λ (s : Stack). 0 < length s) (sym p.rest) (omega arith)

    beneath : (top_number stay).0 < length cs
    beneath =
        within_list cs (top_number stay).0 (context callers made.rest)
        (numbered_top callers cs stay made.rest stay_numbered some_stay)

    beneath_is : context_at cs (top_number stay) ≡ context callers made.rest
    beneath_is =
        read_there cs (top_number stay).0 (context callers made.rest)
        (numbered_top callers cs stay made.rest stay_numbered some_stay)

    new_in : (number cs c).0 < length (with_context cs c)
    new_in = within_list (with_context cs c) (number cs c).0 c (number_is cs c)

    arc_is : opened.arc_named (with_context cs c) (frame_for (Some a)) ≡ ctx_arc callers a made.rest
    arc_is =
        let under = at_more cs c (top_number stay) beneath ∙ beneath_is in
        let top = at_number cs c in
        λ i. Some (record { caller = under i; file = at.file; line = at.line; callee = top i })

    comes_some : Comes (Some a)
    comes_some = record {
      arc = arc_is;
      range = (number_more cs c (top_number stay) beneath, new_in);
      numbered = (number_is cs c, numbered_more callers cs c stay made.rest stay_numbered);
      froms = λ i. arc_is i ∷ (froms_more cs c stay stay_entered ∙ stay_arced) i;
    }

  comes : Comes made.pushed
  comes = by (pushes_what syms e t.stack rooted)
    where
      by : (made.pushed ≡ None) ⊎ IsPushed syms e t.stack → Comes made.pushed
      by (inl none) = subst Comes (sym none) comes_none
      by (inr p) = subst Comes (sym p.pushed) (comes_some p)

  -- the contexts after the step, and the thread before it by them
  abbrev ds : List Context
  ds = contexts_after callers cs made

  abbrev fresh : Option Activation
  fresh = pushed_track_frame callers cs syms e t

  before : IsTracked callers ds syms since t
  before = tracked_with callers cs syms since t made.pushed made.rest old

  abbrev goes : List Frame
  goes = dropped_track_frames syms e t

  abbrev news : List ArcRow
  news = rows_of_tellings (closings total goes ++ pushing fresh)

  starts_now : StartWithin total t.frames
  starts_now = starts_grown t.total cost t.frames old.whole one old.starts

  goes_start : StartWithin total goes
  goes_start = StartWithin-take total (drop_count syms e t.stack) t.frames starts_now

  whole_now : IsWhole total
  whole_now = whole_sum t.total cost old.whole one

  news_whole : AllByRecursion (λ (r : ArcRow). IsWhole r.cost) news
  news_whole =
      told (λ (r : ArcRow). IsWhole r.cost) total goes fresh (closed_whole total whole_now goes goes_start)
      (if_any (λ (a : Activation). IfSome a.arc (λ key. IsWhole no_cost)) fresh
      (λ a. if_any (λ (key : ArcKey). IsWhole no_cost) a.arc (λ key. refl)))

  news_numbers : AllByRecursion (λ (r : ArcRow). IsArcOf (length ds) r.arc) news
  news_numbers =
      told (λ (r : ArcRow). IsArcOf (length ds) r.arc) total goes fresh
      (all_take (IsEnteredOf (length ds)) (drop_count syms e t.stack) t.frames before.frame_numbers) comes.range

  -- where the event counts
  abbrev counted : Place
  counted = record { func = top_number t.frames; file = at.file; line = at.line }

  top_in : (top_number t.frames).0 < length ds
  top_in =
      within_list ds (top_number t.frames).0 (context callers t.stack)
      (numbered_top callers ds t.frames t.stack before.numbered live)

  counted_at : ctx_place_of (named_line ds (line counted cost)) ≡ counts_at callers syms x
  counted_at =
      let top = read_there ds (top_number t.frames).0 (context callers t.stack)
      (numbered_top callers ds t.frames t.stack before.numbered live) in
      λ i. record { ctx = top i; file = at.file; line = at.line }

  lines_now : (kind : ℕ) (p : CtxPlace) → line_sum kind p (map (named_line ds) (add_line t.lines (line counted cost)))
      ≡ self_cost callers syms kind p (since ++ x ∷ [])
  lines_now kind p =
      let added =
      sums.named_add lines.place_of order.same_place place_alike (named_line ds) ctx_place_of same_place
      (λ (q : Place). record { ctx = context_at ds q.func; file = q.file; line = q.line }) (λ r. refl) plus_line
      (λ r q. refl) (λ (r : LineRow). IsWhole r.cost) (λ (d : CtxLine). get_or d.cost kind 0)
      (λ r q one_ two. number_of_sum r.cost q.cost kind (one_ ∙ sym two)) t.lines (line counted cost) p
      before.whole_lines one in
      let more = one_more_sum (λ (y : EventOnStack). if same_place p (counts_at callers syms y)
      then get_or y.cost kind 0 else 0)
      since x in
      let here = ap (λ (q : CtxPlace). if same_place p q then get_or cost kind 0 else 0) counted_at in
      omega (arith, added, more, here, before.lines kind p)

  -- the arcs' sums once the rows that are told are added
  added_costs : (kind : ℕ) (k : CtxArcKey) → arc_sum kind k (map (named_arc ds) (add_arcs t.arcs news))
      ≡ arc_sum kind k (map (named_arc ds) t.arcs) + arc_sum kind k (map (named_arc ds) news)
  added_costs kind k =
      sums.named_adds arcs.arc_of order.same_arc arc_alike (named_arc ds) arc_of same_arc (named_key ds) (λ r. refl)
      plus_arc (λ r q. refl) (λ (r : ArcRow). IsWhole r.cost) (λ (d : CtxArc). get_or d.cost kind 0)
      (λ r q one_ two. number_of_sum r.cost q.cost kind (one_ ∙ sym two))
      (λ r q one_ two. whole_sum r.cost q.cost one_ two) news t.arcs k before.whole_arcs news_whole

  added_calls : (k : CtxArcKey) → call_sum k (map (named_arc ds) (add_arcs t.arcs news))
      ≡ call_sum k (map (named_arc ds) t.arcs) + call_sum k (map (named_arc ds) news)
  added_calls k =
      sums.named_adds arcs.arc_of order.same_arc arc_alike (named_arc ds) arc_of same_arc (named_key ds) (λ r. refl)
      plus_arc (λ r q. refl) (λ (r : ArcRow). IsWhole r.cost) (λ (d : CtxArc). d.calls) (λ r q one_ two. refl)
      (λ r q one_ two. whole_sum r.cost q.cost one_ two) news t.arcs k before.whole_arcs news_whole

  arcs_now : (kind : ℕ) (k : CtxArcKey) → arc_sum kind k (map (named_arc ds) (add_arcs t.arcs news))
      + opened.open_named ds kind total k (with_frame total fresh stay) ≡ arc_cost callers kind k (since ++ x ∷ [])
  arcs_now kind k =
      let parts = opened.named_costs-append ds kind k (closings total goes) (pushing fresh) in
      let closed = opened.closings_costs ds kind total k goes goes_start in
      let none = opened.pushing_costs ds kind k fresh in
      let with_new = opened.open-fresh ds kind total k fresh stay in
      let split = opened.open-split ds kind total k (drop_count syms e t.stack) t.frames in
      let grown = opened.open-grown ds kind t.total cost k t.frames old.whole one old.starts in
      let under : get_or cost kind 0 * opened.entered ds k t.frames ≡ get_or cost kind 0 * entered_by callers k t.stack
      = ap (λ n. get_or cost kind 0 * n) (opened.entered_is ds callers k t.frames t.stack before.arced) in
      let more = one_more_sum (λ (y : EventOnStack). get_or y.cost kind 0 * entered_by callers k y.stack) since x in
      omega (arith, added_costs kind k, parts, closed, none, with_new, split, grown, under, more, before.arcs kind k)

  calls_now : (k : CtxArcKey) → call_sum k (map (named_arc ds) (add_arcs t.arcs news))
      ≡ arc_calls callers syms k (since ++ x ∷ [])
  calls_now k =
      let parts = opened.named_calls-append ds k (closings total goes) (pushing fresh) in
      let none = opened.closings_calls ds total k goes in
      let comes_one = opened.pushing_calls ds k fresh in
      let same : ◌≡◌ {A = ℕ} (if is_arc k (opened.arc_named ds fresh) then 1 else 0)
      (if is_arc k (pushed_arc callers made) then 1 else 0)
      = ap (λ (o : Option CtxArcKey). if is_arc k o then 1 else 0) comes.arc in
      let more =
      one_more_sum (λ (y : EventOnStack). if is_arc k (pushed_arc callers (change syms y.event y.stack)) then 1
      else 0) since x in
      omega (arith, added_calls k, parts, none, comes_one, same, more, before.calls k)

  pub tracked_seen : IsTracked callers ds syms (since ++ x ∷ []) (track_after_event callers cs syms e cost t)
  tracked_seen = record {
    whole = whole_now;
    starts = starts_with total fresh stay (StartWithin-drop total (drop_count syms e t.stack) t.frames starts_now);
    whole_lines =
        sums.all_add lines.place_of order.same_place plus_line (λ (r : LineRow). IsWhole r.cost)
        (λ r q one_ two. whole_sum r.cost q.cost one_ two) t.lines (line counted cost) old.whole_lines one;
    whole_arcs =
        sums.all_adds arcs.arc_of order.same_arc plus_arc (λ (r : ArcRow). IsWhole r.cost)
        (λ r q one_ two. whole_sum r.cost q.cost one_ two) news t.arcs old.whole_arcs news_whole;
    line_numbers =
        sums.all_add lines.place_of order.same_place plus_line (λ (r : LineRow). IsNumber (length ds) r.place.func)
        (λ r q one_ two. one_) t.lines (line counted cost) before.line_numbers top_in;
    arc_numbers =
        sums.all_adds arcs.arc_of order.same_arc plus_arc (λ (r : ArcRow). IsArcOf (length ds) r.arc)
        (λ r q one_ two. one_) news t.arcs before.arc_numbers news_numbers;
    frame_numbers =
        entered_with (length ds) total fresh stay comes.range
        (all_drop (IsEnteredOf (length ds)) (drop_count syms e t.stack) t.frames before.frame_numbers);
    numbered = comes.numbered;
    arced = comes.froms;
    lines = lines_now;
    arcs = arcs_now;
    calls = calls_now;
  }

-- ---- a thread that begins

no_starts : (total : List ℕ) → StartWithin total []
no_starts total k d less = absurd (omega (arith, less))

pub tracked_begun : (callers : ℕ) (cs : List Context) (syms : SymbolMap) (thread : ThreadNo) (pc : ℕ)
    → IsTracked callers (with_context cs (context callers (root syms pc))) syms []
    (first_track thread (place_of syms pc).func (number cs (context callers (root syms pc))))
tracked_begun callers cs syms thread pc = record {
  whole = refl;
  starts = starts_with no_cost
      (Some (record { func = number cs (context callers (root syms pc)); kind = Root; arc = None }))
      [] (no_starts no_cost);
  whole_lines = tt;
  whole_arcs = tt;
  line_numbers = tt;
  arc_numbers = tt;
  frame_numbers = (tt, tt);
  numbered = (number_is cs (context callers (root syms pc)), tt);
  arced = refl;
  lines = λ kind p. refl;
  arcs = λ kind k. refl;
  calls = λ k. refl;
}

-- ---- a cut

-- what holds of each by what held of what it is made of
each : {X Y : Type 0} (P : X → Type 0) (Q : Y → Type 0) (f : X → Y) → ((x : X) → P x → Q (f x)) → (xs : List X)
    → AllByRecursion P xs → AllByRecursion Q (map f xs)
each P Q f has [] all = tt
each P Q f has (x ∷ xs) all = (has x all.0, each P Q f has xs all.1)

restarted_froms : (cs : List Context) (total : List ℕ) (fs : List Frame)
    → map (from_of cs) (restarted_frames total fs) ≡ map (from_of cs) fs
restarted_froms cs total [] = refl
restarted_froms cs total (f ∷ fs) = ap (λ (os : List (Option CtxArcKey)). from_of cs f ∷ os)
    (restarted_froms cs total fs)

cleared_line_sum : (cs : List Context) (kind : ℕ) (p : CtxPlace) (rs : List LineRow)
    → line_sum kind p (map (named_line cs) (cleared_lines rs)) ≡ 0
cleared_line_sum cs kind p rs =
    sum_at_none ctx_place_of same_place (λ (r : CtxLine). get_or r.cost kind 0) p
    (map (named_line cs) (cleared_lines rs))
    (none rs)
  where
    none : (qs : List LineRow) → AllByRecursion (λ (r : CtxLine). get_or r.cost kind 0 ≡ 0)
        (map (named_line cs) (cleared_lines qs))
    none [] = tt
    none (q ∷ qs) = (zero_replicate event_kinds kind, none qs)

cleared_arc_sum : (cs : List Context) (kind : ℕ) (k : CtxArcKey) (rs : List ArcRow)
    → arc_sum kind k (map (named_arc cs) (cleared_arcs rs)) ≡ 0
cleared_arc_sum cs kind k rs =
    sum_at_none arc_of same_arc (λ (r : CtxArc). get_or r.cost kind 0) k (map (named_arc cs) (cleared_arcs rs))
    (none rs)
  where
    none : (qs : List ArcRow) → AllByRecursion (λ (r : CtxArc). get_or r.cost kind 0 ≡ 0)
        (map (named_arc cs) (cleared_arcs qs))
    none [] = tt
    none (q ∷ qs) = (zero_replicate event_kinds kind, none qs)

cleared_call_sum : (cs : List Context) (k : CtxArcKey) (rs : List ArcRow)
    → call_sum k (map (named_arc cs) (cleared_arcs rs)) ≡ 0
cleared_call_sum cs k rs =
    sum_at_none arc_of same_arc (λ (r : CtxArc). r.calls) k (map (named_arc cs) (cleared_arcs rs)) (none rs)
  where
    none : (qs : List ArcRow) → AllByRecursion (λ (r : CtxArc). r.calls ≡ 0) (map (named_arc cs) (cleared_arcs qs))
    none [] = tt
    none (q ∷ qs) = (refl, none qs)

pub tracked_cut : (callers : ℕ) (cs : List Context) (syms : SymbolMap) (since : List EventOnStack) (t : Track)
    → IsTracked callers cs syms since t → IsTracked callers cs syms [] (track_after_cut t)
tracked_cut callers cs syms since t old = record {
  whole = old.whole;
  starts = StartWithin-restarted t.total t.frames;
  whole_lines = each (λ (r : LineRow). IsWhole r.cost) (λ (r : LineRow). IsWhole r.cost)
      (λ (r : LineRow). line r.place no_cost) (λ r is. refl) t.lines old.whole_lines;
  whole_arcs = each (λ (r : ArcRow). IsWhole r.cost) (λ (r : ArcRow). IsWhole r.cost)
      (λ (r : ArcRow). cost_of_arc r.arc no_cost) (λ r is. refl) t.arcs old.whole_arcs;
  line_numbers = each (λ (r : LineRow). IsNumber (length cs) r.place.func)
      (λ (r : LineRow). IsNumber (length cs) r.place.func) (λ (r : LineRow). line r.place no_cost) (λ r is. is)
      t.lines old.line_numbers;
  arc_numbers = each (λ (r : ArcRow). IsArcOf (length cs) r.arc) (λ (r : ArcRow). IsArcOf (length cs) r.arc)
      (λ (r : ArcRow). cost_of_arc r.arc no_cost) (λ r is. is) t.arcs old.arc_numbers;
  frame_numbers = each (IsEnteredOf (length cs)) (IsEnteredOf (length cs))
      (λ (f : Frame). record f { start = t.total }) (λ f is. is) t.frames old.frame_numbers;
  numbered = numbered_restarted callers cs t.total t.frames t.stack old.numbered;
  arced = restarted_froms cs t.total t.frames ∙ old.arced;
  lines = λ kind p. cleared_line_sum cs kind p t.lines;
  arcs = λ kind k.
      let none = cleared_arc_sum cs kind k t.arcs in
      let also = opened.open-restarted cs kind t.total k t.frames in
      omega (arith, none, also);
  calls = λ k. cleared_call_sum cs k t.arcs;
}
