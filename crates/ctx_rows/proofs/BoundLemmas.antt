-- Sums are at most steps times frames.
use Rattle.std.proofs.Common.{◌≡◌, ℕ, zero, suc, ◌+◌, ◌-◌, ◌*◌, ◌<◌, ◌≤◌, ◌^◌, Bool, true, false, List, []}
use Rattle.std.proofs.Common.{◌∷◌, ◌++◌, length, get_or, Option, Some, None, refl, ap, ◌∙◌, arith, if◌then◌else◌}
use Rattle.std.proofs.lemmas.List.{length-map}
use Rattle.std.proofs.lemmas.List.Sums.{count_by-le-length, sum_by-cons}
use Rattle.std.specs.Option.{option_map_or}
use Rattle.event_costs.specs.Arcs.{Closed}
use Rattle.event_costs.specs.Costs.{difference_of_costs, event_kinds, no_cost, sum_of_costs}
use Rattle.event_costs.specs.declared.event.Event.{Event}
use Rattle.event_costs.specs.Keys.{ArcKey, Place}
use Rattle.event_costs.specs.declared.numbers.FuncId.{FuncId}
use Rattle.event_costs.specs.declared.numbers.ThreadNo.{ThreadNo}
use Rattle.sym_map.specs.SymbolMap.{SymbolMap, place_of}
use Rattle.shadow_stack.specs.Changes.{drop_count}
use Rattle.shadow_stack.specs.Frames.{activation, closing, closings, pushing, stack}
use Rattle.shadow_stack.specs.Stacks.{Activation}
use Rattle.shadow_stack.specs.declared.frame.Frame.{Frame}
use Rattle.arc_costs.specs.Arcs.{add_arcs, arc_of, arc_sum, call_sum, cost_of_arc, plus_arc}
use Rattle.arc_costs.specs.Lines.{add_line, line, line_sum, plus_line, place_of as row_place}
use Rattle.event_costs.specs.Order.{same_arc, same_place}
use Rattle.arc_costs.specs.Rows as rows
use Rattle.arc_costs.specs.Rows.{ArcRow, LineRow}
use Rattle.ctx_rows.proofs.Others.{sum_at_one, zero_replicate, open_sum-below, sum_below, pushes_one, arc_alike}
use Rattle.ctx_rows.proofs.Others.{place_alike}
use Rattle.recorder.specs.Bounds.{IsUnit, SumsWithin}
use Rattle.recorder.specs.Notes.{open_sum, rows_of_tellings}
use Rattle.recorder.specs.Sums.{entered_by, is_arc}
use Rattle.recorder.specs.inner.TellerLaws.{telling_calls-append, telling_costs-append}
use Rattle.recorder.proofs.SumLemmas.{closings_calls, open_sum-cons, open_sum-split, open_sum-with, pushing_calls, pushing_costs}
use Rattle.contexts.specs.Contexts.{Context}
use Rattle.ctx_rows.specs.Telling.{CanCount}
use Rattle.ctx_rows.specs.States.{Track, first_track, dropped_track_frames, kept_track_frames, pushed_track_frame, track_after_event, top_number}
use Rattle.ctx_rows.specs.Tracks.{account_of}

-- ---- a row more

module _ {R K : Type 0} (key : R → K) (same : K → K → Bool) (alike : (a b : K) → same a b ≡ true → a ≡ b)
    (number : R → ℕ) (plus : R → R → R) (plus_key : (r q : R) → key (plus r q) ≡ key r)
    (plus_number : (r q : R) → number (plus r q) ≤ number r + number q) where
  abbrev share : K → R → ℕ
  share k r = if same k (key r) then number r else 0

  plus_share : (k : K) (r q : R) → key q ≡ key r → share k (plus r q) ≤ share k r + share k q
  plus_share k r q is = by (same k (key r)) refl
    where
      by : (b : Bool) → same k (key r) ≡ b → share k (plus r q) ≤ share k r + share k q
      by true there =
          let one = ap (λ c. if c then number (plus r q) else 0) (ap (same k) (plus_key r q) ∙ there) in
          let two = ap (λ c. if c then number r else 0) there in
          let three = ap (λ c. if c then number q else 0) (ap (same k) is ∙ there) in
          omega (arith, one, two, three, plus_number r q)
      by false none =
          let one = ap (λ c. if c then number (plus r q) else 0) (ap (same k) (plus_key r q) ∙ none) in
          omega (arith, one)

  pub sum_add : (rs : List R) (new : R) (k : K)
      → rows.sum_at key same number k (rows.add_row key same plus rs new)
      ≤ rows.sum_at key same number k rs + share k new
  sum_add [] new k = let one = sum_by-cons (share k) new [] in omega (arith, one)
  sum_add (r ∷ rs) new k = by (same (key new) (key r)) refl (sum_add rs new k)
    where
      was : rows.sum_at key same number k (r ∷ rs) ≡ share k r + rows.sum_at key same number k rs
      was = sum_by-cons (share k) r rs

      by : (b : Bool) → same (key new) (key r) ≡ b
          → rows.sum_at key same number k (rows.add_row key same plus rs new)
          ≤ rows.sum_at key same number k rs + share k new
          → rows.sum_at key same number k (rows.add_row key same plus (r ∷ rs) new)
          ≤ rows.sum_at key same number k (r ∷ rs) + share k new
      by true is rest =
          let now = ap (λ c. rows.sum_at key same number k (if c then plus r new ∷ rs
          else r ∷ rows.add_row key same plus rs new))
          is in
          let all = sum_by-cons (share k) (plus r new) rs in
          let here = plus_share k r new (alike (key new) (key r) is) in
          omega (arith, now, all, here, was)
      by false is rest =
          let now = ap (λ c. rows.sum_at key same number k (if c then plus r new ∷ rs
          else r ∷ rows.add_row key same plus rs new))
          is in
          let all = sum_by-cons (share k) r (rows.add_row key same plus rs new) in
          omega (arith, now, all, rest, was)

  pub sum_adds : (news rs : List R) (k : K)
      → rows.sum_at key same number k (rows.add_rows key same plus rs news)
      ≤ rows.sum_at key same number k rs + rows.sum_at key same number k news
  sum_adds [] rs k = omega arith
  sum_adds (new ∷ news) rs k =
      let rest = sum_adds news (rows.add_row key same plus rs new) k in
      let one = sum_add rs new k in
      let all = sum_by-cons (share k) new news in
      omega (arith, rest, one, all)

pub line_added : (lines : List LineRow) (place : Place) (cost : List ℕ) (kind : ℕ) (other : Place)
    → line_sum kind other (add_line lines (line place cost)) ≤ line_sum kind other lines + get_or cost kind 0
line_added lines place cost kind other =
    let all =
    sum_add row_place same_place place_alike (λ (r : LineRow). get_or r.cost kind 0) plus_line (λ r q. refl)
    (λ r q. sum_below r.cost q.cost kind) lines (line place cost) other in
    let most = at_most (same_place other place) (get_or cost kind 0) in
    omega (arith, all, most)
  where
    at_most : (b : Bool) (n : ℕ) → (if b then n else 0) ≤ n
    at_most true n = omega arith
    at_most false n = omega arith

pub arcs_added : (arcs news : List ArcRow) (kind : ℕ) (arc : ArcKey)
    → arc_sum kind arc (add_arcs arcs news) ≤ arc_sum kind arc arcs + arc_sum kind arc news
arcs_added arcs news kind arc =
    sum_adds arc_of same_arc arc_alike (λ (r : ArcRow). get_or r.cost kind 0) plus_arc (λ r q. refl)
    (λ r q. sum_below r.cost q.cost kind) news arcs arc

pub calls_added : (arcs news : List ArcRow) (arc : ArcKey)
    → call_sum arc (add_arcs arcs news) ≤ call_sum arc arcs + call_sum arc news
calls_added arcs news arc =
    sum_adds arc_of same_arc arc_alike (λ (r : ArcRow). r.calls) plus_arc (λ r q. refl)
    (λ r q. omega arith) news arcs arc

-- ---- open frames

difference_below : (xs ys : List ℕ) (kind : ℕ)
    → get_or (difference_of_costs xs ys) kind 0 ≤ get_or xs kind 0 - get_or ys kind 0
difference_below [] [] kind = omega arith
difference_below [] (y ∷ ys) kind = omega arith
difference_below (x ∷ xs) [] kind = omega arith
difference_below (x ∷ xs) (y ∷ ys) zero = omega arith
difference_below (x ∷ xs) (y ∷ ys) (suc kind) = difference_below xs ys kind

if_below : (b : Bool) (m n : ℕ) → m ≤ n → (if b then m else 0) ≤ (if b then n else 0)
if_below true m n less = less
if_below false m n less = omega arith

closing_below : (kind : ℕ) (total : List ℕ) (arc : ArcKey) (f : Frame) (from : Option ArcKey)
    → arc_sum kind arc (rows_of_tellings (option_map_or (λ key. Closed key (difference_of_costs total f.start) ∷ []) from []))
    ≤ (if is_arc arc from then get_or total kind 0 - get_or f.start kind 0 else 0)
closing_below kind total arc f None = omega arith
closing_below kind total arc f (Some key) =
    let alone =
    sum_at_one arc_of same_arc (λ (r : ArcRow). get_or r.cost kind 0) arc
    (cost_of_arc key (difference_of_costs total f.start)) in
    let below = if_below (same_arc arc key) (get_or (difference_of_costs total f.start) kind 0)
    (get_or total kind 0 - get_or f.start kind 0) (difference_below total f.start kind) in
    omega (arith, alone, below)

pub closings_below : (kind : ℕ) (total : List ℕ) (arc : ArcKey) (fs : List Frame)
    → arc_sum kind arc (rows_of_tellings (closings total fs)) ≤ open_sum kind total arc fs
closings_below kind total arc [] = omega arith
closings_below kind total arc (f ∷ fs) =
    let here = closing_below kind total arc f f.from in
    let rest = closings_below kind total arc fs in
    let parts = telling_costs-append kind arc (closing total f) (closings total fs) in
    let sums = open_sum-cons kind total arc f fs in
    omega (arith, here, rest, parts, sums)

unit_times : (u n : ℕ) → u ≤ 1 → u * n ≤ n
unit_times zero n one = omega arith
unit_times (suc zero) n one = omega arith
unit_times (suc (suc u)) n one = absurd (omega (arith, one))

pub under_frames : (cost : List ℕ) (kind : ℕ) (arc : ArcKey) (fs : List Frame) → IsUnit cost → length fs ≤ 4194304
    → get_or cost kind 0 * entered_by arc (stack fs) ≤ 4194304
under_frames cost kind arc fs unit shallow =
    let few = count_by-le-length (λ (a : Activation). is_arc arc a.arc) (stack fs) in
    omega (
      arith,
      unit_times (get_or cost kind 0) (entered_by arc (stack fs)) (unit kind),
      few,
      length-map fs activation,
      shallow,
    )

-- ---- a thread after a step, a cut and its start

-- its sums before the step, with room for what one costs
pub can_count : (t : Track) (cost : List ℕ) (steps : ℕ) → SumsWithin steps (account_of t) → steps < 10 ^ 12
    → IsUnit cost
    → length t.frames ≤ 4194304 → CanCount t cost
can_count t cost steps within few unit shallow = record {
  total = λ kind. omega (arith, within.total kind, unit kind, few);
  lines = λ kind place. omega (arith, within.lines kind place, unit kind, few);
  arcs =
      λ kind arc. omega (
        arith,
        within.arcs kind arc,
        open_sum-below kind t.total cost arc t.frames,
        under_frames cost kind arc t.frames unit shallow,
        few,
      );
  calls = λ arc. omega (arith, within.calls arc, few);
}

pub within_seen : (callers : ℕ) (cs : List Context) (syms : SymbolMap) (e : Event) (cost : List ℕ)
    (t : Track) (steps : ℕ)
    → SumsWithin steps (account_of t) → IsUnit cost → length t.frames ≤ 4194304
    → SumsWithin (steps + 1) (account_of (track_after_event callers cs syms e cost t))
within_seen callers cs syms e cost t steps within unit shallow = record {
  total = λ kind. omega (arith, sum_below t.total cost kind, within.total kind, unit kind);
  lines =
      λ kind place. omega (
        arith,
        line_added t.lines (record {
          func = top_number t.frames;
          file = (place_of syms e.done.pc).file;
          line = (place_of syms e.done.pc).line;
        }) cost kind place,
        within.lines kind place,
        unit kind,
      );
  arcs = λ kind arc.
      let added = arcs_added t.arcs (rows_of_tellings (closings (sum_of_costs t.total cost) (dropped_track_frames syms e t)
      ++ pushing (pushed_track_frame callers cs syms e t))) kind arc in
      let parts = telling_costs-append kind arc (closings (sum_of_costs t.total cost) (dropped_track_frames syms e t))
      (pushing (pushed_track_frame callers cs syms e t)) in
      let closed = closings_below kind (sum_of_costs t.total cost) arc (dropped_track_frames syms e t) in
      let comes = pushing_costs kind arc (pushed_track_frame callers cs syms e t) in
      let split = open_sum-split kind (sum_of_costs t.total cost) arc (drop_count syms e t.stack) t.frames in
      let with_new = open_sum-with kind (sum_of_costs t.total cost) arc (pushed_track_frame callers cs syms e t) (kept_track_frames syms e t) in
      omega (
        arith,
        added,
        parts,
        closed,
        comes,
        split,
        with_new,
        open_sum-below kind t.total cost arc t.frames,
        under_frames cost kind arc t.frames unit shallow,
        within.arcs kind arc,
      );
  calls = λ arc.
      let added = calls_added t.arcs (rows_of_tellings (closings (sum_of_costs t.total cost) (dropped_track_frames syms e t)
      ++ pushing (pushed_track_frame callers cs syms e t))) arc in
      let parts = telling_calls-append arc (closings (sum_of_costs t.total cost) (dropped_track_frames syms e t))
      (pushing (pushed_track_frame callers cs syms e t)) in
      let closed = closings_calls (sum_of_costs t.total cost) arc (dropped_track_frames syms e t) in
      let comes = pushing_calls arc (pushed_track_frame callers cs syms e t) in
      omega (arith, added, parts, closed, comes, pushes_one arc (pushed_track_frame callers cs syms e t), within.calls arc);
}

-- a thread that begins
pub within_begun : (thread : ThreadNo) (func first : FuncId) (steps : ℕ)
    → SumsWithin steps (account_of (first_track thread func first))
within_begun thread func first steps = record {
  total = λ kind. let none : get_or no_cost kind 0 ≡ 0 = zero_replicate event_kinds kind in omega (arith, none);
  lines = λ kind place. omega arith;
  arcs = λ kind arc. omega arith;
  calls = λ arc. omega arith;
}
