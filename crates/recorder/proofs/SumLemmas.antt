-- Sums over open frames, and over what is told of frames.
use Rattle.std.proofs.Common.{◌≡◌, get_or, ℕ, zero, suc, ◌+◌, ◌-◌, ◌*◌, ◌≤◌, Bool, true, false, cond, List, [], ◌∷◌}
use Rattle.std.proofs.Common.{◌++◌, take, drop, Option, Some, None, refl, sym, ap, ◌∙◌, arith, if◌then◌else◌, IfSome}
use Rattle.std.specs.List.{AllByRecursion, AllZip}
use Rattle.std.specs.Option.{option_map_or}
use Rattle.std.proofs.lemmas.List.{take-append-drop}
use Rattle.std.proofs.lemmas.List.Sums.{sum_by-append, sum_by-cons}
use Rattle.std.proofs.Math.Nat.{mul-add}
use Rattle.event_costs.specs.Arcs.{Telling, Pushed, Closed}
use Rattle.event_costs.specs.Costs.{difference_of_costs, event_kinds, IsWhole, no_cost, sum_of_costs}
use Rattle.event_costs.specs.Keys.{ArcKey}
use Rattle.arc_costs.specs.Arcs.{arc_of, arc_sum, call_of_arc, call_sum, cost_of_arc, has_arc}
use Rattle.event_costs.specs.Order.{same_arc}
use Rattle.arc_costs.specs.Rows.{ArcRow}
use Rattle.recorder.proofs.Others.{same_arc_laws, number_of_sum, sum_at_one, zero_replicate}
use Rattle.shadow_stack.specs.Frames.{activation, closing, closings, count_pushed, frame_of, pushing, restarted_frames}
use Rattle.shadow_stack.specs.Frames.{restarted_frame, stack, StartWithin, with_frame}
use Rattle.shadow_stack.specs.Stacks.{Activation}
use Rattle.shadow_stack.specs.declared.frame.Frame.{Frame}
use Rattle.shadow_stack.proofs.TellingLemmas.{StartWithin-tail}
use Rattle.recorder.specs.Notes.{open_sum, rows_of_tellings}
use Rattle.recorder.specs.Sums.{entered_by, is_arc, pushes}
use Rattle.recorder.specs.inner.Books.{AreKeyed}
use Rattle.recorder.specs.inner.Tellers.{count_pushes, IsKeyed}
use Rattle.recorder.specs.inner.TellerLaws.{count_pushes-append, telling_calls-append, telling_costs-append}

-- what one open frame has for an arc
abbrev pub open_share : ℕ → List ℕ → ArcKey → Frame → ℕ
open_share kind total arc f = if is_arc arc f.from then get_or total kind 0 - get_or f.start kind 0 else 0

pub open_sum-cons : (kind : ℕ) (total : List ℕ) (arc : ArcKey) (f : Frame) (fs : List Frame)
    → open_sum kind total arc (f ∷ fs) ≡ open_share kind total arc f + open_sum kind total arc fs
open_sum-cons kind total arc f fs = sum_by-cons (open_share kind total arc) f fs

pub open_sum-split : (kind : ℕ) (total : List ℕ) (arc : ArcKey) (n : ℕ) (fs : List Frame)
    → open_sum kind total arc (take n fs) + open_sum kind total arc (drop n fs) ≡ open_sum kind total arc fs
open_sum-split kind total arc n fs = sym (sum_by-append (open_share kind total arc) (take n fs) (drop n fs))
    ∙ ap (open_sum kind total arc) (take-append-drop n fs)

number_of_difference : (xs ys : List ℕ) (kind : ℕ) → AllZip (λ t s. s ≤ t) xs ys
    → get_or (difference_of_costs xs ys) kind 0 ≡ get_or xs kind 0 - get_or ys kind 0
number_of_difference [] [] kind below = refl
number_of_difference [] (y ∷ ys) kind below = absurd below
number_of_difference (x ∷ xs) [] kind below = absurd below
number_of_difference (x ∷ xs) (y ∷ ys) zero below = refl
number_of_difference (x ∷ xs) (y ∷ ys) (suc kind) below = number_of_difference xs ys kind below.1

starts_head : (total : List ℕ) (f : Frame) (fs : List Frame) → StartWithin total (f ∷ fs)
    → AllZip (λ t s. s ≤ t) total f.start
starts_head total f fs all = all 0 f (omega arith)

-- what is told of a closed frame
cost_alone : (kind : ℕ) (arc key : ArcKey) (cost : List ℕ)
    → arc_sum kind arc (cost_of_arc key cost ∷ []) ≡ (if same_arc arc key then get_or cost kind 0 else 0)
cost_alone kind arc key cost =
    sum_at_one arc_of same_arc (λ (r : ArcRow). get_or r.cost kind 0) arc (cost_of_arc key cost)

calls_alone : (arc : ArcKey) (row : ArcRow) → call_sum arc (row ∷ []) ≡ (if same_arc arc row.arc then row.calls else 0)
calls_alone arc row = sum_at_one arc_of same_arc (λ (r : ArcRow). r.calls) arc row

either_zero : (b : Bool) (n : ℕ) → n ≡ 0 → (if b then n else 0) ≡ 0
either_zero true n is = is
either_zero false n is = refl

closing_cost : (kind : ℕ) (total : List ℕ) (arc : ArcKey) (f : Frame) (from : Option ArcKey) → f.from ≡ from
    → AllZip (λ t s. s ≤ t) total f.start
    → arc_sum kind arc (rows_of_tellings (option_map_or (λ key. Closed key (difference_of_costs total f.start) ∷ []) from []))
    ≡ (if is_arc arc from then get_or total kind 0 - get_or f.start kind 0 else 0)
closing_cost kind total arc f None is below = refl
closing_cost kind total arc f (Some key) is below =
    cost_alone kind arc key (difference_of_costs total f.start)
    ∙ ap (λ n. if same_arc arc key then n else 0) (number_of_difference total f.start kind below)

pub closings_costs : (kind : ℕ) (total : List ℕ) (arc : ArcKey) (fs : List Frame) → StartWithin total fs
    → arc_sum kind arc (rows_of_tellings (closings total fs)) ≡ open_sum kind total arc fs
closings_costs kind total arc [] all = refl
closings_costs kind total arc (f ∷ fs) all =
    let here = closing_cost kind total arc f f.from refl (starts_head total f fs all) in
    let rest = closings_costs kind total arc fs (StartWithin-tail total (f ∷ fs) fs f refl all) in
    telling_costs-append kind arc (closing total f) (closings total fs)
    ∙ (let sums = open_sum-cons kind total arc f fs in omega (arith, here, rest, sums))

closing_calls : (total : List ℕ) (arc : ArcKey) (f : Frame) (from : Option ArcKey)
    → call_sum arc (rows_of_tellings (option_map_or (λ key. Closed key (difference_of_costs total f.start) ∷ []) from [])) ≡ 0
closing_calls total arc f None = refl
closing_calls total arc f (Some key) = calls_alone arc (cost_of_arc key (difference_of_costs total f.start))
    ∙ either_zero (same_arc arc key) 0 refl

pub closings_calls : (total : List ℕ) (arc : ArcKey) (fs : List Frame)
    → call_sum arc (rows_of_tellings (closings total fs)) ≡ 0
closings_calls total arc [] = refl
closings_calls total arc (f ∷ fs) =
    let here = closing_calls total arc f f.from in
    let rest = closings_calls total arc fs in
    telling_calls-append arc (closing total f) (closings total fs) ∙ omega (arith, here, rest)

-- what is told of a frame that is pushed
pub pushing_costs : (kind : ℕ) (arc : ArcKey) (p : Option Activation) → arc_sum kind arc (rows_of_tellings (pushing p)) ≡ 0
pushing_costs kind arc None = refl
pushing_costs kind arc (Some a) = by a.arc
  where
    by : (from : Option ArcKey) → arc_sum kind arc (rows_of_tellings (option_map_or (λ key. Pushed key ∷ []) from [])) ≡ 0
    by None = refl
    by (Some key) = cost_alone kind arc key no_cost
        ∙ either_zero (same_arc arc key) (get_or no_cost kind 0) (zero_replicate event_kinds kind)

pub pushing_calls : (arc : ArcKey) (p : Option Activation) → call_sum arc (rows_of_tellings (pushing p)) ≡ pushes arc p
pushing_calls arc None = refl
pushing_calls arc (Some a) = by a.arc
  where
    by : (from : Option ArcKey) → call_sum arc (rows_of_tellings (option_map_or (λ key. Pushed key ∷ []) from []))
        ≡ (if is_arc arc from then 1 else 0)
    by None = refl
    by (Some key) = calls_alone arc (call_of_arc key)

-- how many are pushed
closing_pushes : (total : List ℕ) (f : Frame) (from : Option ArcKey)
    → count_pushes (option_map_or (λ key. Closed key (difference_of_costs total f.start) ∷ []) from []) ≡ 0
closing_pushes total f None = refl
closing_pushes total f (Some key) = refl

pub closings_pushes : (total : List ℕ) (fs : List Frame) → count_pushes (closings total fs) ≡ 0
closings_pushes total [] = refl
closings_pushes total (f ∷ fs) =
    let here = closing_pushes total f f.from in
    let rest = closings_pushes total fs in
    count_pushes-append (closing total f) (closings total fs) ∙ omega (arith, here, rest)

pub pushing_pushes : (p : Option Activation) → count_pushes (pushing p) ≤ count_pushed p
pushing_pushes None = omega arith
pushing_pushes (Some a) = by a.arc
  where
    by : (from : Option ArcKey) → count_pushes (option_map_or (λ key. Pushed key ∷ []) from []) ≤ 1
    by None = omega arith
    by (Some key) = omega arith

pub count_pushed_most : (p : Option Activation) → count_pushed p ≤ 1
count_pushed_most None = omega arith
count_pushed_most (Some a) = omega arith

-- the arcs of frames that are closed are keys
closing_keyed : (arcs : List ArcRow) (total : List ℕ) (f : Frame) (from : Option ArcKey)
    → IfSome from (λ arc. has_arc arc arcs ≡ true)
    → AllByRecursion (IsKeyed arcs) (option_map_or (λ key. Closed key (difference_of_costs total f.start) ∷ []) from [])
closing_keyed arcs total f None key = tt
closing_keyed arcs total f (Some arc) key = (key, tt)

keyed_both : (arcs : List ArcRow) (ts us : List Telling) → AllByRecursion (IsKeyed arcs) ts
    → AllByRecursion (IsKeyed arcs) us → AllByRecursion (IsKeyed arcs) (ts ++ us)
keyed_both arcs [] us here later = later
keyed_both arcs (t ∷ ts) us here later = (here.0, keyed_both arcs ts us here.1 later)

pub closings_keyed : (arcs : List ArcRow) (total : List ℕ) (fs : List Frame) → AreKeyed arcs fs
    → AllByRecursion (IsKeyed arcs) (closings total fs)
closings_keyed arcs total [] keyed = tt
closings_keyed arcs total (f ∷ fs) keyed =
    keyed_both arcs (closing total f) (closings total fs) (closing_keyed arcs total f f.from keyed.0)
    (closings_keyed arcs total fs keyed.1)

pushing_keyed : (arcs : List ArcRow) (p : Option Activation) → AllByRecursion (IsKeyed arcs) (pushing p)
pushing_keyed arcs None = tt
pushing_keyed arcs (Some a) = by a.arc
  where
    by : (from : Option ArcKey) → AllByRecursion (IsKeyed arcs) (option_map_or (λ key. Pushed key ∷ []) from [])
    by None = tt
    by (Some key) = (tt, tt)

pub tellings_keyed : (arcs : List ArcRow) (total : List ℕ) (fs : List Frame) (p : Option Activation) → AreKeyed arcs fs
    → AllByRecursion (IsKeyed arcs) (closings total fs ++ pushing p)
tellings_keyed arcs total fs p keyed =
    keyed_both arcs (closings total fs) (pushing p) (closings_keyed arcs total fs keyed) (pushing_keyed arcs p)

pub AreKeyed-drop : (arcs : List ArcRow) (n : ℕ) (fs : List Frame) → AreKeyed arcs fs → AreKeyed arcs (drop n fs)
AreKeyed-drop arcs zero fs all = all
AreKeyed-drop arcs (suc n) [] all = all
AreKeyed-drop arcs (suc n) (f ∷ fs) all = AreKeyed-drop arcs n fs all.1

pub AreKeyed-take : (arcs : List ArcRow) (n : ℕ) (fs : List Frame) → AreKeyed arcs fs → AreKeyed arcs (take n fs)
AreKeyed-take arcs zero fs all = tt
AreKeyed-take arcs (suc n) [] all = all
AreKeyed-take arcs (suc n) (f ∷ fs) all = (all.0, AreKeyed-take arcs n fs all.1)

-- an event's cost is under each open frame once
share_grown : (b : Bool) (total start cost : ℕ) → start ≤ total
    → (if b then (total + cost) - start else 0) ≡ (if b then total - start else 0) + cost * (if b then 1 else 0)
share_grown true total start cost below = omega arith
share_grown false total start cost below = omega arith

start_below : (total start : List ℕ) (kind : ℕ) → AllZip (λ t s. s ≤ t) total start
    → get_or start kind 0 ≤ get_or total kind 0
start_below [] [] kind below = omega arith
start_below [] (y ∷ ys) kind below = absurd below
start_below (x ∷ xs) [] kind below = absurd below
start_below (x ∷ xs) (y ∷ ys) zero below = below.0
start_below (x ∷ xs) (y ∷ ys) (suc kind) below = start_below xs ys kind below.1

pub open_sum-grown : (kind : ℕ) (total cost : List ℕ) (arc : ArcKey) (fs : List Frame) → IsWhole total → IsWhole cost
    → StartWithin total fs
    → open_sum kind (sum_of_costs total cost) arc fs
    ≡ open_sum kind total arc fs + get_or cost kind 0 * entered_by arc (stack fs)
open_sum-grown kind total cost arc [] whole one all = omega arith
open_sum-grown kind total cost arc (f ∷ fs) whole one all =
    let now = open_sum-cons kind (sum_of_costs total cost) arc f fs in
    let before = open_sum-cons kind total arc f fs in
    let here : open_share kind (sum_of_costs total cost) arc f
    ≡ open_share kind total arc f + get_or cost kind 0 * (if is_arc arc f.from then 1 else 0)
    = ap (λ n. if is_arc arc f.from then n - get_or f.start kind 0 else 0)
    (number_of_sum total cost kind (whole ∙ sym one))
    ∙ share_grown (is_arc arc f.from) (get_or total kind 0) (get_or f.start kind 0) (get_or cost kind 0)
    (start_below total f.start kind (starts_head total f fs all)) in
    let rest = open_sum-grown kind total cost arc fs whole one (StartWithin-tail total (f ∷ fs) fs f refl all) in
    let count : entered_by arc (stack (f ∷ fs)) ≡ (if is_arc arc f.from then 1 else 0) + entered_by arc (stack fs)
    = sum_by-cons (λ (a : Activation). cond (is_arc arc a.arc) 1 0) (activation f) (stack fs) in
    let spread : get_or cost kind 0 * entered_by arc (stack (f ∷ fs))
    ≡ get_or cost kind 0 * (if is_arc arc f.from then 1 else 0) + get_or cost kind 0 * entered_by arc (stack fs)
    = ap (λ n. get_or cost kind 0 * n) count
    ∙ mul-add (get_or cost kind 0) (if is_arc arc f.from then 1 else 0) (entered_by arc (stack fs)) in
    omega (arith, now, before, here, rest, spread)

-- a frame that begins now has nothing yet
none_left : (b : Bool) (n : ℕ) → (if b then n - n else 0) ≡ 0
none_left true n = omega arith
none_left false n = refl

pub open_sum-with : (kind : ℕ) (total : List ℕ) (arc : ArcKey) (p : Option Activation) (fs : List Frame)
    → open_sum kind total arc (with_frame total p fs) ≡ open_sum kind total arc fs
open_sum-with kind total arc None fs = refl
open_sum-with kind total arc (Some a) fs =
    let sums = open_sum-cons kind total arc (frame_of total a) fs in
    let here = none_left (is_arc arc a.arc) (get_or total kind 0) in
    omega (arith, sums, here)

pub open_sum-restarted : (kind : ℕ) (total : List ℕ) (arc : ArcKey) (fs : List Frame)
    → open_sum kind total arc (restarted_frames total fs) ≡ 0
open_sum-restarted kind total arc [] = refl
open_sum-restarted kind total arc (f ∷ fs) =
    let sums = open_sum-cons kind total arc (restarted_frame total f) (restarted_frames total fs) in
    let here = none_left (is_arc arc f.from) (get_or total kind 0) in
    let rest = open_sum-restarted kind total arc fs in
    omega (arith, sums, here, rest)

pub own_cost : (kind : ℕ) (arc : ArcKey) (cost : List ℕ)
    → arc_sum kind arc (cost_of_arc arc cost ∷ []) ≡ get_or cost kind 0
own_cost kind arc cost = cost_alone kind arc arc cost
    ∙ ap (λ b. if b then get_or cost kind 0 else 0) (same_arc_laws.refl arc)
