-- What an event and a cut do to an account, from what they do to its parts.
use Rattle.std.proofs.Common.{◌≡◌, get_or, ℕ, zero, suc, ◌+◌, ◌*◌, ◌<◌, ◌≤◌, ◌^◌, Bool, true, false, ◌||◌, cond, List}
use Rattle.std.proofs.Common.{[], ◌∷◌, ◌++◌, length, take, drop, filter, Option, Some, None, IfSome, refl, sym, ap, ◌∙◌}
use Rattle.std.proofs.Common.{arith, if◌then◌else◌, IsPermutation}
use Rattle.std.specs.List.{All, AllByRecursion, AllZip}
use Rattle.std.proofs.lemmas.List.Elements.{recursion_from_All}
use Rattle.std.specs.Option.{option_map_or}
use Rattle.std.proofs.lemmas.List.{length-map}
use Rattle.std.proofs.lemmas.List.Sorted.{All-permutation}
use Rattle.std.proofs.lemmas.List.Sums.{fold-append}
use Rattle.event_costs.specs.declared.numbers.FuncId.{FuncId}
use Rattle.shadow_stack.specs.Arenas.{frames, frames_in, LiesIn, Link, links, stack_at}
use Rattle.shadow_stack.specs.declared.arena.Head.{Head}
use Rattle.shadow_stack.specs.Arenas.{Node}
use Rattle.recorder.proofs.Others.{links-none, arc_keys_more, cleared_keys, none_stand, same_arc_laws, sum_at-append}
use Rattle.recorder.proofs.Others.{sum_at_one, covers_itself, StartWithin-grown, StartWithin-restarted}
use Rattle.event_costs.specs.Arcs.{Pushed, Closed}
use Rattle.event_costs.specs.Costs.{difference_of_costs, IsWhole, no_cost, sum_of_costs}
use Rattle.event_costs.specs.declared.event.Event.{Event}
use Rattle.event_costs.specs.Keys.{ArcKey, Place}
use Rattle.sym_map.specs.SymbolMap.{SymbolMap, place_of}
use Rattle.arc_costs.specs.Arcs.{add_arc, add_arcs, arc_sum, call_sum, cleared_arcs, cost_of_arc, has_arc}
use Rattle.arc_costs.specs.Contents.{Contents}
use Rattle.arc_costs.specs.Lines.{line, line_sum, LinesStandFor, place_of as row_place}
use Rattle.event_costs.specs.Order.{same_arc, same_place}
use Rattle.arc_costs.specs.Rows.{ArcRow, LineRow}
use Rattle.shadow_stack.specs.Stacks.{Activation, top_of}
use Rattle.shadow_stack.specs.Changes.{drop_count}
use Rattle.shadow_stack.specs.Frames.{closing, closings, count_pushed, dropped_frames, frames_after, kept_frames, pushed_activation, pushing}
use Rattle.shadow_stack.specs.Frames.{restarted_frames, stack, StartWithin, tellings, with_frame}
use Rattle.shadow_stack.specs.declared.frame.Frame.{Frame}
use Rattle.shadow_stack.specs.declared.frame.Kind.TheVariants.{Root}
use Rattle.event_costs.specs.declared.numbers.ThreadNo.{ThreadNo}
use Rattle.recorder.specs.Accounts.{Account}
use Rattle.recorder.specs.Notes.{account_after_cut, open_sum, first_account, rows_of_tellings}
use Rattle.recorder.specs.Sums.{entered_by, pushes}
use Rattle.recorder.specs.inner.Books.{AreEntered, AreKeyed, IsSound}
use Rattle.recorder.specs.inner.Tellers.{CanTell, count_pushes, RowsAfterTellings}
use Rattle.recorder.specs.inner.TellerLaws.{count_pushes-append, telling_calls-append, telling_costs-append, rows_of_tellings-append}
use Rattle.recorder.proofs.SumLemmas.{AreKeyed-drop, AreKeyed-take, closings_calls, closings_costs, closings_keyed}
use Rattle.recorder.proofs.SumLemmas.{closings_pushes, count_pushed_most, open_sum-grown, open_sum-restarted}
use Rattle.recorder.proofs.SumLemmas.{open_sum-split, open_sum-with, pushing_calls, pushing_costs, pushing_pushes}
use Rattle.recorder.proofs.SumLemmas.{tellings_keyed}
use Rattle.std.proofs.lemmas.Bool.{or_left, or_right}

All-cons : {X : Type 0} (P : X → Type 0) (x : X) (xs : List X) → P x → All P xs → All P (x ∷ xs)
All-cons P x xs here all zero d h = here
All-cons P x xs here all (suc k) d h = all k d (omega arith)

pub StartWithin-take : (total : List ℕ) (n : ℕ) (fs : List Frame) → StartWithin total fs → StartWithin total (take n fs)
StartWithin-take total zero fs all = λ k d h. absurd (omega arith)
StartWithin-take total (suc n) [] all = all
StartWithin-take total (suc n) (f ∷ fs) all =
    All-cons (λ (g : Frame). AllZip (λ t s. s ≤ t) total g.start) f (take n fs) (all 0 f (omega arith))
    (StartWithin-take total n fs (λ k d h. all (suc k) d (omega arith)))

covered : (total cost : List ℕ) → length total ≡ length cost → AllZip (λ t s. s ≤ t) (sum_of_costs total cost) total
covered [] [] alike = tt
covered [] (y ∷ ys) alike = absurd (omega (arith, alike))
covered (x ∷ xs) [] alike = absurd (omega (arith, alike))
covered (x ∷ xs) (y ∷ ys) alike = (omega arith, covered xs ys (omega (arith, alike)))

sum_length : (xs ys : List ℕ) → length xs ≡ length ys → length (sum_of_costs xs ys) ≡ length xs
sum_length [] [] alike = refl
sum_length [] (y ∷ ys) alike = absurd (omega (arith, alike))
sum_length (x ∷ xs) [] alike = absurd (omega (arith, alike))
sum_length (x ∷ xs) (y ∷ ys) alike = let rest = sum_length xs ys (omega (arith, alike)) in omega (arith, rest)

pub whole_sum : (total cost : List ℕ) → IsWhole total → IsWhole cost → IsWhole (sum_of_costs total cost)
whole_sum total cost whole one = sum_length total cost (whole ∙ sym one) ∙ whole

pub starts_grown : (total cost : List ℕ) (fs : List Frame) → IsWhole total → IsWhole cost → StartWithin total fs
    → StartWithin (sum_of_costs total cost) fs
starts_grown total cost fs whole one all =
    StartWithin-grown (sum_of_costs total cost) total fs (covered total cost (whole ∙ sym one)) all

-- what an event tells
tellings_costs : (syms : SymbolMap) (total : List ℕ) (e : Event) (fs : List Frame) (kind : ℕ) (arc : ArcKey)
    → StartWithin total fs
    → arc_sum kind arc (rows_of_tellings (tellings syms total fs e)) ≡ open_sum kind total arc (dropped_frames syms e fs)
tellings_costs syms total e fs kind arc all =
    let all_told = telling_costs-append kind arc (closings total (dropped_frames syms e fs)) (pushing (pushed_activation syms e fs)) in
    let closed =
    closings_costs kind total arc (dropped_frames syms e fs) (StartWithin-take total (drop_count syms e (stack fs)) fs all) in
    let opened = pushing_costs kind arc (pushed_activation syms e fs) in
    omega (arith, all_told, closed, opened)

tellings_calls : (syms : SymbolMap) (total : List ℕ) (e : Event) (fs : List Frame) (arc : ArcKey)
    → call_sum arc (rows_of_tellings (tellings syms total fs e)) ≡ pushes arc (pushed_activation syms e fs)
tellings_calls syms total e fs arc =
    let all_told = telling_calls-append arc (closings total (dropped_frames syms e fs)) (pushing (pushed_activation syms e fs)) in
    let closed = closings_calls total arc (dropped_frames syms e fs) in
    let opened = pushing_calls arc (pushed_activation syms e fs) in
    omega (arith, all_told, closed, opened)

pub tellings_pushes : (syms : SymbolMap) (total : List ℕ) (e : Event) (fs : List Frame)
    → count_pushes (tellings syms total fs e) ≤ count_pushed (pushed_activation syms e fs)
tellings_pushes syms total e fs =
    let all_told = count_pushes-append (closings total (dropped_frames syms e fs)) (pushing (pushed_activation syms e fs)) in
    let closed = closings_pushes total (dropped_frames syms e fs) in
    omega (arith, all_told, closed, pushing_pushes (pushed_activation syms e fs))

pub can_tell_event : (syms : SymbolMap) (total : List ℕ) (e : Event) (fs : List Frame) (rows : Contents)
    → StartWithin total fs → AreKeyed rows.arcs fs → 1 ≤ rows.arc_room
    → ((kind : ℕ) (arc : ArcKey) → arc_sum kind arc rows.arcs + open_sum kind total arc fs < 2 ^ 64)
    → ((arc : ArcKey) → call_sum arc rows.arcs + pushes arc (pushed_activation syms e fs) < 2 ^ 64)
    → CanTell rows (tellings syms total fs e)
can_tell_event syms total e fs rows starts keyed room costs calls = record {
  room = omega (arith, tellings_pushes syms total e fs, count_pushed_most (pushed_activation syms e fs), room);
  keyed =
      tellings_keyed rows.arcs total (dropped_frames syms e fs) (pushed_activation syms e fs)
      (AreKeyed-take rows.arcs (drop_count syms e (stack fs)) fs keyed);
  costs = λ kind arc.
      let parts = open_sum-split kind total arc (drop_count syms e (stack fs)) fs in
      omega (arith, tellings_costs syms total e fs kind arc starts, parts, costs kind arc);
  calls = λ arc. omega (arith, tellings_calls syms total e fs arc, calls arc);
}

-- the sums of arcs after an event
pub event_arcs : (syms : SymbolMap) (total cost : List ℕ) (e : Event) (fs : List Frame) (old new : Contents) (kind : ℕ)
    (arc : ArcKey) → IsWhole total → IsWhole cost → StartWithin total fs
    → RowsAfterTellings old (tellings syms (sum_of_costs total cost) fs e) new
    → arc_sum kind arc new.arcs + open_sum kind (sum_of_costs total cost) arc
    (frames_after syms (sum_of_costs total cost) fs e)
    ≡ arc_sum kind arc old.arcs + open_sum kind total arc fs + get_or cost kind 0 * entered_by arc (stack fs)
event_arcs syms total cost e fs old new kind arc whole one starts told =
    let more = sum_of_costs total cost in
    let closed = tellings_costs syms more e fs kind arc (starts_grown total cost fs whole one starts) in
    let left = open_sum-with kind more arc (pushed_activation syms e fs) (kept_frames syms e fs) in
    let parts = open_sum-split kind more arc (drop_count syms e (stack fs)) fs in
    let grown = open_sum-grown kind total cost arc fs whole one starts in
    omega (arith, told.costs kind arc, closed, left, parts, grown)

pub event_calls : (syms : SymbolMap) (total : List ℕ) (e : Event) (fs : List Frame) (old new : Contents) (arc : ArcKey)
    → RowsAfterTellings old (tellings syms total fs e) new
    → call_sum arc new.arcs ≡ call_sum arc old.arcs + pushes arc (pushed_activation syms e fs)
event_calls syms total e fs old new arc told = omega (arith, told.calls arc, tellings_calls syms total e fs arc)

-- the arcs of the frames after an event are keys
keyed_on : (old new : List ArcRow) (fs : List Frame)
    → ((arc : ArcKey) → has_arc arc old ≡ true → has_arc arc new ≡ true) → AreKeyed old fs → AreKeyed new fs
keyed_on old new [] more all = tt
keyed_on old new (f ∷ fs) more all = (by f.from all.0, keyed_on old new fs more all.1)
  where
    by : (from : Option ArcKey) → IfSome from (λ arc. has_arc arc old ≡ true)
        → IfSome from (λ arc. has_arc arc new ≡ true)
    by None key = tt
    by (Some arc) key = more arc key

has_last : (arc : ArcKey) (rs qs : List ArcRow) → has_arc arc qs ≡ true → has_arc arc (rs ++ qs) ≡ true
has_last arc [] qs there = there
has_last arc (r ∷ rs) qs there = or_right (same_arc arc r.arc) (has_arc arc (rs ++ qs)) (has_last arc rs qs there)

pub keyed_after : (syms : SymbolMap) (total : List ℕ) (e : Event) (fs : List Frame) (old new : Contents)
    → AreKeyed old.arcs fs → RowsAfterTellings old (tellings syms total fs e) new
    → AreKeyed new.arcs (frames_after syms total fs e)
keyed_after syms total e fs old new keyed told = by (pushed_activation syms e fs) refl
  where
    rest : AreKeyed new.arcs (kept_frames syms e fs)
    rest =
        keyed_on old.arcs new.arcs (kept_frames syms e fs)
        (λ arc there. told.keys arc
        ∙ or_left (has_arc arc old.arcs) (has_arc arc (rows_of_tellings (tellings syms total fs e))) there)
        (AreKeyed-drop old.arcs (drop_count syms e (stack fs)) fs keyed)

    told_key : (a : Activation) (key : ArcKey) → pushed_activation syms e fs ≡ Some a → a.arc ≡ Some key
        → has_arc key new.arcs ≡ true
    told_key a key is arc =
        let last : has_arc key (rows_of_tellings (pushing (pushed_activation syms e fs))) ≡ true
        = ap (λ (o : Option Activation). has_arc key (rows_of_tellings (pushing o))) is
        ∙ ap (λ o. has_arc key (rows_of_tellings (option_map_or (λ k. Pushed k ∷ []) o []))) arc
        ∙ or_left (same_arc key key) false (same_arc_laws.refl key) in
        told.keys key ∙ or_right (has_arc key old.arcs) (has_arc key (rows_of_tellings (tellings syms total fs e)))
        (ap (has_arc key) (rows_of_tellings-append (closings total (dropped_frames syms e fs)) (pushing (pushed_activation syms e fs)))
        ∙ has_last key (rows_of_tellings (closings total (dropped_frames syms e fs)))
        (rows_of_tellings (pushing (pushed_activation syms e fs))) last)

    of_arc : (a : Activation) (from : Option ArcKey) → a.arc ≡ from
        → ((key : ArcKey) → a.arc ≡ Some key → has_arc key new.arcs ≡ true)
        → IfSome from (λ arc. has_arc arc new.arcs ≡ true)
    of_arc a None is key = tt
    of_arc a (Some arc) is key = key arc is

    by : (o : Option Activation) → pushed_activation syms e fs ≡ o → AreKeyed new.arcs (with_frame total o (kept_frames syms e fs))
    by None is = rest
    by (Some a) is = (of_arc a a.arc refl (λ key arc. told_key a key is arc), rest)

-- the depth after an event
with_length : (total : List ℕ) (o : Option Activation) (fs : List Frame)
    → length (with_frame total o fs) ≤ length fs + 1
with_length total None fs = omega arith
with_length total (Some a) fs = omega arith

drop_length : (n : ℕ) (fs : List Frame) → length (drop n fs) ≤ length fs
drop_length zero fs = omega arith
drop_length (suc n) [] = omega arith
drop_length (suc n) (f ∷ fs) = let rest = drop_length n fs in omega (arith, rest)

pub depth_after : (syms : SymbolMap) (total : List ℕ) (e : Event) (fs : List Frame)
    → length (frames_after syms total fs e) ≤ length fs + 1
depth_after syms total e fs =
    omega (arith, with_length total (pushed_activation syms e fs) (kept_frames syms e fs), drop_length (drop_count syms e (stack fs)) fs)

-- a line more
pub line_more : (old new : List LineRow) (place : Place) (cost : List ℕ)
    → ((additions : List LineRow) → LinesStandFor old additions → LinesStandFor new (additions ++ line place cost ∷ []))
    → (kind : ℕ) (other : Place)
    → line_sum kind other new ≡ line_sum kind other old + (if same_place other place then get_or cost kind 0 else 0)
line_more old new place cost stands kind other =
    let both = sum_at-append row_place same_place (λ (r : LineRow). get_or r.cost kind 0) other old
    (line place cost ∷ []) in
    let alone = sum_at_one row_place same_place (λ (r : LineRow). get_or r.cost kind 0) other (line place cost) in
    omega (arith, stands old (λ k p. refl) kind other, both, alone)

-- a cut
pub can_tell_cut : (total : List ℕ) (fs : List Frame) (rows : Contents) → StartWithin total fs → AreKeyed rows.arcs fs
    → ((kind : ℕ) (arc : ArcKey) → arc_sum kind arc rows.arcs + open_sum kind total arc fs < 2 ^ 64)
    → ((arc : ArcKey) → call_sum arc rows.arcs < 2 ^ 64) → CanTell rows (closings total fs)
can_tell_cut total fs rows starts keyed costs calls = record {
  room = omega (arith, closings_pushes total fs);
  keyed = closings_keyed rows.arcs total fs keyed;
  costs = λ kind arc. omega (arith, closings_costs kind total arc fs starts, costs kind arc);
  calls = λ arc. omega (arith, closings_calls total arc fs, calls arc);
}

clear_more : (b : Bool) (key : ArcKey) (cost : List ℕ) (r : ArcRow) (rs : List ArcRow) → same_arc key r.arc ≡ b
    → (has_arc key rs ≡ true → cleared_arcs (add_arc rs (cost_of_arc key cost)) ≡ cleared_arcs rs)
    → same_arc key r.arc || has_arc key rs ≡ true
    → cleared_arcs (add_arc (r ∷ rs) (cost_of_arc key cost)) ≡ cleared_arcs (r ∷ rs)
clear_more true key cost r rs is rest there =
    ap cleared_arcs
    (ap (λ b. if b then record { arc = r.arc; calls = r.calls + 0; cost = sum_of_costs r.cost cost } ∷ rs
    else r ∷ add_arc rs (cost_of_arc key cost)) is)
clear_more false key cost r rs is rest there =
    ap cleared_arcs
    (ap (λ b. if b then record { arc = r.arc; calls = r.calls + 0; cost = sum_of_costs r.cost cost } ∷ rs
    else r ∷ add_arc rs (cost_of_arc key cost)) is)
    ∙ ap (λ (qs : List ArcRow). cost_of_arc r.arc no_cost ∷ qs) (rest (sym (ap (λ b. b || has_arc key rs) is) ∙ there))

cleared_add : (key : ArcKey) (cost : List ℕ) (rs : List ArcRow) → has_arc key rs ≡ true
    → cleared_arcs (add_arc rs (cost_of_arc key cost)) ≡ cleared_arcs rs
cleared_add key cost [] there = absurd (cc)
cleared_add key cost (r ∷ rs) there = clear_more (same_arc key r.arc) key cost r rs refl (cleared_add key cost rs) there

-- closed frames add to keys alone
module _ (total : List ℕ) (f : Frame) (fs : List Frame) (rs : List ArcRow)
    (rest : (qs : List ArcRow) → AreKeyed qs fs → cleared_arcs (add_arcs qs (rows_of_tellings (closings total fs)))
    ≡ cleared_arcs qs) (keyed : AreKeyed rs fs) where
  gone_on : (qs : List ArcRow) → cleared_arcs qs ≡ cleared_arcs rs
      → ((arc : ArcKey) → has_arc arc rs ≡ true → has_arc arc qs ≡ true)
      → cleared_arcs (add_arcs qs (rows_of_tellings (closings total fs))) ≡ cleared_arcs rs
  gone_on qs same more = rest qs (keyed_on rs qs fs more keyed) ∙ same

  one_closing : (from : Option ArcKey) → IfSome from (λ arc. has_arc arc rs ≡ true)
      → cleared_arcs
      (add_arcs
      (add_arcs rs (rows_of_tellings (option_map_or (λ key. Closed key (difference_of_costs total f.start) ∷ []) from [])))
      (rows_of_tellings (closings total fs))) ≡ cleared_arcs rs
  one_closing None key = gone_on rs refl (λ arc there. there)
  one_closing (Some key) there =
      let cost = difference_of_costs total f.start in
      gone_on (add_arc rs (cost_of_arc key cost)) (cleared_add key cost rs there)
      (λ arc old. arc_keys_more rs (cost_of_arc key cost) arc ∙ or_right (same_arc arc key) (has_arc arc rs) old)

pub cleared_closings : (total : List ℕ) (fs : List Frame) (rs : List ArcRow) → AreKeyed rs fs
    → cleared_arcs (add_arcs rs (rows_of_tellings (closings total fs))) ≡ cleared_arcs rs
cleared_closings total [] rs keyed = refl
cleared_closings total (f ∷ fs) rs keyed =
    ap cleared_arcs (ap (λ (qs : List ArcRow). add_arcs rs qs) (rows_of_tellings-append (closing total f) (closings total fs))
    ∙ fold-append add_arc rs (rows_of_tellings (closing total f)) (rows_of_tellings (closings total fs)))
    ∙ one_closing total f fs rs (cleared_closings total fs) keyed.1 f.from keyed.0

-- a thread whose top is known is live
pub live_chain : (slots : List (Option Node)) (head : Head) (func : FuncId) → top_of (stack_at slots head) ≡ Some func
    → 0 < head.depth
live_chain slots head func top = by head.depth refl
  where
    none_some : (f : FuncId) → ◌≡◌ {A = Option FuncId} None (Some f) → ⊥
    none_some f is = cc

    by : (n : ℕ) → head.depth ≡ n → 0 < head.depth
    by (suc n) is = omega (arith, is)
    by zero is =
        absurd
        (none_some func (sym (ap (λ (ls : List Link). top_of (stack (frames_in ls))) (links-none slots head is)) ∙ top))

pub depth_is : (slots : List (Option Node)) (head : Head) → LiesIn slots head → length (frames slots head) ≡ head.depth
depth_is slots head lies = length-map (links slots head) (λ l. l.node.frame) ∙ lies.there

-- the sums of arcs after a cut
pub cut_arcs : (total : List ℕ) (fs : List Frame) (old new : Contents) (kind : ℕ) (arc : ArcKey) → StartWithin total fs
    → RowsAfterTellings old (closings total fs) new
    → arc_sum kind arc new.arcs ≡ arc_sum kind arc old.arcs + open_sum kind total arc fs
cut_arcs total fs old new kind arc starts told =
    omega (arith, told.costs kind arc, closings_costs kind total arc fs starts)

pub cut_calls : (total : List ℕ) (fs : List Frame) (old new : Contents) (arc : ArcKey)
    → RowsAfterTellings old (closings total fs) new → call_sum arc new.arcs ≡ call_sum arc old.arcs
cut_calls total fs old new arc told = omega (arith, told.calls arc, closings_calls total arc fs)

pub keyed_restarted : (total : List ℕ) (fs : List Frame) (old new : Contents) → AreKeyed old.arcs fs
    → RowsAfterTellings old (closings total fs) new → AreKeyed new.arcs (restarted_frames total fs)
keyed_restarted total fs old new keyed told =
    again fs
    (keyed_on old.arcs new.arcs fs
    (λ arc there. told.keys arc
    ∙ or_left (has_arc arc old.arcs) (has_arc arc (rows_of_tellings (closings total fs))) there) keyed)
  where
    again : (gs : List Frame) → AreKeyed new.arcs gs → AreKeyed new.arcs (restarted_frames total gs)
    again [] all = tt
    again (g ∷ gs) all = (all.0, again gs all.1)

pub entered_restarted : (total : List ℕ) (fs : List Frame) → AreEntered fs → AreEntered (restarted_frames total fs)
entered_restarted total [] all = tt
entered_restarted total (f ∷ []) all = all
entered_restarted total (f ∷ (g ∷ fs)) all = (
  record { arc = all.0.arc; from = all.0.from; callee = all.0.callee; kind = all.0.kind },
  entered_restarted total (g ∷ fs) all.1,
)

-- a list that was sorted passes the test that was passed before
filter_some : {X : Type 0} (test : X → Bool) (xs : List X) → AllByRecursion (λ x. test x ≡ true) xs
    → filter test xs ≡ xs
filter_some test [] all = refl
filter_some test (x ∷ xs) all = ap (λ b. cond b (x ∷ filter test xs) (filter test xs)) all.0
    ∙ ap (λ ys. x ∷ ys) (filter_some test xs all.1)

passes_one : {X : Type 0} (test : X → Bool) (x : X) (xs : List X) (b : Bool) → test x ≡ b → All (λ y. test y ≡ true) xs
    → All (λ y. test y ≡ true) (cond b (x ∷ xs) xs)
passes_one test x xs true is all = All-cons (λ y. test y ≡ true) x xs is all
passes_one test x xs false is all = all

filter_passes : {X : Type 0} (test : X → Bool) (xs : List X) → All (λ x. test x ≡ true) (filter test xs)
filter_passes test [] = λ k d h. absurd (omega arith)
filter_passes test (x ∷ xs) = passes_one test x (filter test xs) (test x) refl (filter_passes test xs)

pub sorted_some : {X : Type 0} (test : X → Bool) (xs ys : List X) → IsPermutation (filter test xs) ys
    → filter test ys ≡ ys
sorted_some test xs ys moved =
    filter_some test ys
    (recursion_from_All (λ y. test y ≡ true) ys
    (All-permutation (λ y. test y ≡ true) (filter test xs) ys moved (filter_passes test xs)))

-- an account that was cut off is sound
keyed_cleared : (rs : List ArcRow) (total : List ℕ) (fs : List Frame) → AreKeyed rs fs
    → AreKeyed (cleared_arcs rs) (restarted_frames total fs)
keyed_cleared rs total [] all = tt
keyed_cleared rs total (f ∷ fs) all = (by f.from all.0, keyed_cleared rs total fs all.1)
  where
    by : (from : Option ArcKey) → IfSome from (λ arc. has_arc arc rs ≡ true)
        → IfSome from (λ arc. has_arc arc (cleared_arcs rs) ≡ true)
    by None key = tt
    by (Some arc) key = cleared_keys rs arc ∙ key

pub sound_cut : (a : Account) → IsSound a → IsSound (account_after_cut a)
sound_cut a sound =
    let none = none_stand a.arcs in
    record {
      whole = sound.whole;
      starts = StartWithin-restarted a.total a.frames;
      entered = entered_restarted a.total a.frames sound.entered;
      keyed = keyed_cleared a.arcs a.total a.frames sound.keyed;
      within = λ kind arc. omega (arith, none.costs kind arc, open_sum-restarted kind a.total arc a.frames);
      counted = λ arc. omega (arith, none.calls arc);
    }

-- an account that begins is sound
pub sound_started : (syms : SymbolMap) (thread : ThreadNo) (pc : ℕ) → IsSound (first_account syms thread pc)
sound_started syms thread pc = record {
  whole = refl;
  starts =
      All-cons (λ (f : Frame). AllZip (λ t s. s ≤ t) no_cost f.start)
      (record { func = (place_of syms pc).func; from = None; kind = Root; start = no_cost }) [] (covers_itself no_cost)
      (λ k d h. absurd (omega arith));
  entered = (refl, refl);
  keyed = (tt, tt);
  within = λ kind arc. omega arith;
  counted = λ arc. omega arith;
}
