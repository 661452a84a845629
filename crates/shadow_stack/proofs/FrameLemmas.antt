-- Frames after an event or a restart, as stacks.
use Rattle.std.proofs.Common.{◌≡◌, ℕ, zero, suc, add-zero, ◌+◌, ◌-◌, ◌<◌, ◌≤◌, true, false, cond, List, [], ◌∷◌, ◌++◌}
use Rattle.std.proofs.Common.{length, drop, get_or, reverse, slice_get, Option, Some, None, refl, sym, ap, ◌∙◌, arith}
use Rattle.std.proofs.lemmas.List.{get_or-reverse, get_or-drop, length-reverse}
use Rattle.std.proofs.lemmas.Option.{slice_get-get_or}
use Rattle.std.specs.List.{AllZip}
use Rattle.std.proofs.lemmas.List.Sums.{fold-append}
use Rattle.event_costs.specs.declared.event.Event.{Event}
use Rattle.sym_map.specs.SymbolMap.{SymbolMap}
use Rattle.shadow_stack.specs.declared.frame.Frame.{Frame}
use Rattle.shadow_stack.specs.Stacks.{Activation, Stack, is_rooted}
use Rattle.shadow_stack.specs.Changes.{Change, after, change, change_by, drop_count, with_pushed}
use Rattle.shadow_stack.specs.Traces.{stack_after}
use Rattle.shadow_stack.specs.Frames.{frame_of, frames_after, kept_frames, pushed_activation, restarted_frames, restarted_frame, stack}
use Rattle.shadow_stack.specs.Frames.{StartWithin, with_frame}
use Rattle.shadow_stack.proofs.ChangeLemmas.{change-end, change-rooted, drop-end}
use Rattle.shadow_stack.proofs.PlanLemmas.{stack-drop}

stack-with_frame : (total : List ℕ) (o : Option Activation) (fs : List Frame)
    → stack (with_frame total o fs) ≡ with_pushed o (stack fs)
stack-with_frame total None fs = refl
stack-with_frame total (Some a) fs = refl

pub stack-frames_after : (syms : SymbolMap) (total : List ℕ) (fs : List Frame) (e : Event)
    → stack (frames_after syms total fs e) ≡ after syms (stack fs) e
stack-frames_after syms total fs e =
    stack-with_frame total (pushed_activation syms e fs) (kept_frames syms e fs)
    ∙ ap (λ (s : Stack). with_pushed (change syms e (stack fs)).pushed s)
    (stack-drop (drop_count syms e (stack fs)) fs
    ∙ drop-end (change syms e (stack fs)).rest (stack fs) (change-end syms e (stack fs)))

-- a stack that stands for events stands for one more after the next
pub stands_more : (syms : SymbolMap) (first s : Stack) (es : List Event) (e : Event) → s ≡ stack_after syms first es
    → after syms s e ≡ stack_after syms first (es ++ e ∷ [])
stands_more syms first s es e same = ap (λ (t : Stack). after syms t e) same
    ∙ sym (fold-append (after syms) first es (e ∷ []))

rooted-push : (o : Option Activation) (s : Stack) → is_rooted s ≡ true → is_rooted (with_pushed o s) ≡ true
rooted-push None s rooted = rooted
rooted-push (Some a) [] rooted = absurd (cc)
rooted-push (Some a) (b ∷ s) rooted = rooted

pub after-rooted : (syms : SymbolMap) (s : Stack) (e : Event) → is_rooted s ≡ true → e.ends ≡ false
    → is_rooted (after syms s e) ≡ true
after-rooted syms s e rooted goes_on =
    rooted-push (change syms e s).pushed (change syms e s).rest (change-rooted syms e s goes_on rooted)

pub after-end : (syms : SymbolMap) (s : Stack) (e : Event) → e.ends ≡ true → after syms s e ≡ []
after-end syms s e ends =
    let last : Change = record { rest = []; pushed = None } in
    ap (λ b. with_pushed (cond b last (change_by syms e s e.done.flow)).pushed
    (cond b last (change_by syms e s e.done.flow)).rest) ends

pub no_frames : (fs : List Frame) → stack fs ≡ [] → fs ≡ []
no_frames [] none = refl
no_frames (f ∷ fs) none = absurd (cc)

-- one frame more is left out
pub drop-next : (n : ℕ) (fs gs : List Frame) (f : Frame) → drop n fs ≡ f ∷ gs → drop (suc n) fs ≡ gs
drop-next zero fs gs f same = ap (drop 1) same
drop-next (suc n) [] gs f same = absurd (cc)
drop-next (suc n) (g ∷ fs) gs f same = drop-next n fs gs f same

-- a frame from the bottom, by what is left of the frames from the top
pub frame_from_bottom : (fs gs : List Frame) (f : Frame) (n place : ℕ) → drop n fs ≡ f ∷ gs → n + 1 + place ≡ length fs
    → slice_get (reverse fs) place ≡ Some f
frame_from_bottom fs gs f n place same sizes =
    let within : place < length (reverse fs) = omega (arith, length-reverse fs) in
    let less : place < length fs = omega arith in
    let back : length fs - 1 - place ≡ n = omega arith in
    slice_get-get_or (reverse fs) place f within
    ∙ ap (λ (x : Frame). Some x)
    (get_or-reverse fs place f less ∙ ap (λ k. get_or fs k f) (back ∙ sym (add-zero n)) ∙ sym (get_or-drop n fs 0 f)
    ∙ ap (λ (l : List Frame). get_or l 0 f) same)

-- No start passes the total: of a cost itself, of fewer frames, of a frame that begins now, and where the total has
-- grown.
pub covers_itself : (total : List ℕ) → AllZip (λ t s. s ≤ t) total total
covers_itself [] = tt
covers_itself (n ∷ total) = (omega arith, covers_itself total)

pub StartWithin-drop : (total : List ℕ) (n : ℕ) (fs : List Frame) → StartWithin total fs → StartWithin total (drop n fs)
StartWithin-drop total zero fs all = all
StartWithin-drop total (suc n) [] all = all
StartWithin-drop total (suc n) (f ∷ fs) all = StartWithin-drop total n fs (λ k d h. all (suc k) d (omega arith))

StartWithin-cons : (total : List ℕ) (f : Frame) (fs : List Frame) → AllZip (λ t s. s ≤ t) total f.start
    → StartWithin total fs → StartWithin total (f ∷ fs)
StartWithin-cons total f fs here all zero d h = here
StartWithin-cons total f fs here all (suc k) d h = all k d (omega arith)

StartWithin-with : (total : List ℕ) (o : Option Activation) (fs : List Frame) → StartWithin total fs
    → StartWithin total (with_frame total o fs)
StartWithin-with total None fs all = all
StartWithin-with total (Some a) fs all = StartWithin-cons total (frame_of total a) fs (covers_itself total) all

pub StartWithin-after : (syms : SymbolMap) (total : List ℕ) (fs : List Frame) (e : Event) → StartWithin total fs
    → StartWithin total (frames_after syms total fs e)
StartWithin-after syms total fs e all =
    StartWithin-with total (pushed_activation syms e fs) (kept_frames syms e fs) (StartWithin-drop total (drop_count syms e (stack fs)) fs all)

pub StartWithin-restarted : (total : List ℕ) (fs : List Frame) → StartWithin total (restarted_frames total fs)
StartWithin-restarted total [] = λ k d h. absurd (omega arith)
StartWithin-restarted total (f ∷ fs) = StartWithin-cons total (restarted_frame total f) (restarted_frames total fs)
    (covers_itself total) (StartWithin-restarted total fs)

covers_more : (more total start : List ℕ) → AllZip (λ t s. s ≤ t) more total → AllZip (λ t s. s ≤ t) total start
    → AllZip (λ t s. s ≤ t) more start
covers_more [] [] [] above below = tt
covers_more [] [] (z ∷ zs) above below = below
covers_more [] (y ∷ ys) zs above below = absurd above
covers_more (x ∷ xs) [] zs above below = absurd above
covers_more (x ∷ xs) (y ∷ ys) [] above below = below
covers_more (x ∷ xs) (y ∷ ys) (z ∷ zs) above below =
    (omega (arith, above.0, below.0), covers_more xs ys zs above.1 below.1)

pub StartWithin-grown : (more total : List ℕ) (fs : List Frame) → AllZip (λ t s. s ≤ t) more total
    → StartWithin total fs → StartWithin more fs
StartWithin-grown more total fs above all = λ k d h. covers_more more total (get_or fs k d).start above (all k d h)
