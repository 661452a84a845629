-- Frames that stand for contexts.
use Rattle.std.proofs.Common.{◌≡◌, ℕ, zero, suc, ◌+◌, ◌<◌, ◌≤◌, List, [], ◌∷◌, ◌++◌}
use Rattle.std.proofs.Common.{Option, None, Some, drop, length, slice_get}
use Rattle.std.proofs.Common.{refl, ap, subst, arith, map, take, if◌then◌else◌, Bool, true, false}
use Rattle.std.specs.List.{AllZip}
use Rattle.std.specs.Prelude.{slice_index_or}
use Rattle.std.proofs.lemmas.List.{length-append}
use Rattle.std.proofs.lemmas.List.Elements.{All-cons}
use Rattle.std.proofs.lemmas.Option.{get_or_from_slice_get, slice_get_within}
use Rattle.event_costs.specs.declared.event.Event.{Event}
use Rattle.sym_map.specs.SymbolMap.{SymbolMap}
use Rattle.shadow_stack.specs.Changes.{change, drop_count}
use Rattle.shadow_stack.specs.Frames.{StartWithin, frame_of, with_frame}
use Rattle.shadow_stack.specs.Stacks.{Activation, Stack}
use Rattle.shadow_stack.specs.declared.frame.Frame.{Frame}
use Rattle.ctx_rows.proofs.Others.{change-end, drop-end, covers_itself}
use Rattle.contexts.specs.Contexts.{Context, context, has_context, with_context}
use Rattle.ctx_rows.specs.States.{Track, kept_track_frames, top_number}
use Rattle.ctx_rows.specs.Tracks.{AreNumbered}

-- what stands in a list stands there once more is added
pub still_there : {X : Type 0} (xs ys : List X) (k : ℕ) (x : X) → slice_get xs k ≡ Some x
    → slice_get (xs ++ ys) k ≡ Some x
still_there [] ys k x is = absurd (cc)
still_there (y ∷ xs) ys zero x is = is
still_there (y ∷ xs) ys (suc k) x is = still_there xs ys k x is

pub within_list : {X : Type 0} (xs : List X) (k : ℕ) (x : X) → slice_get xs k ≡ Some x → k < length xs
within_list xs k x is = slice_get_within xs k x is

pub with_context_there : (cs : List Context) (c : Context) (k : ℕ) (d : Context) → slice_get cs k ≡ Some d
    → slice_get (with_context cs c) k ≡ Some d
with_context_there cs c k d is = by (has_context cs c)
  where
    by : (b : Bool) → slice_get (if b then cs else cs ++ c ∷ []) k ≡ Some d
    by true = is
    by false = still_there cs (c ∷ []) k d is

pub with_context_more : (cs : List Context) (c : Context) (k : ℕ) → k < length cs → k < length (with_context cs c)
with_context_more cs c k less = by (has_context cs c)
  where
    by : (b : Bool) → k < length (if b then cs else cs ++ c ∷ [])
    by true = less
    by false = let all = length-append cs (c ∷ []) in omega (arith, all, less)

-- frames stand for the same contexts once more have come up
pub numbered_more : (callers : ℕ) (cs : List Context) (c : Context) (fs : List Frame) (s : Stack)
    → AreNumbered callers cs fs s → AreNumbered callers (with_context cs c) fs s
numbered_more callers cs c [] [] all = tt
numbered_more callers cs c [] (a ∷ s) all = all
numbered_more callers cs c (f ∷ fs) [] all = all
numbered_more callers cs c (f ∷ fs) (a ∷ s) all =
    (with_context_there cs c f.func.0 (context callers (a ∷ s)) all.0, numbered_more callers cs c fs s all.1)

pub numbered_drop : (callers : ℕ) (cs : List Context) (n : ℕ) (fs : List Frame) (s : Stack)
    → AreNumbered callers cs fs s → AreNumbered callers cs (drop n fs) (drop n s)
numbered_drop callers cs zero fs s all = all
numbered_drop callers cs (suc n) [] [] all = all
numbered_drop callers cs (suc n) [] (a ∷ s) all = absurd all
numbered_drop callers cs (suc n) (f ∷ fs) [] all = absurd all
numbered_drop callers cs (suc n) (f ∷ fs) (a ∷ s) all = numbered_drop callers cs n fs s all.1

pub numbered_length : (callers : ℕ) (cs : List Context) (fs : List Frame) (s : Stack) → AreNumbered callers cs fs s
    → length fs ≡ length s
numbered_length callers cs [] [] all = refl
numbered_length callers cs [] (a ∷ s) all = absurd all
numbered_length callers cs (f ∷ fs) [] all = absurd all
numbered_length callers cs (f ∷ fs) (a ∷ s) all = ap suc (numbered_length callers cs fs s all.1)

-- the top frame's number is that of the stack's context
pub numbered_top : (callers : ℕ) (cs : List Context) (fs : List Frame) (s : Stack) → AreNumbered callers cs fs s
    → 0 < length s → slice_get cs (top_number fs).0 ≡ Some (context callers s)
numbered_top callers cs [] [] all some = absurd (omega arith)
numbered_top callers cs [] (a ∷ s) all some = absurd all
numbered_top callers cs (f ∷ fs) [] all some = absurd all
numbered_top callers cs (f ∷ fs) (a ∷ s) all some = all.0

pub numbered_restarted : (callers : ℕ) (cs : List Context) (total : List ℕ) (fs : List Frame) (s : Stack)
    → AreNumbered callers cs fs s → AreNumbered callers cs (map (λ (f : Frame). record f { start = total }) fs) s
numbered_restarted callers cs total [] [] all = tt
numbered_restarted callers cs total [] (a ∷ s) all = all
numbered_restarted callers cs total (f ∷ fs) [] all = all
numbered_restarted callers cs total (f ∷ fs) (a ∷ s) all = (all.0, numbered_restarted callers cs total fs s all.1)

-- a context of bounded length, one function longer and cut again
pub cut_again : (n : ℕ) (f : ℕ) (xs : List ℕ) → take (n + 1) (f ∷ take (n + 1) xs) ≡ take (n + 1) (f ∷ xs)
cut_again n f xs =
    let more : suc n ≡ n + 1 = omega arith in
    subst (λ m. take m (f ∷ take m xs) ≡ take m (f ∷ xs)) more (ap (λ ys. f ∷ ys) (shorter n xs))
  where
    shorter : (m : ℕ) (ys : List ℕ) → take m (take (suc m) ys) ≡ take m ys
    shorter zero ys = refl
    shorter (suc m) [] = refl
    shorter (suc m) (y ∷ ys) = ap (λ zs. y ∷ zs) (shorter m ys)

-- what stands in a list is what is read there
pub read_there : (cs : List Context) (k : ℕ) (c : Context) → slice_get cs k ≡ Some c → slice_index_or cs k [] ≡ c
read_there cs k c is = get_or_from_slice_get cs k c [] is

-- the starts
pub starts_with : (total : List ℕ) (o : Option Activation) (fs : List Frame) → StartWithin total fs
    → StartWithin total (with_frame total o fs)
starts_with total None fs all = all
starts_with total (Some a) fs all =
    All-cons (λ (f : Frame). AllZip (λ t s. s ≤ t) total f.start) (frame_of total a) fs (covers_itself total) all

-- what stays of the stack
pub kept_stack : (syms : SymbolMap) (e : Event) (s : Stack) → drop (drop_count syms e s) s ≡ (change syms e s).rest
kept_stack syms e s = drop-end (change syms e s).rest s (change-end syms e s)

pub numbered_kept : (callers : ℕ) (cs : List Context) (syms : SymbolMap) (e : Event) (t : Track)
    → AreNumbered callers cs t.frames t.stack
    → AreNumbered callers cs (kept_track_frames syms e t) (change syms e t.stack).rest
numbered_kept callers cs syms e t all =
    subst (AreNumbered callers cs (kept_track_frames syms e t)) (kept_stack syms e t.stack)
    (numbered_drop callers cs (drop_count syms e t.stack) t.frames t.stack all)
