-- How frames were entered: by an arc to their function, but for the root; and what is noted of those that go and come.
use Rattle.std.proofs.Common.{◌≡◌, ℕ, zero, suc, ◌+◌, ◌-◌, ◌<◌, Bool, true, false, ◌||◌, ◌&&◌, cond, not, List, [], ◌∷◌}
use Rattle.std.proofs.Common.{fold, length, take, drop, Option, Some, None, refl, sym, ap, subst, ◌∙◌, ◌⊎◌, inl, inr}
use Rattle.std.proofs.Common.{arith, if◌then◌else◌, get_or, reverse, slice_get}
use Rattle.std.specs.List.{list_any}
use Rattle.std.specs.Option.{option_map, option_map_or}
use Rattle.std.proofs.lemmas.List.{get_or-reverse, length-map}
use Rattle.std.proofs.lemmas.Option.{get_or_from_slice_get}
use Rattle.std.proofs.lemmas.List.Sums.{fold-append, sum_by-cons}
use Rattle.event_costs.specs.Arcs.{Closed}
use Rattle.event_costs.specs.Costs.{difference_of_costs}
use Rattle.event_costs.specs.declared.event.Event.{Event}
use Rattle.event_costs.specs.declared.event.Flow.{Flow}
use Rattle.event_costs.specs.declared.event.Flow.TheVariants.{Call, Jump, Swap, Plain}
use Rattle.event_costs.specs.Keys.{ArcKey}
use Rattle.event_costs.specs.declared.numbers.FuncId.{FuncId}
use Rattle.event_costs.specs.declared.outcome.Noted.{Noted}
use Rattle.sym_map.specs.SymbolMap.{SymbolMap, place_of}
use Rattle.shadow_stack.specs.Kinds.{call_of, is_root, jump}
use Rattle.shadow_stack.specs.Stacks.{Activation, Stack, is_rooted}
use Rattle.shadow_stack.specs.Changes.{Change, change, change_by, cut, down_to, new_activation, drop_count, next_func, settle_on}
use Rattle.shadow_stack.specs.Frames.{activation, closing, closings, dropped_frames, frame_of, frames_after, kept_frames, pushed_activation}
use Rattle.shadow_stack.specs.Frames.{pushing, stack, tellings, with_frame}
use Rattle.shadow_stack.specs.declared.frame.Frame.{Frame}
use Rattle.shadow_stack.specs.declared.frame.Kind.{Kind}
use Rattle.recorder.proofs.Others.{change-end, change-rooted, drop-end, end-le, rooted-some}
use Rattle.shadow_stack.proofs.PlanLemmas.{stack-drop}
use Rattle.recorder.specs.Accounts.{live_in}
use Rattle.event_costs.specs.FuncSet.{is_among}
use Rattle.recorder.specs.Notes.{noted_answer}
use Rattle.recorder.specs.inner.Books.{AreEntered, IsEntered}
use Rattle.recorder.specs.inner.Tellers.{is_among_last, noted_more, root_leaves}

-- A change pushes nothing, or a frame that isn't a root on what it keeps.
abbrev IsPush : SymbolMap → Event → Change → Type 0
IsPush syms e c =
    (c.pushed ≡ None) ⊎ ((kind : Kind) × (c.pushed ≡ Some (new_activation syms e kind c.rest)) × (is_root kind ≡ false))

settle_push : (syms : SymbolMap) (e : Event) (s : Stack) (rest : Option Stack) → IsPush syms e (settle_on syms e s rest)
settle_push syms e s None = inr (jump, refl, refl)
settle_push syms e s (Some rest) = inl refl

push_by : (syms : SymbolMap) (e : Event) (s : Stack) (flow : Flow) → IsPush syms e (change_by syms e s flow)
push_by syms e s Plain = settle_push syms e s (down_to (next_func syms e) s)
push_by syms e s Call = inr (call_of e, refl, refl)
push_by syms e s Jump = settle_push syms e (cut syms e s) (down_to (next_func syms e) (cut syms e s))
push_by syms e s Swap = inr (call_of e, refl, refl)

push_if : (syms : SymbolMap) (e : Event) (s : Stack) (ends : Bool)
    → IsPush syms e (if ends then record { rest = []; pushed = None } else change_by syms e s e.done.flow)
push_if syms e s true = inl refl
push_if syms e s false = push_by syms e s e.done.flow

pub change_push : (syms : SymbolMap) (e : Event) (s : Stack) → IsPush syms e (change syms e s)
change_push syms e s = push_if syms e s e.ends

no_push_at_end : (syms : SymbolMap) (e : Event) (s : Stack) → e.ends ≡ true → (change syms e s).pushed ≡ None
no_push_at_end syms e s ends = let last : Change = record { rest = []; pushed = None } in
    ap (λ b. (if b then last else change_by syms e s e.done.flow).pushed) ends

none_kept_at_end : (syms : SymbolMap) (e : Event) (s : Stack) → e.ends ≡ true → (change syms e s).rest ≡ []
none_kept_at_end syms e s ends = let last : Change = record { rest = []; pushed = None } in
    ap (λ b. (if b then last else change_by syms e s e.done.flow).rest) ends

-- A frame that is pushed on others.
pub record IsPushed (syms : SymbolMap) (e : Event) (s : Stack) : Type 0 where
  pub kind : Kind
  pub caller : Activation
  pub under : Stack
  pub rest : (change syms e s).rest ≡ caller ∷ under
  pub pushed : (change syms e s).pushed ≡ Some (new_activation syms e kind (caller ∷ under))
  pub no_root : is_root kind ≡ false

on_some : (syms : SymbolMap) (e : Event) (s : Stack) (kind : Kind) (rest : Stack) → (change syms e s).rest ≡ rest
    → 0 < length rest → (change syms e s).pushed ≡ Some (new_activation syms e kind (change syms e s).rest)
    → is_root kind ≡ false → IsPushed syms e s
on_some syms e s kind [] is some pushed_activation no_root = absurd (omega (arith, some))
on_some syms e s kind (a ∷ rest) is some pushed_activation no_root =
    record {
      kind = kind;
      caller = a;
      under = rest;
      rest = is;
      pushed = pushed_activation ∙ ap (λ (t : Stack). Some (new_activation syms e kind t)) is;
      no_root = no_root;
    }

some_kept : (syms : SymbolMap) (e : Event) (s : Stack) → is_rooted s ≡ true → e.ends ≡ false
    → 0 < length (change syms e s).rest
some_kept syms e s rooted goes_on = rooted-some (change syms e s).rest (change-rooted syms e s goes_on rooted)

push_cases : (syms : SymbolMap) (e : Event) (s : Stack) → is_rooted s ≡ true → (b : Bool) → e.ends ≡ b
    → IsPush syms e (change syms e s) → ((change syms e s).pushed ≡ None) ⊎ IsPushed syms e s
push_cases syms e s rooted true is p = inl (no_push_at_end syms e s is)
push_cases syms e s rooted false is (inl none) = inl none
push_cases syms e s rooted false is (inr p) =
    inr (on_some syms e s p.0 (change syms e s).rest refl (some_kept syms e s rooted is) p.1 p.2)

pub pushes_what : (syms : SymbolMap) (e : Event) (s : Stack) → is_rooted s ≡ true
    → ((change syms e s).pushed ≡ None) ⊎ IsPushed syms e s
pushes_what syms e s rooted = push_cases syms e s rooted e.ends refl (change_push syms e s)

-- frames that were entered stay so
pub AreEntered-drop : (n : ℕ) (fs : List Frame) → AreEntered fs → AreEntered (drop n fs)
AreEntered-drop zero fs all = all
AreEntered-drop (suc n) [] all = all
AreEntered-drop (suc zero) (f ∷ []) all = tt
AreEntered-drop (suc (suc n)) (f ∷ []) all = tt
AreEntered-drop (suc n) (f ∷ (g ∷ fs)) all = AreEntered-drop n (g ∷ fs) all.1

pub kept_stack : (syms : SymbolMap) (e : Event) (fs : List Frame)
    → stack (kept_frames syms e fs) ≡ (change syms e (stack fs)).rest
kept_stack syms e fs = stack-drop (drop_count syms e (stack fs)) fs
    ∙ drop-end (change syms e (stack fs)).rest (stack fs) (change-end syms e (stack fs))

entered_more : (f : Frame) (fs : List Frame) (a : Activation) (s : Stack) → stack fs ≡ a ∷ s → IsEntered f
    → AreEntered fs → AreEntered (f ∷ fs)
entered_more f [] a s is here all = absurd (omega (arith, ap (length {A = Activation}) is))
entered_more f (g ∷ fs) a s is here all = (here, all)

pub AreEntered-after : (syms : SymbolMap) (total : List ℕ) (e : Event) (fs : List Frame) → is_rooted (stack fs) ≡ true
    → AreEntered fs → AreEntered (frames_after syms total fs e)
AreEntered-after syms total e fs rooted all = by (pushes_what syms e (stack fs) rooted)
  where
    by : ((change syms e (stack fs)).pushed ≡ None) ⊎ IsPushed syms e (stack fs)
        → AreEntered (frames_after syms total fs e)
    by (inl none) = subst (λ (p : Option Activation). AreEntered (with_frame total p (kept_frames syms e fs))) (sym none)
        (AreEntered-drop (drop_count syms e (stack fs)) fs all)
    by (inr p) =
        let a : Activation = new_activation syms e p.kind (p.caller ∷ p.under) in
        subst (λ (o : Option Activation). AreEntered (with_frame total o (kept_frames syms e fs))) (sym p.pushed)
        (entered_more (frame_of total a) (kept_frames syms e fs) p.caller p.under (kept_stack syms e fs ∙ p.rest)
        (record {
          arc = record {
            caller = p.caller.func;
            file = (place_of syms e.done.pc).file;
            line = (place_of syms e.done.pc).line;
            callee = next_func syms e;
          };
          from = refl;
          callee = refl;
          kind = p.no_root;
        })
        (AreEntered-drop (drop_count syms e (stack fs)) fs all))

-- the live frames are all but the root
pub live_frames : (fs : List Frame) → AreEntered fs → live_in fs ≡ length fs - 1
live_frames [] all = refl
live_frames (f ∷ []) all = sum_by-cons (λ (g : Frame). cond (not (is_root g.kind)) 1 0) f []
    ∙ ap (λ b. cond (not b) 1 0 + 0) all.0
live_frames (f ∷ (g ∷ fs)) all =
    let rest = live_frames (g ∷ fs) all.1 in
    let here : ◌≡◌ {A = ℕ} (cond (not (is_root f.kind)) 1 0) 1 = ap (λ b. cond (not b) 1 0) all.0.kind in
    let sums = sum_by-cons (λ (h : Frame). cond (not (is_root h.kind)) 1 0) f (g ∷ fs) in
    omega (arith, rest, here, sums)

-- what is noted of frames that are closed
abbrev arcs_among : List FuncId → List Frame → Bool
arcs_among watched fs = list_any (λ f. option_map_or (λ arc. is_among watched arc.callee) f.from false) fs

or_false : (b : Bool) → b ≡ b || false
or_false true = refl
or_false false = refl

or_more : (a b c : Bool) → (a || b) || c ≡ a || (b || c)
or_more true b c = refl
or_more false b c = refl

noted_closing : (watched : List FuncId) (total : List ℕ) (f : Frame) (from : Option ArcKey) (n : Noted)
    → fold (noted_more watched) n (option_map_or (λ key. Closed key (difference_of_costs total f.start) ∷ []) from [])
    ≡ record n { left = n.left || option_map_or (λ arc. is_among watched arc.callee) from false }
noted_closing watched total f None n = ap (λ b. record n { left = b }) (or_false n.left)
noted_closing watched total f (Some arc) n = refl

noted_closings : (watched : List FuncId) (total : List ℕ) (fs : List Frame) (n : Noted)
    → fold (noted_more watched) n (closings total fs) ≡ record n { left = n.left || arcs_among watched fs }
noted_closings watched total [] n = ap (λ b. record n { left = b }) (or_false n.left)
noted_closings watched total (f ∷ fs) n =
    let here = option_map_or (λ arc. is_among watched arc.callee) f.from false in
    fold-append (noted_more watched) n (closing total f) (closings total fs)
    ∙ ap (λ (m : Noted). fold (noted_more watched) m (closings total fs)) (noted_closing watched total f f.from n)
    ∙ noted_closings watched total fs (record n { left = n.left || here })
    ∙ ap (λ b. record n { left = b }) (or_more n.left here (arcs_among watched fs))

-- the arcs tell which functions are left, but for the root's
front_left : (watched : List FuncId) (n : ℕ) (fs : List Frame) → AreEntered fs → n < length fs
    → arcs_among watched (take n fs) ≡ list_any (λ f. is_among watched f.func) (take n fs)
front_left watched zero fs all less = refl
front_left watched (suc n) [] all less = absurd (omega (arith, less))
front_left watched (suc n) (f ∷ []) all less = absurd (omega (arith, less))
front_left watched (suc n) (f ∷ (g ∷ fs)) all less =
    let here : option_map_or (λ arc. is_among watched arc.callee) f.from false ≡ is_among watched f.func
    = ap (λ o. option_map_or (λ (arc : ArcKey). is_among watched arc.callee) o false) all.0.from
    ∙ ap (is_among watched) all.0.callee in
    ap (λ b. b || arcs_among watched (take n (g ∷ fs))) here
    ∙ ap (λ b. is_among watched f.func || b) (front_left watched n (g ∷ fs) all.1 (omega (arith, less)))

one_left : (a : Bool) → a || (false || false) ≡ a || false
one_left true = refl
one_left false = refl

or_past : (a b c d : Bool) → c || b ≡ d → c || (a || b) ≡ a || d
or_past true true true d is = refl
or_past true true false d is = refl
or_past true false true d is = refl
or_past true false false d is = refl
or_past false b c d is = is

all_left : (watched : List FuncId) (fs : List Frame) → AreEntered fs
    → is_among_last watched fs || arcs_among watched fs ≡ list_any (λ f. is_among watched f.func) fs
all_left watched [] all = refl
all_left watched (f ∷ []) all =
    ap (λ o. is_among watched f.func
    || (option_map_or (λ (arc : ArcKey). is_among watched arc.callee) o false || false)) all.1
    ∙ one_left (is_among watched f.func)
all_left watched (f ∷ (g ∷ fs)) all =
    let here : option_map_or (λ arc. is_among watched arc.callee) f.from false ≡ is_among watched f.func
    = ap (λ o. option_map_or (λ (arc : ArcKey). is_among watched arc.callee) o false) all.0.from
    ∙ ap (is_among watched) all.0.callee in
    ap (λ b. is_among_last watched (g ∷ fs) || (b || arcs_among watched (g ∷ fs))) here
    ∙ or_past (is_among watched f.func) (arcs_among watched (g ∷ fs)) (is_among_last watched (g ∷ fs))
    (list_any (λ h. is_among watched h.func) (g ∷ fs)) (all_left watched (g ∷ fs) all.1)

take_all : (n : ℕ) (fs : List Frame) → n ≡ length fs → take n fs ≡ fs
take_all n fs is = ap (λ k. take k fs) is ∙ whole fs
  where
    whole : (gs : List Frame) → take (length gs) gs ≡ gs
    whole [] = refl
    whole (g ∷ gs) = ap (λ (hs : List Frame). g ∷ hs) (whole gs)

left_by : (syms : SymbolMap) (watched : List FuncId) (e : Event) (fs : List Frame) → AreEntered fs
    → is_rooted (stack fs) ≡ true → (b : Bool) → e.ends ≡ b
    → (b && is_among_last watched fs) || arcs_among watched (dropped_frames syms e fs)
    ≡ list_any (λ f. is_among watched f.func) (dropped_frames syms e fs)
left_by syms watched e fs all rooted true is =
    let none = none_kept_at_end syms e (stack fs) is in
    let many = length-map fs activation in
    let whole : dropped_frames syms e fs ≡ fs
    = take_all (drop_count syms e (stack fs)) fs (omega (arith, ap (length {A = Activation}) none, many)) in
    ap (λ (gs : List Frame). is_among_last watched fs || arcs_among watched gs) whole ∙ all_left watched fs all
    ∙ sym (ap (list_any (λ (f : Frame). is_among watched f.func)) whole)
left_by syms watched e fs all rooted false is =
    let some = some_kept syms e (stack fs) rooted is in
    let many = length-map fs activation in
    let less = end-le (change syms e (stack fs)).rest (stack fs) (change-end syms e (stack fs)) in
    front_left watched (drop_count syms e (stack fs)) fs all (omega (arith, some, many, less))

noted_pushing : (syms : SymbolMap) (watched : List FuncId) (e : Event) (fs : List Frame) (left : Bool)
    → is_rooted (stack fs) ≡ true
    → fold (noted_more watched) (record { pushed = None; left = left }) (pushing (pushed_activation syms e fs)) ≡ record {
      pushed = option_map (λ a. a.func) (pushed_activation syms e fs);
      left = left;
    }
noted_pushing syms watched e fs left rooted = by (pushes_what syms e (stack fs) rooted)
  where
    by : (pushed_activation syms e fs ≡ None) ⊎ IsPushed syms e (stack fs)
        → fold (noted_more watched) (record { pushed = None; left = left }) (pushing (pushed_activation syms e fs)) ≡ record {
          pushed = option_map (λ a. a.func) (pushed_activation syms e fs);
          left = left;
        }
    by (inl none) =
        ap (λ (o : Option Activation). fold (noted_more watched) (record { pushed = None; left = left })
        (pushing o)) none
        ∙ ap (λ (o : Option Activation). record { pushed = option_map (λ a. a.func) o; left = left }) (sym none)
    by (inr p) =
        ap (λ (o : Option Activation). fold (noted_more watched) (record { pushed = None; left = left })
        (pushing o)) p.pushed
        ∙ ap (λ (o : Option Activation). record { pushed = option_map (λ a. a.func) o; left = left }) (sym p.pushed)

-- what a teller has noted once an event was told
pub noted_told : (syms : SymbolMap) (watched : List FuncId) (total : List ℕ) (e : Event) (fs : List Frame)
    (first : Bool) → AreEntered fs → is_rooted (stack fs) ≡ true → first ≡ root_leaves watched e fs
    → fold (noted_more watched) (record { pushed = None; left = first }) (tellings syms total fs e)
    ≡ noted_answer syms watched e fs
noted_told syms watched total e fs first all rooted is =
    let none : Noted = record { pushed = None; left = first } in
    let left : first || arcs_among watched (dropped_frames syms e fs)
    ≡ list_any (λ f. is_among watched f.func) (dropped_frames syms e fs)
    = ap (λ b. b || arcs_among watched (dropped_frames syms e fs)) is ∙ left_by syms watched e fs all rooted e.ends refl in
    fold-append (noted_more watched) none (closings total (dropped_frames syms e fs)) (pushing (pushed_activation syms e fs))
    ∙ ap (λ (n : Noted). fold (noted_more watched) n (pushing (pushed_activation syms e fs)))
    (noted_closings watched total (dropped_frames syms e fs) none)
    ∙ noted_pushing syms watched e fs (first || arcs_among watched (dropped_frames syms e fs)) rooted
    ∙ ap (λ b. record { pushed = option_map (λ (a : Activation). a.func) (pushed_activation syms e fs); left = b }) left

-- the lowest frame
last_among : (watched : List FuncId) (g : Frame) (fs : List Frame) (f : Frame)
    → is_among watched (get_or (g ∷ fs) (length fs) f).func ≡ is_among_last watched (g ∷ fs)
last_among watched g [] f = refl
last_among watched g (h ∷ fs) f = last_among watched h fs f

pub among_last : (watched : List FuncId) (fs : List Frame) (f : Frame) → slice_get (reverse fs) 0 ≡ Some f
    → is_among watched f.func ≡ is_among_last watched fs
among_last watched [] f is = absurd (cc)
among_last watched (g ∷ fs) f is =
    let back : get_or (reverse (g ∷ fs)) 0 f ≡ get_or (g ∷ fs) (length (g ∷ fs) - 1 - 0) f
    = get_or-reverse (g ∷ fs) 0 f (omega arith) in
    let place : length (g ∷ fs) - 1 - 0 ≡ length fs = omega arith in
    ap (λ (h : Frame). is_among watched h.func)
    (sym (get_or_from_slice_get (reverse (g ∷ fs)) 0 f f is) ∙ back ∙ ap (λ k. get_or (g ∷ fs) k f) place)
    ∙ last_among watched g fs f
