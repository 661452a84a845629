-- What a plan keeps and pushes is the change of the stack.
use Rattle.std.proofs.Common.{◌≡◌, ℕ, zero, suc, ◌-◌, ◌<◌, ◌≤◌, Bool, true, false, cond, List, [], ◌∷◌, ◌++◌, length}
use Rattle.std.proofs.Common.{take, drop, Option, Some, None, refl, sym, ap, ◌∙◌, arith}
use Rattle.std.specs.Option.{option_map}
use Rattle.event_costs.specs.declared.event.Event.{Event}
use Rattle.event_costs.specs.declared.numbers.FuncId.{FuncId}
use Rattle.event_costs.specs.Keys.{Place}
use Rattle.sym_map.specs.SymbolMap.{SymbolMap, place_of}
use Rattle.shadow_stack.specs.declared.arena.Head.{Head}
use Rattle.shadow_stack.specs.Arenas.{Node}
use Rattle.shadow_stack.specs.declared.frame.Frame.{Frame}
use Rattle.shadow_stack.specs.declared.frame.Kind.{Kind}
use Rattle.shadow_stack.specs.Stacks.{Activation, Stack, is_rooted}
use Rattle.shadow_stack.specs.Changes.{Change, change, change_by, change_to, new_activation, activation_at, drop_count, next_func}
use Rattle.shadow_stack.specs.Frames.{closings, frame_of, frames_after, pushed_activation, pushing, stack, tellings, with_frame}
use Rattle.shadow_stack.specs.Arenas.{frames, stack_at, LiesIn}
use Rattle.shadow_stack.proofs.ChainLemmas.{length-stack_at}
use Rattle.shadow_stack.proofs.ChangeLemmas.{change-end, change-rooted, drop-end, end-le, rooted-some}

pub stack-drop : (n : ℕ) (fs : List Frame) → stack (drop n fs) ≡ drop n (stack fs)
stack-drop zero fs = refl
stack-drop (suc n) [] = refl
stack-drop (suc n) (f ∷ fs) = stack-drop n fs

-- what is pushed is pushed on something
pushed_on_some : (syms : SymbolMap) (e : Event) (s : Stack) (a : Activation) → is_rooted s ≡ true
    → (change syms e s).pushed ≡ Some a → 0 < length (change syms e s).rest
pushed_on_some syms e s a rooted is_pushed = by_ends e.ends refl
  where
    by_ends : (b : Bool) → e.ends ≡ b → 0 < length (change syms e s).rest
    by_ends false goes_on = rooted-some (change syms e s).rest (change-rooted syms e s goes_on rooted)
    by_ends true ends =
        absurd
        (cc (sym is_pushed
        ∙ ap (λ b.
        (cond {A = Change} b (record { rest = []; pushed = None }) (change_by syms e s e.done.flow)).pushed) ends))

-- A plan: what is kept of a chain, and the kind of what is pushed.
pub record IsPlan (syms : SymbolMap) (e : Event) (slots : List (Option Node)) (head kept : Head)
    (kind : Option Kind) : Type 0 where
  pub below : kept.depth ≤ head.depth
  pub count : head.depth - kept.depth ≡ drop_count syms e (stack_at slots head)
  pub rest : drop (head.depth - kept.depth) (stack_at slots head) ≡ stack_at slots kept
  pub pushed_is : (change syms e (stack_at slots head)).pushed
      ≡ option_map (λ k. new_activation syms e k (stack_at slots kept)) kind
  pub some : (k : Kind) → kind ≡ Some k → 0 < kept.depth

pub plan_of : (syms : SymbolMap) (e : Event) (slots : List (Option Node)) (head kept : Head) (kind : Option Kind)
    → LiesIn slots head → 0 < head.depth → LiesIn slots kept
    → change_to syms e (stack_at slots kept) kind ≡ change syms e (stack_at slots head)
    → IsPlan syms e slots head kept kind
plan_of syms e slots head kept kind lies some kept_lies same =
    let s = stack_at slots head in
    let kept_is : stack_at slots kept ≡ (change syms e (stack_at slots head)).rest = ap (λ (c : Change). c.rest) same in
    let pushed_is : (change syms e (stack_at slots head)).pushed
    ≡ option_map (λ k. new_activation syms e k (stack_at slots kept)) kind = sym (ap (λ (c : Change). c.pushed) same) in
    let whole = length-stack_at slots head lies in
    let part = length-stack_at slots kept kept_lies in
    let sizes : length (stack_at slots kept) ≡ length (change syms e (stack_at slots head)).rest
    = ap (length {A = Activation}) kept_is in
    let less = end-le (change syms e s).rest s (change-end syms e s) in
    let count : head.depth - kept.depth ≡ drop_count syms e (stack_at slots head) = omega (arith, whole, part, sizes) in
    record {
      below = omega (arith, whole, part, sizes, less);
      count = count;
      rest = ap (λ n. drop n s) count ∙ drop-end (change syms e s).rest s (change-end syms e s) ∙ sym kept_is;
      pushed_is = pushed_is;
      some = λ k is.
          let on = pushed_on_some syms e s (new_activation syms e k (stack_at slots kept)) (lies.rooted some)
          (pushed_is ∙ ap (option_map (λ j. new_activation syms e j (stack_at slots kept))) is) in
          omega (arith, part, sizes, on);
    }

-- the frame that is entered is the one of the change
pub entered_is : (syms : SymbolMap) (e : Event) (place : Place) (func : FuncId) (kind : Kind) (s kept : Stack)
    → place ≡ place_of syms e.done.pc → func ≡ next_func syms e → s ≡ kept
    → activation_at place func kind s ≡ new_activation syms e kind kept
entered_is syms e place func kind s kept p f k =
    ap (λ (q : Place). activation_at q func kind s) p
    ∙ ap (λ (g : FuncId). activation_at (place_of syms e.done.pc) g kind s) f
    ∙ ap (λ (t : Stack). new_activation syms e kind t) k

pub pushed_now : (syms : SymbolMap) (e : Event) (slots : List (Option Node)) (head kept : Head) (o : Option Kind)
    (k : Kind) (place : Place) (func : FuncId) (mid : List Frame)
    → IsPlan syms e slots head kept o → o ≡ Some k → place ≡ place_of syms e.done.pc → func ≡ next_func syms e
    → mid ≡ drop (head.depth - kept.depth) (frames slots head)
    → pushed_activation syms e (frames slots head) ≡ Some (activation_at place func k (stack mid))
pushed_now syms e slots head kept o k place func mid plan is at to mid_is =
    let rest : stack mid ≡ stack_at slots kept = ap stack mid_is
    ∙ stack-drop (head.depth - kept.depth) (frames slots head) ∙ plan.rest in
    plan.pushed_is ∙ ap (option_map (λ j. new_activation syms e j (stack_at slots kept))) is
    ∙ ap (λ (a : Activation). Some a)
    (sym (entered_is syms e place func k (stack mid) (stack_at slots kept) at to rest))

pub tellings_now : (syms : SymbolMap) (e : Event) (total : List ℕ) (slots : List (Option Node)) (head kept : Head)
    (o : Option Kind) (a : Activation) → IsPlan syms e slots head kept o
    → pushed_activation syms e (frames slots head) ≡ Some a → tellings syms total (frames slots head) e
    ≡ closings total (take (head.depth - kept.depth) (frames slots head)) ++ pushing (Some a)
tellings_now syms e total slots head kept o a plan is =
    ap (λ n. closings total (take n (frames slots head)) ++ pushing (pushed_activation syms e (frames slots head)))
    (sym plan.count)
    ∙ ap (λ (p : Option Activation). closings total (take (head.depth - kept.depth) (frames slots head))
    ++ pushing p) is

pub frames_now : (syms : SymbolMap) (e : Event) (total : List ℕ) (slots : List (Option Node)) (head kept : Head)
    (o : Option Kind) (a : Activation) (mid : List Frame) → IsPlan syms e slots head kept o
    → pushed_activation syms e (frames slots head) ≡ Some a → mid ≡ drop (head.depth - kept.depth) (frames slots head)
    → frame_of total a ∷ mid ≡ frames_after syms total (frames slots head) e
frames_now syms e total slots head kept o a mid plan is mid_is =
    ap (λ (fs : List Frame). frame_of total a ∷ fs) (mid_is ∙ ap (λ n. drop n (frames slots head)) plan.count)
    ∙ sym (ap
    (λ (p : Option Activation). with_frame total p
    (drop (drop_count syms e (stack_at slots head)) (frames slots head))) is)
