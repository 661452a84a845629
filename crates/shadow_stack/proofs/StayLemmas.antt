-- What holds where an event leaves its stack as it is.
use Rattle.std.proofs.Common.{◌≡◌, ℕ, List, [], ◌++◌, length, take, drop, Option, None, sym, ap, ◌∙◌, arith}
use Rattle.event_costs.specs.declared.event.Event.{Event}
use Rattle.sym_map.specs.SymbolMap.{SymbolMap}
use Rattle.shadow_stack.specs.declared.frame.Frame.{Frame}
use Rattle.shadow_stack.specs.Stacks.{Activation}
use Rattle.shadow_stack.specs.Changes.{Change, change, drop_count, no_change}
use Rattle.shadow_stack.specs.Frames.{closings, frames_after, pushed_activation, pushing, stack, tellings, with_frame}

abbrev pub Stays : SymbolMap → Event → List Frame → Type 0
Stays syms e fs = change syms e (stack fs) ≡ no_change (stack fs)

pub none_gone : (syms : SymbolMap) (e : Event) (fs : List Frame) → Stays syms e fs → drop_count syms e (stack fs) ≡ 0
none_gone syms e fs is =
    let same : length (change syms e (stack fs)).rest ≡ length (stack fs) = ap (λ (c : Change). length c.rest) is in
    omega arith

pub none_pushed : (syms : SymbolMap) (e : Event) (fs : List Frame) → Stays syms e fs → pushed_activation syms e fs ≡ None
none_pushed syms e fs is = ap (λ (c : Change). c.pushed) is

pub same_frames : (syms : SymbolMap) (total : List ℕ) (e : Event) (fs : List Frame) → Stays syms e fs
    → fs ≡ frames_after syms total fs e
same_frames syms total e fs is =
    sym (ap (λ (p : Option Activation). with_frame total p (drop (drop_count syms e (stack fs)) fs))
    (none_pushed syms e fs is)
    ∙ ap (λ n. drop n fs) (none_gone syms e fs is))

pub nothing_told : (syms : SymbolMap) (total : List ℕ) (e : Event) (fs : List Frame) → Stays syms e fs
    → tellings syms total fs e ≡ []
nothing_told syms total e fs is =
    ap (λ (p : Option Activation). closings total (take (drop_count syms e (stack fs)) fs) ++ pushing p)
    (none_pushed syms e fs is)
    ∙ ap (λ n. closings total (take n fs) ++ []) (none_gone syms e fs is)
