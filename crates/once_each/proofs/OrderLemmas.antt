-- Where each event goes on where its thread's last one led, the top of each stack is of the function of the pc.
use Rattle.std.proofs.Common.{◌≡◌, ℕ, Bool, true, false, cond, List, [], ◌∷◌, ◌++◌, Option, None, Some, refl, sym, ap}
use Rattle.std.proofs.Common.{◌∙◌}
use Rattle.std.specs.List.{AllByRecursion}
use Rattle.std.proofs.lemmas.Bool.{eqb-true}
use Rattle.event_costs.specs.declared.event.Event.{Event}
use Rattle.event_costs.specs.declared.event.Flow.{Flow}
use Rattle.event_costs.specs.declared.event.Flow.TheVariants.{Call, Jump, Swap, Plain}
use Rattle.event_costs.specs.declared.numbers.FuncId.{FuncId}
use Rattle.sym_map.specs.SymbolMap.{SymbolMap, place_of}
use Rattle.shadow_stack.specs.Kinds.{is_jump}
use Rattle.shadow_stack.specs.Stacks.{Stack, is_activation_of, root, top_of}
use Rattle.shadow_stack.specs.Changes.{Change, after, change_by, cut, down_to, next_func, settle, settle_on}
use Rattle.shadow_stack.specs.Changes.{with_pushed}
use Rattle.shadow_stack.specs.Traces.{CountedEvent, events_by, events_on_stacks_from, stack_after, stack_of}
use Rattle.once_each.specs.Orderly.{FitsTop, GoOnFrom, LeadTo}

-- the stack of a change
abbrev made : Change → Stack
made c = with_pushed c.pushed c.rest

down_to-top : (func : FuncId) (s rest : Stack) → down_to func s ≡ Some rest → top_of rest ≡ Some func
down_to-top func [] rest is = absurd (cc)
down_to-top func (a ∷ s) rest is = by (is_activation_of func a) (is_jump a.kind) refl is (down_to-top func s rest)
  where
    by : (b c : Bool) → is_activation_of func a ≡ b → cond b (Some (a ∷ s)) (cond c (down_to func s) None) ≡ Some rest
        → (down_to func s ≡ Some rest → top_of rest ≡ Some func) → top_of rest ≡ Some func
    by true c of is later =
        let same : a ∷ s ≡ rest = cc in
        ap top_of (sym same) ∙ ap (λ n. Some (record { 0 = n })) (eqb-true a.func.0 func.0 of)
    by false true of is later = later is
    by false false of is later = absurd (cc)

settle-top : (syms : SymbolMap) (e : Event) (s : Stack) → top_of (made (settle syms e s)) ≡ Some (next_func syms e)
settle-top syms e s = by (down_to (next_func syms e) s) (down_to-top (next_func syms e) s)
  where
    by : (o : Option Stack) → ((rest : Stack) → o ≡ Some rest → top_of rest ≡ Some (next_func syms e))
        → top_of (made (settle_on syms e s o)) ≡ Some (next_func syms e)
    by (Some rest) top = top rest refl
    by None top = refl

-- an event that doesn't end its thread leaves the next pc's function on top
after-top : (syms : SymbolMap) (e : Event) (s : Stack) → e.ends ≡ false
    → top_of (after syms s e) ≡ Some (next_func syms e)
after-top syms e s goes_on =
    ap (λ b. top_of (made (cond b (record { rest = []; pushed = None }) (change_by syms e s e.done.flow)))) goes_on
    ∙ by e.done.flow
  where
    by : (flow : Flow) → top_of (made (change_by syms e s flow)) ≡ Some (next_func syms e)
    by Plain = settle-top syms e s
    by Call = refl
    by Jump = settle-top syms e (cut syms e s)
    by Swap = refl

led-top : (syms : SymbolMap) (s : Stack) (e : Event) (es : List Event) (pc : ℕ) → LeadTo (e ∷ es) pc
    → top_of (stack_after syms s (e ∷ es)) ≡ Some (place_of syms pc).func
led-top syms s e [] pc led = after-top syms e s led.0 ∙ ap (λ n. Some (place_of syms n).func) led.1
led-top syms s e (f ∷ es) pc led = led-top syms (after syms s e) f es pc led

stack-top : (syms : SymbolMap) (es : List Event) (pc : ℕ) → LeadTo es pc
    → top_of (stack_of syms es pc) ≡ Some (place_of syms pc).func
stack-top syms [] pc led = refl
stack-top syms (e ∷ es) pc led = led-top syms (root syms e.done.pc) e es pc led

pub fit_tops : (syms : SymbolMap) (earlier xs : List CountedEvent) → GoOnFrom earlier xs
    → AllByRecursion (FitsTop syms) (events_on_stacks_from syms earlier xs)
fit_tops syms earlier [] go = tt
fit_tops syms earlier (x ∷ xs) go =
    (stack-top syms (events_by x.event.thread earlier) x.event.done.pc go.0, fit_tops syms (earlier ++ x ∷ []) xs go.1)
