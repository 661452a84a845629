-- The top of a stack after an event is a frame of the function that the event leads to.
use Rattle.std.proofs.Common.{◌≡◌, ◌==◌, Bool, true, false, [], ◌∷◌, Option, Some, None, refl, ap}
use Rattle.std.proofs.Common.{subst, ◌∙◌, arith, if◌then◌else◌}
use Rattle.std.proofs.lemmas.Bool.Decides.{nat_tests}
use Rattle.event_costs.specs.declared.event.Event.{Event}
use Rattle.event_costs.specs.declared.event.Flow.{Flow}
use Rattle.event_costs.specs.declared.event.Flow.TheVariants.{Call, Jump, Swap, Plain}
use Rattle.event_costs.specs.declared.numbers.FuncId.{FuncId}
use Rattle.sym_map.specs.SymbolMap.{SymbolMap}
use Rattle.shadow_stack.specs.Kinds.{is_jump}
use Rattle.shadow_stack.specs.Stacks.{Activation, is_activation_of, Stack, top_of}
use Rattle.shadow_stack.specs.Changes.{after, Change, change_by, cut, down_to, next_func, settle_on, with_pushed}

same_func : (a b : FuncId) → a.0 == b.0 ≡ true → a ≡ b
same_func a b is = let e : a.0 ≡ b.0 = grind (arith, nat_tests) in λ i. record { 0 = e i }

-- what is left down to a function begins with a frame of it
found_here : (func : FuncId) (a : Activation) (s rest : Stack) (b c : Bool) → is_activation_of func a ≡ b → is_jump a.kind ≡ c
    → ((r : Stack) → down_to func s ≡ Some r → top_of r ≡ Some func)
    → (if b then Some (a ∷ s) else (if c then down_to func s else None)) ≡ Some rest → top_of rest ≡ Some func
found_here func a s rest true c is jumps more found =
    subst (λ (r : Stack). top_of r ≡ Some func) (some_is (a ∷ s) rest found)
    (ap (λ (f : FuncId). Some f) (same_func a.func func is))
  where
    some_is : (x y : Stack) → ◌≡◌ {A = Option Stack} (Some x) (Some y) → x ≡ y
    some_is x y same = ap (λ (o : Option Stack). get o x) same
      where
        get : Option Stack → Stack → Stack
        get (Some z) d = z
        get None d = d
found_here func a s rest false true is jumps more found = more rest found
found_here func a s rest false false is jumps more found = absurd (cc)

down_to-top : (func : FuncId) (s rest : Stack) → down_to func s ≡ Some rest → top_of rest ≡ Some func
down_to-top func [] rest found = absurd (cc)
down_to-top func (a ∷ s) rest found =
    found_here func a s rest (is_activation_of func a) (is_jump a.kind) refl refl (down_to-top func s) found

abbrev top_after : Change → Option FuncId
top_after c = top_of (with_pushed c.pushed c.rest)

settled_top : (syms : SymbolMap) (e : Event) (s : Stack) (o : Option Stack) → down_to (next_func syms e) s ≡ o
    → top_after (settle_on syms e s o) ≡ Some (next_func syms e)
settled_top syms e s None found = refl
settled_top syms e s (Some rest) found = down_to-top (next_func syms e) s rest found

top_by : (syms : SymbolMap) (e : Event) (s : Stack) (flow : Flow)
    → top_after (change_by syms e s flow) ≡ Some (next_func syms e)
top_by syms e s Plain = settled_top syms e s (down_to (next_func syms e) s) refl
top_by syms e s Call = refl
top_by syms e s Jump = settled_top syms e (cut syms e s) (down_to (next_func syms e) (cut syms e s)) refl
top_by syms e s Swap = refl

pub top_follows : (syms : SymbolMap) (s : Stack) (e : Event) → e.ends ≡ false
    → top_of (after syms s e) ≡ Some (next_func syms e)
top_follows syms s e goes_on =
    let last : Change = record { rest = []; pushed = None } in
    ap (λ b. top_after (if b then last else change_by syms e s e.done.flow)) goes_on ∙ top_by syms e s e.done.flow
