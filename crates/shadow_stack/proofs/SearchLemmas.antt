-- Searches from the top of a stack.
use Rattle.std.proofs.Common.{◌≡◌, ℕ, ◌<◌, ◌==◌, ◌&&◌, ◌||◌, Bool, true, false, not, cond, List, [], ◌∷◌, length}
use Rattle.std.proofs.Common.{is_some, Option, Some, None, refl, sym, ap, ◌∙◌, arith}
use Rattle.std.specs.Option.{option_map}
use Rattle.std.proofs.lemmas.Bool.{eqb-true}
use Rattle.event_costs.specs.declared.event.Event.{Event}
use Rattle.event_costs.specs.declared.numbers.FuncId.{FuncId}
use Rattle.sym_map.specs.SymbolMap.{SymbolMap, is_entry_at}
use Rattle.shadow_stack.specs.declared.frame.Frame.{Frame}
use Rattle.shadow_stack.specs.declared.frame.Kind.{Kind}
use Rattle.shadow_stack.specs.declared.frame.Kind.TheVariants.{Root, Call, Jump}
use Rattle.shadow_stack.specs.Kinds.{is_jump, is_left_by, is_level}
use Rattle.shadow_stack.specs.Stacks.{Activation, Stack, Group, is_activation_of, has_func, is_top, members, groups, on_groups}
use Rattle.shadow_stack.specs.Stacks.{stack_of_groups, base_of, rest_of}
use Rattle.shadow_stack.specs.Changes.{beneath_call, down_to, is_returned_from, next_func}
use Rattle.shadow_stack.specs.Frames.{stack}
use Rattle.shadow_stack.specs.Arenas.{least_with, least_sp, greatest_with, greatest_sp}
use Rattle.shadow_stack.proofs.ChangeLemmas.{stack_of_groups-groups}

-- a call with a stack pointer that is below the least isn't there
other_call : (e : Event) (k : Kind) (least : ℕ) → e.done.sp < least_with k least → (is_left_by e k ≡ false)
other_call e Root least below = refl
other_call e Jump least below = refl
other_call e (Call ret sp) least below = by_test (ret == e.done.next) (sp == e.done.sp) refl
  where
    by_test : (a b : Bool) → (sp == e.done.sp) ≡ b → a && b ≡ false
    by_test false b e-is = refl
    by_test true false e-is = refl
    by_test true true same = absurd (omega (arith, eqb-true sp e.done.sp same))

beneath_least : (k : Kind) (n least : ℕ) → n < least_with k least → n < least
beneath_least Root n least below = below
beneath_least Jump n least below = below
beneath_least (Call ret sp) n least below = omega arith

pub no_call_below : (e : Event) (fs : List Frame) → e.done.sp < least_sp fs → beneath_call e (stack fs) ≡ None
no_call_below e [] below = refl
no_call_below e (f ∷ fs) below =
    ap (λ b. cond b (Some (stack fs)) (beneath_call e (stack fs))) (other_call e f.kind (least_sp fs) below)
    ∙ no_call_below e fs (beneath_least f.kind e.done.sp (least_sp fs) below)

-- and so with one above the greatest
call_beneath : (e : Event) (k : Kind) (greatest : ℕ) → greatest_with k greatest < e.done.sp → (is_left_by e k ≡ false)
call_beneath e Root greatest above = refl
call_beneath e Jump greatest above = refl
call_beneath e (Call ret sp) greatest above = by_test (ret == e.done.next) (sp == e.done.sp) refl
  where
    by_test : (a b : Bool) → (sp == e.done.sp) ≡ b → a && b ≡ false
    by_test false b e-is = refl
    by_test true false e-is = refl
    by_test true true same = absurd (omega (arith, eqb-true sp e.done.sp same))

above_greatest : (k : Kind) (n greatest : ℕ) → greatest_with k greatest < n → greatest < n
above_greatest Root n greatest above = above
above_greatest Jump n greatest above = above
above_greatest (Call ret sp) n greatest above = omega arith

pub no_call_above : (e : Event) (fs : List Frame) → greatest_sp fs < e.done.sp → beneath_call e (stack fs) ≡ None
no_call_above e [] above = refl
no_call_above e (f ∷ fs) above =
    ap (λ b. cond b (Some (stack fs)) (beneath_call e (stack fs))) (call_beneath e f.kind (greatest_sp fs) above)
    ∙ no_call_above e fs (above_greatest f.kind e.done.sp (greatest_sp fs) above)

-- the innermost group has a frame of the function exactly where the search finds one
abbrev first_has : FuncId → List Group → Bool
first_has func [] = false
first_has func (g ∷ gs) = has_func func (members g)

alone : (b c : Bool) (s : Stack) (o : Option Stack) → (c ≡ true → is_some o ≡ false)
    → (b || false) ≡ is_some (cond b (Some s) (cond c o None))
alone true c s o h = refl
alone false true s o h = sym (h refl)
alone false false s o h = refl

with_more : (b c : Bool) (s : Stack) (o : Option Stack) → c ≡ is_some o → (b || c) ≡ is_some (cond b (Some s) o)
with_more true c s o h = refl
with_more false c s o h = h

first_has-on : (func : FuncId) (a : Activation) (s : Stack) (gs : List Group) (o : Option Stack)
    → first_has func gs ≡ is_some o
    → first_has func (on_groups a gs) ≡ is_some (cond (is_activation_of func a) (Some (a ∷ s)) (cond (is_jump a.kind) o None))
first_has-on func a s [] o later = alone (is_activation_of func a) (is_jump a.kind) (a ∷ s) o (λ jumps. sym later)
first_has-on func a s (g ∷ gs) o later = by_jump (is_jump a.kind)
  where
    by_jump : (c : Bool)
        → first_has func
        (cond c (record { jumps = a ∷ g.jumps; base = g.base } ∷ gs) (record { jumps = []; base = a } ∷ (g ∷ gs)))
        ≡ is_some (cond (is_activation_of func a) (Some (a ∷ s)) (cond c o None))
    by_jump true = with_more (is_activation_of func a) (has_func func (members g)) (a ∷ s) o later
    by_jump false = alone (is_activation_of func a) false (a ∷ s) o (λ h. absurd (cc))

first_has-groups : (func : FuncId) (s : Stack) → first_has func (groups s) ≡ is_some (down_to func s)
first_has-groups func [] = refl
first_has-groups func (a ∷ s) = first_has-on func a s (groups s) (down_to func s) (first_has-groups func s)

is_some-map : {A B : Type 0} (f : A → B) (o : Option A) → is_some (option_map f o) ≡ is_some o
is_some-map f None = refl
is_some-map f (Some x) = refl

no_fourth : (a b c d : Bool) → c ≡ false → a && b && c && d ≡ false
no_fourth true true c d h = ap (λ x. x && d) h
no_fourth true false c d h = refl
no_fourth false b c d h = refl

the_fourth : (a b c d : Bool) → a ≡ true → b ≡ true → c ≡ true → a && b && c && d ≡ d
the_fourth true true true d p q r = refl
the_fourth true true false d p q r = absurd (cc)
the_fourth true false c d p q r = absurd (cc)
the_fourth false b c d p q r = absurd (cc)

-- the test of the innermost group by what the searches find
returned : (syms : SymbolMap) (e : Event) (s below : Stack) → 0 < length s → groups below ≡ rest_of (groups s)
    → is_returned_from syms e (groups s)
    ≡ (is_level e (base_of (groups s)) && not (is_entry_at syms e.done.next)
    && not (is_some (down_to (next_func syms e) s)) && is_top (next_func syms e) below)
returned syms e s below some rest = by_groups (groups s) refl rest (first_has-groups (next_func syms e) s)
  where
    by_groups : (gs : List Group) → groups s ≡ gs → groups below ≡ rest_of gs
        → first_has (next_func syms e) gs ≡ is_some (down_to (next_func syms e) s)
        → is_returned_from syms e gs
        ≡ (is_level e (base_of gs) && not (is_entry_at syms e.done.next)
        && not (is_some (down_to (next_func syms e) s)) && is_top (next_func syms e) below)
    by_groups [] none rest has =
        absurd (omega (arith, ap (length {A = Activation}) (sym (stack_of_groups-groups s) ∙ ap stack_of_groups none)))
    by_groups (g ∷ gs) are rest has =
        ap (λ b. is_level e g.base.kind && not (is_entry_at syms e.done.next) && not b
        && is_top (next_func syms e) (stack_of_groups gs)) has
        ∙ ap (λ t. is_level e g.base.kind && not (is_entry_at syms e.done.next)
        && not (is_some (down_to (next_func syms e) s)) && is_top (next_func syms e) t)
        (ap stack_of_groups (sym rest) ∙ stack_of_groups-groups below)

pub returned_found : (syms : SymbolMap) (e : Event) (s below : Stack) (func : FuncId) → 0 < length s
    → groups below ≡ rest_of (groups s) → func ≡ next_func syms e
    → is_some (down_to func s) ≡ true → is_returned_from syms e (groups s) ≡ false
returned_found syms e s below func some rest is found =
    returned syms e s below some rest
    ∙ no_fourth (is_level e (base_of (groups s))) (not (is_entry_at syms e.done.next))
    (not (is_some (down_to (next_func syms e) s))) (is_top (next_func syms e) below)
    (ap (λ f. not (is_some (down_to f s))) (sym is) ∙ ap not found)

pub returned_top : (syms : SymbolMap) (e : Event) (s below : Stack) (func : FuncId) → 0 < length s
    → groups below ≡ rest_of (groups s) → func ≡ next_func syms e
    → is_level e (base_of (groups s)) ≡ true → is_entry_at syms e.done.next ≡ false → is_some (down_to func s) ≡ false
    → is_returned_from syms e (groups s) ≡ is_top func below
returned_top syms e s below func some rest is level entry absent =
    returned syms e s below some rest
    ∙ the_fourth (is_level e (base_of (groups s))) (not (is_entry_at syms e.done.next))
    (not (is_some (down_to (next_func syms e) s))) (is_top (next_func syms e) below)
    level (ap not entry) (ap (λ f. not (is_some (down_to f s))) (sym is) ∙ ap not absent)
    ∙ ap (λ f. is_top f below) (sym is)

pub is_some-found : {A : Type 0} (f : A → Stack) (o : Option A) (found : Option Stack) → option_map f o ≡ found
    → is_some found ≡ is_some o
is_some-found f o found e = ap is_some (sym e) ∙ is_some-map f o
