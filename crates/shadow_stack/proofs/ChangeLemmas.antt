-- What an event keeps of a stack is a lower end of it, and keeps its root.
use Rattle.std.proofs.Common.{◌≡◌, ◌-◌, ◌<◌, ◌≤◌, ◌&&◌, Bool, true, false, cond, List, [], ◌∷◌, ◌++◌, length, drop}
use Rattle.std.specs.Option.{unwrap_or}
use Rattle.std.proofs.Common.{Option, Some, None, refl, sym, ap, subst, ◌∙◌, arith, append_assoc, length-append}
use Rattle.event_costs.specs.declared.event.Event.{Event}
use Rattle.event_costs.specs.declared.event.Flow.{Flow}
use Rattle.event_costs.specs.declared.event.Flow.TheVariants.{Call, Jump, Swap, Plain}
use Rattle.event_costs.specs.declared.numbers.FuncId.{FuncId}
use Rattle.sym_map.specs.SymbolMap.{SymbolMap}
use Rattle.shadow_stack.specs.Kinds.{is_jump, is_root, is_left_by, returns_by}
use Rattle.shadow_stack.specs.Stacks.{Activation, Stack, Group, is_activation_of, is_rooted, members, groups, on_groups, stack_of_groups}
use Rattle.shadow_stack.specs.Changes.{Change, beneath_call, drop_groups, is_under, is_returned_from, remaining_groups}
use Rattle.shadow_stack.specs.Changes.{cut, down_to, settle, settle_on, change, change_by, next_func}
use Rattle.shadow_stack.proofs.KindLemmas.{not_root_left, not_root_below, not_root_level, not_root_returns}

-- a lower end of a stack
pub record IsEnd (kept s : Stack) : Type 0 where
  pub front : Stack
  pub whole : s ≡ front ++ kept

pub whole_end : (s : Stack) → IsEnd s s
whole_end s = record { front = []; whole = refl }

pub IsEnd-cons : (kept s : Stack) (a : Activation) → IsEnd kept s → IsEnd kept (a ∷ s)
IsEnd-cons kept s a e = record { front = a ∷ e.front; whole = ap (λ (l : Stack). a ∷ l) e.whole }

pub IsEnd-append : (front kept s : Stack) → IsEnd kept s → IsEnd kept (front ++ s)
IsEnd-append [] kept s e = e
IsEnd-append (a ∷ front) kept s e = IsEnd-cons kept (front ++ s) a (IsEnd-append front kept s e)

pub IsEnd-trans : (a b c : Stack) → IsEnd a b → IsEnd b c → IsEnd a c
IsEnd-trans a b c d e = subst (λ (s : Stack). IsEnd a s) (sym e.whole) (IsEnd-append e.front a b d)

drop-front : (front kept : Stack) → drop (length front) (front ++ kept) ≡ kept
drop-front [] kept = refl
drop-front (a ∷ front) kept = drop-front front kept

-- an end is what is left once as many are dropped as it is shorter
pub drop-end : (kept s : Stack) → IsEnd kept s → drop (length s - length kept) s ≡ kept
drop-end kept s e =
    let sizes : length s - length kept ≡ length e.front
    = omega (arith, ap (length {A = Activation}) e.whole, length-append e.front kept) in
    ap (λ n. drop n s) sizes ∙ ap (drop (length e.front)) e.whole ∙ drop-front e.front kept

pub end-le : (kept s : Stack) → IsEnd kept s → length kept ≤ length s
end-le kept s e = omega (arith, ap (length {A = Activation}) e.whole, length-append e.front kept)

-- the groups of a stack are its activations in their order
stack_of_groups-on : (a : Activation) (gs : List Group) → stack_of_groups (on_groups a gs) ≡ a ∷ stack_of_groups gs
stack_of_groups-on a [] = refl
stack_of_groups-on a (g ∷ gs) = by_jump (is_jump a.kind)
  where
    by_jump : (b : Bool)
        → stack_of_groups
        (cond b (record { jumps = a ∷ g.jumps; base = g.base } ∷ gs) (record { jumps = []; base = a } ∷ (g ∷ gs)))
        ≡ a ∷ stack_of_groups (g ∷ gs)
    by_jump true = refl
    by_jump false = refl

pub stack_of_groups-groups : (s : Stack) → stack_of_groups (groups s) ≡ s
stack_of_groups-groups [] = refl
stack_of_groups-groups (a ∷ s) = stack_of_groups-on a (groups s) ∙ ap (λ (l : Stack). a ∷ l) (stack_of_groups-groups s)

drop_groups-end : (test : List Group → Bool) (gs : List Group) → IsEnd (stack_of_groups (drop_groups test gs)) (stack_of_groups gs)
drop_groups-end test [] = whole_end []
drop_groups-end test (g ∷ gs) = by_test (test (g ∷ gs)) (drop_groups-end test gs)
  where
    by_test : (b : Bool) → IsEnd (stack_of_groups (drop_groups test gs)) (stack_of_groups gs)
        → IsEnd (stack_of_groups (cond b (drop_groups test gs) (g ∷ gs))) (stack_of_groups (g ∷ gs))
    by_test true later = IsEnd-append (members g) (stack_of_groups (drop_groups test gs)) (stack_of_groups gs) later
    by_test false later = whole_end (stack_of_groups (g ∷ gs))

remaining_groups-end : (syms : SymbolMap) (e : Event) (gs : List Group)
    → IsEnd (stack_of_groups (remaining_groups syms e gs)) (stack_of_groups gs)
remaining_groups-end syms e [] = whole_end []
remaining_groups-end syms e (g ∷ gs) = by_test (returns_by e g.base.kind)
  where
    under : List Group
    under = drop_groups (is_under e) (g ∷ gs)

    by_test : (b : Bool)
        → IsEnd (stack_of_groups (cond b gs (drop_groups (is_returned_from syms e) (drop_groups (is_under e) (g ∷ gs)))))
        (stack_of_groups (g ∷ gs))
    by_test true = IsEnd-append (members g) (stack_of_groups gs) (stack_of_groups gs) (whole_end (stack_of_groups gs))
    by_test false =
        IsEnd-trans (stack_of_groups (drop_groups (is_returned_from syms e) (drop_groups (is_under e) (g ∷ gs))))
        (stack_of_groups (drop_groups (is_under e) (g ∷ gs))) (stack_of_groups (g ∷ gs))
        (drop_groups-end (is_returned_from syms e) (drop_groups (is_under e) (g ∷ gs)))
        (drop_groups-end (is_under e) (g ∷ gs))

beneath_call-end : (e : Event) (s rest : Stack) → beneath_call e s ≡ Some rest → IsEnd rest s
beneath_call-end e [] rest found = absurd (cc)
beneath_call-end e (a ∷ s) rest found = by_test (is_left_by e a.kind) found (beneath_call-end e s rest)
  where
    by_test : (b : Bool) → cond b (Some s) (beneath_call e s) ≡ Some rest
        → (beneath_call e s ≡ Some rest → IsEnd rest s) → IsEnd rest (a ∷ s)
    by_test true here later =
        IsEnd-cons rest s a (subst (λ (r : Stack). IsEnd r s) (let same : s ≡ rest = cc in same) (whole_end s))
    by_test false there later = IsEnd-cons rest s a (later there)

pub cut-end : (syms : SymbolMap) (e : Event) (s : Stack) → IsEnd (cut syms e s) s
cut-end syms e s = by_call (beneath_call e s) (beneath_call-end e s)
  where
    by_call : (o : Option Stack) → ((rest : Stack) → o ≡ Some rest → IsEnd rest s)
        → IsEnd (unwrap_or o (stack_of_groups (remaining_groups syms e (groups s)))) s
    by_call (Some rest) ends = ends rest refl
    by_call None ends = subst (λ (t : Stack). IsEnd (stack_of_groups (remaining_groups syms e (groups s))) t) (stack_of_groups-groups s)
        (remaining_groups-end syms e (groups s))

down_to-end : (func : FuncId) (s rest : Stack) → down_to func s ≡ Some rest → IsEnd rest s
down_to-end func [] rest found = absurd (cc)
down_to-end func (a ∷ s) rest found = by_test (is_activation_of func a) (is_jump a.kind) found (down_to-end func s rest)
  where
    by_test : (b c : Bool) → cond b (Some (a ∷ s)) (cond c (down_to func s) None) ≡ Some rest
        → (down_to func s ≡ Some rest → IsEnd rest s) → IsEnd rest (a ∷ s)
    by_test true c here later =
        subst (λ (r : Stack). IsEnd r (a ∷ s)) (let same : a ∷ s ≡ rest = cc in same) (whole_end (a ∷ s))
    by_test false true there later = IsEnd-cons rest s a (later there)
    by_test false false none later = absurd (cc)

settle-end : (syms : SymbolMap) (e : Event) (s : Stack) → IsEnd (settle syms e s).rest s
settle-end syms e s = by_found (down_to (next_func syms e) s) (down_to-end (next_func syms e) s)
  where
    by_found : (o : Option Stack) → ((rest : Stack) → o ≡ Some rest → IsEnd rest s)
        → IsEnd (settle_on syms e s o).rest s
    by_found (Some rest) ends = ends rest refl
    by_found None ends = whole_end s

change_by-end : (syms : SymbolMap) (e : Event) (s : Stack) (flow : Flow) → IsEnd (change_by syms e s flow).rest s
change_by-end syms e s Plain = settle-end syms e s
change_by-end syms e s Call = whole_end s
change_by-end syms e s Jump =
    IsEnd-trans (settle syms e (cut syms e s)).rest (cut syms e s) s (settle-end syms e (cut syms e s))
    (cut-end syms e s)
change_by-end syms e s Swap = cut-end syms e s

all-end : (s : Stack) → IsEnd [] s
all-end [] = whole_end []
all-end (a ∷ s) = IsEnd-cons [] s a (all-end s)

pub change-end : (syms : SymbolMap) (e : Event) (s : Stack) → IsEnd (change syms e s).rest s
change-end syms e s = by_ends e.ends
  where
    by_ends : (b : Bool) → IsEnd (cond b (record { rest = []; pushed = None }) (change_by syms e s e.done.flow)).rest s
    by_ends true = all-end s
    by_ends false = change_by-end syms e s e.done.flow

-- What an event keeps of a stack with a root has that root, unless the thread ends.
rooted-front : (front : Stack) (a : Activation) (s : Stack) → is_rooted (front ++ a ∷ s) ≡ is_rooted (a ∷ s)
rooted-front [] a s = refl
rooted-front (b ∷ []) a s = refl
rooted-front (b ∷ (c ∷ front)) a s = rooted-front (c ∷ front) a s

pub rooted-end : (kept s : Stack) → IsEnd kept s → 0 < length kept → is_rooted s ≡ is_rooted kept
rooted-end [] s e some = absurd (omega arith)
rooted-end (a ∷ kept) s e some = ap is_rooted e.whole ∙ rooted-front e.front a kept

-- a group that doesn't begin with a root has others beneath it
beneath_group : (g : Group) (gs : List Group) → is_rooted (stack_of_groups (g ∷ gs)) ≡ true → is_root g.base.kind ≡ false
    → is_rooted (stack_of_groups gs) ≡ true
beneath_group g gs rooted base = by_rest (stack_of_groups gs) refl
  where
    by_rest : (s : Stack) → stack_of_groups gs ≡ s → is_rooted (stack_of_groups gs) ≡ true
    by_rest [] none =
        absurd
        (cc (
          sym
              (ap (λ (l : Stack). is_rooted (members g ++ l)) none
              ∙ ap is_rooted (append_assoc g.jumps (g.base ∷ []) [])
              ∙ rooted-front g.jumps g.base []),
          rooted,
          base,
        ))
    by_rest (a ∷ s) some =
        ap is_rooted some ∙ sym (rooted-front (members g) a s)
        ∙ ap (λ (l : Stack). is_rooted (members g ++ l)) (sym some) ∙ rooted

drop_groups-rooted : (test : List Group → Bool) (gs : List Group)
    → ((g : Group) (hs : List Group) → test (g ∷ hs) ≡ true → is_root g.base.kind ≡ false)
    → is_rooted (stack_of_groups gs) ≡ true → is_rooted (stack_of_groups (drop_groups test gs)) ≡ true
drop_groups-rooted test [] calls rooted = rooted
drop_groups-rooted test (g ∷ gs) calls rooted = by_test (test (g ∷ gs)) refl (drop_groups-rooted test gs calls)
  where
    by_test : (b : Bool) → test (g ∷ gs) ≡ b
        → (is_rooted (stack_of_groups gs) ≡ true → is_rooted (stack_of_groups (drop_groups test gs)) ≡ true)
        → is_rooted (stack_of_groups (cond b (drop_groups test gs) (g ∷ gs))) ≡ true
    by_test true e later = later (beneath_group g gs rooted (calls g gs e))
    by_test false e later = rooted

first_of_four : (a b c d : Bool) → a && b && c && d ≡ true → a ≡ true
first_of_four true b c d h = refl
first_of_four false b c d h = h

remaining_groups-rooted : (syms : SymbolMap) (e : Event) (gs : List Group) → is_rooted (stack_of_groups gs) ≡ true
    → is_rooted (stack_of_groups (remaining_groups syms e gs)) ≡ true
remaining_groups-rooted syms e [] rooted = rooted
remaining_groups-rooted syms e (g ∷ gs) rooted = by_test (returns_by e g.base.kind) refl
  where
    under : is_rooted (stack_of_groups (drop_groups (is_under e) (g ∷ gs))) ≡ true
    under = drop_groups-rooted (is_under e) (g ∷ gs) (λ h hs passed. not_root_below e h.base.kind passed) rooted

    by_test : (b : Bool) → returns_by e g.base.kind ≡ b
        → is_rooted (stack_of_groups (cond b gs (drop_groups (is_returned_from syms e) (drop_groups (is_under e) (g ∷ gs)))))
        ≡ true
    by_test true returns = beneath_group g gs rooted (not_root_returns e g.base.kind returns)
    by_test false other =
        drop_groups-rooted (is_returned_from syms e) (drop_groups (is_under e) (g ∷ gs))
        (λ h hs passed. not_root_level e h.base.kind (first_of_four _ _ _ _ passed)) under

beneath_call-rooted : (e : Event) (s rest : Stack) → beneath_call e s ≡ Some rest → is_rooted s ≡ true
    → is_rooted rest ≡ true
beneath_call-rooted e [] rest found rooted = absurd (cc)
beneath_call-rooted e (a ∷ []) rest found rooted = by_test (is_left_by e a.kind) refl found
  where
    by_test : (b : Bool) → is_left_by e a.kind ≡ b → cond b (Some []) None ≡ Some rest → is_rooted rest ≡ true
    by_test true left here = absurd (cc (not_root_left e a.kind left, rooted))
    by_test false left none = absurd (cc)
beneath_call-rooted e (a ∷ (b ∷ s)) rest found rooted =
    by_test (is_left_by e a.kind) found (λ later. beneath_call-rooted e (b ∷ s) rest later rooted)
  where
    by_test : (t : Bool) → cond t (Some (b ∷ s)) (beneath_call e (b ∷ s)) ≡ Some rest
        → (beneath_call e (b ∷ s) ≡ Some rest → is_rooted rest ≡ true) → is_rooted rest ≡ true
    by_test true here later = let same : b ∷ s ≡ rest = cc in ap is_rooted (sym same) ∙ rooted
    by_test false there later = later there

pub cut-rooted : (syms : SymbolMap) (e : Event) (s : Stack) → is_rooted s ≡ true → is_rooted (cut syms e s) ≡ true
cut-rooted syms e s rooted = by_call (beneath_call e s) (λ rest found. beneath_call-rooted e s rest found rooted)
  where
    by_call : (o : Option Stack) → ((rest : Stack) → o ≡ Some rest → is_rooted rest ≡ true)
        → is_rooted (unwrap_or o (stack_of_groups (remaining_groups syms e (groups s)))) ≡ true
    by_call (Some rest) ends = ends rest refl
    by_call None ends = remaining_groups-rooted syms e (groups s) (ap is_rooted (stack_of_groups-groups s) ∙ rooted)

down_to-some : (func : FuncId) (s rest : Stack) → down_to func s ≡ Some rest → 0 < length rest
down_to-some func [] rest found = absurd (cc)
down_to-some func (a ∷ s) rest found = by_test (is_activation_of func a) (is_jump a.kind) found (down_to-some func s rest)
  where
    by_test : (b c : Bool) → cond b (Some (a ∷ s)) (cond c (down_to func s) None) ≡ Some rest
        → (down_to func s ≡ Some rest → 0 < length rest) → 0 < length rest
    by_test true c here later = let same : a ∷ s ≡ rest = cc in omega (arith, ap (length {A = Activation}) same)
    by_test false true there later = later there
    by_test false false none later = absurd (cc)

settle-rooted : (syms : SymbolMap) (e : Event) (s : Stack) → is_rooted s ≡ true
    → is_rooted (settle syms e s).rest ≡ true
settle-rooted syms e s rooted =
    by_found (down_to (next_func syms e) s)
    (λ rest found. sym
    (rooted-end rest s (down_to-end (next_func syms e) s rest found) (down_to-some (next_func syms e) s rest found))
    ∙ rooted)
  where
    by_found : (o : Option Stack) → ((rest : Stack) → o ≡ Some rest → is_rooted rest ≡ true)
        → is_rooted (settle_on syms e s o).rest ≡ true
    by_found (Some rest) kept = kept rest refl
    by_found None kept = rooted

change_by-rooted : (syms : SymbolMap) (e : Event) (s : Stack) (flow : Flow) → is_rooted s ≡ true
    → is_rooted (change_by syms e s flow).rest ≡ true
change_by-rooted syms e s Plain rooted = settle-rooted syms e s rooted
change_by-rooted syms e s Call rooted = rooted
change_by-rooted syms e s Jump rooted = settle-rooted syms e (cut syms e s) (cut-rooted syms e s rooted)
change_by-rooted syms e s Swap rooted = cut-rooted syms e s rooted

pub change-rooted : (syms : SymbolMap) (e : Event) (s : Stack) → e.ends ≡ false → is_rooted s ≡ true
    → is_rooted (change syms e s).rest ≡ true
change-rooted syms e s goes_on rooted =
    subst (λ (c : Change). is_rooted c.rest ≡ true)
    (sym (ap (λ b. cond b (record { rest = []; pushed = None }) (change_by syms e s e.done.flow)) goes_on))
    (change_by-rooted syms e s e.done.flow rooted)

pub rooted-some : (s : Stack) → is_rooted s ≡ true → 0 < length s
rooted-some [] h = absurd (cc)
rooted-some (a ∷ s) h = omega arith
