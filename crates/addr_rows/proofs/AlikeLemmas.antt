-- Stacks by two maps with the same functions and entries differ in their arcs alone.
use Rattle.std.proofs.Common.{◌≡◌, ℕ, ◌-◌, ◌||◌, ◌&&◌, Bool, true, false, List, [], ◌∷◌, ◌++◌, Option, None, Some, not}
use Rattle.std.proofs.Common.{length, map, refl, ap, sym, ◌∙◌, if◌then◌else◌}
use Rattle.std.specs.Option.{option_map, unwrap_or}
use Rattle.std.proofs.lemmas.List.{length-map, map-append}
use Rattle.event_costs.specs.declared.event.Event.{Event}
use Rattle.event_costs.specs.declared.event.Flow.{Flow}
use Rattle.event_costs.specs.declared.event.Flow.TheVariants.{Call, Jump, Swap, Plain}
use Rattle.event_costs.specs.declared.numbers.FuncId.{FuncId}
use Rattle.sym_map.specs.SymbolMap.{SymbolMap, is_entry_at, place_of}
use Rattle.shadow_stack.specs.Changes.{Change, above_sp, after, beneath_call, change, change_by, cut, down_to}
use Rattle.shadow_stack.specs.Changes.{drop_groups, drop_count, is_returned_from, is_under, remaining_groups, next_func}
use Rattle.shadow_stack.specs.Changes.{push, settle, settle_on, with_pushed}
use Rattle.shadow_stack.specs.Kinds.{call_of, is_jump, is_left_by, is_level, jump, returns_by}
use Rattle.shadow_stack.specs.Stacks.{Activation, Group, Stack, groups, has_func, is_activation_of, is_top, members, on_groups}
use Rattle.shadow_stack.specs.Stacks.{is_rooted, root, top_of, stack_of_groups}
use Rattle.shadow_stack.specs.Traces.{first_pc, stack_after, stack_of}
use Rattle.shadow_stack.specs.declared.frame.Kind.{Kind}
use Rattle.shadow_stack.specs.declared.frame.Kind.TheVariants.{Root}

-- Two maps with the same functions and entries.
pub record SameCode (m n : SymbolMap) : Type 0 where
  pub funcs : (pc : ℕ) → (place_of m pc).func ≡ (place_of n pc).func
  pub entries : (pc : ℕ) → is_entry_at m pc ≡ is_entry_at n pc

pub code_back : (m n : SymbolMap) → SameCode m n → SameCode n m
code_back m n same = record { funcs = λ pc. sym (same.funcs pc); entries = λ pc. sym (same.entries pc) }

-- an activation without its arc
abbrev pub shape : Activation → Activation
shape a = record { func = a.func; kind = a.kind; arc = None }

abbrev pub shapes : Stack → Stack
shapes s = map shape s

abbrev pub shaped : Change → Change
shaped c = record { rest = shapes c.rest; pushed = option_map shape c.pushed }

abbrev group_shape : Group → Group
group_shape g = record { jumps = shapes g.jumps; base = shape g.base }

abbrev group_shapes : List Group → List Group
group_shapes gs = map group_shape gs

-- ---- stacks without arcs

again : (s : Stack) → shapes (shapes s) ≡ shapes s
again [] = refl
again (a ∷ s) = λ i. shape a ∷ again s i

on_shaped : (a : Activation) (gs : List Group) → on_groups (shape a) (group_shapes gs) ≡ group_shapes (on_groups a gs)
on_shaped a [] = refl
on_shaped a (g ∷ gs) = by (is_jump a.kind)
  where
    by : (b : Bool)
        → (if b then record { jumps = shape a ∷ shapes g.jumps; base = shape g.base } ∷ group_shapes gs
        else record { jumps = []; base = shape a } ∷ (group_shape g ∷ group_shapes gs))
        ≡ group_shapes (if b then record { jumps = a ∷ g.jumps; base = g.base } ∷ gs
        else record { jumps = []; base = a } ∷ (g ∷ gs))
    by true = refl
    by false = refl

groups_shaped : (s : Stack) → groups (shapes s) ≡ group_shapes (groups s)
groups_shaped [] = refl
groups_shaped (a ∷ s) = ap (on_groups (shape a)) (groups_shaped s) ∙ on_shaped a (groups s)

members_shaped : (g : Group) → members (group_shape g) ≡ shapes (members g)
members_shaped g = sym (map-append shape g.jumps (g.base ∷ []))

ungrouped_shaped : (gs : List Group) → stack_of_groups (group_shapes gs) ≡ shapes (stack_of_groups gs)
ungrouped_shaped [] = refl
ungrouped_shaped (g ∷ gs) =
    (λ i. members_shaped g i ++ ungrouped_shaped gs i) ∙ sym (map-append shape (members g) (stack_of_groups gs))

has_shaped : (f : FuncId) (s : Stack) → has_func f (shapes s) ≡ has_func f s
has_shaped f [] = refl
has_shaped f (a ∷ s) = ap (λ b. is_activation_of f a || b) (has_shaped f s)

top_shaped : (f : FuncId) (s : Stack) → is_top f (shapes s) ≡ is_top f s
top_shaped f [] = refl
top_shaped f (a ∷ s) = refl

down_shaped : (f : FuncId) (s : Stack) → down_to f (shapes s) ≡ option_map shapes (down_to f s)
down_shaped f [] = refl
down_shaped f (a ∷ s) = by (is_activation_of f a) (is_jump a.kind) (down_shaped f s)
  where
    by : (b c : Bool) → down_to f (shapes s) ≡ option_map shapes (down_to f s)
        → (if b then Some (shapes (a ∷ s)) else (if c then down_to f (shapes s) else None))
        ≡ option_map shapes (if b then Some (a ∷ s) else (if c then down_to f s else None))
    by true c rest = refl
    by false true rest = rest
    by false false rest = refl

-- ---- a change

module _ (m n : SymbolMap) (same : SameCode m n) (e : Event) where
  next_same : next_func n e ≡ next_func m e
  next_same = sym (same.funcs e.done.next)

  beneath_shaped : (s : Stack) → beneath_call e (shapes s) ≡ option_map shapes (beneath_call e s)
  beneath_shaped [] = refl
  beneath_shaped (a ∷ s) = by (is_left_by e a.kind) (beneath_shaped s)
    where
      by : (b : Bool) → beneath_call e (shapes s) ≡ option_map shapes (beneath_call e s)
          → (if b then Some (shapes s) else beneath_call e (shapes s))
          ≡ option_map shapes (if b then Some s else beneath_call e s)
      by true rest = refl
      by false rest = rest

  under_shaped : (gs : List Group) → is_under e (group_shapes gs) ≡ is_under e gs
  under_shaped [] = refl
  under_shaped (g ∷ gs) = refl

  returned_shaped : (gs : List Group) → is_returned_from n e (group_shapes gs) ≡ is_returned_from m e gs
  returned_shaped [] = refl
  returned_shaped (g ∷ gs) =
      let entry = sym (same.entries e.done.next) in
      let has = ap (λ f. has_func f (members (group_shape g))) next_same
      ∙ ap (has_func (next_func m e)) (members_shaped g) ∙ has_shaped (next_func m e) (members g) in
      let top = ap (λ f. is_top f (stack_of_groups (group_shapes gs))) next_same
      ∙ ap (is_top (next_func m e)) (ungrouped_shaped gs) ∙ top_shaped (next_func m e) (stack_of_groups gs) in
      λ i. is_level e g.base.kind && not (entry i) && not (has i) && top i

  drop_shaped : (t u : List Group → Bool) → ((gs : List Group) → t (group_shapes gs) ≡ u gs) → (gs : List Group)
      → drop_groups t (group_shapes gs) ≡ group_shapes (drop_groups u gs)
  drop_shaped t u alike [] = refl
  drop_shaped t u alike (g ∷ gs) =
      ap (λ b. if b then drop_groups t (group_shapes gs) else group_shapes (g ∷ gs)) (alike (g ∷ gs))
      ∙ by (u (g ∷ gs)) (drop_shaped t u alike gs)
    where
      by : (b : Bool) → drop_groups t (group_shapes gs) ≡ group_shapes (drop_groups u gs)
          → (if b then drop_groups t (group_shapes gs) else group_shapes (g ∷ gs))
          ≡ group_shapes (if b then drop_groups u gs else g ∷ gs)
      by true rest = rest
      by false rest = refl

  above_shaped : (gs : List Group) → above_sp n e (group_shapes gs) ≡ group_shapes (above_sp m e gs)
  above_shaped gs =
      ap (drop_groups (is_returned_from n e)) (drop_shaped (is_under e) (is_under e) under_shaped gs)
      ∙ drop_shaped (is_returned_from n e) (is_returned_from m e) returned_shaped (drop_groups (is_under e) gs)

  left_shaped : (gs : List Group) → remaining_groups n e (group_shapes gs) ≡ group_shapes (remaining_groups m e gs)
  left_shaped [] = refl
  left_shaped (g ∷ gs) = by (returns_by e g.base.kind)
    where
      by : (b : Bool) → (if b then group_shapes gs else above_sp n e (group_shapes (g ∷ gs)))
          ≡ group_shapes (if b then gs else above_sp m e (g ∷ gs))
      by true = refl
      by false = above_shaped (g ∷ gs)

  or_left_shaped : (s : Stack) (o : Option Stack)
      → unwrap_or (option_map shapes o) (stack_of_groups (remaining_groups n e (groups (shapes s))))
      ≡ shapes (unwrap_or o (stack_of_groups (remaining_groups m e (groups s))))
  or_left_shaped s (Some rest) = refl
  or_left_shaped s None =
      ap (λ gs. stack_of_groups (remaining_groups n e gs)) (groups_shaped s) ∙ ap stack_of_groups (left_shaped (groups s))
      ∙ ungrouped_shaped (remaining_groups m e (groups s))

  cut_shaped : (s : Stack) → cut n e (shapes s) ≡ shapes (cut m e s)
  cut_shaped s =
      ap (λ o. unwrap_or o (stack_of_groups (remaining_groups n e (groups (shapes s))))) (beneath_shaped s)
      ∙ or_left_shaped s (beneath_call e s)

  push_shaped : (kind : Kind) (s : Stack) → shaped (push n e kind (shapes s)) ≡ shaped (push m e kind s)
  push_shaped kind s = λ i. record {
    rest = again s i;
    pushed = Some (record { func = next_same i; kind = kind; arc = None });
  }

  settle_on_shaped : (s : Stack) (o : Option Stack)
      → shaped (settle_on n e (shapes s) (option_map shapes o)) ≡ shaped (settle_on m e s o)
  settle_on_shaped s (Some rest) = λ i. record { rest = again rest i; pushed = None }
  settle_on_shaped s None = push_shaped jump s

  settle_shaped : (s : Stack) → shaped (settle n e (shapes s)) ≡ shaped (settle m e s)
  settle_shaped s =
      ap (λ f. shaped (settle_on n e (shapes s) (down_to f (shapes s)))) next_same
      ∙ ap (λ o. shaped (settle_on n e (shapes s) o)) (down_shaped (next_func m e) s)
      ∙ settle_on_shaped s (down_to (next_func m e) s)

  flow_shaped : (s : Stack) (flow : Flow) → shaped (change_by n e (shapes s) flow) ≡ shaped (change_by m e s flow)
  flow_shaped s Plain = settle_shaped s
  flow_shaped s Call = push_shaped (call_of e) s
  flow_shaped s Jump = ap (λ t. shaped (settle n e t)) (cut_shaped s) ∙ settle_shaped (cut m e s)
  flow_shaped s Swap =
      ap (λ t. shaped (push n e (call_of e) t)) (cut_shaped s) ∙ push_shaped (call_of e) (cut m e s)

  change_shaped : (s : Stack) → shaped (change n e (shapes s)) ≡ shaped (change m e s)
  change_shaped s = by e.ends
    where
      by : (b : Bool)
          → shaped (if b then record { rest = []; pushed = None } else change_by n e (shapes s) e.done.flow)
          ≡ shaped (if b then record { rest = []; pushed = None } else change_by m e s e.done.flow)
      by true = refl
      by false = flow_shaped s e.done.flow

-- ---- stacks by two maps

pub alike_length : (s r : Stack) → shapes s ≡ shapes r → length s ≡ length r
alike_length s r alike = sym (length-map s shape) ∙ ap (length {A = Activation}) alike ∙ length-map r shape

itself : (m : SymbolMap) → SameCode m m
itself m = record { funcs = λ pc. refl; entries = λ pc. refl }

module _ (m n : SymbolMap) (same : SameCode m n) where
  pub alike_change : (e : Event) (s r : Stack) → shapes s ≡ shapes r → shaped (change m e s) ≡ shaped (change n e r)
  alike_change e s r alike =
      sym (change_shaped m n same e s) ∙ ap (λ t. shaped (change n e t)) alike ∙ change_shaped n n (itself n) e r

  pub alike_gone : (e : Event) (s r : Stack) → shapes s ≡ shapes r → drop_count m e s ≡ drop_count n e r
  alike_gone e s r alike =
      let all = alike_length s r alike in
      let kept = alike_length (change m e s).rest (change n e r).rest
      (ap (λ (c : Change). c.rest) (alike_change e s r alike)) in
      λ i. all i - kept i

  pushed_shaped : (p : Option Activation) (s : Stack)
      → shapes (with_pushed p s) ≡ with_pushed (option_map shape p) (shapes s)
  pushed_shaped None s = refl
  pushed_shaped (Some a) s = refl

  pub alike_after : (e : Event) (s r : Stack) → shapes s ≡ shapes r → shapes (after m s e) ≡ shapes (after n r e)
  alike_after e s r alike =
      pushed_shaped (change m e s).pushed (change m e s).rest
      ∙ ap (λ (c : Change). with_pushed c.pushed c.rest) (alike_change e s r alike)
      ∙ sym (pushed_shaped (change n e r).pushed (change n e r).rest)

  pub alike_root : (pc : ℕ) → shapes (root m pc) ≡ shapes (root n pc)
  alike_root pc = ap (λ f. record { func = f; kind = Root; arc = None } ∷ []) (same.funcs pc)

  pub alike_stack : (es : List Event) (s r : Stack) → shapes s ≡ shapes r
      → shapes (stack_after m s es) ≡ shapes (stack_after n r es)
  alike_stack [] s r alike = alike
  alike_stack (e ∷ es) s r alike = alike_stack es (after m s e) (after n r e) (alike_after e s r alike)

  pub alike_of : (es : List Event) (pc : ℕ) → shapes (stack_of m es pc) ≡ shapes (stack_of n es pc)
  alike_of es pc = alike_stack es (root m (first_pc es pc)) (root n (first_pc es pc)) (alike_root (first_pc es pc))

-- what a stack has without its arcs
rooted_shaped : (s : Stack) → is_rooted (shapes s) ≡ is_rooted s
rooted_shaped [] = refl
rooted_shaped (a ∷ []) = refl
rooted_shaped (a ∷ (b ∷ s)) = rooted_shaped (b ∷ s)

pub alike_rooted : (s r : Stack) → shapes s ≡ shapes r → is_rooted s ≡ is_rooted r
alike_rooted s r alike = sym (rooted_shaped s) ∙ ap is_rooted alike ∙ rooted_shaped r

top_of_shaped : (s : Stack) → top_of (shapes s) ≡ top_of s
top_of_shaped [] = refl
top_of_shaped (a ∷ s) = refl

pub alike_top : (s r : Stack) → shapes s ≡ shapes r → top_of s ≡ top_of r
alike_top s r alike = sym (top_of_shaped s) ∙ ap top_of alike ∙ top_of_shaped r
