-- Where the innermost group of a chain begins.
use Rattle.std.proofs.Common.{◌≡◌, ℕ, zero, suc, ◌-◌, ◌<◌, ◌≤◌, Bool, true, false, cond, List, [], ◌∷◌, length}
use Rattle.std.proofs.Common.{Option, Some, None, refl, sym, ap, subst, ◌∙◌, is_some, arith}
use Rattle.shadow_stack.specs.declared.arena.Head.{Head}
use Rattle.shadow_stack.specs.Arenas.{Node}
use Rattle.shadow_stack.specs.declared.frame.Kind.{Kind}
use Rattle.shadow_stack.specs.declared.frame.Kind.TheVariants.{Root, Call, Jump}
use Rattle.shadow_stack.specs.Kinds.{is_jump, is_root}
use Rattle.shadow_stack.specs.Stacks.{Activation, Stack, Group, base_of, groups, is_rooted, on_groups, rest_of, stack_of_groups}
use Rattle.shadow_stack.specs.Frames.{activation, stack}
use Rattle.shadow_stack.specs.Arenas.{base_in, frames_in, is_there, LiesIn, Link, links, links_from, node_at}
use Rattle.shadow_stack.specs.Arenas.{stack_at}
use Rattle.shadow_stack.proofs.ChainLemmas.{IsSplit, base-here, length-stack_at, links_from-none, split_suc, top_there}
use Rattle.shadow_stack.proofs.ChainLemmas.{true_false}
use Rattle.shadow_stack.proofs.ChangeLemmas.{stack_of_groups-groups}

abbrev Slots : Type 0
Slots = List (Option Node)

abbrev joined : Bool → Activation → Group → List Group → List Group
joined b a g gs = cond b (record { jumps = a ∷ g.jumps; base = g.base } ∷ gs)
    (record { jumps = []; base = a } ∷ (g ∷ gs))

-- a jump on a stack is of the group beneath it
jump_base : (a : Activation) (gs : List Group) → 0 < length (stack_of_groups gs) → is_jump a.kind ≡ true
    → base_of gs ≡ base_of (on_groups a gs)
jump_base a [] some jumps = absurd (omega arith)
jump_base a (g ∷ gs) some jumps = sym (ap (λ b. base_of (joined b a g gs)) jumps)

jump_rest : (a : Activation) (gs : List Group) → 0 < length (stack_of_groups gs) → is_jump a.kind ≡ true
    → rest_of gs ≡ rest_of (on_groups a gs)
jump_rest a [] some jumps = absurd (omega arith)
jump_rest a (g ∷ gs) some jumps = sym (ap (λ b. rest_of (joined b a g gs)) jumps)

-- and what isn't a jump begins one
pub first_base : (a : Activation) (gs : List Group) → is_jump a.kind ≡ false → a.kind ≡ base_of (on_groups a gs)
first_base a [] other = refl
first_base a (g ∷ gs) other = sym (ap (λ b. base_of (joined b a g gs)) other)

pub first_rest : (a : Activation) (gs : List Group) → is_jump a.kind ≡ false → gs ≡ rest_of (on_groups a gs)
first_rest a [] other = refl
first_rest a (g ∷ gs) other = sym (ap (λ b. rest_of (joined b a g gs)) other)

-- a head where the innermost group of another begins
pub record IsBase (s : Slots) (head start : Head) : Type 0 where
  pub lies : LiesIn s start
  pub some : 0 < start.depth
  pub within : start.depth ≤ head.depth
  pub first : (node : Node) → node_at s start.top ≡ Some node → is_jump node.frame.kind ≡ false
  pub base : base_of (groups (stack_at s start)) ≡ base_of (groups (stack_at s head))
  pub rest : rest_of (groups (stack_at s start)) ≡ rest_of (groups (stack_at s head))

not_jump_root : (kind : Kind) → is_root kind ≡ true → is_jump kind ≡ false
not_jump_root Root root = refl
not_jump_root (Call ret sp) root = absurd (cc)
not_jump_root Jump root = absurd (cc)

abbrev head_at : ℕ → ℕ → Head
head_at key n = record { top = key; depth = n }

abbrev kind_of : Option Node → Kind
kind_of None = Root
kind_of (Some node) = node.frame.kind

-- by the kind of the top: it is the base itself, or a jump
by_top : (s : Slots) (key n : ℕ) → LiesIn s (head_at key (suc n))
    → ((node : Node) → node_at s key ≡ Some node → is_jump node.frame.kind ≡ true
    → IsBase s (head_at key (suc n)) (base_in (links s (head_at key (suc n)))))
    → IsBase s (head_at key (suc n)) (base_in (links s (head_at key (suc n))))
by_top s key n lies on_jump = by_node (node_at s key) refl
  where
    here : (node : Node) → node_at s key ≡ Some node → is_jump node.frame.kind ≡ false
        → IsBase s (head_at key (suc n)) (base_in (links s (head_at key (suc n))))
    here node at other =
        subst (λ (h : Head). IsBase s (head_at key (suc n)) h)
        (base-here s (head_at key (suc n)) node lies (omega arith) at other)
        (record {
          lies = lies;
          some = omega arith;
          within = omega arith;
          first = λ m is. ap (λ (o : Option Node). is_jump (kind_of o)) (sym is ∙ at) ∙ other;
          base = refl;
          rest = refl;
        })

    by_kind : (node : Node) → node_at s key ≡ Some node → (b : Bool) → is_jump node.frame.kind ≡ b
        → IsBase s (head_at key (suc n)) (base_in (links s (head_at key (suc n))))
    by_kind node at true jumps = on_jump node at jumps
    by_kind node at false other = here node at other

    by_node : (o : Option Node) → node_at s key ≡ o
        → IsBase s (head_at key (suc n)) (base_in (links s (head_at key (suc n))))
    by_node None at =
        absurd (true_false (is_there s key) (top_there s (head_at key (suc n)) lies (omega arith)) (ap is_some at))
    by_node (Some node) at = by_kind node at (is_jump node.frame.kind) refl

-- the lowest frame is a root
pub no_jump : (s : Slots) (key : ℕ) (node : Node) → LiesIn s (head_at key 1) → node_at s key ≡ Some node
    → is_jump node.frame.kind ≡ false
no_jump s key node lies at =
    not_jump_root node.frame.kind
    (sym (ap (λ (l : List Link). is_rooted (stack (frames_in l)))
    ((split_suc s key 0 node lies at).links
    ∙ ap (λ (l : List Link). record { key = key; node = node } ∷ l) (links_from-none s node.below)))
    ∙ lies.rooted (omega arith))

-- a jump has the base of what is beneath
on_more : (s : Slots) (key n : ℕ) (node : Node) → LiesIn s (head_at key (suc (suc n))) → node_at s key ≡ Some node
    → is_jump node.frame.kind ≡ true
    → IsBase s (head_at node.below (suc n)) (base_in (links s (head_at node.below (suc n))))
    → IsBase s (head_at key (suc (suc n))) (base_in (links s (head_at key (suc (suc n)))))
on_more s key n node lies at jumps under =
    subst (λ (h : Head). IsBase s (head_at key (suc (suc n))) h) (sym same)
    (record {
      lies = under.lies;
      some = under.some;
      within = omega (arith, under.within);
      first = under.first;
      base = under.base ∙ jump_base (activation node.frame) (groups below) some jumps
          ∙ sym (ap (λ (t : Stack). base_of (groups t)) whole);
      rest = under.rest ∙ jump_rest (activation node.frame) (groups below) some jumps
          ∙ sym (ap (λ (t : Stack). rest_of (groups t)) whole);
    })
  where
    sp : IsSplit s key (suc n) node
    sp = split_suc s key (suc n) node lies at

    below : Stack
    below = stack_at s (head_at node.below (suc n))

    whole : stack_at s (head_at key (suc (suc n))) ≡ activation node.frame ∷ below
    whole = ap (λ (l : List Link). stack (frames_in l)) sp.links

    some : 0 < length (stack_of_groups (groups below))
    some =
        omega (
          arith,
          ap (length {A = Activation}) (stack_of_groups-groups below),
          length-stack_at s (head_at node.below (suc n)) sp.beneath,
        )

    same : base_in (links s (head_at key (suc (suc n)))) ≡ base_in (links s (head_at node.below (suc n)))
    same = ap base_in sp.links
        ∙ ap (λ b. cond b (base_in (links_from s (suc n) node.below))
        (record { top = key; depth = suc (length (links_from s (suc n) node.below)) })) jumps

begins : (s : Slots) (key n : ℕ) → LiesIn s (head_at key (suc n))
    → IsBase s (head_at key (suc n)) (base_in (links s (head_at key (suc n))))
begins s key zero lies = by_top s key 0 lies
    (λ node at jumps. absurd (true_false (is_jump node.frame.kind) jumps (no_jump s key node lies at)))
begins s key (suc n) lies =
    by_top s key (suc n) lies
    (λ node at jumps. on_more s key n node lies at jumps
    (begins s node.below n (split_suc s key (suc n) node lies at).beneath))

begins_at : (s : Slots) (head : Head) → LiesIn s head → 0 < head.depth → IsBase s head (base_in (links s head))
begins_at s head lies some =
    let deep : head.depth ≡ suc (head.depth - 1) = omega arith in
    subst (λ d. IsBase s (head_at head.top d) (base_in (links s (head_at head.top d)))) (sym deep)
    (begins s head.top (head.depth - 1) (subst (λ d. LiesIn s (head_at head.top d)) deep lies))

pub begins_with : (s : Slots) (head start : Head) → start ≡ base_in (links s head) → LiesIn s head → 0 < head.depth
    → IsBase s head start
begins_with s head start is lies some = subst (λ (h : Head). IsBase s head h) (sym is) (begins_at s head lies some)
