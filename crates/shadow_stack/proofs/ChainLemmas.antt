-- Chains of frames in an arena.
use Rattle.std.proofs.Common.{◌≡◌, ◌≢◌, ◌⊎◌, ℕ, zero, suc, ◌+◌, ◌-◌, ◌<◌, ◌≤◌, ◌==◌, ◌&&◌, ◌||◌, Bool, true, false, not}
use Rattle.std.proofs.Common.{cond, List, [], ◌∷◌, length, get_or, set, drop, count_by, is_some, Option, Some, None, refl}
use Rattle.std.proofs.Common.{sym, ap, subst, ◌∙◌, inl, inr, arith, get_or-set_other}
use Rattle.std.proofs.lemmas.List.{length-map}
use Rattle.std.specs.Option.{option_map_or}
use Rattle.std.proofs.lemmas.Bool.{eqb-true, eq-eqb, or_left, or_right, or_parts, and_from, not_from_false, and_parts}
use Rattle.std.proofs.lemmas.Bool.Decides.{eqb_tells}
use Rattle.std.proofs.lemmas.List.Sums.{sum_by-set}
use Rattle.shadow_stack.specs.declared.arena.Head.{Head}
use Rattle.shadow_stack.specs.Arenas.{Node}
use Rattle.shadow_stack.specs.Arenas.{Summary}
use Rattle.shadow_stack.specs.declared.frame.Frame.{Frame}
use Rattle.shadow_stack.specs.Kinds.{is_jump, is_root}
use Rattle.shadow_stack.specs.Stacks.{is_rooted}
use Rattle.shadow_stack.specs.Frames.{activation, stack}
use Rattle.shadow_stack.specs.Arenas.{node_at, is_there, Link, links_from, links, frames_in, keys_in, is_in}
use Rattle.shadow_stack.specs.Arenas.{are_distinct, frames, is_in_chain, stack_at, least_sp, greatest_sp, summary_of, summaries_of, summaries_in}
use Rattle.shadow_stack.specs.Arenas.{base_in, LiesIn, is_outside, ChangesChainOnly, LeavesOthers, beneath}

abbrev Slots : Type 0
Slots = List (Option Node)

abbrev link : ℕ → Node → Link
link key node = record { key = key; node = node }

-- what a test says of an element and the others
pub true_of_or : (a b : Bool) → a || b ≡ true → (a ≡ true) ⊎ (b ≡ true)
true_of_or true b h = inl refl
true_of_or false b h = inr h

pub not_true : (a : Bool) → not a ≡ true → a ≡ false
not_true true h = absurd (cc)
not_true false h = refl

pub true_false : (b : Bool) → b ≡ true → b ≡ false → ⊥
true_false true h k = absurd (cc)
true_false false h k = absurd (cc)

pub differs : (key k : ℕ) (ks : List ℕ) → is_in key ks ≡ true → is_in k ks ≡ false → key ≢ k
differs key k ks there out same = absurd (cc (ap (λ j. is_in j ks) same, there, out))

-- the links of a key that is there
pub links_from-there : (s : Slots) (n key : ℕ) (node : Node) → node_at s key ≡ Some node
    → links_from s (suc n) key ≡ link key node ∷ links_from s n node.below
unfolding links_from
links_from-there s n key node at = ap (λ o. option_map_or (λ (m : Node). link key m ∷ links_from s n m.below) o []) at

pub links_from-absent : (s : Slots) (n key : ℕ) → node_at s key ≡ None → links_from s (suc n) key ≡ []
unfolding links_from
links_from-absent s n key at = ap (λ o. option_map_or (λ (m : Node). link key m ∷ links_from s n m.below) o []) at

pub links_from-none : (s : Slots) (key : ℕ) → links_from s 0 key ≡ []
unfolding links_from
links_from-none s key = refl

-- all keys of a chain are there
pub links_from-keys : (s : Slots) (n key k : ℕ) → is_in k (keys_in (links_from s n key)) ≡ true → is_there s k ≡ true
links_from-keys s zero key k h =
    absurd (cc (subst (λ (ls : List Link). is_in k (keys_in ls) ≡ true) (links_from-none s key) h))
links_from-keys s (suc n) key k h = by_node (node_at s key) refl (λ below later. links_from-keys s n below k later)
  where
    by_node : (o : Option Node) → node_at s key ≡ o
        → ((below : ℕ) → is_in k (keys_in (links_from s n below)) ≡ true → is_there s k ≡ true) → is_there s k ≡ true
    by_node None at more =
        absurd (cc (subst (λ (ls : List Link). is_in k (keys_in ls) ≡ true) (links_from-absent s n key at) h))
    by_node (Some node) at more =
        elim (true_of_or (key == k) (is_in k (keys_in (links_from s n node.below)))
        (subst (λ (ls : List Link). is_in k (keys_in ls) ≡ true) (links_from-there s n key node at) h)) [
          | inl here ↦ ap (is_there s) (sym (eqb-true key k here)) ∙ ap is_some at
          | inr later ↦ more node.below later
        ]

-- a chain depends on its own keys alone
pub links_from-kept : (s t : Slots) (n key : ℕ) → length (links_from s n key) ≡ n
    → ((k : ℕ) → is_in k (keys_in (links_from s n key)) ≡ true → node_at t k ≡ node_at s k)
    → links_from t n key ≡ links_from s n key
links_from-kept s t zero key whole kept = links_from-none t key ∙ sym (links_from-none s key)
links_from-kept s t (suc n) key whole kept = by_node (node_at s key) refl (λ below. links_from-kept s t n below)
  where
    by_node : (o : Option Node) → node_at s key ≡ o
        → ((below : ℕ) → length (links_from s n below) ≡ n
        → ((k : ℕ) → is_in k (keys_in (links_from s n below)) ≡ true → node_at t k ≡ node_at s k)
        → links_from t n below ≡ links_from s n below)
        → links_from t (suc n) key ≡ links_from s (suc n) key
    by_node None at more = absurd (omega (arith, whole, ap (length {A = Link}) (links_from-absent s n key at)))
    by_node (Some node) at more =
        let ls = links_from-there s n key node at in
        let same : node_at t key ≡ node_at s key =
        kept key
        (subst (λ (ls : List Link). is_in key (keys_in ls) ≡ true) (sym ls)
        (or_left (key == key) (is_in key (keys_in (links_from s n node.below))) (eq-eqb key key refl))) in
        links_from-there t n key node (same ∙ at)
        ∙ ap (λ (l : List Link). link key node ∷ l)
        (more node.below (omega (arith, whole, ap (length {A = Link}) ls))
        (λ k later. kept k
        (subst (λ (ls : List Link). is_in k (keys_in ls) ≡ true) (sym ls)
        (or_right (key == k) (is_in k (keys_in (links_from s n node.below))) later))))
        ∙ sym ls

-- A chain of this depth splits into its top, which has this node, and what is beneath.
pub record IsSplit (s : Slots) (key n : ℕ) (node : Node) : Type 0 where
  pub links : links_from s (suc n) key ≡ link key node ∷ links_from s n node.below
  pub beneath : LiesIn s (record { top = node.below; depth = n })
  pub summary : node.summary ≡ summary_of node.frame.kind node.frame.func.0 (links_from s n node.below)
  pub out : is_in key (keys_in (links_from s n node.below)) ≡ false

cons_head : (x y : Summary) (xs ys : List Summary) → x ∷ xs ≡ y ∷ ys → x ≡ y
cons_head x y xs ys e = ap (λ l. get_or l 0 x) e

cons_tail : (x y : Summary) (xs ys : List Summary) → x ∷ xs ≡ y ∷ ys → xs ≡ ys
cons_tail x y xs ys e = ap (drop 1) e

rooted-tail : (f : Frame) (fs : List Frame) → 0 < length fs → is_rooted (activation f ∷ stack fs) ≡ is_rooted (stack fs)
rooted-tail f [] some = absurd (omega arith)
rooted-tail f (g ∷ fs) some = refl

pub split_suc : (s : Slots) (key n : ℕ) (node : Node) → LiesIn s (record { top = key; depth = suc n })
    → node_at s key ≡ Some node → IsSplit s key n node
split_suc s key n node lies at =
    let ls = links_from-there s n key node at in
    let rest = links_from s n node.below in
    let whole : length rest ≡ n = omega (arith, lies.there, ap (length {A = Link}) ls) in
    let apart = and_parts (not (is_in key (keys_in rest))) (are_distinct (keys_in rest))
    (subst (λ (l : List Link). are_distinct (keys_in l) ≡ true) ls lies.apart) in
    let sums : node.summary ∷ summaries_in rest ≡ summary_of node.frame.kind node.frame.func.0 rest ∷ summaries_of rest
    = subst (λ (l : List Link). summaries_in l ≡ summaries_of l) ls lies.summed in
    let count : length (frames_in rest) ≡ n = length-map rest (λ l. l.node.frame) ∙ whole in
    record {
      links = ls;
      beneath = record {
        there = whole;
        apart = apart.1;
        rooted = λ some. sym (rooted-tail node.frame (frames_in rest) (omega arith))
            ∙ subst (λ (l : List Link). is_rooted (stack (frames_in l)) ≡ true) ls (lies.rooted (omega arith));
        summed = cons_tail node.summary (summary_of node.frame.kind node.frame.func.0 rest) (summaries_in rest) (summaries_of rest) sums;
      };
      summary = cons_head node.summary (summary_of node.frame.kind node.frame.func.0 rest) (summaries_in rest) (summaries_of rest) sums;
      out = not_true (is_in key (keys_in rest)) apart.0;
    }

-- a head with frames, by its depth
pub split : (s : Slots) (head : Head) (node : Node) → LiesIn s head → 0 < head.depth → node_at s head.top ≡ Some node
    → IsSplit s head.top (head.depth - 1) node
split s head node lies some at =
    let deep : head.depth ≡ suc (head.depth - 1) = omega arith in
    split_suc s head.top (head.depth - 1) node
    (subst (λ d. LiesIn s (record { top = head.top; depth = d })) deep lies) at

pub links-split : (s : Slots) (head : Head) (node : Node) → 0 < head.depth → IsSplit s head.top (head.depth - 1) node
    → links s head ≡ link head.top node ∷ links s (beneath head node)
links-split s head node some sp =
    let deep : head.depth ≡ suc (head.depth - 1) = omega arith in
    ap (λ d. links_from s d head.top) deep ∙ sp.links

-- what is beneath the top, and the top, as keys
pub in_chain-split : (s : Slots) (head : Head) (node : Node) (key : ℕ) → 0 < head.depth
    → IsSplit s head.top (head.depth - 1) node
    → is_in_chain s head key ≡ (head.top == key || is_in_chain s (beneath head node) key)
in_chain-split s head node key some sp = ap (λ (l : List Link). is_in key (keys_in l)) (links-split s head node some sp)

-- where the innermost group begins, by the kind of the top
pub base-jump : (s : Slots) (head : Head) (node : Node) → LiesIn s head → 0 < head.depth
    → node_at s head.top ≡ Some node → is_jump node.frame.kind ≡ true → (base_in (links s head)).top ≡ node.summary.base
base-jump s head node lies some at jumps =
    let sp = split s head node lies some at in
    let rest = links s (beneath head node) in
    ap (λ (h : Head). h.top)
    (ap base_in (links-split s head node some sp)
    ∙ ap (λ b. cond b (base_in rest) (record { top = head.top; depth = suc (length rest) })) jumps)
    ∙ sym
    (ap (λ (m : Summary). m.base) sp.summary ∙ ap (λ b. cond b (base_in rest).top 0) jumps)

pub base-here : (s : Slots) (head : Head) (node : Node) → LiesIn s head → 0 < head.depth
    → node_at s head.top ≡ Some node → is_jump node.frame.kind ≡ false → head ≡ base_in (links s head)
base-here s head node lies some at other =
    let sp = split s head node lies some at in
    let rest = links s (beneath head node) in
    let deep : suc (length rest) ≡ head.depth = omega (arith, sp.beneath.there) in
    sym (ap base_in (links-split s head node some sp)
    ∙ ap (λ b. cond b (base_in rest) (record { top = head.top; depth = suc (length rest) })) other
    ∙ ap (λ d. record { top = head.top; depth = d }) deep)

-- what is over the stack pointers of a whole chain
pub least-top : (s : Slots) (head : Head) (node : Node) → 0 < head.depth → IsSplit s head.top (head.depth - 1) node
    → node.summary.least ≡ least_sp (frames s head)
least-top s head node some sp = ap (λ (m : Summary). m.least) sp.summary
    ∙ sym (ap (λ (l : List Link). least_sp (frames_in l)) (links-split s head node some sp))

pub greatest-top : (s : Slots) (head : Head) (node : Node) → 0 < head.depth → IsSplit s head.top (head.depth - 1) node
    → node.summary.greatest ≡ greatest_sp (frames s head)
greatest-top s head node some sp = ap (λ (m : Summary). m.greatest) sp.summary
    ∙ sym (ap (λ (l : List Link). greatest_sp (frames_in l)) (links-split s head node some sp))

-- a head without frames
pub links-none : (s : Slots) (head : Head) → head.depth ≡ 0 → links s head ≡ []
links-none s head none = ap (λ d. links_from s d head.top) none ∙ links_from-none s head.top

pub lies_empty : (s : Slots) (key : ℕ) → LiesIn s (record { top = key; depth = 0 })
lies_empty s key = record {
  there = ap (length {A = Link}) (links_from-none s key);
  apart = ap (λ (l : List Link). are_distinct (keys_in l)) (links_from-none s key);
  rooted = λ some. absurd (omega arith);
  summed = subst (λ (l : List Link). summaries_in l ≡ summaries_of l) (sym (links_from-none s key)) refl;
}

-- a root alone
pub rooted-alone : (s : Slots) (key : ℕ) (f : Frame) → is_root f.kind ≡ true
    → is_rooted (activation f ∷ stack (frames_in (links_from s 0 key))) ≡ true
rooted-alone s key f root =
    ap (λ (l : List Link). is_rooted (activation f ∷ stack (frames_in l))) (links_from-none s key) ∙ root

-- the top of a head with frames is there
pub top_there : (s : Slots) (head : Head) → LiesIn s head → 0 < head.depth → is_there s head.top ≡ true
top_there s head lies some = by_node (node_at s head.top) refl
  where
    deep : head.depth ≡ suc (head.depth - 1)
    deep = omega arith

    by_node : (o : Option Node) → node_at s head.top ≡ o → is_there s head.top ≡ true
    by_node None at =
        absurd
        (omega (
          arith,
          lies.there,
          ap (λ d. length (links_from s d head.top)) deep,
          ap (length {A = Link}) (links_from-absent s (head.depth - 1) head.top at),
        ))
    by_node (Some node) at = ap is_some at

-- keys that differ, each with a node, are no more than the nodes
abbrev none : Option Node
none = None

abbrev one_if : Bool → ℕ
one_if b = cond b 1 0

occupied : (ks : List ℕ) (s : Slots) → are_distinct ks ≡ true → ((k : ℕ) → is_in k ks ≡ true → is_there s k ≡ true)
    → length ks ≤ count_by is_some s
occupied [] s apart there = omega arith
occupied (k ∷ ks) s apart there =
    let less = sum_by-set (λ o. one_if (is_some o)) s k none none
    (within s k (there k (or_left (k == k) (is_in k ks) (eq-eqb k k refl)))) in
    let both = and_parts (not (is_in k ks)) (are_distinct ks) apart in
    let out = not_true (is_in k ks) both.0 in
    let here : one_if (is_some (get_or s k none)) ≡ 1
    = ap one_if (there k (or_left (k == k) (is_in k ks) (eq-eqb k k refl))) in
    omega (
      arith,
      less,
      here,
      occupied ks (set s k none) both.1
          (λ j in_rest. ap is_some (get_or-set_other s k j none none (differs j k ks in_rest out))
          ∙ there j (or_right (k == j) (is_in j ks) in_rest)),
    )
  where
    within : (xs : Slots) (j : ℕ) → is_there xs j ≡ true → j < length xs
    within [] j at = absurd (cc)
    within (x ∷ xs) zero at = omega arith
    within (x ∷ xs) (suc j) at = omega (arith, within xs j at)

pub depth_fits : (s : Slots) (head : Head) → LiesIn s head → head.depth ≤ count_by is_some s
depth_fits s head lies =
    omega (
      arith,
      lies.there,
      length-map (links s head) (λ l. l.key),
      occupied (keys_in (links s head)) s lies.apart (links_from-keys s head.depth head.top),
    )

-- a key of a chain is there
pub in_chain_there : (s : Slots) (head : Head) (key : ℕ) → is_in_chain s head key ≡ true → is_there s key ≡ true
in_chain_there s head key h = links_from-keys s head.depth head.top key h

-- Work through a head that changes nothing changes its chain only, and so does work after work.
pub ChangesChainOnly-refl : (s : Slots) (head : Head) → ChangesChainOnly s head s head
ChangesChainOnly-refl s head = record {
  nodes = λ key h. refl;
  outside =
      λ key h. not_true (is_in_chain s head key) (and_parts (is_there s key) (not (is_in_chain s head key)) h).1;
  exactly = λ key h. same (is_there s key) (is_in_chain s head key) h (in_chain_there s head key);
}
  where
    same : (a b : Bool) → a && not b ≡ false → (b ≡ true → a ≡ true) → a ≡ b
    same true true h k = refl
    same true false h k = absurd (cc)
    same false true h k = k refl
    same false false h k = refl

still_outside : (s t : Slots) (head next : Head) (key : ℕ) → ChangesChainOnly s head t next
    → is_outside s head key ≡ true → is_outside t next key ≡ true
still_outside s t head next key c h =
    and_from (is_there t key) (not (is_in_chain t next key))
    (ap is_some (c.nodes key h) ∙ (and_parts (is_there s key) (not (is_in_chain s head key)) h).0)
    (not_from_false (is_in_chain t next key) (c.outside key h))

pub ChangesChainOnly-trans : (s t u : Slots) (first second third : Head) → ChangesChainOnly s first t second
    → ChangesChainOnly t second u third → ChangesChainOnly s first u third
ChangesChainOnly-trans s t u first second third c d = record {
  nodes = λ key h. d.nodes key (still_outside s t first second key c h) ∙ c.nodes key h;
  outside = λ key h. d.outside key (still_outside s t first second key c h);
  exactly = λ key h. by_mid key h (is_outside t second key) refl;
}
  where
    by_mid : (key : ℕ) → is_outside s first key ≡ false → (b : Bool) → is_outside t second key ≡ b
        → is_there u key ≡ is_in_chain u third key
    by_mid key h false mid = d.exactly key mid
    by_mid key h true mid =
        let parts = and_parts (is_there t key) (not (is_in_chain t second key)) mid in
        absurd (cc (c.exactly key h, parts.0, not_true (is_in_chain t second key) parts.1))

-- a head with the same links lies as it did
pub lies_same : (s t : Slots) (head : Head) → LiesIn s head → links t head ≡ links s head → LiesIn t head
lies_same s t head lies same = record {
  there = ap (length {A = Link}) same ∙ lies.there;
  apart = ap (λ (l : List Link). are_distinct (keys_in l)) same ∙ lies.apart;
  rooted = λ some. ap (λ (l : List Link). is_rooted (stack (frames_in l))) same ∙ lies.rooted some;
  summed = subst (λ (l : List Link). summaries_in l ≡ summaries_of l) (sym same) lies.summed;
}

-- Another head whose chain is apart stays as it was.
pub leaves_others : (s t : Slots) (head next : Head) → ChangesChainOnly s head t next → LeavesOthers s head t next
leaves_others s t head next c other lies apart = record {
  lies = lies_same s t other lies same;
  links = same;
  apart = λ key in_next. by_in key in_next (is_in_chain t other key) refl;
}
  where
    off_head : (key : ℕ) → is_in_chain s other key ≡ true → is_outside s head key ≡ true
    off_head key on = and_from (is_there s key) (not (is_in_chain s head key)) (in_chain_there s other key on)
        (off (is_in_chain s head key) refl)
      where
        off : (b : Bool) → is_in_chain s head key ≡ b → not (is_in_chain s head key) ≡ true
        off false e = not_from_false (is_in_chain s head key) e
        off true e = absurd (cc (apart key e, on))

    same : links t other ≡ links s other
    same = links_from-kept s t other.depth other.top lies.there (λ key on. c.nodes key (off_head key on))

    by_in : (key : ℕ) → is_in_chain t next key ≡ true → (b : Bool) → is_in_chain t other key ≡ b
        → is_in_chain t other key ≡ false
    by_in key in_next false e = e
    by_in key in_next true e =
        absurd
        (cc (c.outside key (off_head key (sym (ap (λ (l : List Link). is_in key (keys_in l)) same) ∙ e)), in_next))

-- a node at a vacant key leaves each chain as it was
pub links-vacant : (s t : Slots) (head : Head) (key : ℕ) → LiesIn s head → node_at s key ≡ None
    → ((j : ℕ) → j ≢ key → node_at t j ≡ node_at s j) → links t head ≡ links s head
links-vacant s t head key lies vacant others =
    links_from-kept s t head.depth head.top lies.there
    (λ j on. others j (absent j on))
  where
    absent : (j : ℕ) → is_in_chain s head j ≡ true → j ≢ key
    absent j on same = true_false (is_there s j) (in_chain_there s head j on) (ap (is_there s) same ∙ ap is_some vacant)

-- A frame is put on a chain.
pub record IsPushed (s t : Slots) (head : Head) (key : ℕ) (node : Node) : Type 0 where
  pub lies : LiesIn t (record { top = key; depth = head.depth + 1 })
  pub frames : frames t (record { top = key; depth = head.depth + 1 }) ≡ node.frame ∷ frames s head
  pub chain : ChangesChainOnly s head t (record { top = key; depth = head.depth + 1 })

pub pushed : (s t : Slots) (head : Head) (key : ℕ) (node : Node) → LiesIn s head → node_at s key ≡ None
    → node_at t key ≡ Some node → ((j : ℕ) → j ≢ key → node_at t j ≡ node_at s j)
    → node.below ≡ head.top → node.summary ≡ summary_of node.frame.kind node.frame.func.0 (links s head)
    → is_rooted (activation node.frame ∷ stack_at s head) ≡ true → IsPushed s t head key node
pushed s t head key node lies vacant at others below summary rooted = record {
  lies = record {
    there = ap (length {A = Link}) whole ∙ (omega (arith, lies.there));
    apart = ap (λ (l : List Link). are_distinct (keys_in l)) whole
        ∙ and_from (not (is_in key (keys_in (links s head)))) (are_distinct (keys_in (links s head)))
        (not_from_false (is_in key (keys_in (links s head))) (fresh (is_in_chain s head key) refl)) lies.apart;
    rooted = λ some. ap (λ (l : List Link). is_rooted (stack (frames_in l))) whole ∙ rooted;
    summed = subst (λ (l : List Link). summaries_in l ≡ summaries_of l) (sym whole) (cc (summary, lies.summed));
  };
  frames = ap frames_in whole;
  chain = record {
    nodes = λ j h. others j (not_key j h);
    outside = λ j h. outside j h;
    exactly = λ j h. exactly j h (eqb_tells key j);
  };
}
  where
    whole : links t (record { top = key; depth = head.depth + 1 }) ≡ link key node ∷ links s head
    whole =
        let deep : head.depth + 1 ≡ suc head.depth = omega arith in
        ap (λ d. links_from t d key) deep ∙ links_from-there t head.depth key node at
        ∙ ap (λ (l : List Link). link key node ∷ l)
        (ap (links_from t head.depth) below ∙ links-vacant s t head key lies vacant others)

    fresh : (b : Bool) → is_in_chain s head key ≡ b → is_in_chain s head key ≡ false
    fresh false e = e
    fresh true e = absurd (cc (in_chain_there s head key e, ap is_some vacant))

    not_key : (j : ℕ) → is_outside s head j ≡ true → j ≢ key
    not_key j h same = true_false (is_there s j) (and_parts (is_there s j) (not (is_in_chain s head j)) h).0
        (ap (is_there s) same ∙ ap is_some vacant)

    now_in : (j : ℕ) → is_in_chain t (record { top = key; depth = head.depth + 1 }) j
        ≡ (key == j || is_in_chain s head j)
    now_in j = ap (λ (l : List Link). is_in j (keys_in l)) whole

    outside : (j : ℕ) → is_outside s head j ≡ true
        → is_in_chain t (record { top = key; depth = head.depth + 1 }) j ≡ false
    outside j h =
        now_in j
        ∙ neither (key == j) (is_in_chain s head j) (ne (eqb_tells key j))
        (not_true (is_in_chain s head j) (and_parts (is_there s j) (not (is_in_chain s head j)) h).1)
      where
        ne : ((key == j ≡ true) × (key ≡ j)) ⊎ ((key == j ≡ false) × (key ≢ j)) → key == j ≡ false
        ne (inl same) = absurd (not_key j h (sym same.1))
        ne (inr other) = other.0

        neither : (a b : Bool) → a ≡ false → b ≡ false → a || b ≡ false
        neither true b p q = p
        neither false b p q = q

    exactly : (j : ℕ) → is_outside s head j ≡ false → ((key == j ≡ true) × (key ≡ j)) ⊎ ((key == j ≡ false) × (key ≢ j))
        → is_there t j ≡ is_in_chain t (record { top = key; depth = head.depth + 1 }) j
    exactly j h (inl same) =
        ap (is_there t) (sym same.1) ∙ ap is_some at ∙ sym (now_in j ∙ or_left (key == j) (is_in_chain s head j) same.0)
    exactly j h (inr other) =
        ap is_some (others j (λ same. other.1 (sym same))) ∙ (ChangesChainOnly-refl s head).exactly j h
        ∙ sym (now_in j ∙ ap (λ b. b || is_in_chain s head j) other.0)

-- The top is taken off a chain.
pub record IsPopped (s t : Slots) (head : Head) (node : Node) : Type 0 where
  pub lies : LiesIn t (beneath head node)
  pub frames : frames s head ≡ node.frame ∷ frames t (beneath head node)
  pub chain : ChangesChainOnly s head t (beneath head node)

pub popped : (s t : Slots) (head : Head) (node : Node) → LiesIn s head → 0 < head.depth → node_at s head.top ≡ Some node
    → node_at t head.top ≡ None → ((j : ℕ) → j ≢ head.top → node_at t j ≡ node_at s j) → IsPopped s t head node
popped s t head node lies some at gone others = record {
  lies = lies_same s t (beneath head node) sp.beneath same;
  frames = ap frames_in whole ∙ ap (λ (l : List Frame). node.frame ∷ l) (sym (ap frames_in same));
  chain = record {
    nodes = λ j h. others j (not_top j h);
    outside = λ j h. ap (λ (l : List Link). is_in j (keys_in l)) same ∙ off_rest j (off j h);
    exactly = λ j h. exactly j h (eqb_tells head.top j);
  };
}
  where
    sp : IsSplit s head.top (head.depth - 1) node
    sp = split s head node lies some at

    whole : links s head ≡ link head.top node ∷ links s (beneath head node)
    whole = links-split s head node some sp

    same : links t (beneath head node) ≡ links s (beneath head node)
    same =
        links_from-kept s t (head.depth - 1) node.below sp.beneath.there
        (λ j on. others j (differs j head.top (keys_in (links s (beneath head node))) on sp.out))

    was_in : (j : ℕ) → is_in_chain s head j ≡ (head.top == j || is_in_chain s (beneath head node) j)
    was_in j = ap (λ (l : List Link). is_in j (keys_in l)) whole

    off : (j : ℕ) → is_outside s head j ≡ true → is_in_chain s head j ≡ false
    off j h = not_true (is_in_chain s head j) (and_parts (is_there s j) (not (is_in_chain s head j)) h).1

    off_rest : (j : ℕ) → is_in_chain s head j ≡ false → is_in_chain s (beneath head node) j ≡ false
    off_rest j h = (or_parts (head.top == j) (is_in_chain s (beneath head node) j) (sym (was_in j) ∙ h)).1

    not_top : (j : ℕ) → is_outside s head j ≡ true → j ≢ head.top
    not_top j h e =
        absurd
        (cc (
          (or_parts (head.top == j) (is_in_chain s (beneath head node) j) (sym (was_in j) ∙ off j h)).0,
          eq-eqb head.top j (sym e),
        ))

    exactly : (j : ℕ) → is_outside s head j ≡ false → ((head.top == j ≡ true) × (head.top ≡ j))
        ⊎ ((head.top == j ≡ false) × (head.top ≢ j)) → is_there t j ≡ is_in_chain t (beneath head node) j
    exactly j h (inl e) =
        ap (is_there t) (sym e.1) ∙ ap is_some gone
        ∙ sym (ap (λ (l : List Link). is_in j (keys_in l)) same
        ∙ ap (λ k. is_in k (keys_in (links s (beneath head node)))) (sym e.1) ∙ sp.out)
    exactly j h (inr other) =
        ap is_some (others j (λ e. other.1 (sym e))) ∙ (ChangesChainOnly-refl s head).exactly j h
        ∙ was_in j ∙ ap (λ b. b || is_in_chain s (beneath head node) j) other.0
        ∙ sym (ap (λ (l : List Link). is_in j (keys_in l)) same)

pub length-stack_at : (s : Slots) (head : Head) → LiesIn s head → length (stack_at s head) ≡ head.depth
length-stack_at s head lies =
    length-map (frames s head) activation ∙ length-map (links s head) (λ l. l.node.frame) ∙ lies.there

-- the top of a head with frames is in its chain
pub top_in_chain : (s : Slots) (head : Head) → LiesIn s head → 0 < head.depth → is_in_chain s head head.top ≡ true
top_in_chain s head lies some = by_node (node_at s head.top) refl
  where
    by_node : (o : Option Node) → node_at s head.top ≡ o → is_in_chain s head head.top ≡ true
    by_node None at = absurd (true_false (is_there s head.top) (top_there s head lies some) (ap is_some at))
    by_node (Some node) at =
        in_chain-split s head node head.top some (split s head node lies some at)
        ∙ or_left (head.top == head.top) (is_in_chain s (beneath head node) head.top) (eq-eqb head.top head.top refl)
