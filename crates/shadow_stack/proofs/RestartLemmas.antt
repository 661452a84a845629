-- Frames that are given another start.
use Rattle.std.proofs.Common.{◌≡◌, ◌≢◌, ◌⊎◌, ℕ, zero, suc, ◌-◌, ◌<◌, ◌==◌, ◌&&◌, ◌||◌, Bool, true, false, not, List, []}
use Rattle.std.proofs.Common.{◌∷◌, ◌++◌, suc, cond, length, map, is_some, Option, Some, None, refl, sym, ap, subst, ◌∙◌, inl, inr}
use Rattle.std.proofs.Common.{arith}
use Rattle.std.specs.Option.{option_map}
use Rattle.std.proofs.lemmas.Bool.{eq-eqb, or_left, or_right, and_parts}
use Rattle.std.proofs.lemmas.Bool.Decides.{eqb_tells}
use Rattle.std.proofs.lemmas.List.{length-map}
use Rattle.std.specs.List.{range_with_len}
use Rattle.shadow_stack.specs.declared.arena.Head.{Head}
use Rattle.shadow_stack.specs.Arenas.{Node}
use Rattle.shadow_stack.specs.Arenas.{Summary}
use Rattle.shadow_stack.specs.declared.frame.Frame.{Frame}
use Rattle.shadow_stack.specs.Stacks.{Stack, is_rooted}
use Rattle.shadow_stack.specs.declared.frame.Kind.{Kind}
use Rattle.shadow_stack.specs.Kinds.{is_jump}
use Rattle.shadow_stack.specs.Frames.{activation, stack, closing, closings, restarted_frames, restarted_frame}
use Rattle.shadow_stack.specs.Arenas.{node_at, is_there, Link, links_from, links, frames_in, keys_in, is_in}
use Rattle.shadow_stack.specs.Arenas.{are_distinct, frames, is_in_chain, least_with, least_sp, greatest_with}
use Rattle.shadow_stack.specs.Arenas.{ends, first, parts_at, turn_of, greatest_sp, base_in, summary_of, summaries_of, summaries_in}
use Rattle.shadow_stack.specs.Arenas.{LiesIn, is_outside, ChangesChainOnly, beneath, restarted_node, restarted_if}
use Rattle.shadow_stack.specs.Arenas.{AreRestarted}
use Rattle.shadow_stack.proofs.ChainLemmas.{not_true, links_from-there}
use Rattle.shadow_stack.proofs.ChainLemmas.{links_from-absent, links_from-none, links_from-kept, IsSplit}
use Rattle.shadow_stack.proofs.ChainLemmas.{in_chain-split, links-split, ChangesChainOnly-refl, lies_same, links-none}
use Rattle.shadow_stack.proofs.ChainLemmas.{split, top_in_chain}

abbrev Slots : Type 0
Slots = List (Option Node)

abbrev again : List ℕ → Link → Link
again total l = record { key = l.key; node = restarted_node total l.node }

-- the nodes of a chain that were restarted
links_from-restarted : (total : List ℕ) (s t : Slots) (n key : ℕ) → length (links_from s n key) ≡ n
    → ((k : ℕ) → is_in k (keys_in (links_from s n key)) ≡ true
    → node_at t k ≡ option_map (restarted_node total) (node_at s k))
    → links_from t n key ≡ map (again total) (links_from s n key)
links_from-restarted total s t zero key whole now = links_from-none t key
    ∙ sym (ap (map (again total)) (links_from-none s key))
links_from-restarted total s t (suc n) key whole now =
    by_node (node_at s key) refl (λ below. links_from-restarted total s t n below)
  where
    by_node : (o : Option Node) → node_at s key ≡ o
        → ((below : ℕ) → length (links_from s n below) ≡ n
        → ((k : ℕ) → is_in k (keys_in (links_from s n below)) ≡ true
        → node_at t k ≡ option_map (restarted_node total) (node_at s k))
        → links_from t n below ≡ map (again total) (links_from s n below))
        → links_from t (suc n) key ≡ map (again total) (links_from s (suc n) key)
    by_node None at more = absurd (omega (arith, whole, ap (length {A = Link}) (links_from-absent s n key at)))
    by_node (Some node) at more =
        let ls = links_from-there s n key node at in
        let here : node_at t key ≡ option_map (restarted_node total) (node_at s key) =
        now key
        (subst (λ (ls : List Link). is_in key (keys_in ls) ≡ true) (sym ls)
        (or_left (key == key) (is_in key (keys_in (links_from s n node.below))) (eq-eqb key key refl))) in
        links_from-there t n key (restarted_node total node) (here ∙ ap (option_map (restarted_node total)) at)
        ∙ ap (λ (l : List Link). again total (record { key = key; node = node }) ∷ l)
        (more node.below (omega (arith, whole, ap (length {A = Link}) ls))
        (λ k later. now k
        (subst (λ (ls : List Link). is_in k (keys_in ls) ≡ true) (sym ls)
        (or_right (key == k) (is_in k (keys_in (links_from s n node.below))) later))))
        ∙ sym (ap (map (again total)) ls)

keys_in-again : (total : List ℕ) (ls : List Link) → keys_in (map (again total) ls) ≡ keys_in ls
keys_in-again total [] = refl
keys_in-again total (l ∷ ls) = ap (λ (ks : List ℕ). l.key ∷ ks) (keys_in-again total ls)

summaries_in-again : (total : List ℕ) (ls : List Link) → summaries_in (map (again total) ls) ≡ summaries_in ls
summaries_in-again total [] = refl
summaries_in-again total (l ∷ ls) = ap (λ (ks : List Summary). l.node.summary ∷ ks) (summaries_in-again total ls)

frames_in-again : (total : List ℕ) (ls : List Link) → frames_in (map (again total) ls) ≡ restarted_frames total (frames_in ls)
frames_in-again total [] = refl
frames_in-again total (l ∷ ls) =
    ap (λ (fs : List Frame). restarted_frame total l.node.frame ∷ fs) (frames_in-again total ls)

pub stack-restarted : (total : List ℕ) (fs : List Frame) → stack (restarted_frames total fs) ≡ stack fs
stack-restarted total [] = refl
stack-restarted total (f ∷ fs) = ap (λ (s : Stack). activation f ∷ s) (stack-restarted total fs)

least_sp-restarted : (total : List ℕ) (fs : List Frame) → least_sp (restarted_frames total fs) ≡ least_sp fs
least_sp-restarted total [] = refl
least_sp-restarted total (f ∷ fs) = ap (least_with f.kind) (least_sp-restarted total fs)

greatest_sp-restarted : (total : List ℕ) (fs : List Frame) → greatest_sp (restarted_frames total fs) ≡ greatest_sp fs
greatest_sp-restarted total [] = refl
greatest_sp-restarted total (f ∷ fs) = ap (greatest_with f.kind) (greatest_sp-restarted total fs)

base_in-again : (total : List ℕ) (ls : List Link) → base_in (map (again total) ls) ≡ base_in ls
base_in-again total [] = refl
base_in-again total (l ∷ ls) = by_jump (is_jump l.node.frame.kind) (base_in-again total ls)
  where
    by_jump : (b : Bool) → base_in (map (again total) ls) ≡ base_in ls
        → cond b (base_in (map (again total) ls)) (record { top = l.key; depth = suc (length (map (again total) ls)) })
        ≡ cond b (base_in ls) (record { top = l.key; depth = suc (length ls) })
    by_jump true same = same
    by_jump false same = ap (λ n. record { top = l.key; depth = suc n }) (length-map ls (again total))

first-again : (total : List ℕ) (t : ℕ → Bool) (ls : List Link) → first t (map (again total) ls) ≡ first t ls
first-again total t [] = refl
first-again total t (l ∷ ls) =
    λ i. cond (ends t l) (record { top = l.key; depth = suc (length-map ls (again total) i) }) (first-again total t ls i)

turn_of-again : (total : List ℕ) (kind : Kind) (func : ℕ) (ls : List Link) (level : ℕ)
    → turn_of kind func (map (again total) ls) level ≡ turn_of kind func ls level
turn_of-again total kind func ls level =
    ap (λ (h : Head). cond (is_jump kind) h.top 0) (first-again total (parts_at level func) ls)

summary_of-again : (total : List ℕ) (kind : Kind) (func : ℕ) (ls : List Link)
    → summary_of kind func (map (again total) ls) ≡ summary_of kind func ls
summary_of-again total kind func ls =
    let least = ap least_sp (frames_in-again total ls) ∙ least_sp-restarted total (frames_in ls) in
    let greatest = ap greatest_sp (frames_in-again total ls) ∙ greatest_sp-restarted total (frames_in ls) in
    λ i. record {
      least = least_with kind (least i);
      greatest = greatest_with kind (greatest i);
      depth = suc (length-map ls (again total) i);
      base = cond (is_jump kind) (base_in-again total ls i).top 0;
      turns = map (λ level. turn_of-again total kind func ls level i) (range_with_len 0 9);
    }

summaries_of-again : (total : List ℕ) (ls : List Link) → summaries_of (map (again total) ls) ≡ summaries_of ls
summaries_of-again total [] = refl
summaries_of-again total (l ∷ ls) = cc (summary_of-again total l.node.frame.kind l.node.frame.func.0 ls, summaries_of-again total ls)

-- A chain was restarted, and nothing else.
pub record IsRestarted (total : List ℕ) (s t : Slots) (head : Head) : Type 0 where
  pub lies : LiesIn t head
  pub frames : frames t head ≡ restarted_frames total (frames s head)
  pub chain : ChangesChainOnly s head t head

in_chain_now : (total : List ℕ) (s t : Slots) (head : Head) → AreRestarted (is_in_chain s head) total s t → (k : ℕ)
    → is_in_chain s head k ≡ true → node_at t k ≡ option_map (restarted_node total) (node_at s k)
in_chain_now total s t head all k on = all k ∙ ap (λ b. restarted_if b total (node_at s k)) on

off_chain_now : (total : List ℕ) (s t : Slots) (head : Head) → AreRestarted (is_in_chain s head) total s t → (k : ℕ)
    → is_in_chain s head k ≡ false → node_at t k ≡ node_at s k
off_chain_now total s t head all k off = all k ∙ ap (λ b. restarted_if b total (node_at s k)) off

is_some-restarted : (b : Bool) (total : List ℕ) (o : Option Node) → is_some (restarted_if b total o) ≡ is_some o
is_some-restarted true total None = refl
is_some-restarted true total (Some node) = refl
is_some-restarted false total o = refl

restarted_chain : (total : List ℕ) (s t : Slots) (head : Head) → LiesIn s head
    → AreRestarted (is_in_chain s head) total s t → IsRestarted total s t head
restarted_chain total s t head lies all = record {
  lies = record {
    there = ap (length {A = Link}) whole ∙ length-map (links s head) (again total) ∙ lies.there;
    apart = ap are_distinct keys ∙ lies.apart;
    rooted = λ some. ap (λ (fs : List Frame). is_rooted (stack fs)) now
        ∙ ap is_rooted (stack-restarted total (frames s head)) ∙ lies.rooted some;
    summed =
        ap summaries_in whole ∙ summaries_in-again total (links s head) ∙ lies.summed
        ∙ sym (ap summaries_of whole ∙ summaries_of-again total (links s head));
  };
  frames = now;
  chain = record {
    nodes = λ key h. off_chain_now total s t head all key (off key h);
    outside = λ key h. ap (is_in key) keys ∙ off key h;
    exactly = λ key h. ap is_some (all key) ∙ is_some-restarted (is_in_chain s head key) total (node_at s key)
        ∙ (ChangesChainOnly-refl s head).exactly key h ∙ sym (ap (is_in key) keys);
  };
}
  where
    whole : links t head ≡ map (again total) (links s head)
    whole = links_from-restarted total s t head.depth head.top lies.there (in_chain_now total s t head all)

    keys : keys_in (links t head) ≡ keys_in (links s head)
    keys = ap keys_in whole ∙ keys_in-again total (links s head)

    now : frames t head ≡ restarted_frames total (frames s head)
    now = ap frames_in whole ∙ frames_in-again total (links s head)

    off : (key : ℕ) → is_outside s head key ≡ true → is_in_chain s head key ≡ false
    off key h = not_true (is_in_chain s head key) (and_parts (is_there s key) (not (is_in_chain s head key)) h).1

-- in the chain of the first head, but not in that of the second
abbrev pub is_between : Slots → Head → Head → ℕ → Bool
is_between s head at key = is_in_chain s head key && not (is_in_chain s at key)

-- a node of what is left of the chain is as it was
left_node : (total : List ℕ) (s t : Slots) (head at : Head) → AreRestarted (is_between s head at) total s t → (key : ℕ)
    → is_in_chain s at key ≡ true → node_at t key ≡ node_at s key
left_node total s t head at all key on = all key
    ∙ ap (λ b. restarted_if b total (node_at s key)) (neither (is_in_chain s head key) (is_in_chain s at key) on)
  where
    neither : (a b : Bool) → b ≡ true → a && not b ≡ false
    neither true b h = ap not h
    neither false b h = refl

-- what is left of the chain lies as it did
pub left_lies : (total : List ℕ) (s t : Slots) (head at : Head) → LiesIn s at
    → AreRestarted (is_between s head at) total s t → LiesIn t at
left_lies total s t head at lies all =
    lies_same s t at lies (links_from-kept s t at.depth at.top lies.there (left_node total s t head at all))

-- and splits as it did
left_splits : (total : List ℕ) (s t : Slots) (head at : Head) (node : Node) → LiesIn s at → 0 < at.depth
    → AreRestarted (is_between s head at) total s t → node_at t at.top ≡ Some node
    → IsSplit s at.top (at.depth - 1) node
left_splits total s t head at node lies some all here =
    split s at node lies some (sym (left_node total s t head at all at.top (top_in_chain s at lies some)) ∙ here)

-- The next frame to restart: what is left begins with it.
pub record IsNext (total : List ℕ) (s : Slots) (at : Head) (node : Node) : Type 0 where
  pub splits : IsSplit s at.top (at.depth - 1) node
  pub frames_are : frames s at ≡ node.frame ∷ frames s (beneath at node)
  pub tellings_are : closings total (frames s at)
      ≡ closing total node.frame ++ closings total (frames s (beneath at node))

pub next_of : (total : List ℕ) (s t : Slots) (head at : Head) (node : Node) → LiesIn s at → 0 < at.depth
    → AreRestarted (is_between s head at) total s t → node_at t at.top ≡ Some node → IsNext total s at node
next_of total s t head at node lies some all here =
    let sp = left_splits total s t head at node lies some all here in
    let whole : frames s at ≡ node.frame ∷ frames s (beneath at node) = ap frames_in (links-split s at node some sp) in
    record { splits = sp; frames_are = whole; tellings_are = ap (closings total) whole }

-- one frame more is restarted
pub one_more : (total : List ℕ) (s t u : Slots) (head at : Head) (node : Node) → 0 < at.depth
    → IsSplit s at.top (at.depth - 1) node
    → ((key : ℕ) → is_in_chain s at key ≡ true → is_in_chain s head key ≡ true)
    → AreRestarted (is_between s head at) total s t → AreRestarted (λ key. key == at.top) total t u
    → AreRestarted (is_between s head (beneath at node)) total s u
one_more total s t u head at node some sp within before step = λ key. step key ∙ by_top key (eqb_tells key at.top)
  where
    in_at : (key : ℕ) → is_in_chain s at key ≡ (at.top == key || is_in_chain s (beneath at node) key)
    in_at key = in_chain-split s at node key some sp

    top_in : (key : ℕ) → key ≡ at.top → is_in_chain s at key ≡ true
    top_in key same = in_at key
        ∙ or_left (at.top == key) (is_in_chain s (beneath at node) key) (eq-eqb at.top key (sym same))

    flip : (key : ℕ) → key ≢ at.top → at.top == key ≡ false
    flip key other = by (eqb_tells at.top key)
      where
        by : ((at.top == key ≡ true) × (at.top ≡ key)) ⊎ ((at.top == key ≡ false) × (at.top ≢ key))
            → at.top == key ≡ false
        by (inl same) = absurd (other (sym same.1))
        by (inr differs) = differs.0

    both : (a b : Bool) → a ≡ true → b ≡ false → a && not b ≡ true
    both true b h k = ap not k
    both false b h k = absurd (cc)

    none : (a b : Bool) → b ≡ true → a && not b ≡ false
    none true b h = ap not h
    none false b h = refl

    by_top : (key : ℕ) → ((key == at.top ≡ true) × (key ≡ at.top)) ⊎ ((key == at.top ≡ false) × (key ≢ at.top))
        → restarted_if (key == at.top) total (node_at t key)
        ≡ restarted_if (is_between s head (beneath at node) key) total (node_at s key)
    by_top key (inl same) =
        ap (λ b. restarted_if b total (node_at t key)) same.0
        ∙ ap (option_map (restarted_node total))
        (before key
        ∙ ap (λ b. restarted_if b total (node_at s key))
        (none (is_in_chain s head key) (is_in_chain s at key) (top_in key same.1)))
        ∙ sym (ap (λ b. restarted_if b total (node_at s key))
        (both (is_in_chain s head key) (is_in_chain s (beneath at node) key) (within key (top_in key same.1))
        (ap (is_in_chain s (beneath at node)) same.1 ∙ sp.out)))
    by_top key (inr other) =
        ap (λ b. restarted_if b total (node_at t key)) other.0 ∙ before key
        ∙ ap (λ b. restarted_if (is_in_chain s head key && not b) total (node_at s key))
        (in_at key ∙ ap (λ b. b || is_in_chain s (beneath at node) key) (flip key other.1))

-- none is left
all_done : (total : List ℕ) (s t : Slots) (head at : Head) → at.depth ≡ 0
    → AreRestarted (is_between s head at) total s t → AreRestarted (is_in_chain s head) total s t
all_done total s t head at done all = λ key.
    all key
    ∙ ap (λ b. restarted_if b total (node_at s key))
    (ap (λ (l : List Link). is_in_chain s head key && not (is_in key (keys_in l))) (links-none s at done)
    ∙ and_true (is_in_chain s head key))
  where
    and_true : (b : Bool) → b && true ≡ b
    and_true true = refl
    and_true false = refl

pub whole_done : (total : List ℕ) (s t : Slots) (head at : Head) → LiesIn s head → at.depth ≡ 0
    → AreRestarted (is_between s head at) total s t → IsRestarted total s t head
whole_done total s t head at lies done all = restarted_chain total s t head lies (all_done total s t head at done all)

-- nothing is done yet
pub none_done : (total : List ℕ) (s : Slots) (head : Head) → AreRestarted (is_between s head head) total s s
none_done total s head = λ key. sym (ap (λ b. restarted_if b total (node_at s key)) (neither (is_in_chain s head key)))
  where
    neither : (b : Bool) → b && not b ≡ false
    neither true = refl
    neither false = refl
