-- Searches of a group that pass over frames.
use Rattle.std.proofs.Common.{◌≡◌, ◌≢◌, ◌⊎◌, inl, inr, ℕ, zero, suc, ◌-◌, ◌<◌, ◌≤◌, ◌==◌, ◌&&◌, ◌||◌, Bool, true, false, not}
use Rattle.std.proofs.Common.{cond, List, [], ◌∷◌, length, get_or, map, set, Option, Some, None, refl, sym, ap, subst}
use Rattle.std.proofs.Common.{◌∙◌, is_some, arith}
use Rattle.std.specs.List.{range_with_len}
use Rattle.std.proofs.lemmas.Bool.{and_from, and_parts, cases_eq, eqb-true}
use Rattle.std.proofs.lemmas.List.{ext_get_or, get_or-set_other, get_or-set_same, length-set}
use Rattle.std.proofs.lemmas.List.FromFn.{get_or-map-range_with_len, length-map-range_with_len}
use Rattle.event_costs.specs.declared.numbers.FuncId.{FuncId}
use Rattle.shadow_stack.specs.declared.arena.Head.{Head}
use Rattle.shadow_stack.specs.Arenas.{Node}
use Rattle.shadow_stack.specs.Arenas.{Summary}
use Rattle.shadow_stack.specs.declared.frame.Kind.{Kind}
use Rattle.shadow_stack.specs.Kinds.{is_jump}
use Rattle.shadow_stack.specs.Stacks.{Stack}
use Rattle.shadow_stack.specs.Changes.{down_to}
use Rattle.shadow_stack.specs.Frames.{stack}
use Rattle.shadow_stack.specs.Arenas.{agree, bit, ends, first, frames_in, is_there, IsStep, LiesIn, Link, links, links_from}
use Rattle.shadow_stack.specs.Arenas.{beneath, node_at, parts_at, same, stack_at, turn_of, turns_of}
use Rattle.shadow_stack.proofs.BaseLemmas.{no_jump}
use Rattle.shadow_stack.proofs.ChainLemmas.{IsSplit, links_from-none, links-split, split, split_suc, top_there, true_false}

abbrev Slots : Type 0
Slots = List (Option Node)

abbrev head_at : ℕ → ℕ → Head
head_at key n = record { top = key; depth = n }

abbrev nothing : Head
nothing = head_at 0 0

abbrev func_of : Node → ℕ
func_of node = node.frame.func.0

-- ---- bits

same-refl : (b : Bool) → same b b ≡ true
same-refl true = refl
same-refl false = refl

same-swap : (x y z : Bool) → same x y ≡ true → same x z ≡ same y z
same-swap true true z h = refl
same-swap true false z h = absurd (cc)
same-swap false true z h = absurd (cc)
same-swap false false z h = refl

other-swap : (x y z : Bool) → same x y ≡ false → same x z ≡ not (same y z)
other-swap true true z h = absurd (cc)
other-swap true false true h = refl
other-swap true false false h = refl
other-swap false true true h = refl
other-swap false true false h = refl
other-swap false false z h = absurd (cc)

pub agree-swap : (level a b g : ℕ) → agree level a b ≡ true → agree level a g ≡ agree level b g
agree-swap zero a b g h = refl
agree-swap (suc level) a b g h =
    let parts = and_parts (agree level a b) (same (bit level a) (bit level b)) h in
    ap (λ x. x && same (bit level a) (bit level g)) (agree-swap level a b g parts.0)
    ∙ ap (λ x. agree level b g && x) (same-swap (bit level a) (bit level b) (bit level g) parts.1)

not_last : (level : ℕ) → level < 8 → (level == 8) ≡ false
not_last level within = by_test (level == 8) refl
  where
    by_test : (b : Bool) → (level == 8) ≡ b → (level == 8) ≡ false
    by_test false is = is
    by_test true is = absurd (omega (arith, eqb-true level 8 is))

-- with a bit that is the same, the frames that part there are those that part from the other there
parts-same : (level a b g : ℕ) → agree level a b ≡ true → same (bit level a) (bit level b) ≡ true
    → parts_at level a g ≡ parts_at level b g
parts-same level a b g h bits =
    ap (λ x. x && (level == 8 || not (same (bit level a) (bit level g)))) (agree-swap level a b g h)
    ∙ ap (λ x. agree level b g && (level == 8 || not x)) (same-swap (bit level a) (bit level b) (bit level g) bits)

-- with another bit, those that agree so far are those that part from the other there
agree-other : (level a b g : ℕ) → level < 8 → agree level a b ≡ true → same (bit level a) (bit level b) ≡ false
    → agree (suc level) a g ≡ parts_at level b g
agree-other level a b g within h bits =
    ap (λ x. x && same (bit level a) (bit level g)) (agree-swap level a b g h)
    ∙ ap (λ x. agree level b g && x) (other-swap (bit level a) (bit level b) (bit level g) bits)
    ∙ sym (ap (λ x. agree level b g && (x || not (same (bit level b) (bit level g)))) (not_last level within))

-- ---- where a search of a group ends

pub first-ext : (t u : ℕ → Bool) → ((g : ℕ) → t g ≡ u g) → (ls : List Link) → first t ls ≡ first u ls
first-ext t u same_test ls = λ i. first (λ g. same_test g i) ls

first-depth : (t : ℕ → Bool) (ls : List Link) → (first t ls).depth ≤ length ls
first-depth t [] = omega arith
first-depth t (l ∷ ls) = by (ends t l) (first-depth t ls)
  where
    by : (b : Bool) → (first t ls).depth ≤ length ls
        → (cond b (head_at l.key (suc (length ls))) (first t ls)).depth ≤ suc (length ls)
    by true h = omega arith
    by false h = omega arith

-- A search of a group goes on from there as it began, if it passes over the jumps that fail the test.
pub record IsPassed {A : Type 0} (search : List Link → A) (s : Slots) (head next : Head) : Type 0 where
  pub lies : LiesIn s next
  pub some : 0 < next.depth
  pub found : search (links s next) ≡ search (links s head)
  pub within : next.depth ≤ head.depth

abbrev pub Passes : {A : Type 0} → (List Link → A) → (ℕ → Bool) → Type 0
Passes search t = (l : Link) (ls : List Link) → t l.node.frame.func.0 ≡ false → is_jump l.node.frame.kind ≡ true
    → search (l ∷ ls) ≡ search ls

module _ {A : Type 0} (search : List Link → A) (s : Slots) (t : ℕ → Bool) where
  at_top : (key n : ℕ) (node : Node) → LiesIn s (head_at key (suc n)) → IsSplit s key n node
      → node_at s key ≡ Some node → Passes search t
      → ((below : ℕ) → 0 < n → LiesIn s (head_at below n)
      → IsPassed search s (head_at below n) (first t (links s (head_at below n))))
      → IsPassed search s (head_at key (suc n)) (first t (links s (head_at key (suc n))))
  at_top key n node lies sp at passes more = by_test (t (func_of node)) (is_jump node.frame.kind) refl refl
    where
      rest : List Link
      rest = links_from s n node.below

      whole : (a b : Bool) → t (func_of node) ≡ a → is_jump node.frame.kind ≡ b
          → first t (links s (head_at key (suc n)))
          ≡ cond (a || not b) (head_at key (suc (length rest))) (first t rest)
      whole a b tested jumps = ap (first t) sp.links
          ∙ λ i. cond (tested i || not (jumps i)) (head_at key (suc (length rest))) (first t rest)

      here : first t (links s (head_at key (suc n))) ≡ head_at key (suc (length rest))
          → IsPassed search s (head_at key (suc n)) (first t (links s (head_at key (suc n))))
      here is =
          subst (λ (h : Head). IsPassed search s (head_at key (suc n)) h)
          (sym (is ∙ ap (λ d. head_at key (suc d)) sp.beneath.there))
          (record { lies = lies; some = omega arith; found = refl; within = omega arith })

      deeper : is_jump node.frame.kind ≡ true → 0 < n
      deeper jumps = by_depth n refl
        where
          by_depth : (m : ℕ) → n ≡ m → 0 < n
          by_depth zero none = absurd
              (true_false (is_jump node.frame.kind) jumps
              (no_jump s key node (subst (λ d. LiesIn s (head_at key (suc d))) none lies) at))
          by_depth (suc m) is = omega arith

      by_test : (a b : Bool) → t (func_of node) ≡ a → is_jump node.frame.kind ≡ b
          → IsPassed search s (head_at key (suc n)) (first t (links s (head_at key (suc n))))
      by_test true b tested jumps = here (whole true b tested jumps)
      by_test false false tested jumps = here (whole false false tested jumps)
      by_test false true tested jumps =
          let under = more node.below (deeper jumps) sp.beneath in
          subst (λ (h : Head). IsPassed search s (head_at key (suc n)) h) (sym (whole false true tested jumps))
          (record {
            lies = under.lies;
            some = under.some;
            found = under.found ∙ sym (ap search sp.links ∙ passes (record { key = key; node = node }) rest tested jumps);
            within = omega (arith, under.within);
          })

  passed_from : (key n : ℕ) → 0 < n → LiesIn s (head_at key n) → Passes search t
      → IsPassed search s (head_at key n) (first t (links s (head_at key n)))
  passed_from key zero some lies passes = absurd (omega arith)
  passed_from key (suc n) some lies passes =
      by_node (node_at s key) refl (λ below deep under. passed_from below n deep under passes)
    where
      by_node : (o : Option Node) → node_at s key ≡ o
          → ((below : ℕ) → 0 < n → LiesIn s (head_at below n)
          → IsPassed search s (head_at below n) (first t (links s (head_at below n))))
          → IsPassed search s (head_at key (suc n)) (first t (links s (head_at key (suc n))))
      by_node None at more =
          absurd (true_false (is_there s key) (top_there s (head_at key (suc n)) lies (omega arith)) (ap is_some at))
      by_node (Some node) at more = at_top key n node lies (split_suc s key n node lies at) at passes more

  pub passed : (head : Head) → LiesIn s head → 0 < head.depth → Passes search t
      → IsPassed search s head (first t (links s head))
  passed head lies some passes = passed_from head.top head.depth some lies passes

-- a search for a function passes over the frames that fail a test that the function meets
abbrev pub sought : FuncId → List Link → Option Stack
sought func ls = down_to func (stack (frames_in ls))

not_of : (t : ℕ → Bool) (func : FuncId) (g : FuncId) → t func.0 ≡ true → t g.0 ≡ false → (g.0 == func.0) ≡ false
not_of t func g holds fails = by_test (g.0 == func.0) refl
  where
    by_test : (b : Bool) → (g.0 == func.0) ≡ b → (g.0 == func.0) ≡ false
    by_test false is = is
    by_test true is = absurd (true_false (t func.0) holds (ap t (sym (eqb-true g.0 func.0 is)) ∙ fails))

-- one that isn't of the function
sought_beneath : (func : FuncId) (l : Link) (ls : List Link) (b : Bool) → (l.node.frame.func.0 == func.0) ≡ false
    → is_jump l.node.frame.kind ≡ b → sought func (l ∷ ls) ≡ cond b (sought func ls) None
sought_beneath func l ls b other jumps =
    λ i. cond (other i) (Some (stack (frames_in (l ∷ ls)))) (cond (jumps i) (sought func ls) None)

pub sought-passes : (func : FuncId) (t : ℕ → Bool) → t func.0 ≡ true → Passes (sought func) t
sought-passes func t holds l ls fails jumps =
    sought_beneath func l ls true (not_of t func l.node.frame.func holds fails) jumps

-- and so does a search for a narrower test
pub first-passes : (t u : ℕ → Bool) → ((g : ℕ) → t g ≡ false → u g ≡ false) → Passes (first u) t
first-passes t u narrower l ls fails jumps =
    λ i. cond (narrower l.node.frame.func.0 fails i || not (jumps i)) (head_at l.key (suc (length ls))) (first u ls)

-- ---- the turns of a frame

pub nth : (turn : ℕ → ℕ) (level : ℕ) (d : ℕ) → level ≤ 8 → get_or (map turn (range_with_len 0 9)) level d ≡ turn level
nth turn level d within = get_or-map-range_with_len turn 0 9 level level d (omega arith) (omega arith)

-- a jump's, and where its search ends
pub turn_is : (s : Slots) (at : Head) (node : Node) (level : ℕ) (d : ℕ) → LiesIn s at → 0 < at.depth
    → node_at s at.top ≡ Some node → level ≤ 8 → is_jump node.frame.kind ≡ true
    → (first (parts_at level (func_of node)) (links s (beneath at node))).top ≡ get_or node.summary.turns level d
turn_is s at node level d lies some is within jumps =
    sym
    (ap (λ (m : Summary). get_or m.turns level d) (split s at node lies some is).summary
    ∙ nth (turn_of node.frame.kind (func_of node) (links s (beneath at node))) level d within
    ∙ ap (λ b. cond b (first (parts_at level (func_of node)) (links s (beneath at node))).top 0) jumps)

-- what is beneath a jump
pub beneath_jump : (s : Slots) (at : Head) (node : Node) → LiesIn s at → 0 < at.depth → node_at s at.top ≡ Some node
    → is_jump node.frame.kind ≡ true → 0 < at.depth - 1
beneath_jump s at node lies some is jumps = by_depth (at.depth - 1) refl
  where
    by_depth : (m : ℕ) → at.depth - 1 ≡ m → 0 < at.depth - 1
    by_depth zero none =
        let one : at.depth ≡ 1 = omega arith in
        absurd
        (true_false (is_jump node.frame.kind) jumps
        (no_jump s at.top node (subst (λ d. LiesIn s (head_at at.top d)) one lies) is))
    by_depth (suc m) deep = omega arith

-- a search of a group that goes on beneath a jump
pub under : {A : Type 0} (search : List Link → A) (s : Slots) (t : ℕ → Bool) (at : Head) (node : Node) → LiesIn s at
    → 0 < at.depth → node_at s at.top ≡ Some node → is_jump node.frame.kind ≡ true → Passes search t
    → IsPassed search s (beneath at node) (first t (links s (beneath at node)))
under search s t at node lies some is jumps passes =
    passed search s t (beneath at node) (split s at node lies some is).beneath (beneath_jump s at node lies some is jumps)
    passes

-- where the search for a function goes on
pub record IsTurned (s : Slots) (func : FuncId) (at next : Head) : Type 0 where
  pub lies : LiesIn s next
  pub some : 0 < next.depth
  pub found : down_to func (stack_at s next) ≡ down_to func (stack_at s at)
  pub within : next.depth < at.depth

whole_search : (s : Slots) (at : Head) (node : Node) (func : FuncId) (b : Bool) → LiesIn s at → 0 < at.depth
    → node_at s at.top ≡ Some node → (func_of node == func.0) ≡ false → is_jump node.frame.kind ≡ b
    → down_to func (stack_at s at) ≡ cond b (sought func (links s (beneath at node))) None
whole_search s at node func b lies some is other jumps =
    ap (sought func) (links-split s at node some (split s at node lies some is))
    ∙ sought_beneath func (record { key = at.top; node = node }) (links s (beneath at node)) b other jumps

pub turned : (s : Slots) (at : Head) (node : Node) (func : FuncId) (level : ℕ) → LiesIn s at → 0 < at.depth
    → node_at s at.top ≡ Some node → (func_of node == func.0) ≡ false → parts_at level (func_of node) func.0 ≡ true
    → is_jump node.frame.kind ≡ true
    → IsTurned s func at (first (parts_at level (func_of node)) (links s (beneath at node)))
turned s at node func level lies some is other parts jumps =
    let p = under (sought func) s (parts_at level (func_of node)) at node lies some is jumps
    (sought-passes func (parts_at level (func_of node)) parts) in
    record {
      lies = p.lies;
      some = p.some;
      found = p.found ∙ sym (whole_search s at node func true lies some is other jumps);
      within = omega (arith, p.within, some);
    }

-- a search that comes to the first frame of a group ends there
pub ended : (s : Slots) (at : Head) (node : Node) (func : FuncId) → LiesIn s at → 0 < at.depth
    → node_at s at.top ≡ Some node → (func_of node == func.0) ≡ false → is_jump node.frame.kind ≡ false
    → down_to func (stack_at s nothing) ≡ down_to func (stack_at s at)
ended s at node func lies some is other jumps =
    ap (sought func) (links_from-none s 0) ∙ sym (whole_search s at node func false lies some is other jumps)

-- ---- the turns of a new frame

-- a search ends at the top, or beneath it
top_first : (s : Slots) (at : Head) (node : Node) (t : ℕ → Bool) (a b : Bool) → LiesIn s at → 0 < at.depth
    → node_at s at.top ≡ Some node → t (func_of node) ≡ a → is_jump node.frame.kind ≡ b
    → first t (links s at) ≡ cond (a || not b) at (first t (links s (beneath at node)))
top_first s at node t a b lies some is tested jumps =
    let sp = split s at node lies some is in
    let rest = links s (beneath at node) in
    let deep : suc (length rest) ≡ at.depth = omega (arith, sp.beneath.there) in
    ap (first t) (links-split s at node some sp)
    ∙ λ i. cond (tested i || not (jumps i)) (head_at at.top (deep i)) (first t rest)

-- where the top begins its group
begins_here : (s : Slots) (at : Head) (node : Node) (t : ℕ → Bool) → LiesIn s at → 0 < at.depth
    → node_at s at.top ≡ Some node → is_jump node.frame.kind ≡ false → at ≡ first t (links s at)
begins_here s at node t lies some is jumps = by_test (t (func_of node)) refl
  where
    by_test : (a : Bool) → t (func_of node) ≡ a → at ≡ first t (links s at)
    by_test true tested = sym (top_first s at node t true false lies some is tested jumps)
    by_test false tested = sym (top_first s at node t false false lies some is tested jumps)

holds_first : (s : Slots) (at : Head) (node : Node) (t : ℕ → Bool) → LiesIn s at → 0 < at.depth
    → node_at s at.top ≡ Some node → is_jump node.frame.kind ≡ true → t (func_of node) ≡ true
    → at ≡ first t (links s at)
holds_first s at node t lies some is jumps holds = sym (top_first s at node t true true lies some is holds jumps)

fails_first : (s : Slots) (at : Head) (node : Node) (t u : ℕ → Bool) → LiesIn s at → 0 < at.depth
    → node_at s at.top ≡ Some node → is_jump node.frame.kind ≡ true → t (func_of node) ≡ false
    → ((g : ℕ) → t g ≡ u g) → first u (links s (beneath at node)) ≡ first t (links s at)
fails_first s at node t u lies some is jumps fails alike =
    sym (top_first s at node t false true lies some is fails jumps ∙ first-ext t u alike (links s (beneath at node)))

-- a jump at which a search ends meets the test
agrees_top : (s : Slots) (at : Head) (node : Node) (t : ℕ → Bool) → LiesIn s at → 0 < at.depth
    → node_at s at.top ≡ Some node → is_jump node.frame.kind ≡ true → first t (links s at) ≡ at
    → t (func_of node) ≡ true
agrees_top s at node t lies some is jumps found = by_test (t (func_of node)) refl
  where
    by_test : (b : Bool) → t (func_of node) ≡ b → t (func_of node) ≡ true
    by_test true holds = holds
    by_test false fails =
        absurd
        (omega (
          arith,
          some,
          (split s at node lies some is).beneath.there,
          first-depth t (links s (beneath at node)),
          ap (λ (h : Head). h.depth) (sym found ∙ top_first s at node t false true lies some is fails jumps),
        ))

parted : (level a g : ℕ) → agree level a g ≡ true → same (bit level a) (bit level g) ≡ false
    → parts_at level a g ≡ true
parted level a g h bits =
    and_from (agree level a g) (level == 8 || not (same (bit level a) (bit level g))) h
    (ap (λ x. level == 8 || not x) bits ∙ or_true (level == 8))
  where
    or_true : (b : Bool) → b || true ≡ true
    or_true true = refl
    or_true false = refl

and_false : (b : Bool) → b && false ≡ false
and_false true = refl
and_false false = refl

not_parted : (level a g : ℕ) → level < 8 → same (bit level a) (bit level g) ≡ true → parts_at level a g ≡ false
not_parted level a g within bits =
    ap (λ x. agree level a g && (x || not (same (bit level a) (bit level g)))) (not_last level within)
    ∙ ap (λ x. agree level a g && not x) bits ∙ and_false (agree level a g)

-- one level: at the first frame of a group, at a jump with the same bit, and at one with another
pub step_ends : (s : Slots) (func level : ℕ) (at : Head) (node : Node) → LiesIn s at → 0 < at.depth
    → node_at s at.top ≡ Some node → is_jump node.frame.kind ≡ false → IsStep s func level at at.top at
step_ends s func level at node lies some is jumps = record {
  turn = ap (λ (h : Head). h.top) (begins_here s at node (parts_at level func) lies some is jumps);
  next = begins_here s at node (agree (suc level) func) lies some is jumps;
  lies = lies;
  some = some;
}

module _ (s : Slots) (func level : ℕ) (at : Head) (node : Node) (within : level < 8) (lies : LiesIn s at)
    (some : 0 < at.depth) (is : node_at s at.top ≡ Some node) (jumps : is_jump node.frame.kind ≡ true)
    (found : first (agree level func) (links s at) ≡ at) where
  agrees : agree level func (func_of node) ≡ true
  agrees = agrees_top s at node (agree level func) lies some is jumps found

  pub step_on : same (bit level func) (bit level (func_of node)) ≡ true
      → IsStep s func level at (get_or node.summary.turns level 0) at
  step_on bits = record {
    turn = sym (turn_is s at node level 0 lies some is (omega arith) jumps)
        ∙ ap (λ (h : Head). h.top)
        (fails_first s at node (parts_at level func) (parts_at level (func_of node)) lies some is jumps
        (not_parted level func (func_of node) within bits)
        (λ g. parts-same level func (func_of node) g agrees bits));
    next = holds_first s at node (agree (suc level) func) lies some is jumps
        (and_from (agree level func (func_of node)) (same (bit level func) (bit level (func_of node))) agrees bits);
    lies = lies;
    some = some;
  }

  pub step_down : (onward : Head) → same (bit level func) (bit level (func_of node)) ≡ false
      → onward ≡ first (parts_at level (func_of node)) (links s (beneath at node))
      → IsStep s func level at at.top onward
  step_down onward bits to =
      let t = parts_at level (func_of node) in
      let p = under (first t) s t at node lies some is jumps (first-passes t t (λ g h. h)) in
      record {
        turn = ap (λ (h : Head). h.top)
            (holds_first s at node (parts_at level func) lies some is jumps
            (parted level func (func_of node) agrees bits));
        next = to
            ∙ fails_first s at node (agree (suc level) func) t lies some is jumps
            (ap (λ x. agree level func (func_of node) && x) bits ∙ and_false (agree level func (func_of node)))
            (λ g. agree-other level func (func_of node) g within agrees bits);
        lies = subst (λ (h : Head). LiesIn s h) (sym to) p.lies;
        some = omega (arith, p.some, ap (λ (h : Head). h.depth) to);
      }

-- the highest frame of the innermost group of a chain that agrees so far, and the turns of the levels below
pub record IsAt (s : Slots) (func level : ℕ) (head at : Head) (turns : List ℕ) : Type 0 where
  pub lies : LiesIn s at
  pub some : 0 < at.depth
  pub is : at ≡ first (agree level func) (links s head)
  pub found : first (agree level func) (links s at) ≡ at
  pub long : length turns ≡ 9
  pub below : (k : ℕ) → k < level → get_or turns k 0 ≡ (first (parts_at k func) (links s head)).top

made_at : (s : Slots) (func level : ℕ) (head at : Head) (turns : List ℕ) → LiesIn s head → 0 < head.depth
    → LiesIn s at → 0 < at.depth → at ≡ first (agree level func) (links s head) → length turns ≡ 9
    → ((k : ℕ) → k < level → get_or turns k 0 ≡ (first (parts_at k func) (links s head)).top)
    → IsAt s func level head at turns
made_at s func level head at turns whole live lies some is long below = record {
  lies = lies;
  some = some;
  is = is;
  found = ap (λ (h : Head). first (agree level func) (links s h)) is
      ∙ (passed (first (agree level func)) s (agree level func) head whole live
      (first-passes (agree level func) (agree level func) (λ g h. h))).found ∙ sym is;
  long = long;
  below = below;
}

pub at_head : (s : Slots) (func : ℕ) (head : Head) (turns : List ℕ) → LiesIn s head → 0 < head.depth
    → length turns ≡ 9 → IsAt s func 0 head head turns
at_head s func head turns lies some long = by_node (node_at s head.top) refl
  where
    by_node : (o : Option Node) → node_at s head.top ≡ o → IsAt s func 0 head head turns
    by_node None is = absurd (true_false (is_there s head.top) (top_there s head lies some) (ap is_some is))
    by_node (Some node) is =
        made_at s func 0 head head turns lies some lies some
        (sym (top_first s head node (agree 0 func) true (is_jump node.frame.kind) lies some is refl refl)) long
        (λ k none. absurd (omega arith))

-- the next level
pub next_level : (s : Slots) (func level : ℕ) (head at : Head) (turns : List ℕ) (key : ℕ) (next : Head) → LiesIn s head
    → 0 < head.depth → level < 8 → IsAt s func level head at turns → IsStep s func level at key next
    → IsAt s func (suc level) head next (set turns level key)
next_level s func level head at turns key next whole live within here step =
    made_at s func (suc level) head next (set turns level key) whole live step.lies step.some
    (step.next ∙ on (agree (suc level) func) (λ g h. ap (λ x. x && same (bit level func) (bit level g)) h))
    (length-set turns level key ∙ here.long) (λ k lt. by_level k lt (cases_eq k level))
  where
    on : (u : ℕ → Bool) → ((g : ℕ) → agree level func g ≡ false → u g ≡ false)
        → first u (links s at) ≡ first u (links s head)
    on u narrower =
        ap (λ (h : Head). first u (links s h)) here.is
        ∙ (passed (first u) s (agree level func) head whole live (first-passes (agree level func) u narrower)).found

    turn : key ≡ (first (parts_at level func) (links s head)).top
    turn = step.turn
        ∙ ap (λ (h : Head). h.top)
        (on (parts_at level func) (λ g h. ap (λ x. x && (level == 8 || not (same (bit level func) (bit level g)))) h))

    by_level : (k : ℕ) → k < suc level → (k ≡ level) ⊎ (k ≢ level)
        → get_or (set turns level key) k 0 ≡ (first (parts_at k func) (links s head)).top
    by_level k lt (inl e) =
        ap (λ j. get_or (set turns level key) j 0) e
        ∙ get_or-set_same turns level key 0 (omega (arith, here.long)) ∙ turn
        ∙ ap (λ j. (first (parts_at j func) (links s head)).top) (sym e)
    by_level k lt (inr ne) = get_or-set_other turns level k key 0 ne ∙ here.below k (omega (arith, ne))

-- the last turn leads to those that agree at all levels
pub all_turns : (s : Slots) (kind : Kind) (func : ℕ) (head at : Head) (turns : List ℕ) → is_jump kind ≡ true
    → IsAt s func 8 head at turns → set turns 8 at.top ≡ turns_of kind func (links s head)
all_turns s kind func head at turns jumps here =
    ext_get_or 0 (set turns 8 at.top) (turns_of kind func (links s head))
    (length-set turns 8 at.top ∙ here.long ∙ sym (length-map-range_with_len (turn_of kind func (links s head)) 0 9))
    (λ k lt. by_level k (omega (arith, lt, length-set turns 8 at.top, here.long)) (cases_eq k 8)
    ∙ sym (ap (λ b. cond b (first (parts_at k func) (links s head)).top 0) jumps)
    ∙ sym (nth (turn_of kind func (links s head)) k 0 (omega (arith, lt, length-set turns 8 at.top, here.long))))
  where
    and_true : (b : Bool) → b && true ≡ b
    and_true true = refl
    and_true false = refl

    by_level : (k : ℕ) → k ≤ 8 → (k ≡ 8) ⊎ (k ≢ 8)
        → get_or (set turns 8 at.top) k 0 ≡ (first (parts_at k func) (links s head)).top
    by_level k le (inl e) =
        ap (λ j. get_or (set turns 8 at.top) j 0) e
        ∙ get_or-set_same turns 8 at.top 0 (omega (arith, here.long))
        ∙ ap (λ (h : Head). h.top)
        (here.is ∙ first-ext (agree 8 func) (parts_at 8 func) (λ g. sym (and_true (agree 8 func g))) (links s head))
        ∙ ap (λ j. (first (parts_at j func) (links s head)).top) (sym e)
    by_level k le (inr ne) = get_or-set_other turns 8 k at.top 0 ne ∙ here.below k (omega (arith, ne))
