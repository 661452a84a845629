-- An arena of frames, and how the chains of heads lie in it.
use Rattle.std.specs.Prelude.{◌≡◌, ℕ, zero, suc, ◌+◌, ◌-◌, ◌<◌, ◌==◌, ◌&&◌, ◌||◌, ◌/◌, ◌%◌, ◌^◌, min, not, Bool, true, false, List, [], ◌∷◌}
use Rattle.std.specs.Prelude.{length, map, max, Option, None, is_some, slice_index_or, if◌then◌else◌, refl}
use Rattle.std.specs.Coded.{Coded, Coded-set, code_by, coded_ℕ, coded_bool, coded_list, coded×}
use Rattle.std.specs.List.{list_any, range_with_len}
use Rattle.std.specs.Option.{option_map, option_map_or}
use Rattle.shadow_stack.specs.declared.arena.Head.{Head}
use Rattle.shadow_stack.specs.declared.frame.Frame.{Frame}
use Rattle.shadow_stack.specs.declared.frame.Kind.{Kind}
use Rattle.shadow_stack.specs.declared.frame.Kind.TheVariants.{Root, Call, Jump}
use Rattle.shadow_stack.specs.Kinds.{is_jump}
use Rattle.shadow_stack.specs.Stacks.{Stack, is_rooted}
use Rattle.shadow_stack.specs.Frames.{stack, restarted_frame}

-- What a frame knows of the chain from it on down: the least stack pointer of the calls and the greatest, and how many frames
-- it has; a jump also the key of the frame with which its group begins, and where a search of the group goes on at each
-- level. Of another frame these are 0.
pub record Summary : Type 0 where
  pub least : ℕ
  pub greatest : ℕ
  pub depth : ℕ
  pub base : ℕ
  pub turns : List ℕ

-- a frame in an arena with the key of the frame beneath, which has no meaning in the lowest frame of a chain
pub record Node : Type 0 where
  pub frame : Frame
  pub below : ℕ
  pub summary : Summary

-- the node or nothing at each key from 0 on, and how many more nodes fit without memory
pub record Nodes : Type 0 where
  pub slots : List (Option Node)
  pub spare : ℕ

abbrev pub node_at : List (Option Node) → ℕ → Option Node
node_at slots key = slice_index_or slots key None

abbrev pub is_there : List (Option Node) → ℕ → Bool
is_there slots key = is_some (node_at slots key)

-- a key with its node
pub record Link : Type 0 where
  pub key : ℕ
  pub node : Node

-- so many links from a key on, each leading to the key beneath; they end early where a key isn't there
unfoldable pub links_from : List (Option Node) → ℕ → ℕ → List Link
links_from slots zero key = []
links_from slots (suc n) key =
    option_map_or (λ node. record { key = key; node = node } ∷ links_from slots n node.below) (node_at slots key) []

-- the chain of a head, from its top key down
abbrev pub links : List (Option Node) → Head → List Link
links slots head = links_from slots head.depth head.top

abbrev pub frames_in : List Link → List Frame
frames_in ls = map (λ l. l.node.frame) ls

abbrev pub keys_in : List Link → List ℕ
keys_in ls = map (λ l. l.key) ls

abbrev pub is_in : ℕ → List ℕ → Bool
is_in key keys = list_any (λ k. k == key) keys

abbrev pub are_distinct : List ℕ → Bool
are_distinct [] = true
are_distinct (k ∷ ks) = not (is_in k ks) && are_distinct ks

-- the frames of a head, the top first
abbrev pub frames : List (Option Node) → Head → List Frame
frames slots head = frames_in (links slots head)

-- their stack
abbrev pub stack_at : List (Option Node) → Head → Stack
stack_at slots head = stack (frames slots head)

-- whether a key is in the chain of a head
abbrev pub is_in_chain : List (Option Node) → Head → ℕ → Bool
is_in_chain slots head key = is_in key (keys_in (links slots head))

-- the least stack pointer of the calls among these frames; the greatest number there is where there are none
abbrev pub least_with : Kind → ℕ → ℕ
least_with Root least = least
least_with (Call ret sp) least = min sp least
least_with Jump least = least

abbrev pub least_sp : List Frame → ℕ
least_sp [] = 4294967295
least_sp (f ∷ fs) = least_with f.kind (least_sp fs)

-- the greatest one; nothing where there are none
abbrev pub greatest_with : Kind → ℕ → ℕ
greatest_with Root greatest = greatest
greatest_with (Call ret sp) greatest = max sp greatest
greatest_with Jump greatest = greatest

abbrev pub greatest_sp : List Frame → ℕ
greatest_sp [] = 0
greatest_sp (f ∷ fs) = greatest_with f.kind (greatest_sp fs)

-- the chain from the first frame of the innermost group on
abbrev pub base_in : List Link → Head
base_in [] = record { top = 0; depth = 0 }
base_in (l ∷ ls) =
    if is_jump l.node.frame.kind then base_in ls else record { top = l.key; depth = suc (length ls) }

-- the key of the frame with which the group of a jump on these links begins; 0 for another kind
abbrev pub base_beneath : Kind → List Link → ℕ
base_beneath kind ls = if is_jump kind then (base_in ls).top else 0

-- the bit of a number at a level
abbrev pub bit : ℕ → ℕ → Bool
bit level n = (n / 2 ^ level) % 2 == 1

abbrev pub same : Bool → Bool → Bool
same true b = b
same false b = not b

-- whether so many of the lowest bits of two numbers are the same
abbrev pub agree : ℕ → ℕ → ℕ → Bool
agree zero a b = true
agree (suc level) a b = agree level a b && same (bit level a) (bit level b)

-- Two numbers part at a level where the bits below it are the same, and that one isn't. At the last level, 8, none is
-- looked at.
abbrev pub parts_at : ℕ → ℕ → ℕ → Bool
parts_at level a b = agree level a b && (level == 8 || not (same (bit level a) (bit level b)))

-- a search of the innermost group for a number that passes a test ends at a frame with one, or with which the group begins
abbrev pub ends : (ℕ → Bool) → Link → Bool
ends t l = t l.node.frame.func.0 || not (is_jump l.node.frame.kind)

-- the chain from there on
abbrev pub first : (ℕ → Bool) → List Link → Head
first t [] = record { top = 0; depth = 0 }
first t (l ∷ ls) = if ends t l then record { top = l.key; depth = suc (length ls) } else first t ls

-- the key of the frame at which a search ends for one that parts from a jump of this function at a level; 0 for another kind
abbrev pub turn_of : Kind → ℕ → List Link → ℕ → ℕ
turn_of kind func ls level = if is_jump kind then (first (parts_at level func) ls).top else 0

-- that of each level
abbrev pub turns_of : Kind → ℕ → List Link → List ℕ
turns_of kind func ls = map (turn_of kind func ls) (range_with_len 0 9)

-- what a frame of this kind and function on these links knows of the chain from it on down
abbrev pub summary_of : Kind → ℕ → List Link → Summary
summary_of kind func ls = record {
  least = least_with kind (least_sp (frames_in ls));
  greatest = greatest_with kind (greatest_sp (frames_in ls));
  depth = suc (length ls);
  base = base_beneath kind ls;
  turns = turns_of kind func ls;
}

-- that of each link
abbrev pub summaries_of : List Link → List Summary
summaries_of [] = []
summaries_of (l ∷ ls) = summary_of l.node.frame.kind l.node.frame.func.0 ls ∷ summaries_of ls

abbrev pub summaries_in : List Link → List Summary
summaries_in ls = map (λ l. l.node.summary) ls

-- A head lies in an arena: all keys of its chain are there and differ, the lowest frame, if there is one, is a root,
-- and each node has the summary of the chain from it on down.
pub record LiesIn (slots : List (Option Node)) (head : Head) : Type 0 where
  pub there : length (links slots head) ≡ head.depth
  pub apart : are_distinct (keys_in (links slots head)) ≡ true
  pub rooted : 0 < head.depth → is_rooted (stack_at slots head) ≡ true
  pub summed : summaries_in (links slots head) ≡ summaries_of (links slots head)

-- One level of the turns of a function's jump: the key of the frame at which a search ends for one that parts there, and
-- where one ends for a function that agrees there.
pub record IsStep (slots : List (Option Node)) (func level : ℕ) (at : Head) (key : ℕ) (onward : Head) : Type 0 where
  pub turn : key ≡ (first (parts_at level func) (links slots at)).top
  pub next : onward ≡ first (agree (suc level) func) (links slots at)
  pub lies : LiesIn slots onward
  pub some : 0 < onward.depth

-- no key is in the chains of both heads
abbrev pub AreApart : List (Option Node) → Head → Head → Type 0
AreApart slots head other = (key : ℕ) → is_in_chain slots head key ≡ true → is_in_chain slots other key ≡ false

-- a key that is there and outside the chain of the head
abbrev pub is_outside : List (Option Node) → Head → ℕ → Bool
is_outside slots head key = is_there slots key && not (is_in_chain slots head key)

-- Work through one head leaves all nodes outside its chain as they were, and outside its chain; of all other keys,
-- exactly those of its new chain are there.
pub record ChangesChainOnly (old : List (Option Node)) (head : Head) (new : List (Option Node))
    (new_head : Head) : Type 0 where
  pub nodes : (key : ℕ) → is_outside old head key ≡ true → node_at new key ≡ node_at old key
  pub outside : (key : ℕ) → is_outside old head key ≡ true → is_in_chain new new_head key ≡ false
  pub exactly : (key : ℕ) → is_outside old head key ≡ false → is_there new key ≡ is_in_chain new new_head key

-- Another head that lay in the arena with its chain apart still does, and its links are as they were.
pub record StillLies (old new : List (Option Node)) (new_head other : Head) : Type 0 where
  pub lies : LiesIn new other
  pub links : links new other ≡ links old other
  pub apart : AreApart new new_head other

-- every other head does whose chain was apart
abbrev pub LeavesOthers : List (Option Node) → Head → List (Option Node) → Head → Type 0
LeavesOthers old head new new_head =
    (other : Head) → LiesIn old other → AreApart old head other → StillLies old new new_head other

-- the head beneath a node, and the head on top of another
abbrev pub beneath : Head → Node → Head
beneath head node = record { top = node.below; depth = head.depth - 1 }

abbrev pub above : Head → ℕ → Head
above head key = record { top = key; depth = head.depth + 1 }

-- the nodes of which this test holds start at the total
abbrev pub restarted_node : List ℕ → Node → Node
restarted_node total node = record node { frame = restarted_frame total node.frame }

abbrev pub restarted_if : Bool → List ℕ → Option Node → Option Node
restarted_if true total o = option_map (restarted_node total) o
restarted_if false total o = o

abbrev pub AreRestarted : (ℕ → Bool) → List ℕ → List (Option Node) → List (Option Node) → Type 0
AreRestarted test total old new = (key : ℕ) → node_at new key ≡ restarted_if (test key) total (node_at old key)

abbrev coded_summary : Coded Summary
coded_summary = code_by (ℕ × (ℕ × (ℕ × (ℕ × List ℕ))))
    (coded× coded_ℕ (coded× coded_ℕ (coded× coded_ℕ (coded× coded_ℕ (coded_list coded_ℕ)))))
    (λ s. (s.least, (s.greatest, (s.depth, (s.base, s.turns)))))
    (λ p. record { least = p.0; greatest = p.1.0; depth = p.1.1.0; base = p.1.1.1.0; turns = p.1.1.1.1 }) (λ _. refl)

-- A head lies in an arena in one way.
pub LiesIn-prop : (slots : List (Option Node)) (head : Head) → IsProp (LiesIn slots head)
LiesIn-prop slots head = hlevel (Coded-set coded_ℕ, Coded-set coded_bool, Coded-set (coded_list coded_summary))
