-- How an arena keeps its nodes: what jumps alone know stands apart.
use Rattle.std.specs.Prelude.{◌≡◌, ℕ, ◌+◌, ◌-◌, ◌≤◌, true, List, [], ◌∷◌, map, Option, Some, None, is_some, count_by}
use Rattle.std.specs.Prelude.{slice_index_or, if◌then◌else◌}
use Rattle.std.specs.Option.{option_map, option_map_or}
use Rattle.slab.specs.Slab.{Slab, get, slab_len, Updates}
use Rattle.shadow_stack.specs.declared.arena.Entry.{Entry}
use Rattle.shadow_stack.specs.declared.arena.Head.{Head}
use Rattle.shadow_stack.specs.declared.arena.Lead.{Lead}
use Rattle.shadow_stack.specs.declared.frame.Kind.{Kind}
use Rattle.shadow_stack.specs.Kinds.{is_jump}
use Rattle.shadow_stack.specs.Arenas.{Link, links_from, base_beneath, Node, Summary, summary_of, turns_of}

-- the key of what an entry knows of its group, if it is a jump
abbrev pub lead_key : Entry → Option ℕ
lead_key e = if is_jump e.frame.kind then Some e.lead else None

abbrev pub key_in : Option Entry → Option ℕ
key_in None = None
key_in (Some e) = lead_key e

abbrev pub key_at : List (Option Entry) → ℕ → Option ℕ
key_at entries key = key_in (slice_index_or entries key None)

-- what is under it
abbrev pub look : List (Option Lead) → Option ℕ → Option Lead
look leads None = None
look leads (Some key) = slice_index_or leads key None

abbrev pub lead_at : List (Option Lead) → Entry → Option Lead
lead_at leads e = look leads (lead_key e)

abbrev pub no_turns : List ℕ
no_turns = 0 ∷ (0 ∷ (0 ∷ (0 ∷ (0 ∷ (0 ∷ (0 ∷ (0 ∷ (0 ∷ []))))))))

-- what a frame knows of its chain, with what it knows of its group
abbrev pub summary_with : ℕ → ℕ → ℕ → Option Lead → Summary
summary_with least greatest depth lead = record {
  least = least;
  greatest = greatest;
  depth = depth;
  base = option_map_or (λ l. l.base) lead 0;
  turns = option_map_or (λ l. l.turns) lead no_turns;
}

-- an entry as the node that it is with this
abbrev pub node_with : Entry → Option Lead → Node
node_with e lead = record {
  frame = e.frame;
  below = e.below;
  summary = summary_with e.least e.greatest e.depth lead;
}

abbrev pub node_of : List (Option Lead) → Entry → Node
node_of leads e = node_with e (lead_at leads e)

abbrev pub nodes_with : List (Option Lead) → List (Option Entry) → List (Option Node)
nodes_with leads entries = map (option_map (node_of leads)) entries

-- Each jump has what it knows of its group, under a key of its own, and nothing else is kept there. So many frames of
-- any kind fit.
pub record AreKept (leads : Slab Lead) (entries : Slab Entry) (room : ℕ) : Type 0 where
  pub there : (key k : ℕ) → key_at entries.slots key ≡ Some k → is_some (get leads k) ≡ true
  pub apart : (key other k : ℕ) → key_at entries.slots key ≡ Some k → key_at entries.slots other ≡ Some k → key ≡ other
  pub counted : slab_len leads ≡ count_by (λ o. is_some (key_in o)) entries.slots
  pub within : slab_len entries ≤ room
  pub entries_fit : room ≤ entries.capacity
  pub leads_fit : room ≤ leads.capacity

-- what a frame of this kind and function on these links knows of its group
abbrev pub lead_of : Kind → ℕ → List Link → Option Lead
lead_of kind func ls =
    if is_jump kind then Some (record { base = base_beneath kind ls; turns = turns_of kind func ls }) else None

-- this is kept under the vacant key, if there is anything to keep
pub record IsPut (lead : Lead) (old new : Slab Lead) : Type 0 where
  pub vacant : get old old.vacant_key ≡ None
  pub updates : Updates old new old.vacant_key (Some lead)
  pub length : slab_len new ≡ slab_len old + 1
  pub capacity : new.capacity ≡ old.capacity

abbrev pub Keeps : Option Lead → Slab Lead → Slab Lead → Type 0
Keeps None old new = new ≡ old
Keeps (Some lead) old new = IsPut lead old new

-- what is under this key is forgotten, if there is one
pub record IsGone (key : ℕ) (old new : Slab Lead) : Type 0 where
  pub updates : Updates old new key None
  pub length : slab_len new + 1 ≡ slab_len old
  pub capacity : new.capacity ≡ old.capacity

abbrev pub Forgets : Option ℕ → Slab Lead → Slab Lead → Type 0
Forgets None old new = new ≡ old
Forgets (Some key) old new = IsGone key old new

-- what is beneath the top of a head, whose entry this is
abbrev pub beneath_entry : Head → Entry → Head
beneath_entry head e = record { top = e.below; depth = head.depth - 1 }

-- the node of the top of a head, whose entry this is
abbrev pub top_node : List (Option Node) → Head → Entry → Node
top_node slots head e = record {
  frame = e.frame;
  below = e.below;
  summary = summary_of e.frame.kind e.frame.func.0 (links_from slots (head.depth - 1) e.below);
}
