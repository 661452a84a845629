-- An arena's nodes, and the two slabs that keep them.
use Rattle.std.proofs.Common.{◌≡◌, ◌≢◌, ◌⊎◌, ℕ, zero, suc, ◌+◌, ◌<◌, ◌≤◌, ◌==◌, Bool, true, false, cond, List, [], ◌∷◌}
use Rattle.std.proofs.Common.{get_or, get_or-set_other, get_or-set_same, count_by, is_some, length, Option, Some, None, refl, sym, ap, subst, ◌∙◌, inl, inr, arith}
use Rattle.std.proofs.Math.ListN.{get_or-map}
use Rattle.std.specs.Option.{option_map, option_map_or}
use Rattle.std.proofs.lemmas.Bool.Decides.{eqb_tells}
use Rattle.std.proofs.lemmas.List.Sums.{sum_by-cons, sum_by-set}
use Rattle.slab.specs.Slab.{Slab, get, slab_len, Updates, with_value}
use Rattle.shadow_stack.specs.declared.arena.Entry.{Entry}
use Rattle.shadow_stack.specs.declared.arena.Head.{Head}
use Rattle.shadow_stack.specs.declared.arena.Lead.{Lead}
use Rattle.shadow_stack.specs.declared.frame.Kind.{Kind}
use Rattle.shadow_stack.specs.declared.frame.Kind.TheVariants.{Root, Call, Jump}
use Rattle.shadow_stack.specs.Kinds.{is_jump}
use Rattle.shadow_stack.specs.Arenas.{Link, links, node_at, is_there, LiesIn, Node, Summary, summary_of, least_sp, greatest_sp, frames}
use Rattle.shadow_stack.specs.Frames.{restarted_frame}
use Rattle.shadow_stack.specs.Arenas.{AreRestarted, restarted_if, restarted_node}
use Rattle.shadow_stack.specs.Arenas.{base_beneath, frames_in, greatest_with, least_with, turns_of}
use Rattle.shadow_stack.specs.Entries.{AreKept, Forgets, Keeps, key_at, key_in, lead_key, lead_of, look, node_of, node_with, summary_with}
use Rattle.shadow_stack.specs.Entries.{nodes_with, top_node}
use Rattle.shadow_stack.proofs.ChainLemmas.{split, least-top, greatest-top, true_false}

abbrev Entries : Type 0
Entries = List (Option Entry)

abbrev Leads : Type 0
Leads = List (Option Lead)

abbrev no_entry : Option Entry
no_entry = None

-- the node at a key is its entry with what a jump knows
pub at_key : (leads : Leads) (entries : Entries) (key : ℕ)
    → node_at (nodes_with leads entries) key ≡ option_map (node_of leads) (get_or entries key None)
at_key leads entries key = get_or-map (option_map (node_of leads)) entries key None

pub at_entry : (leads : Leads) (entries : Entries) (key : ℕ) (e : Entry) → get_or entries key None ≡ Some e
    → node_at (nodes_with leads entries) key ≡ Some (node_of leads e)
at_entry leads entries key e is = at_key leads entries key ∙ ap (option_map (node_of leads)) is

pub there_as : (leads : Leads) (entries : Entries) (key : ℕ)
    → is_some (get_or entries key None) ≡ is_there (nodes_with leads entries) key
there_as leads entries key = by_entry (get_or entries key None) ∙ sym (ap is_some (at_key leads entries key))
  where
    by_entry : (o : Option Entry) → is_some o ≡ is_some (option_map (node_of leads) o)
    by_entry None = refl
    by_entry (Some e) = refl

-- a node stands for its entry
pub entry_at : (leads : Leads) (entries : Entries) (key : ℕ) (node : Node)
    → node_at (nodes_with leads entries) key ≡ Some node
    → (e : Entry) × (get_or entries key None ≡ Some e) × (node ≡ node_of leads e)
entry_at leads entries key node at = by_entry (get_or entries key None) refl
  where
    by_entry : (o : Option Entry) → get_or entries key None ≡ o
        → (e : Entry) × (get_or entries key None ≡ Some e) × (node ≡ node_of leads e)
    by_entry None is = absurd (cc (at, at_key leads entries key ∙ ap (option_map (node_of leads)) is))
    by_entry (Some e) is = (e, is, cc (at, at_entry leads entries key e is))

abbrev one_if : Bool → ℕ
one_if b = cond b 1 0

-- how many pass a test, an element at a time
count-cons : {T : Type 0} (p : T → Bool) (x : T) (xs : List T) → count_by p (x ∷ xs) ≡ one_if (p x) + count_by p xs
count-cons p x xs = sum_by-cons (λ y. one_if (p y)) x xs

-- an entry counts as a node
pub count_nodes : (leads : Leads) (entries : Entries)
    → count_by is_some (nodes_with leads entries) ≡ count_by is_some entries
count_nodes leads [] = refl
count_nodes leads (o ∷ os) =
    count-cons is_some (option_map (node_of leads) o) (nodes_with leads os)
    ∙ (λ i. one_if (as_some o i) + count_nodes leads os i) ∙ sym (count-cons is_some o os)
  where
    as_some : (e : Option Entry) → is_some (option_map (node_of leads) e) ≡ is_some e
    as_some None = refl
    as_some (Some e) = refl

-- whether an entry is a jump's
abbrev jumps : Option Entry → Bool
jumps o = is_some (key_in o)

-- the jumps are no more than the entries
pub jumps_within : (entries : Entries) → count_by jumps entries ≤ count_by is_some entries
jumps_within [] = omega arith
jumps_within (o ∷ os) =
    omega (arith, count-cons jumps o os, count-cons is_some o os, jumps_within os, as_some o)
  where
    as_some : (e : Option Entry) → one_if (jumps e) ≤ one_if (is_some e)
    as_some None = omega arith
    as_some (Some e) = at_most (is_some (lead_key e))
      where
        at_most : (b : Bool) → one_if b ≤ 1
        at_most true = omega arith
        at_most false = omega arith

-- how many pass a test, where one is put among them
module _ {T : Type 0} (p : Option T → Bool) (none : p None ≡ false) where
  abbrev at : List (Option T) → ℕ → Option T
  at xs key = get_or xs key None

  count_none : (ys : List (Option T)) → ((key : ℕ) → at ys key ≡ None) → count_by p ys ≡ 0
  count_none [] same = refl
  count_none (y ∷ ys) same =
      omega (
        arith,
        count-cons p y ys,
        ap (λ o. one_if (p o)) (same 0),
        ap one_if none,
        count_none ys (λ key. same (suc key)),
      )

  count_same : (xs ys : List (Option T)) → ((key : ℕ) → at ys key ≡ at xs key) → count_by p ys ≡ count_by p xs
  count_same [] ys same = count_none ys same
  count_same (x ∷ xs) [] same = sym (count_none (x ∷ xs) (λ key. sym (same key)))
  count_same (x ∷ xs) (y ∷ ys) same =
      omega (
        arith,
        count-cons p x xs,
        count-cons p y ys,
        ap (λ o. one_if (p o)) (same 0),
        count_same xs ys (λ key. same (suc key)),
      )

  pub count_put : (xs ys : List (Option T)) (key : ℕ) → at xs key ≡ None
      → ((other : ℕ) → other ≢ key → at ys other ≡ at xs other)
      → count_by p ys ≡ count_by p xs + one_if (p (at ys key))
  count_put xs [] key vacant others =
      omega (arith, ap one_if none, count_same xs [] (λ other. by_key other (eqb_tells other key)))
    where
      by_key : (other : ℕ) → ((other == key ≡ true) × (other ≡ key)) ⊎ ((other == key ≡ false) × (other ≢ key))
          → at [] other ≡ at xs other
      by_key other (inl e) = sym (ap (at xs) e.1 ∙ vacant)
      by_key other (inr ne) = others other ne.1
  count_put [] (y ∷ ys) zero vacant others =
      omega (arith, count-cons p y ys, count_same [] ys (λ key. others (suc key) (λ e. absurd (omega (arith, e)))))
  count_put (x ∷ xs) (y ∷ ys) zero vacant others =
      omega (
        arith,
        count-cons p x xs,
        count-cons p y ys,
        ap (λ o. one_if (p o)) vacant,
        ap one_if none,
        count_same xs ys (λ key. others (suc key) (λ e. absurd (omega (arith, e)))),
      )
  count_put [] (y ∷ ys) (suc key) vacant others =
      omega (
        arith,
        count-cons p y ys,
        ap (λ o. one_if (p o)) (others 0 (λ e. absurd (omega (arith, e)))),
        ap one_if none,
        count_put [] ys key vacant (λ other ne. others (suc other) (λ e. ne (omega (arith, e)))),
      )
  count_put (x ∷ xs) (y ∷ ys) (suc key) vacant others =
      omega (
        arith,
        count-cons p x xs,
        count-cons p y ys,
        ap (λ o. one_if (p o)) (others 0 (λ e. absurd (omega (arith, e)))),
        count_put xs ys key vacant (λ other ne. others (suc other) (λ e. ne (omega (arith, e)))),
      )

-- a node is as it was where its entry is and what that looks up
pub same_node : (leads later : Leads) (entries after : Entries) (key : ℕ)
    → get_or after key None ≡ get_or entries key None
    → ((k : ℕ) → key_at entries key ≡ Some k → get_or later k None ≡ get_or leads k None)
    → node_at (nodes_with later after) key ≡ node_at (nodes_with leads entries) key
same_node leads later entries after key same found =
    at_key later after key ∙ ap (option_map (node_of later)) same
    ∙ by_entry (get_or entries key None) (λ k is. found k is) ∙ sym (at_key leads entries key)
  where
    by_lead : (o : Option ℕ) → ((k : ℕ) → o ≡ Some k → get_or later k None ≡ get_or leads k None)
        → look later o ≡ look leads o
    by_lead None f = refl
    by_lead (Some k) f = f k refl

    by_entry : (o : Option Entry) → ((k : ℕ) → key_in o ≡ Some k → get_or later k None ≡ get_or leads k None)
        → option_map (node_of later) o ≡ option_map (node_of leads) o
    by_entry None f = refl
    by_entry (Some e) f = ap (λ l. Some (node_with e l)) (by_lead (lead_key e) f)

-- the key of what a jump knows
pub jump_key : (e : Entry) → is_jump e.frame.kind ≡ true → lead_key e ≡ Some e.lead
jump_key e jumps = ap (λ b. cond b (Some e.lead) None) jumps

-- with what a frame of its kind and function on these links knows, an entry has the summary of one
pub summed : (kind : Kind) (func : ℕ) (ls : List Link) (least greatest depth : ℕ)
    → least ≡ least_with kind (least_sp (frames_in ls)) → greatest ≡ greatest_with kind (greatest_sp (frames_in ls))
    → depth ≡ suc (length ls)
    → summary_with least greatest depth (lead_of kind func ls) ≡ summary_of kind func ls
summed kind func ls least greatest depth low high deep =
    (λ i. summary_with (low i) (high i) (deep i) (lead_of kind func ls)) ∙ by_kind kind
  where
    by_kind : (k : Kind) → summary_with (least_with k (least_sp (frames_in ls))) (greatest_with k (greatest_sp (frames_in ls)))
        (suc (length ls)) (lead_of k func ls) ≡ summary_of k func ls
    by_kind Root = refl
    by_kind (Call ret sp) = refl
    by_kind Jump = refl

-- so has a new entry
pub known_summary : (s : List (Option Node)) (head : Head) (e : Entry) (low high : ℕ) (lead : Option Lead) → LiesIn s head
    → low ≡ least_sp (frames s head) → high ≡ greatest_sp (frames s head) → e.least ≡ least_with e.frame.kind low
    → e.greatest ≡ greatest_with e.frame.kind high → e.depth ≡ head.depth + 1
    → lead ≡ lead_of e.frame.kind e.frame.func.0 (links s head)
    → (node_with e lead).summary ≡ summary_of e.frame.kind e.frame.func.0 (links s head)
known_summary s head e low high lead lies least greatest with_least with_greatest deep is =
    ap (summary_with e.least e.greatest e.depth) is
    ∙ summed e.frame.kind e.frame.func.0 (links s head) e.least e.greatest e.depth
    (with_least ∙ ap (least_with e.frame.kind) least) (with_greatest ∙ ap (greatest_with e.frame.kind) greatest)
    (omega (arith, deep, lies.there))

-- the key under which it is kept
pub kept_key : (e : Entry) (func vacant : ℕ) (ls : List Link) → e.lead ≡ vacant
    → option_map (λ _. vacant) (lead_of e.frame.kind func ls) ≡ lead_key e
kept_key e func vacant ls same = by_jump (is_jump e.frame.kind)
  where
    by_jump : (b : Bool)
        → option_map (λ (_ : Lead). vacant) (cond b (Some (record { base = base_beneath e.frame.kind ls; turns = turns_of e.frame.kind func ls })) None)
        ≡ cond b (Some e.lead) None
    by_jump true = ap (λ k. Some k) (sym same)
    by_jump false = refl

-- The top of a head, by its entry.
pub record IsTop (s : List (Option Node)) (head : Head) (e : Entry) : Type 0 where
  pub node : node_at s head.top ≡ Some (top_node s head e)
  pub least : e.least ≡ least_sp (frames s head)
  pub greatest : e.greatest ≡ greatest_sp (frames s head)
  pub depth : e.depth ≡ head.depth

pub top_is : (leads : Leads) (entries : Entries) (head : Head) (e : Entry) → LiesIn (nodes_with leads entries) head
    → 0 < head.depth → get_or entries head.top None ≡ Some e → IsTop (nodes_with leads entries) head e
top_is leads entries head e lies some is =
    let s = nodes_with leads entries in
    let at = at_entry leads entries head.top e is in
    let sp = split s head (node_of leads e) lies some at in
    record {
      node = at ∙ ap (λ (m : Summary). Some (record { frame = e.frame; below = e.below; summary = m })) sp.summary;
      least = least-top s head (node_of leads e) some sp;
      greatest = greatest-top s head (node_of leads e) some sp;
      depth = omega (arith, some, ap (λ (m : Summary). m.depth) sp.summary, sp.beneath.there);
    }

-- What keeping what a new entry knows of its group, if it is a jump, does to what is kept.
pub record Put (leads later : Slab Lead) (lead : Option Lead) (key : Option ℕ) : Type 0 where
  pub here : look later.slots key ≡ lead
  pub fresh : (k : ℕ) → key ≡ Some k → get leads k ≡ None
  pub now : (k : ℕ) → key ≡ Some k → is_some (get later k) ≡ true
  pub same : (k : ℕ) → is_some (get leads k) ≡ true → get later k ≡ get leads k
  pub count : slab_len later ≡ slab_len leads + one_if (is_some key)
  pub capacity : later.capacity ≡ leads.capacity

some_is : {T : Type 0} (x y : T) → Some x ≡ Some y → x ≡ y
some_is x y e = ap (λ o. option_map_or (λ z. z) o x) e

pub put : (leads later : Slab Lead) (lead : Option Lead) → Keeps lead leads later
    → Put leads later lead (option_map (λ _. leads.vacant_key) lead)
put leads later None kept = record {
  here = refl;
  fresh = λ k is. absurd (cc (is));
  now = λ k is. absurd (cc (is));
  same = λ k there. ap (λ (s : Slab Lead). get s k) kept;
  count = omega (arith, ap (λ (s : Slab Lead). slab_len s) kept);
  capacity = ap (λ (s : Slab Lead). s.capacity) kept;
}
put leads later (Some lead) kept = record {
  here = kept.updates.changed;
  fresh = λ k is. subst (λ j. get leads j ≡ None) (some_is leads.vacant_key k is) kept.vacant;
  now = λ k is. subst (λ j. is_some (get later j) ≡ true) (some_is leads.vacant_key k is)
      (ap is_some kept.updates.changed);
  same = λ k there. kept.updates.others k
      (λ e. true_false (is_some (get leads k)) there (ap (λ j. is_some (get leads j)) e ∙ ap is_some kept.vacant));
  count = kept.length;
  capacity = kept.capacity;
}

-- Forgetting what an entry knew likewise.
pub record Gone (leads later : Slab Lead) (key : Option ℕ) : Type 0 where
  pub same : (k : ℕ) → (key ≡ Some k → ⊥) → get later k ≡ get leads k
  pub count : slab_len later + one_if (is_some key) ≡ slab_len leads
  pub capacity : later.capacity ≡ leads.capacity

pub gone : (leads later : Slab Lead) (key : Option ℕ) → Forgets key leads later → Gone leads later key
gone leads later None kept = record {
  same = λ k other. ap (λ (s : Slab Lead). get s k) kept;
  count = omega (arith, ap (λ (s : Slab Lead). slab_len s) kept);
  capacity = ap (λ (s : Slab Lead). s.capacity) kept;
}
gone leads later (Some key) kept = record {
  same = λ k other. kept.updates.others k (λ e. other (ap (λ j. Some j) (sym e)));
  count = kept.length;
  capacity = kept.capacity;
}

-- whether a number is another
abbrev Tells : ℕ → ℕ → Type 0
Tells j key = ((j == key ≡ true) × (j ≡ key)) ⊎ ((j == key ≡ false) × (j ≢ key))

-- An entry is put under a vacant key.
module _ (leads later : Slab Lead) (entries after : Slab Entry) (room key : ℕ) (e : Entry) (lead : Option Lead)
    (kept : AreKept leads entries room) (p : Put leads later lead (lead_key e)) (vacant : get entries key ≡ None)
    (updates : Updates entries after key (Some e)) where
  key_now : key_at after.slots key ≡ lead_key e
  key_now = ap key_in updates.changed

  key_other : (j : ℕ) → j ≢ key → key_at after.slots j ≡ key_at entries.slots j
  key_other j ne = ap key_in (updates.others j ne)

  pub put_others : (j : ℕ) → j ≢ key
      → node_at (nodes_with later.slots after.slots) j ≡ node_at (nodes_with leads.slots entries.slots) j
  put_others j ne =
      same_node leads.slots later.slots entries.slots after.slots j (updates.others j ne)
      (λ k is. p.same k (kept.there j k is))

  pub put_at : node_at (nodes_with later.slots after.slots) key ≡ Some (node_with e lead)
  put_at =
      at_entry later.slots after.slots key e updates.changed ∙ ap (λ l. Some (node_with e l)) p.here

  pub put_kept : slab_len after ≡ slab_len entries + 1 → after.capacity ≡ entries.capacity → slab_len entries < room
      → AreKept later after room
  put_kept more capacity below = record {
    there = λ j k is. there j k is (eqb_tells j key);
    apart = λ j i k is other. apart j i k is other (eqb_tells j key) (eqb_tells i key);
    counted = omega (
      arith,
      kept.counted,
      p.count,
      count_put jumps refl entries.slots after.slots key vacant updates.others,
      ap (λ o. one_if (is_some o)) key_now,
    );
    within = omega (arith, more, below);
    entries_fit = omega (arith, capacity, kept.entries_fit);
    leads_fit = omega (arith, p.capacity, kept.leads_fit);
  }
    where
      at_new : (j k : ℕ) → j ≡ key → key_at after.slots j ≡ Some k → lead_key e ≡ Some k
      at_new j k same is = sym key_now ∙ ap (key_at after.slots) (sym same) ∙ is

      there : (j k : ℕ) → key_at after.slots j ≡ Some k → Tells j key → is_some (get later k) ≡ true
      there j k is (inl same) = p.now k (at_new j k same.1 is)
      there j k is (inr ne) =
          let was = kept.there j k (sym (key_other j ne.1) ∙ is) in
          ap is_some (p.same k was) ∙ was

      not_both : (j k : ℕ) → lead_key e ≡ Some k → key_at entries.slots j ≡ Some k → ⊥
      not_both j k is other =
          true_false (is_some (get leads k)) (kept.there j k other) (ap is_some (p.fresh k is))

      apart : (j i k : ℕ) → key_at after.slots j ≡ Some k → key_at after.slots i ≡ Some k → Tells j key → Tells i key → j ≡ i
      apart j i k is other (inl a) (inl b) = a.1 ∙ sym b.1
      apart j i k is other (inl a) (inr b) = absurd (not_both i k (at_new j k a.1 is) (sym (key_other i b.1) ∙ other))
      apart j i k is other (inr a) (inl b) = absurd (not_both j k (at_new i k b.1 other) (sym (key_other j a.1) ∙ is))
      apart j i k is other (inr a) (inr b) =
          kept.apart j i k (sym (key_other j a.1) ∙ is) (sym (key_other i b.1) ∙ other)

-- An entry is taken from under a key.
module _ (leads later : Slab Lead) (entries after : Slab Entry) (room key : ℕ) (e : Entry)
    (kept : AreKept leads entries room) (g : Gone leads later (lead_key e)) (was : get entries key ≡ Some e)
    (updates : Updates entries after key None) where
  other_lead : (j k : ℕ) → j ≢ key → key_at entries.slots j ≡ Some k → lead_key e ≡ Some k → ⊥
  other_lead j k ne is same = ne (kept.apart j key k is (ap key_in was ∙ same))

  pub gone_others : (j : ℕ) → j ≢ key
      → node_at (nodes_with later.slots after.slots) j ≡ node_at (nodes_with leads.slots entries.slots) j
  gone_others j ne =
      same_node leads.slots later.slots entries.slots after.slots j (updates.others j ne)
      (λ k is. g.same k (other_lead j k ne is))

  pub gone_at : node_at (nodes_with later.slots after.slots) key ≡ None
  gone_at = at_key later.slots after.slots key ∙ ap (option_map (node_of later.slots)) updates.changed

  pub gone_kept : slab_len after + 1 ≡ slab_len entries → after.capacity ≡ entries.capacity
      → AreKept later after room
  gone_kept fewer capacity = record {
    there = λ j k is. ap is_some (g.same k (other_lead j k (off j k is) (old j k is))) ∙ kept.there j k (old j k is);
    apart = λ j i k is other. kept.apart j i k (old j k is) (old i k other);
    counted = omega (
      arith,
      kept.counted,
      g.count,
      count_put jumps refl after.slots entries.slots key updates.changed (λ j ne. sym (updates.others j ne)),
      ap (λ o. one_if (jumps o)) was,
    );
    within = omega (arith, fewer, kept.within);
    entries_fit = omega (arith, capacity, kept.entries_fit);
    leads_fit = omega (arith, g.capacity, kept.leads_fit);
  }
    where
      off : (j k : ℕ) → key_at after.slots j ≡ Some k → j ≢ key
      off j k is same = absurd (cc (is, ap (key_at after.slots) same, ap key_in updates.changed))

      old : (j k : ℕ) → key_at after.slots j ≡ Some k → key_at entries.slots j ≡ Some k
      old j k is = sym (ap key_in (updates.others j (off j k is))) ∙ is

-- a key without an entry
pub vacant_node : (leads : Leads) (entries : Entries) (key : ℕ) → get_or entries key None ≡ None
    → node_at (nodes_with leads entries) key ≡ None
vacant_node leads entries key is = at_key leads entries key ∙ ap (option_map (node_of leads)) is

key_there : {T : Type 0} (xs : List (Option T)) (key : ℕ) (x : T) → get_or xs key None ≡ Some x → key < length xs
key_there [] key x is = absurd (cc (is))
key_there (y ∷ xs) zero x is = omega arith
key_there (y ∷ xs) (suc key) x is = omega (arith, key_there xs key x is)

abbrev pub restarted_entry : List ℕ → Entry → Entry
restarted_entry total e = record e { frame = restarted_frame total e.frame }

-- The start of an entry changes.
module _ (leads : Slab Lead) (entries : Slab Entry) (room key : ℕ) (e : Entry) (total : List ℕ)
    (kept : AreKept leads entries room) (is : get entries key ≡ Some e) where
  abbrev after : Slab Entry
  after = with_value entries key (restarted_entry total e)

  there : key < length entries.slots
  there = key_there entries.slots key e is

  pub restarted_nodes : AreRestarted (λ k. k == key) total (nodes_with leads.slots entries.slots)
      (nodes_with leads.slots after.slots)
  restarted_nodes j = by_key (eqb_tells j key)
    where
      by_key : Tells j key → node_at (nodes_with leads.slots after.slots) j
          ≡ restarted_if (j == key) total (node_at (nodes_with leads.slots entries.slots) j)
      by_key (inl same) =
          ap (node_at (nodes_with leads.slots after.slots)) same.1
          ∙ at_entry leads.slots after.slots key (restarted_entry total e)
          (get_or-set_same entries.slots key (Some (restarted_entry total e)) None there)
          ∙ sym (ap (λ b. restarted_if b total (node_at (nodes_with leads.slots entries.slots) j)) same.0
          ∙ ap (λ k. option_map (restarted_node total) (node_at (nodes_with leads.slots entries.slots) k)) same.1
          ∙ ap (option_map (restarted_node total)) (at_entry leads.slots entries.slots key e is))
      by_key (inr other) =
          same_node leads.slots leads.slots entries.slots after.slots j
          (get_or-set_other entries.slots key j (Some (restarted_entry total e)) None other.1) (λ k found. refl)
          ∙ sym (ap (λ b. restarted_if b total (node_at (nodes_with leads.slots entries.slots) j)) other.0)

  same_key : (j : ℕ) → key_at after.slots j ≡ key_at entries.slots j
  same_key j = by_key (eqb_tells j key)
    where
      by_key : Tells j key → key_at after.slots j ≡ key_at entries.slots j
      by_key (inl same) =
          ap (key_at after.slots) same.1
          ∙ ap key_in (get_or-set_same entries.slots key (Some (restarted_entry total e)) None there)
          ∙ sym (ap (key_at entries.slots) same.1 ∙ ap key_in is)
      by_key (inr other) =
          ap key_in (get_or-set_other entries.slots key j (Some (restarted_entry total e)) None other.1)

  same_count : (p : Option Entry → Bool) → p (Some (restarted_entry total e)) ≡ p (Some e)
      → count_by p after.slots ≡ count_by p entries.slots
  same_count p same =
      omega (
        arith,
        sum_by-set (λ o. one_if (p o)) entries.slots key (Some (restarted_entry total e)) None there,
        ap one_if same,
        ap (λ o. one_if (p o)) is,
      )

  pub restarted_kept : AreKept leads after room
  restarted_kept = record {
    there = λ j k at. kept.there j k (sym (same_key j) ∙ at);
    apart = λ j i k at other. kept.apart j i k (sym (same_key j) ∙ at) (sym (same_key i) ∙ other);
    counted = kept.counted ∙ sym (same_count jumps refl);
    within = omega (arith, same_count is_some refl, kept.within);
    entries_fit = kept.entries_fit;
    leads_fit = kept.leads_fit;
  }
