use Rattle.std.proofs.Common.{◌≡◌, ◌≢◌, ℕ, ◌+◌, ◌∷◌, ap, sym, subst, refl, arith, ◌∙◌}
use Rattle.std.specs.Option.{option_map}
use Rattle.shadow_stack.specs.declared.arena.Entry.{Entry}
use Rattle.shadow_stack.specs.declared.arena.Head.{Head}
use Rattle.shadow_stack.specs.declared.arena.Lead.{Lead}
use Rattle.shadow_stack.specs.Arenas.{ChangesChainOnly, frames, LiesIn, links, node_at}
use Rattle.shadow_stack.specs.Entries.{lead_key, node_with, nodes_with}
use Rattle.shadow_stack.proofs.ChainLemmas.{pushed, IsPushed, depth_fits}
use Rattle.shadow_stack.proofs.EntryLemmas.{count_nodes, jumps_within, kept_key, known_summary, put, Put, put_at, put_kept}
use Rattle.shadow_stack.proofs.EntryLemmas.{put_others, vacant_node}
use Rattle.shadow_stack.proofs.arena.Arena.push.Goals as goal

pub overflow_add-entry : goal.overflow_add-entry
overflow_add-entry c =
    let slots = ap (λ b. b.slots) c.self.view_is in
    let fits = depth_fits (nodes_with c.self.inside.leads.slots c.self.inside.entries.slots) c.args.head
    (subst (λ s. LiesIn s c.args.head) (sym slots) c.requires.lies) in
    omega (
      arith,
      fits,
      count_nodes c.self.inside.leads.slots c.self.inside.entries.slots,
      c.len.ensures,
      c.if-prove.false,
      c.self.ranges,
    )

pub keep-requires : goal.keep-requires
keep-requires c =
    omega (
      arith,
      c.self.invariant.counted,
      jumps_within c.self.inside.entries.slots,
      c.len.ensures,
      c.if-prove.false,
      c.self.invariant.leads_fit,
    )

pub above-requires : goal.above-requires
above-requires c =
    let slots = ap (λ b. b.slots) c.self.view_is in
    let fits = depth_fits (nodes_with c.self.inside.leads.slots c.self.inside.entries.slots) c.args.head
    (subst (λ s. LiesIn s c.args.head) (sym slots) c.requires.lies) in
    omega (
      arith,
      fits,
      count_nodes c.self.inside.leads.slots c.self.inside.entries.slots,
      c.len.ensures,
      c.if-prove.false,
      c.self.ranges,
    )

abbrev entry : goal.After-above → Entry
entry c = record {
  frame = c.args.frame;
  below = c.args.head.top;
  least = c.least_with.result;
  greatest = c.greatest_with.result;
  depth = c.args.head.depth + 1;
  lead = c.vacant_key.result;
}

keeps : (c : goal.After-above)
    → Put c.self.inside.leads c.keep.new.leads c.lead_of-lead.result (lead_key (entry c))
keeps c =
    let vacant = c.self.inside.leads.vacant_key in
    subst (λ k. Put c.self.inside.leads c.keep.new.leads c.lead_of-lead.result k)
    (ap (option_map (λ (_ : Lead). vacant)) c.lead_of-lead.ensures
    ∙ kept_key (entry c) c.args.frame.func.0 vacant (links c.args.self.now.slots c.args.head) c.vacant_key.ensures.value)
    (put c.self.inside.leads c.keep.new.leads c.lead_of-lead.result c.keep.ensures)

pub invariant_of-self : goal.invariant_of-self
invariant_of-self c =
    put_kept c.self.inside.leads c.keep.new.leads c.self.inside.entries c.insert_reserved-key.new.self
    c.self.inside.room c.insert_reserved-key.result (entry c) c.lead_of-lead.result c.self.invariant (keeps c)
    c.insert_reserved-key.ensures.was_vacant c.insert_reserved-key.ensures.updates c.insert_reserved-key.ensures.len
    c.insert_reserved-key.ensures.capacity (omega (arith, c.len.ensures, c.if-prove.false))

others_here : (c : goal.After-above) (j : ℕ) → j ≢ c.insert_reserved-key.result
    → node_at (nodes_with c.keep.new.leads.slots c.insert_reserved-key.new.self.slots) j
    ≡ node_at (nodes_with c.self.inside.leads.slots c.self.inside.entries.slots) j
others_here c j ne =
    put_others c.self.inside.leads c.keep.new.leads c.self.inside.entries c.insert_reserved-key.new.self
    c.self.inside.room c.insert_reserved-key.result (entry c) c.lead_of-lead.result c.self.invariant (keeps c)
    c.insert_reserved-key.ensures.was_vacant c.insert_reserved-key.ensures.updates j ne

pushed_here : (c : goal.After-above)
    → IsPushed c.args.self.now.slots (nodes_with c.keep.new.leads.slots c.insert_reserved-key.new.self.slots)
    c.args.head c.insert_reserved-key.result (node_with (entry c) c.lead_of-lead.result)
pushed_here c =
    let slots = ap (λ b. b.slots) c.self.view_is in
    let later = nodes_with c.keep.new.leads.slots c.insert_reserved-key.new.self.slots in
    let key = c.insert_reserved-key.result in
    let node = node_with (entry c) c.lead_of-lead.result in
    let was = nodes_with c.self.inside.leads.slots c.self.inside.entries.slots in
    pushed c.args.self.now.slots later c.args.head key node c.requires.lies
    (ap (λ s. node_at s key) (sym slots)
    ∙ vacant_node c.self.inside.leads.slots c.self.inside.entries.slots key c.insert_reserved-key.ensures.was_vacant)
    (put_at c.self.inside.leads c.keep.new.leads c.self.inside.entries c.insert_reserved-key.new.self
    c.self.inside.room key (entry c) c.lead_of-lead.result c.self.invariant (keeps c)
    c.insert_reserved-key.ensures.was_vacant c.insert_reserved-key.ensures.updates)
    (λ j ne. others_here c j ne ∙ ap (λ s. node_at s j) slots)
    refl
    (known_summary c.args.self.now.slots c.args.head (entry c) c.bounds-least.result.0 c.bounds-least.result.1
    c.lead_of-lead.result c.requires.lies c.bounds-least.ensures.least c.bounds-least.ensures.greatest
    c.least_with.ensures c.greatest_with.ensures refl c.lead_of-lead.ensures)
    c.requires.rooted

pub returns-clause-lies : goal.returns-clause-lies
returns-clause-lies c =
    subst (λ h. LiesIn (nodes_with c.keep.new.leads.slots c.insert_reserved-key.new.self.slots) h)
    (sym c.above.ensures) (pushed_here c).lies

pub returns-clause-frames : goal.returns-clause-frames
returns-clause-frames c =
    subst (λ (h : Head). frames (nodes_with c.keep.new.leads.slots c.insert_reserved-key.new.self.slots) h
    ≡ c.args.frame ∷ frames c.args.self.now.slots c.args.head) (sym c.above.ensures) (pushed_here c).frames

pub returns-clause-chain : goal.returns-clause-chain
returns-clause-chain c =
    subst (λ h. ChangesChainOnly c.args.self.now.slots c.args.head
    (nodes_with c.keep.new.leads.slots c.insert_reserved-key.new.self.slots) h)
    (sym c.above.ensures) (pushed_here c).chain

pub returns-clause-others : goal.returns-clause-others
returns-clause-others c = λ j ne.
    others_here c j (λ e. ne (e ∙ sym (ap (λ (h : Head). h.top) c.above.ensures)))
    ∙ ap (λ s. node_at s j) (ap (λ b. b.slots) c.self.view_is)

pub returns-clause-vacant : goal.returns-clause-vacant
returns-clause-vacant c =
    ap (λ (h : Head). node_at c.args.self.now.slots h.top) c.above.ensures
    ∙ ap (λ s. node_at s c.insert_reserved-key.result) (sym (ap (λ b. b.slots) c.self.view_is))
    ∙ vacant_node c.self.inside.leads.slots c.self.inside.entries.slots c.insert_reserved-key.result
    c.insert_reserved-key.ensures.was_vacant

pub returns-clause-room : goal.returns-clause-room
returns-clause-room c =
    omega (arith, ap (λ b. b.spare) c.self.view_is, c.insert_reserved-key.ensures.len, c.len.ensures, c.if-prove.false)
