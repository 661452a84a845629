use Rattle.std.proofs.Common.{ap, drop, sym, subst, ◌∙◌, arith}
use Rattle.shadow_stack.specs.declared.arena.Head.{Head}
use Rattle.shadow_stack.specs.Arenas.{is_there, LiesIn, frames, ChangesChainOnly}
use Rattle.shadow_stack.specs.Entries.{key_in, lead_key, node_of, nodes_with}
use Rattle.shadow_stack.proofs.ChainLemmas.{top_there, popped, IsPopped}
use Rattle.shadow_stack.proofs.EntryLemmas.{at_entry, gone, Gone, gone_at, gone_kept, gone_others, jump_key, there_as}
use Rattle.shadow_stack.proofs.arena.Arena.pop.Goals as goal

pub remove-entry-requires : goal.remove-entry-requires
remove-entry-requires c =
    there_as c.self.inside.leads.slots c.self.inside.entries.slots c.args.head.top
    ∙ ap (λ s. is_there s c.args.head.top) (ap (λ b. b.slots) c.self.view_is)
    ∙ top_there c.args.self.now.slots c.args.head c.requires.lies c.requires.some

pub forget-requires : goal.forget-requires
forget-requires c = λ jumps.
    c.self.invariant.there c.args.head.top c.remove-entry.result.lead
    (ap key_in c.remove-entry.ensures.value ∙ jump_key c.remove-entry.result jumps)

forgotten : (c : goal.After-beneath) → Gone c.self.inside.leads c.forget.new.leads (lead_key c.remove-entry.result)
forgotten c = gone c.self.inside.leads c.forget.new.leads (lead_key c.remove-entry.result) c.forget.ensures

popped_here : (c : goal.After-beneath)
    → IsPopped c.args.self.now.slots (nodes_with c.forget.new.leads.slots c.remove-entry.new.self.slots) c.args.head
    (node_of c.self.inside.leads.slots c.remove-entry.result)
popped_here c =
    let slots = ap (λ b. b.slots) c.self.view_is in
    let leads = c.self.inside.leads in
    let later = c.forget.new.leads in
    let entries = c.self.inside.entries in
    let after = c.remove-entry.new.self in
    let top = c.args.head.top in
    let entry = c.remove-entry.result in
    subst (λ s. IsPopped s (nodes_with later.slots after.slots) c.args.head (node_of leads.slots entry)) slots
    (popped (nodes_with leads.slots entries.slots) (nodes_with later.slots after.slots) c.args.head
    (node_of leads.slots entry)
    (subst (λ s. LiesIn s c.args.head) (sym slots) c.requires.lies) c.requires.some
    (at_entry leads.slots entries.slots top entry c.remove-entry.ensures.value)
    (gone_at leads later entries after c.self.inside.room top entry c.self.invariant (forgotten c)
    c.remove-entry.ensures.value c.remove-entry.ensures.updates)
    (gone_others leads later entries after c.self.inside.room top entry c.self.invariant (forgotten c)
    c.remove-entry.ensures.value c.remove-entry.ensures.updates))

pub invariant_of-self : goal.invariant_of-self
invariant_of-self c =
    gone_kept c.self.inside.leads c.forget.new.leads c.self.inside.entries c.remove-entry.new.self c.self.inside.room
    c.args.head.top c.remove-entry.result c.self.invariant (forgotten c) c.remove-entry.ensures.value
    c.remove-entry.ensures.updates c.remove-entry.ensures.len c.remove-entry.ensures.capacity

pub returns-clause-lies : goal.returns-clause-lies
returns-clause-lies c =
    subst (λ h. LiesIn (nodes_with c.forget.new.leads.slots c.remove-entry.new.self.slots) h) (sym c.beneath.ensures)
    (popped_here c).lies

pub returns-clause-frames : goal.returns-clause-frames
returns-clause-frames c =
    ap (λ (h : Head). frames (nodes_with c.forget.new.leads.slots c.remove-entry.new.self.slots) h) c.beneath.ensures
    ∙ sym (ap (drop 1) (popped_here c).frames)

pub returns-clause-chain : goal.returns-clause-chain
returns-clause-chain c =
    subst (λ h. ChangesChainOnly c.args.self.now.slots c.args.head
    (nodes_with c.forget.new.leads.slots c.remove-entry.new.self.slots) h) (sym c.beneath.ensures) (popped_here c).chain

pub returns-clause-room : goal.returns-clause-room
returns-clause-room c =
    omega (arith, ap (λ b. b.spare) c.self.view_is, c.remove-entry.ensures.len, c.self.invariant.within)
