use Rattle.std.proofs.Common.{◌==◌, ap, subst, ◌∙◌}
use Rattle.shadow_stack.specs.Arenas.{AreRestarted, is_there}
use Rattle.shadow_stack.specs.Entries.{nodes_with}
use Rattle.shadow_stack.proofs.ChainLemmas.{top_there}
use Rattle.shadow_stack.proofs.EntryLemmas.{restarted_entry, restarted_kept, restarted_nodes, there_as}
use Rattle.slab.specs.Slab.{with_value}
use Rattle.shadow_stack.proofs.arena.Arena.restart_top.Goals as goal

pub index_mut-entry-requires : goal.index_mut-entry-requires
index_mut-entry-requires c =
    there_as c.self.inside.leads.slots c.self.inside.entries.slots c.args.head.top
    ∙ ap (λ s. is_there s c.args.head.top) (ap (λ b. b.slots) c.self.view_is)
    ∙ top_there c.args.self.now.slots c.args.head c.requires.lies c.requires.some

pub invariant_of-self : goal.invariant_of-self
invariant_of-self c =
    restarted_kept c.self.inside.leads c.self.inside.entries c.self.inside.room c.args.head.top
    c.index_mut-entry.result.now c.args.total.now c.self.invariant c.index_mut-entry.ensures.value

pub returns-clause-nodes : goal.returns-clause-nodes
returns-clause-nodes c =
    let entries = c.self.inside.entries in
    let top = c.args.head.top in
    let total = c.args.total.now in
    subst (λ s. AreRestarted (λ k. k == top) total s (nodes_with c.self.inside.leads.slots
    (with_value entries top (restarted_entry total c.index_mut-entry.result.now)).slots))
    (ap (λ b. b.slots) c.self.view_is)
    (restarted_nodes c.self.inside.leads entries c.self.inside.room top c.index_mut-entry.result.now total
    c.self.invariant c.index_mut-entry.ensures.value)
