use Rattle.std.proofs.Common.{ap, sym, subst, ◌∙◌}
use Rattle.shadow_stack.specs.Arenas.{is_there, frames_in, LiesIn}
use Rattle.shadow_stack.specs.Entries.{top_node}
use Rattle.shadow_stack.proofs.ChainLemmas.{top_there, split, links-split}
use Rattle.shadow_stack.proofs.EntryLemmas.{there_as, top_is, IsTop}
use Rattle.shadow_stack.proofs.arena.Arena.top.Goals as goal

pub index-requires : goal.index-requires
index-requires c =
    there_as c.self.inside.leads.slots c.self.inside.entries.slots c.args.head.top
    ∙ ap (λ s. is_there s c.args.head.top) (ap (λ b. b.slots) c.self.view_is)
    ∙ top_there c.args.self.now.slots c.args.head c.requires.lies c.requires.some

top_here : (c : goal.After-index) → IsTop c.args.self.now.slots c.args.head c.index.result.now
top_here c =
    let slots = ap (λ b. b.slots) c.self.view_is in
    subst (λ s. IsTop s c.args.head c.index.result.now) slots
    (top_is c.self.inside.leads.slots c.self.inside.entries.slots c.args.head c.index.result.now
    (subst (λ s. LiesIn s c.args.head) (sym slots) c.requires.lies) c.requires.some c.index.ensures)

pub returns-clause-node : goal.returns-clause-node
returns-clause-node c = (top_here c).node

pub returns-clause-frames : goal.returns-clause-frames
returns-clause-frames c =
    let node = top_node c.args.self.now.slots c.args.head c.index.result.now in
    ap frames_in (links-split c.args.self.now.slots c.args.head node c.requires.some
    (split c.args.self.now.slots c.args.head node c.requires.lies c.requires.some (top_here c).node))

pub returns-clause-beneath : goal.returns-clause-beneath
returns-clause-beneath c =
    (split c.args.self.now.slots c.args.head (top_node c.args.self.now.slots c.args.head c.index.result.now)
    c.requires.lies c.requires.some (top_here c).node).beneath

pub returns-clause-least : goal.returns-clause-least
returns-clause-least c = (top_here c).least

pub returns-clause-greatest : goal.returns-clause-greatest
returns-clause-greatest c = (top_here c).greatest
