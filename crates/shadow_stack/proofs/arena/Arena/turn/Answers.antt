use Rattle.std.proofs.Common.{ap, sym, subst, ◌∙◌, get_or, List}
use Rattle.shadow_stack.specs.declared.arena.Head.{Head}
use Rattle.shadow_stack.specs.declared.frame.Frame.{Frame}
use Rattle.shadow_stack.specs.Stacks.{is_top}
use Rattle.shadow_stack.specs.Frames.{stack}
use Rattle.shadow_stack.specs.Arenas.{beneath, first, links, parts_at}
use Rattle.shadow_stack.proofs.ChainLemmas.{lies_empty}
use Rattle.shadow_stack.specs.Entries.{top_node}
use Rattle.shadow_stack.proofs.TurnLemmas.{ended, IsTurned, turn_is, turned}
use Rattle.shadow_stack.proofs.arena.Arena.turn.Goals as goal

pub returns-then-not-is_jump-clause-lies : goal.returns-then-not-is_jump-clause-lies
returns-then-not-is_jump-clause-lies c = lies_empty c.args.self.now.slots 0

pub returns-then-not-is_jump-clause-found : goal.returns-then-not-is_jump-clause-found
returns-then-not-is_jump-clause-found c =
    ended c.args.self.now.slots c.args.at (top_node c.args.self.now.slots c.args.at c.top-entry.result.now) c.args.func c.requires.lies c.requires.some
    c.top-entry.ensures.node
    (sym (ap (λ (fs : List Frame). is_top c.args.func (stack fs)) c.top-entry.ensures.frames) ∙ c.requires.other)
    (sym c.is_jump.ensures ∙ c.if-not-is_jump.true)

pub chain_from-requires : goal.chain_from-requires
chain_from-requires c =
    let slots = c.args.self.now.slots in
    let node = top_node c.args.self.now.slots c.args.at c.top-entry.result.now in
    let jumps = sym c.is_jump.ensures ∙ c.if-not-is_jump.false in
    let t = turned slots c.args.at node c.args.func c.parting-level.result c.requires.lies c.requires.some
    c.top-entry.ensures.node
    (sym (ap (λ (fs : List Frame). is_top c.args.func (stack fs)) c.top-entry.ensures.frames) ∙ c.requires.other)
    c.parting-level.ensures.parts jumps in (
      first (parts_at c.parting-level.result node.frame.func.0) (links slots (beneath c.args.at node)),
      t.lies,
      t.some,
      turn_is slots c.args.at node c.parting-level.result 0 c.requires.lies c.requires.some c.top-entry.ensures.node
          c.parting-level.ensures.within jumps
          ∙ sym (ap (λ ts. get_or ts c.parting-level.result 0) (c.lead.ensures.turns node c.top-entry.ensures.node)),
    )

gone : (c : goal.After-chain_from) → IsTurned c.args.self.now.slots c.args.func c.args.at c.chain_from.result
gone c =
    let slots = c.args.self.now.slots in
    let node = top_node c.args.self.now.slots c.args.at c.top-entry.result.now in
    let jumps = sym c.is_jump.ensures ∙ c.if-not-is_jump.false in
    let t = turned slots c.args.at node c.args.func c.parting-level.result c.requires.lies c.requires.some
    c.top-entry.ensures.node
    (sym (ap (λ (fs : List Frame). is_top c.args.func (stack fs)) c.top-entry.ensures.frames) ∙ c.requires.other)
    c.parting-level.ensures.parts jumps in
    subst (λ (h : Head). IsTurned slots c.args.func c.args.at h)
    (sym (c.chain_from.ensures
    (first (parts_at c.parting-level.result node.frame.func.0) (links slots (beneath c.args.at node))) t.lies t.some
    (turn_is slots c.args.at node c.parting-level.result 0 c.requires.lies c.requires.some c.top-entry.ensures.node
    c.parting-level.ensures.within jumps
    ∙ sym (ap (λ ts. get_or ts c.parting-level.result 0) (c.lead.ensures.turns node c.top-entry.ensures.node)))))
    t

pub returns-clause-lies : goal.returns-clause-lies
returns-clause-lies c = (gone c).lies

pub returns-clause-found : goal.returns-clause-found
returns-clause-found c = (gone c).found

pub returns-clause-shorter : goal.returns-clause-shorter
returns-clause-shorter c = (gone c).within
