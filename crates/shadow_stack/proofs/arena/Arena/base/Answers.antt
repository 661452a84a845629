use Rattle.std.proofs.Common.{◌≡◌, ℕ, ◌<◌, sym, ◌∙◌, refl, true, List, Option, Some}
use Rattle.shadow_stack.specs.declared.arena.Head.{Head}
use Rattle.shadow_stack.specs.Kinds.{is_jump}
use Rattle.shadow_stack.specs.Arenas.{base_in, links, LiesIn, Node, node_at}
use Rattle.shadow_stack.specs.Entries.{top_node}
use Rattle.shadow_stack.proofs.BaseLemmas.{begins_with}
use Rattle.shadow_stack.proofs.ChainLemmas.{base-jump, base-here}
use Rattle.shadow_stack.proofs.arena.Arena.base.Goals as goal

pub lead-requires : goal.lead-requires
lead-requires c = (
  top_node c.args.self.now.slots c.args.head c.top-entry.result.now,
  c.top-entry.ensures.node,
  sym c.is_jump.ensures ∙ c.if-is_jump.true,
)

begins : (slots : List (Option Node)) (head : Head) (node : Node) (base : ℕ) → LiesIn slots head → 0 < head.depth
    → node_at slots head.top ≡ Some node → is_jump node.frame.kind ≡ true → base ≡ node.summary.base
    → (base_in (links slots head)).top ≡ base
begins slots head node base lies some at jumps is = base-jump slots head node lies some at jumps ∙ sym is

pub chain_from-requires : goal.chain_from-requires
chain_from-requires c =
    let start = base_in (links c.args.self.now.slots c.args.head) in
    let b = begins_with c.args.self.now.slots c.args.head start refl c.requires.lies c.requires.some in
    let node = top_node c.args.self.now.slots c.args.head c.top-entry.result.now in (
      start,
      b.lies,
      b.some,
      begins c.args.self.now.slots c.args.head node
          c.lead.result.now.base c.requires.lies c.requires.some c.top-entry.ensures.node
          (sym c.is_jump.ensures ∙ c.if-is_jump.true) (c.lead.ensures.base node c.top-entry.ensures.node),
    )

pub returns-then-is_jump : goal.returns-then-is_jump
returns-then-is_jump c =
    let start = base_in (links c.args.self.now.slots c.args.head) in
    let b = begins_with c.args.self.now.slots c.args.head start refl c.requires.lies c.requires.some in
    let node = top_node c.args.self.now.slots c.args.head c.top-entry.result.now in
    c.chain_from.ensures start b.lies b.some (begins c.args.self.now.slots c.args.head node
    c.lead.result.now.base c.requires.lies c.requires.some c.top-entry.ensures.node
    (sym c.is_jump.ensures ∙ c.if-is_jump.true) (c.lead.ensures.base node c.top-entry.ensures.node))

pub returns-else-is_jump : goal.returns-else-is_jump
returns-else-is_jump c =
    base-here c.args.self.now.slots c.args.head (top_node c.args.self.now.slots c.args.head c.top-entry.result.now)
    c.requires.lies c.requires.some c.top-entry.ensures.node (sym c.is_jump.ensures ∙ c.if-is_jump.false)
