use Rattle.std.proofs.Common.{ap, sym, subst, ◌∙◌, arith, get_or}
use Rattle.shadow_stack.specs.Arenas.{beneath, first, IsStep, links, parts_at}
use Rattle.shadow_stack.specs.Entries.{top_node}
use Rattle.shadow_stack.proofs.TurnLemmas.{first-passes, step_down, step_ends, step_on, turn_is, under}
use Rattle.shadow_stack.proofs.arena.Arena.step.Goals as goal

pub returns-then-not-is_jump : goal.returns-then-not-is_jump
returns-then-not-is_jump c =
    step_ends c.args.self.now.slots c.args.func.0 c.args.level c.args.at (top_node c.args.self.now.slots c.args.at c.top-entry.result.now) c.requires.lies
    c.requires.some c.top-entry.ensures.node (sym c.is_jump.ensures ∙ c.if-not-is_jump.true)

pub chain_from-requires : goal.chain_from-requires
chain_from-requires c =
    let node = top_node c.args.self.now.slots c.args.at c.top-entry.result.now in
    let slots = c.args.self.now.slots in
    let jumps = sym c.is_jump.ensures ∙ c.if-not-is_jump.false in
    let t = parts_at c.args.level node.frame.func.0 in
    let p = under (first t) slots t c.args.at node c.requires.lies c.requires.some c.top-entry.ensures.node jumps
    (first-passes t t (λ g h. h)) in (
      first t (links slots (beneath c.args.at node)),
      p.lies,
      p.some,
      turn_is slots c.args.at node c.args.level 0 c.requires.lies c.requires.some c.top-entry.ensures.node
          (omega (arith, c.requires.level)) jumps
          ∙ sym (ap (λ ts. get_or ts c.args.level 0) (c.lead.ensures.turns node c.top-entry.ensures.node)),
    )

pub returns-then-same_bit : goal.returns-then-same_bit
returns-then-same_bit c =
    let node = top_node c.args.self.now.slots c.args.at c.top-entry.result.now in
    subst (λ ts. IsStep c.args.self.now.slots c.args.func.0 c.args.level c.args.at (get_or ts c.args.level 0) c.args.at)
    (sym (c.lead.ensures.turns node c.top-entry.ensures.node))
    (step_on c.args.self.now.slots c.args.func.0 c.args.level c.args.at node c.requires.level c.requires.lies
    c.requires.some c.top-entry.ensures.node (sym c.is_jump.ensures ∙ c.if-not-is_jump.false) c.requires.found
    (sym c.same_bit.ensures ∙ c.if-same_bit.true))

pub returns-else-same_bit : goal.returns-else-same_bit
returns-else-same_bit c =
    let node = top_node c.args.self.now.slots c.args.at c.top-entry.result.now in
    let slots = c.args.self.now.slots in
    let jumps = sym c.is_jump.ensures ∙ c.if-not-is_jump.false in
    let t = parts_at c.args.level node.frame.func.0 in
    let p = under (first t) slots t c.args.at node c.requires.lies c.requires.some c.top-entry.ensures.node jumps
    (first-passes t t (λ g h. h)) in
    step_down slots c.args.func.0 c.args.level c.args.at node c.requires.level c.requires.lies c.requires.some
    c.top-entry.ensures.node jumps c.requires.found c.chain_from.result
    (sym c.same_bit.ensures ∙ c.if-same_bit.false)
    (c.chain_from.ensures (first t (links slots (beneath c.args.at node))) p.lies p.some
    (turn_is slots c.args.at node c.args.level 0 c.requires.lies c.requires.some c.top-entry.ensures.node
    (omega (arith, c.requires.level)) jumps
    ∙ sym (ap (λ ts. get_or ts c.args.level 0) (c.lead.ensures.turns node c.top-entry.ensures.node))))
