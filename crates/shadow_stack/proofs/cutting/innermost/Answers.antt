use Rattle.std.proofs.Common.{ap, sym, ◌∙◌, arith, List}
use Rattle.shadow_stack.specs.declared.arena.Head.{Head}
use Rattle.shadow_stack.specs.declared.frame.Frame.{Frame}
use Rattle.shadow_stack.specs.Stacks.{base_of, groups, rest_of}
use Rattle.shadow_stack.specs.Frames.{activation, stack}
use Rattle.shadow_stack.specs.Arenas.{beneath, stack_at}
use Rattle.shadow_stack.specs.Entries.{top_node}
use Rattle.shadow_stack.proofs.BaseLemmas.{begins_with, first_base, first_rest}
use Rattle.shadow_stack.proofs.cutting.innermost.Goals as goal

pub top-node-requires-clause-lies : goal.top-node-requires-clause-lies
top-node-requires-clause-lies c =
    let b = begins_with c.args.arena.now.slots c.args.head c.base-base.result c.base-base.ensures c.requires.lies
    c.requires.some in
    b.lies

pub top-node-requires-clause-some : goal.top-node-requires-clause-some
top-node-requires-clause-some c =
    let b = begins_with c.args.arena.now.slots c.args.head c.base-base.result c.base-base.ensures c.requires.lies
    c.requires.some in
    b.some

pub beneath-requires : goal.beneath-requires
beneath-requires c =
    let b = begins_with c.args.arena.now.slots c.args.head c.base-base.result c.base-base.ensures c.requires.lies
    c.requires.some in
    b.some

pub returns-clause-base : goal.returns-clause-base
returns-clause-base c =
    let b = begins_with c.args.arena.now.slots c.args.head c.base-base.result c.base-base.ensures c.requires.lies
    c.requires.some in
    let node = top_node c.args.arena.now.slots c.base-base.result c.top-node.result.now in
    let rest = groups (stack_at c.args.arena.now.slots (beneath c.base-base.result node)) in
    first_base (activation node.frame) rest (b.first node c.top-node.ensures.node)
    ∙ sym (ap (λ (fs : List Frame). base_of (groups (stack fs))) c.top-node.ensures.frames)
    ∙ b.base

pub returns-clause-rest : goal.returns-clause-rest
returns-clause-rest c =
    let b = begins_with c.args.arena.now.slots c.args.head c.base-base.result c.base-base.ensures c.requires.lies
    c.requires.some in
    let node = top_node c.args.arena.now.slots c.base-base.result c.top-node.result.now in
    let rest = groups (stack_at c.args.arena.now.slots (beneath c.base-base.result node)) in
    ap (λ (h : Head). groups (stack_at c.args.arena.now.slots h)) c.beneath.ensures
    ∙ first_rest (activation node.frame) rest (b.first node c.top-node.ensures.node)
    ∙ sym (ap (λ (fs : List Frame). rest_of (groups (stack fs))) c.top-node.ensures.frames)
    ∙ b.rest

pub returns-clause-shorter : goal.returns-clause-shorter
returns-clause-shorter c =
    let b = begins_with c.args.arena.now.slots c.args.head c.base-base.result c.base-base.ensures c.requires.lies
    c.requires.some in
    omega (arith, b.within, b.some, ap (λ (h : Head). h.depth) c.beneath.ensures)
