use Rattle.std.proofs.Common.{sym, ◌∙◌, arith}
use Rattle.shadow_stack.specs.Arenas.{frames}
use Rattle.shadow_stack.proofs.SearchLemmas.{no_call_above, no_call_below}
use Rattle.shadow_stack.proofs.cutting.beneath_call.Goals as goal

pub returns-then-event-node-clause-found : goal.returns-then-event-node-clause-found
returns-then-event-node-clause-found c =
    let slots = c.args.arena.now.slots in
    let at = c.sought.at in
    sym (no_call_below c.args.event.now (frames slots at) (omega (arith, c.top-node.ensures.least, c.if-event-node.true)))
    ∙ c.sought.invariant.left

pub returns-then-event-node-2-clause-found : goal.returns-then-event-node-2-clause-found
returns-then-event-node-2-clause-found c =
    let slots = c.args.arena.now.slots in
    let at = c.sought.at in
    sym (no_call_above c.args.event.now (frames slots at) (omega (arith, c.top-node.ensures.greatest, c.if-event-node-2.true)))
    ∙ c.sought.invariant.left
