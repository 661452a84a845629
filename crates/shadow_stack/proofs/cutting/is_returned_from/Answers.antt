use Rattle.std.proofs.Common.{sym, ap, ◌∙◌, arith}
use Rattle.shadow_stack.specs.Kinds.{is_level}
use Rattle.shadow_stack.specs.Changes.{down_to}
use Rattle.shadow_stack.specs.Arenas.{stack_at}
use Rattle.shadow_stack.proofs.ChainLemmas.{length-stack_at}
use Rattle.shadow_stack.proofs.SearchLemmas.{returned_found, returned_top, is_some-found}
use Rattle.shadow_stack.proofs.cutting.is_returned_from.Goals as goal

pub returns-then-is_some : goal.returns-then-is_some
returns-then-is_some c =
    let s = stack_at c.args.arena.now.slots c.args.head in
    sym (returned_found c.args.syms.now c.args.event.now s
    (stack_at c.args.arena.now.slots c.args.group.beneath) c.args.func
    (omega (arith, c.requires.some, length-stack_at c.args.arena.now.slots c.args.head c.requires.lies)) c.requires.rest
    c.requires.func
    (is_some-found (stack_at c.args.arena.now.slots) c.down_to.result (down_to c.args.func s) c.down_to.ensures.found
    ∙ sym c.is_some.ensures ∙ c.if-is_some.true))

pub returns : goal.returns
returns c =
    let s = stack_at c.args.arena.now.slots c.args.head in
    c.is_top.ensures
    ∙ sym (returned_top c.args.syms.now c.args.event.now s
    (stack_at c.args.arena.now.slots c.args.group.beneath) c.args.func
    (omega (arith, c.requires.some, length-stack_at c.args.arena.now.slots c.args.head c.requires.lies)) c.requires.rest
    c.requires.func
    (ap (is_level c.args.event.now) (sym c.requires.base) ∙ sym c.is_level.ensures ∙ c.if-not-is_level.false)
    (sym c.enters.ensures ∙ c.if-enters.false)
    (is_some-found (stack_at c.args.arena.now.slots) c.down_to.result (down_to c.args.func s) c.down_to.ensures.found
    ∙ sym c.is_some.ensures ∙ c.if-is_some.false))
