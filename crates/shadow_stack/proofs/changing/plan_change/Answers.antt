use Rattle.std.proofs.Common.{[], None, cond, refl, ap, sym, ◌∙◌}
use Rattle.shadow_stack.specs.Changes.{change_to, change_by, Change}
use Rattle.shadow_stack.specs.Frames.{stack}
use Rattle.shadow_stack.specs.Arenas.{frames_in, stack_at}
use Rattle.shadow_stack.proofs.ChainLemmas.{lies_empty, links-none}
use Rattle.shadow_stack.proofs.changing.plan_change.Goals as goal

pub returns-then-event-clause-change : goal.returns-then-event-clause-change
returns-then-event-clause-change c =
    let gone : Change = record { rest = []; pushed = None } in
    ap (λ (ls : _). change_to c.args.syms.now c.args.event.now (stack (frames_in ls)) None)
    (links-none c.args.arena.now.slots (record { top = 0; depth = 0 }) refl)
    ∙ sym (ap
    (λ b. cond b gone
    (change_by c.args.syms.now c.args.event.now
    (stack_at c.args.arena.now.slots c.args.head) c.args.event.now.done.flow)) c.if-event.true)

pub returns-then-event-clause-lies : goal.returns-then-event-clause-lies
returns-then-event-clause-lies c = lies_empty c.args.arena.now.slots 0
