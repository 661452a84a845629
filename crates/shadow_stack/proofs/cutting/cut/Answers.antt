use Rattle.std.proofs.Common.{sym, ap, ◌∙◌}
use Rattle.std.specs.Option.{unwrap_or}
use Rattle.shadow_stack.specs.Stacks.{groups, stack_of_groups}
use Rattle.shadow_stack.specs.Changes.{remaining_groups}
use Rattle.shadow_stack.specs.Arenas.{stack_at}
use Rattle.shadow_stack.proofs.ChangeLemmas.{stack_of_groups-groups}
use Rattle.shadow_stack.proofs.cutting.cut.Goals as goal

pub returns-in-None-clause-stack : goal.returns-in-None-clause-stack
returns-in-None-clause-stack c =
    sym (stack_of_groups-groups (stack_at c.args.arena.now.slots c.remaining_groups.result))
    ∙ ap stack_of_groups c.remaining_groups.ensures.groups
    ∙ ap
    (λ found. unwrap_or found (stack_of_groups (remaining_groups c.args.syms.now c.args.event.now
    (groups (stack_at c.args.arena.now.slots c.args.head)))))
    c.in-None.ensures.found
