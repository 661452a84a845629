use Rattle.std.proofs.Common.{◌≡◌}
use Rattle.shadow_stack.specs.Changes.{beneath_call}
use Rattle.shadow_stack.specs.Arenas.{LiesIn, stack_at}
use Rattle.shadow_stack.proofs.cutting.beneath_call.Given as goal

-- the call is sought in what is left
abbrev pub invariant-sought : goal.invariant-sought
invariant-sought l = record {
  lies : LiesIn l.arena.slots l.at;
  left : beneath_call l.event (stack_at l.arena.slots l.at) ≡ beneath_call l.event (stack_at l.arena.slots l.fn.head);
}

abbrev pub decreases-sought : goal.decreases-sought
decreases-sought l = l.at.depth
