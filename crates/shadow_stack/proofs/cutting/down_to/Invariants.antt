use Rattle.std.proofs.Common.{◌≡◌}
use Rattle.shadow_stack.specs.Changes.{down_to}
use Rattle.shadow_stack.specs.Arenas.{LiesIn, stack_at}
use Rattle.shadow_stack.proofs.cutting.down_to.Given as goal

-- the function is sought in what is left
abbrev pub invariant-sought : goal.invariant-sought
invariant-sought l = record {
  lies : LiesIn l.arena.slots l.at;
  left : down_to l.func (stack_at l.arena.slots l.at) ≡ down_to l.func (stack_at l.arena.slots l.fn.head);
}

abbrev pub decreases-sought : goal.decreases-sought
decreases-sought l = l.at.depth
