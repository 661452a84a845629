use Rattle.std.proofs.Common.{◌≡◌}
use Rattle.shadow_stack.specs.Stacks.{groups}
use Rattle.shadow_stack.specs.Changes.{drop_groups, is_returned_from}
use Rattle.shadow_stack.specs.Arenas.{LiesIn, stack_at}
use Rattle.shadow_stack.proofs.cutting.drop_returned.Given as goal

-- the groups beneath are still to be looked at
abbrev pub invariant-dropped : goal.invariant-dropped
invariant-dropped l = record {
  lies : LiesIn l.arena.slots l.at;
  left : drop_groups (is_returned_from l.syms l.event) (groups (stack_at l.arena.slots l.at))
      ≡ drop_groups (is_returned_from l.syms l.event) (groups (stack_at l.arena.slots l.fn.head));
}

abbrev pub decreases-dropped : goal.decreases-dropped
decreases-dropped l = l.at.depth
