-- A borrowed chain goes on borrowing the same arena and head.
use Rattle.std.specs.Prelude.{◌≡◌}
use Rattle.shadow_stack.specs.declared.held.Held.{Held}

pub record SameLoan (old new : Held) : Type 0 where
  pub arena : new.arena.ghost_name ≡ old.arena.ghost_name
  pub head : new.head.ghost_name ≡ old.head.ghost_name
