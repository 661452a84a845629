use Rattle.std.proofs.Common.{◌≡◌, ◌≤◌, ◌-◌, true}
use Rattle.shadow_stack.specs.Arenas.{agree}
use Rattle.shadow_stack.proofs.arena.parting.Given as goal

-- the bits below the level are the same
abbrev pub invariant-levels : goal.invariant-levels
invariant-levels l = record {
  within : l.level ≤ 8;
  same : agree l.level l.a.0 l.b.0 ≡ true;
}

abbrev pub decreases-levels : goal.decreases-levels
decreases-levels l = 8 - l.level
