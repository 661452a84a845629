use Rattle.std.proofs.Common.{◌≡◌, ◌-◌, ◌<◌, ◌≤◌, drop}
use Rattle.shadow_stack.specs.Arenas.{frames, LiesIn}
use Rattle.shadow_stack.proofs.reading.frame_at.Given as goal

-- what is left of the chain, with the place in it
abbrev pub invariant-sought : goal.invariant-sought
invariant-sought l = record {
  lies : LiesIn l.arena.slots l.at;
  within : l.place < l.at.depth;
  less : l.at.depth ≤ l.fn.head.depth;
  left : frames l.arena.slots l.at ≡ drop (l.fn.head.depth - l.at.depth) (frames l.arena.slots l.fn.head);
}

abbrev pub decreases-sought : goal.decreases-sought
decreases-sought l = l.at.depth
