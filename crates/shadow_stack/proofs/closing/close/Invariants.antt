use Rattle.std.proofs.Common.{◌≡◌, ◌+◌, ◌-◌, ◌≤◌, take, drop}
use Rattle.event_costs.specs.Arcs.{TakesAll}
use Rattle.shadow_stack.specs.Frames.{closings, StartWithin}
use Rattle.shadow_stack.specs.Arenas.{frames, LiesIn, ChangesChainOnly}
use Rattle.shadow_stack.proofs.closing.close.Given as goal

-- what is still to be closed and told leads to what the whole is to be
abbrev pub invariant-closed : goal.invariant-closed
invariant-closed g l = record {
  lies : LiesIn l.arena.slots l.at;
  below : l.depth ≤ l.at.depth;
  starts : StartWithin l.total (frames l.arena.slots l.at);
  can_take : g.S.ArcSink.can_take l.sink (closings l.total (take (l.at.depth - l.depth) (frames l.arena.slots l.at)));
  left : drop (l.at.depth - l.depth) (frames l.arena.slots l.at)
      ≡ drop (l.fn.head.depth - l.depth) (frames l.fn.arena.slots l.fn.head);
  told : (last : _)
      → TakesAll g.S.ArcSink.takes l.sink
      (closings l.total (take (l.at.depth - l.depth) (frames l.arena.slots l.at))) last
      → TakesAll g.S.ArcSink.takes l.fn.sink
      (closings l.total (take (l.fn.head.depth - l.depth) (frames l.fn.arena.slots l.fn.head))) last;
  chain : ChangesChainOnly l.fn.arena.slots l.fn.head l.arena.slots l.at;
  room : l.arena.spare + l.at.depth ≡ l.fn.arena.spare + l.fn.head.depth;
}

abbrev pub decreases-closed : goal.decreases-closed
decreases-closed g l = l.at.depth
