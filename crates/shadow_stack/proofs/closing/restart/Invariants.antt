use Rattle.std.proofs.Common.{◌≡◌, ◌&&◌, not, true}
use Rattle.event_costs.specs.Arcs.{TakesAll}
use Rattle.shadow_stack.specs.Frames.{closings, StartWithin}
use Rattle.shadow_stack.specs.Arenas.{frames, is_in_chain, LiesIn, AreRestarted}
use Rattle.shadow_stack.proofs.closing.restart.Given as goal

-- the nodes of the chain above what is left have the total as their start, and no other node has changed
abbrev pub invariant-restarted : goal.invariant-restarted
invariant-restarted g l = record {
  lies : LiesIn l.fn.arena.slots l.at;
  within : (key : _) → is_in_chain l.fn.arena.slots l.at key ≡ true → is_in_chain l.fn.arena.slots l.fn.head key ≡ true;
  nodes : AreRestarted
      (λ key. is_in_chain l.fn.arena.slots l.fn.head key && not (is_in_chain l.fn.arena.slots l.at key)) l.total
      l.fn.arena.slots l.arena.slots;
  starts : StartWithin l.total (frames l.fn.arena.slots l.at);
  can_take : g.S.ArcSink.can_take l.sink (closings l.total (frames l.fn.arena.slots l.at));
  told : (last : _) → TakesAll g.S.ArcSink.takes l.sink (closings l.total (frames l.fn.arena.slots l.at)) last
      → TakesAll g.S.ArcSink.takes l.fn.sink (closings l.total (frames l.fn.arena.slots l.fn.head)) last;
  room : l.arena.spare ≡ l.fn.arena.spare;
}

abbrev pub decreases-restarted : goal.decreases-restarted
decreases-restarted g l = l.at.depth
