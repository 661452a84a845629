use Rattle.event_costs.specs.Arcs.{TakesAll}
use Rattle.shadow_stack.specs.Frames.{closings, StartWithin}
use Rattle.shadow_stack.specs.Arenas.{frames, LiesIn}
use Rattle.shadow_stack.proofs.closing.tell_all.Given as goal

-- what is still to be told leads to what the whole is to be
abbrev pub invariant-told : goal.invariant-told
invariant-told g l = record {
  lies : LiesIn l.arena.slots l.at;
  starts : StartWithin l.total (frames l.arena.slots l.at);
  can_take : g.S.ArcSink.can_take l.sink (closings l.total (frames l.arena.slots l.at));
  told : (last : _) → TakesAll g.S.ArcSink.takes l.sink (closings l.total (frames l.arena.slots l.at)) last
      → TakesAll g.S.ArcSink.takes l.fn.sink (closings l.total (frames l.arena.slots l.fn.head)) last;
}

abbrev pub decreases-told : goal.decreases-told
decreases-told g l = l.at.depth
