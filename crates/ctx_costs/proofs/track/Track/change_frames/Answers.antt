use Rattle.ctx_costs.proofs.ChangedLemmas as changed
use Rattle.ctx_costs.proofs.track.Track.change_frames.Goals as goal

pub enter-requires : goal.enter-requires
enter-requires c =
    let b = c.args.self.now in
    let syms = c.args.syms.now in
    let cs = c.args.contexts.now.contexts in
    let e = c.args.event.now in
    let goes = c.in-Some.ensures.left in
    let is = c.in-Some.ensures.entry in
    let p = changed.comes syms e b.stack.frames c.in-Some.entry c.requires.rooted is in
    let left = c.leave.new.self in
    record {
      few = c.requires.few;
      live = changed.left_live c.args.callers cs syms e b left c.requires.framed goes p c.in-Some.entry is c.requires.numbered;
      room =
          changed.left_room c.args.callers cs syms e b left c.requires.framed goes p c.in-Some.entry is c.requires.numbered
          c.requires.room.numbers;
      context_room = c.requires.context_room;
      known = changed.left_known c.args.callers cs syms e b left c.requires.framed goes p c.in-Some.entry is c.requires.numbered;
      arc_room =
          changed.left_arc_room c.args.callers cs syms e b left c.requires.framed goes p c.in-Some.entry is c.requires.numbered
          c.requires.room.arcs;
      calls =
          changed.left_calls c.args.callers cs syms e b left c.requires.framed goes p c.in-Some.entry is c.requires.numbered
          c.requires.calls;
    }

pub returns-in-Some : goal.returns-in-Some
returns-in-Some c =
    let b = c.args.self.now in
    let is = c.in-Some.ensures.entry in
    let p = changed.comes c.args.syms.now c.args.event.now b.stack.frames c.in-Some.entry c.requires.rooted is in
    changed.new_changed c.args.callers c.args.contexts.now.contexts c.args.syms.now c.args.event.now b c.leave.new.self
    c.requires.framed c.in-Some.ensures.left p c.in-Some.entry is c.requires.numbered c.enter.new.contexts.contexts
    c.enter.new.self c.enter.ensures

pub returns-in_default : goal.returns-in_default
returns-in_default c =
    let b = c.args.self.now in
    changed.left_changed c.args.callers c.args.contexts.now.contexts c.args.syms.now c.args.event.now b c.leave.new.self
    c.requires.framed c.in_default.ensures.left
    (changed.none_comes c.args.syms.now c.args.event.now b.stack.frames c.requires.rooted c.in_default.ensures.entry)
